use Rattle.std.specs.Prelude.{slice_get}
use Rattle.rd_base.specs.Faces.{plain}
use Rattle.rd_stack.specs.Shown.{display_elements, outside, prefix}
use Rattle.rd_stack.proofs.Ends.{prefix-open}
use Rattle.rd_stack.proofs.Prefixes.{of-one-row, are-inside}
use Rattle.rd_stack.proofs.laws.prefixes_are_sound.Goals as goal

pub returns : goal.returns
returns c = record {
  inside = λ scene base number sound parts. are-inside (prefix scene base number) (c.elements_are_right.ensures.prefix scene base number sound parts).right (prefix-open scene base number);
  columns = λ scene base number sound parts. (c.elements_are_right.ensures.prefix scene base number sound parts).few;
  row = λ scene base number. of-one-row (display_elements scene base outside plain (slice_get scene.objects.strings number));
}
