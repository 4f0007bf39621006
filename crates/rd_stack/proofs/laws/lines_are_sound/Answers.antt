use Rattle.std.proofs.Common.{ℕ, ◌*◌, List, length}
use Rattle.rd_objects.specs.Sound.{AreObjects}
use Rattle.rd_glyphs.specs.Characters.{AreSoundParts}
use Rattle.rd_props.specs.Seen.{Seen}
use Rattle.rd_items.specs.Readings.{HaveCodes}
use Rattle.rd_items.specs.Pieces.{Scene}
use Rattle.rd_items.specs.Items.{items_of}
use Rattle.rd_stack.specs.Limits.{AreRightWithin, most_overlay_columns}
use Rattle.rd_stack.specs.Lines.{line_elements}
use Rattle.rd_stack.proofs.Elements.{right-sound, right-measured}
use Rattle.rd_stack.proofs.Sound.{items-coded, few-columns, below}
use Rattle.rd_stack.proofs.laws.lines_are_sound.Goals as goal

pub returns : goal.returns
returns c =
    let whole : (scene : Scene) (base : ℕ) (es : List Seen) → AreObjects scene.objects → AreSoundParts scene.parts → HaveCodes es
    → AreRightWithin (length (items_of scene es) * most_overlay_columns) (line_elements scene base es) = λ scene base es sound parts codes.
    c.elements_are_right.ensures.line scene base es sound parts (c.items_are_measured.ensures scene es codes) (items-coded scene es codes) in
    record {
      sound = λ scene base es sound parts codes. right-sound (line_elements scene base es) (whole scene base es sound parts codes).right;
      measured = λ scene base es sound parts codes. right-measured (line_elements scene base es) (whole scene base es sound parts codes).right;
      most = λ scene base es sound parts codes few. few-columns scene es _ few (whole scene base es sound parts codes).few;
      columns = λ scene base es sound parts codes few. below _ (few-columns scene es _ few (whole scene base es sound parts codes).few);
    }
