use Rattle.std.proofs.Common.{refl, sym, ap, subst, ◌∙◌}
use Rattle.std.proofs.lemmas.Result.{IfOk-weaker}
use Rattle.rd_props.specs.Buffers.{meaning}
use Rattle.rd_items.specs.Readings.{reading}
use Rattle.rd_items.specs.Pieces.{scene_of}
use Rattle.rd_stack.specs.Lines.{line_elements, line_of_items}
use Rattle.rd_stack.specs.Walks.{IsLine}
use Rattle.rd_stack.proofs.walker.Walker.with_appearance.Goals as goal

pub returns : goal.returns
returns c =
    let s = scene_of c.args.view in
    let buffer = meaning c.args.view.state.now in
    let es = reading buffer c.args.view.objects.now c.args.start in
    let line = line_elements s c.args.base es in
    let objects = c.view_stays_sound.ensures.objects in
    let parts = c.view_stays_sound.ensures.parts in
    let codes = c.reading_stays_sound.ensures.codes in
    let whole : IsLine line line = record {
      left = refl;
      sound = c.lines_are_sound.ensures.sound s c.args.base es objects parts codes;
      measured = c.lines_are_sound.ensures.measured s c.args.base es objects parts codes;
      columns = c.lines_are_sound.ensures.columns s c.args.base es objects parts codes c.reading_stays_sound.ensures.few;
      ends = c.lines_end_once.ensures s c.args.base es (c.blocks_are_read_whole.ensures.reading buffer c.args.view.objects.now c.args.start c.requires.place.1);
    } in
    IfOk-weaker c.of_items.result _ _ (λ w made. subst (IsLine line) (sym (made ∙ ap (line_of_items s c.args.base) c.in_ok-items.ensures.value)) whole) c.of_items.ensures
