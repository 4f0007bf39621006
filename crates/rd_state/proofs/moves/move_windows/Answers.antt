use Rattle.std.proofs.Common.{rules, List, length, map, sym, ap, ◌∙◌}
use Rattle.std.specs.Prelude.{slice_get}
use Rattle.std.proofs.lemmas.List.{length-map, with_items_is}
use Rattle.rd_state.specs.Moves.{moved_in}
use Rattle.rd_state.specs.Windows.{NumberedWindow}
use Rattle.rd_state.proofs.moves.move_windows.Goals as goal

pub change_each-requires : goal.change_each-requires
change_each-requires c k x found =
    let can = c.requires k x.now (ap (λ (ws : List NumberedWindow). slice_get ws k) (sym c.deref_mut.ensures.value) ∙ found) in
    search can

pub returns : goal.returns
returns c =
    let f = moved_in c.args.buffer c.args.how in
    let told = c.change_each.ensures f (λ x y told. search rules) in
    with_items_is c.args.windows.now _ (ap length told ∙ length-map _ f ∙ c.deref_mut.ensures.len) ∙ told ∙ ap (map f) c.deref_mut.ensures.value
