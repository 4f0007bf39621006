use Rattle.std.proofs.Common.{rules, length, map, ap, ◌∙◌}
use Rattle.std.proofs.lemmas.List.{length-map, with_items_is}
use Rattle.rd_layout.specs.Changes.{later}
use Rattle.rd_views.proofs.noting.note.Goals as goal

pub returns : goal.returns
returns c =
    let f = later c.args.effect c.args.state.now in
    let told = c.change_each.ensures f (λ x y told. search rules) in
    with_items_is c.args.layouts.now _ (ap length told ∙ length-map _ f ∙ c.deref_mut.ensures.len) ∙ told ∙ ap (map f) c.deref_mut.ensures.value
