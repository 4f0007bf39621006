use Rattle.std.proofs.Common.{◌∷◌, []}
use Rattle.rd_props.proofs.Newness.{none-nil, none-cons, is-new}
use Rattle.rd_props.proofs.state.BufferState.new.Goals as goal

pub returns : goal.returns
returns c =
    let a = c.in_ok-new-2.field-0 in
    let b = c.in_ok-new-3.field-0 in
    let d = c.in_ok-new-4.field-0 in
    let e = c.in_ok-new-5.field-0 in
    let f = c.in_ok-new-6.field-0 in
    is-new c.in_ok-new.field-0 (a ∷ b ∷ d ∷ e ∷ f ∷ []) c.in_ok-new-7.field-0 c.new-8.result c.in_ok-new.ensures
    (none-cons a (b ∷ d ∷ e ∷ f ∷ []) c.in_ok-new-2.ensures
    (none-cons b (d ∷ e ∷ f ∷ []) c.in_ok-new-3.ensures
    (none-cons d (e ∷ f ∷ []) c.in_ok-new-4.ensures
    (none-cons e (f ∷ []) c.in_ok-new-5.ensures
    (none-cons f [] c.in_ok-new-6.ensures none-nil)))))
    c.in_ok-new-7.ensures c.new-8.ensures
