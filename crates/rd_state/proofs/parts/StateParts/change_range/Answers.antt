use Rattle.std.proofs.Common.{◌≡◌, ◌+◌, ◌<◌, if◌then◌else◌, Result, Err, subst, refl, sym, ap, ◌∙◌}
use Rattle.rd_base.proofs.Choices.{either}
use Rattle.rd_base.specs.declared.limits.TheConstants.{TEXT_CHARACTERS}
use Rattle.rd_script.specs.declared.op.Op.TheVariants.{Delete, Narrow}
use Rattle.rd_state.specs.contracts.parts.StateParts.{the_view}
use Rattle.rd_state.specs.declared.moves.Move.TheVariants.{Deleted, Narrowed}
use Rattle.rd_state.specs.declared.refused.Refused.{Refused}
use Rattle.rd_state.specs.declared.refused.Refused.TheVariants.{OutOfRange}
use Rattle.rd_state.specs.Edits.{deletion, narrowing}
use Rattle.rd_state.specs.States.{ContentValue}
use Rattle.rd_state.proofs.Reaching.{deletion-behind, narrowing-behind, refuses-behind, range-asks, range-unnamed}
use Rattle.rd_state.proofs.Sharing.{refuses}
use Rattle.rd_state.proofs.parts.StateParts.change_range.Goals as goal

pub returns-in_err-i-clause-applies : goal.returns-in_err-i-clause-applies
returns-in_err-i-clause-applies c =
    let s = the_view c.self.inside in
    let (absent, refused) = c.in_err-i.ensures in
    rw (← c.self.view_is)
    (refuses c.from_residual.result (if c.args.deletes then Delete c.args.name.now c.args.from c.args.to else Narrow c.args.name.now c.args.from c.args.to) s s c.in_err-i.field-0.0
    c.from_residual.ensures.0 c.from_residual.ensures.1 refl
    (range-unnamed s c.args.name.now c.args.from c.args.to c.args.deletes absent ∙ ap (λ e. Err e) (sym refused)))

pub returns-in_err-place-clause-applies : goal.returns-in_err-place-clause-applies
returns-in_err-place-clause-applies c =
    let name = c.args.name.now in
    let from = c.args.from in
    let to = c.args.to in
    let deletes = c.args.deletes in
    let far = subst (λ k. TEXT_CHARACTERS + 1 < k) c.max.ensures c.in_err-place.ensures.far in
    refuses-behind c.from_residual-in_err-place.result (if deletes then Delete name from to else Narrow name from to) c.args.self.now (the_view c.self.inside) c.in_err-place.field-0.0 name c.in_ok-i.i
    (if deletes then Deleted from to else Narrowed from to) (if deletes then deletion from to else narrowing from to)
    c.from_residual-in_err-place.ensures.0 c.from_residual-in_err-place.ensures.1 c.in_err-place.ensures.refused c.self.view_is c.requires c.in_ok-i.ensures.0 c.in_ok-i.ensures.1
    (λ content text. either (λ (edit : ContentValue → Result ContentValue Refused). edit content ≡ Err OutOfRange) deletes (deletion from to) (narrowing from to)
    (deletion-behind from to far content text) (narrowing-behind from to far content text)) (range-asks c.args.self.now name from to deletes)
