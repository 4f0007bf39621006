use Rattle.std.proofs.Common.{Ok, length, sym, subst, refl}
use Rattle.indexmap.specs.Layout.{set_value_at}
use Rattle.rd_script.specs.declared.op.Op.TheVariants.{Insert}
use Rattle.rd_state.specs.contracts.parts.StateParts.{the_view}
use Rattle.rd_state.specs.declared.moves.Move.TheVariants.{Inserted}
use Rattle.rd_state.specs.Edits.{insertion}
use Rattle.rd_state.specs.States.{buffers_of}
use Rattle.rd_state.specs.Steps.{step}
use Rattle.rd_state.specs.Valid.{IsValid}
use Rattle.rd_state.proofs.ByName.{answers-at}
use Rattle.rd_state.proofs.Reaching.{insertion-behind, refuses-behind}
use Rattle.rd_state.proofs.Typing.{can-insert}
use Rattle.rd_state.proofs.parts.StateParts.insert.Goals as goal

pub move_windows-requires : goal.move_windows-requires
move_windows-requires c =
    let es = c.self.inside.buffers.entries in
    let i = c.in_ok-i.i in
    let inserts = answers-at (Ok tt) (insertion c.in_ok-from.from c.args.text.now) i es c.index_mut.result.now c.insert.new.self c.index_mut.ensures.value c.in_ok-insert.ensures in
    can-insert (the_view c.self.inside) i c.in_ok-from.from c.args.text.now (buffers_of (set_value_at es i c.insert.new.self)) (subst IsValid (sym c.self.view_is) c.requires) inserts

pub returns-in_err-from : goal.returns-in_err-from
unfolding step
returns-in_err-from c =
    refuses-behind c.from_residual-in_err-from.result (Insert c.args.name.now c.args.pos c.args.text.now) c.args.self.now (the_view c.self.inside) c.in_err-from.field-0.0 c.args.name.now c.in_ok-i.i (Inserted c.args.pos (length c.args.text.now)) (insertion c.args.pos c.args.text.now)
    c.from_residual-in_err-from.ensures.0 c.from_residual-in_err-from.ensures.1 c.in_err-from.ensures.refused c.self.view_is c.requires c.in_ok-i.ensures.0 c.in_ok-i.ensures.1
    (insertion-behind c.args.pos c.args.text.now c.in_err-from.ensures.far) refl
