use Rattle.std.proofs.Common.{◌<◌, List, Ok, Err, length, sym, ap, subst, ◌∙◌, arith}
use Rattle.indexmap.specs.Layout.{set_value_at}
use Rattle.rd_script.specs.declared.op.Op.TheVariants.{TypeText}
use Rattle.rd_state.specs.contracts.parts.StateParts.{the_view}
use Rattle.rd_state.specs.declared.moves.Move.TheVariants.{Inserted}
use Rattle.rd_state.specs.Edits.{insertion}
use Rattle.rd_state.specs.States.{BufferValue, buffers_of}
use Rattle.rd_state.specs.Steps.{step}
use Rattle.rd_state.specs.Effects.{effect_of}
use Rattle.rd_state.specs.Valid.{IsValid}
use Rattle.rd_state.specs.Windows.{place_in, NumberedWindow}
use Rattle.rd_state.proofs.ByName.{answers-at, length-buffers_of}
use Rattle.rd_state.proofs.Finding.{found-in}
use Rattle.rd_state.proofs.Sharing.{refuses-unless}
use Rattle.rd_state.proofs.Small.{inserted-small}
use Rattle.rd_state.proofs.Typing.{can-insert, found-moved, typing-ok, typing-err, typing-effect}
use Rattle.rd_state.proofs.Viewing.{shown-made}
use Rattle.rd_state.proofs.parts.StateParts.type_text.Goals as goal

pub index_mut-requires : goal.index_mut-requires
index_mut-requires c =
    let t = the_view c.self.inside in
    let e = c.index.result.now in
    let there = found-in t c.as_slice.result.now t.selected c.in_ok-w.w e c.as_slice.ensures.value c.in_ok-w.ensures.0 c.in_ok-w.ensures.1 c.index.ensures in
    subst (λ n. e.1.buffer < n) (length-buffers_of c.self.inside.buffers.entries) (shown-made t t.selected c.in_ok-w.w e (subst IsValid (sym c.self.view_is) c.requires) there)

pub move_windows-requires : goal.move_windows-requires
move_windows-requires c =
    let es = c.self.inside.buffers.entries in
    let w = c.index.result.now.1 in
    let inserts = answers-at (Ok tt) (insertion w.point c.args.text.now) w.buffer es c.index_mut.result.now c.insert.new.self c.index_mut.ensures.value c.in_ok-insert.ensures in
    can-insert (the_view c.self.inside) w.buffer w.point c.args.text.now (buffers_of (set_value_at es w.buffer c.insert.new.self)) (subst IsValid (sym c.self.view_is) c.requires) inserts

pub returns-in_err-insert : goal.returns-in_err-insert
unfolding step
returns-in_err-insert c =
    let t = the_view c.self.inside in
    let es = c.self.inside.buffers.entries in
    let e = c.index.result.now in
    let why = c.in_err-insert.field-0.0 in
    let there = found-in t c.as_slice.result.now t.selected c.in_ok-w.w e c.as_slice.ensures.value c.in_ok-w.ensures.0 c.in_ok-w.ensures.1 c.index.ensures in
    let refuses = answers-at (Err why) (insertion e.1.point c.args.text.now) e.1.buffer es c.index_mut.result.now c.insert.new.self c.index_mut.ensures.value c.in_err-insert.ensures in
    refuses-unless c.from_residual-in_err-insert.result (TypeText c.args.text.now) c.args.self.now (record t { buffers = buffers_of (set_value_at es e.1.buffer c.insert.new.self) }) why
    c.from_residual-in_err-insert.ensures.0 c.from_residual-in_err-insert.ensures.1 (ap (λ (bs : List BufferValue). record t { buffers = bs }) refuses.0 ∙ c.self.view_is)
    (λ ne. typing-err c.args.self.now t c.args.text.now c.in_ok-w.w e why c.self.view_is there (refuses.1 ne))

pub returns : goal.returns
unfolding step effect_of
returns c =
    let t = the_view c.self.inside in
    let es = c.self.inside.buffers.entries in
    let new = c.args.text.now in
    let e = c.index.result.now in
    let there = found-in t c.as_slice.result.now t.selected c.in_ok-w.w e c.as_slice.ensures.value c.in_ok-w.ensures.0 c.in_ok-w.ensures.1 c.index.ensures in
    let inside = subst (λ (ws : List NumberedWindow). c.in_ok-w.w < length ws) c.as_slice.ensures.value c.in_ok-w.ensures.1 in
    let inserts = answers-at (Ok tt) (insertion e.1.point new) e.1.buffer es c.index_mut.result.now c.insert.new.self c.index_mut.ensures.value c.in_ok-insert.ensures in
    let there_2 = found-moved t.selected c.in_ok-w.w e.1.buffer (Inserted e.1.point (length new)) t.windows c.move_windows.new.windows.items c.index_mut-2.result.now c.move_windows.ensures
    (c.in_ok-w.ensures.0 ∙ ap (place_in t.selected) c.as_slice.ensures.value) inside c.index_mut-2.ensures.value in (
      typing-ok c.args.self.now t new c.in_ok-w.w e c.index_mut-2.result.now (buffers_of (set_value_at es e.1.buffer c.insert.new.self)) c.move_windows.new.windows.items c.self.view_is there
          inserts c.move_windows.ensures there_2,
      c.inserted.ensures ∙ typing-effect c.args.self.now t new c.in_ok-w.w e c.self.view_is there,
    )

pub overflow_add-from : goal.overflow_add-from
overflow_add-from c =
    let valid = subst IsValid (sym c.self.view_is) c.requires in
    let w = c.index.result.now.1 in
    let small = inserted-small c.self.inside.objects c.self.inside.buffers.entries w.buffer c.index_mut.result.now c.insert.new.self valid.buffers c.index_mut.ensures.value
    w.point c.args.text.now c.in_ok-insert.ensures in
    omega (arith, small)
