use Rattle.std.proofs.Common.{false, pos, List, [], ◌∷◌, ◌++◌, refl, ap, ◌∙◌}
use Rattle.rd_tree.specs.Calls.{split_tree}
use Rattle.rd_state.specs.contracts.parts.StateParts.{the_view}
use Rattle.rd_state.specs.declared.window.WindowState.{WindowState}
use Rattle.rd_state.specs.Effects.{effect_of}
use Rattle.rd_state.specs.Steps.{step}
use Rattle.rd_state.specs.Windows.{NumberedWindow}
use Rattle.rd_state.proofs.Finding.{found-in}
use Rattle.rd_state.proofs.Sharing.{split-found, splits-window, split-refused}
use Rattle.rd_state.proofs.parts.StateParts.split.Goals as goal

pub returns-in_err-number : goal.returns-in_err-number
returns-in_err-number c =
    let t = the_view c.self.inside in
    let n = c.args.window in
    let e = c.index-2.result.now in
    let same = c.in_ok-make_room.ensures.same in
    let found = split-found c.args.self.now t c.as_slice.result.now _ n c.in_ok-i.i c.args.size c.min-size.result c.args.side e
    c.self.view_is c.requires.valid c.as_slice.ensures.value c.in_ok-i.ensures.0 c.in_ok-i.ensures.1 same c.index-2.ensures c.min-size.ensures in
    split-refused c.from_residual-in_err-number.result c.in_err-number.field-0.0 (split_tree t.tree e.0 c.args.side c.min-size.result) c.args.self.now t
    (record t { tree = c.split.new.self; windows = c.make_room.new.windows.items }) n c.in_ok-i.i e c.args.side c.args.size c.split.new.self
    c.from_residual-in_err-number.ensures.0 c.from_residual-in_err-number.ensures.1 c.self.view_is found.0 found.1 c.in_err-number.ensures
    (ap (λ (ws : List NumberedWindow). record t { tree = c.split.new.self; windows = ws }) same)

pub returns : goal.returns
unfolding step effect_of
returns c =
    let t = the_view c.self.inside in
    let n = c.args.window in
    let same = c.in_ok-make_room.ensures.same in
    let found = split-found c.args.self.now t c.as_slice.result.now _ n c.in_ok-i.i c.args.size c.min-size.result c.args.side c.index-2.result.now
    c.self.view_is c.requires.valid c.as_slice.ensures.value c.in_ok-i.ensures.0 c.in_ok-i.ensures.1 same c.index-2.ensures c.min-size.ensures in
    let first = found-in t c.as_slice.result.now n c.in_ok-i.i c.index.result.now c.as_slice.ensures.value c.in_ok-i.ensures.0 c.in_ok-i.ensures.1 c.index.ensures in
    let twin = record c.in_ok-twin.twin { forced = false; pending = pos 0 } in (
      splits-window c.args.self.now t n c.in_ok-i.i c.index.result.now c.args.side c.args.size c.split.new.self twin c.in_ok-number.number c.add.new.windows.items c.self.view_is first
          (found.1 ∙ c.in_ok-number.ensures.0) c.in_ok-number.ensures.1 (ap (λ (w : WindowState). record w { forced = false; pending = pos 0 }) c.in_ok-twin.ensures)
          (c.add.ensures ∙ ap (λ (ws : List NumberedWindow). ws ++ (c.in_ok-number.number, twin) ∷ []) same),
      refl,
    )
