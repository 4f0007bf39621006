use Rattle.std.proofs.Common.{◌≡◌, ◌+◌, ◌≤◌, nat_lt, length, ap, sym, ◌∙◌, arith}
use Rattle.rd_base.specs.declared.limits.TheConstants.{LAST_POSITION}
use Rattle.rd_props.specs.Buffers.{meaning}
use Rattle.rd_props.specs.declared.state.BufferState.{BufferState}
use Rattle.rd_state.specs.Edits.{insertion, marked_modified}
use Rattle.rd_state.proofs.Edited.{insertion-is, some-characters}
use Rattle.rd_state.proofs.Within.{all-fit, grown-within}
use Rattle.rd_state.proofs.content.Content.insert.Goals as goal

pub inserted-requires : goal.inserted-requires
inserted-requires c =
    let b = c.self.inside.state in
    let room = c.in_ok-put_in.ensures.text.1 in
    let bound : length b.text.text + 1 + length c.args.new.now ≤ LAST_POSITION = omega (arith, room) in
    all-fit b.overlays (length b.text.text) c.args.pos (length c.args.new.now) bound c.self.invariant.overlays

pub invariant_of-self-2 : goal.invariant_of-self-2
invariant_of-self-2 c =
    let b = c.self.inside.state in
    let left : BufferState = record { text = c.put_in.new.text; spans = c.put_in.new.spans; overlays = c.inserted.new.self; settings = c.mark_modified.new.settings } in
    let inserts = c.in_ok-put_in.ensures.text in
    grown-within (meaning b) (meaning left) c.args.pos c.args.new.now c.buffers_are_valid.ensures.text c.self.invariant inserts.0 inserts.2 c.in_ok-put_in.ensures.values c.inserted.ensures

pub returns : goal.returns
returns c =
    let b = c.self.inside.state in
    let left : BufferState = record { text = c.put_in.new.text; spans = c.put_in.new.spans; overlays = c.inserted.new.self; settings = c.mark_modified.new.settings } in
    let inserts = c.in_ok-put_in.ensures.text in
    let settings : c.mark_modified.new.settings ≡ marked_modified (nat_lt 0 (length c.args.new.now)) b.settings
    = c.mark_modified.ensures ∙ ap (λ t. marked_modified t b.settings) (some-characters (length c.args.new.now) c.is_empty.result c.is_empty.ensures) in
    ap (insertion c.args.pos c.args.new.now) (sym c.self.view_is)
    ∙ insertion-is b left c.args.pos c.args.new.now c.self.invariant inserts.0 inserts.1 inserts.2 c.in_ok-put_in.ensures.values c.inserted.ensures settings c.self.inside.marks
