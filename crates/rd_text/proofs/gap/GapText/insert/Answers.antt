use Rattle.std.proofs.Common.{◌≡◌, ◌≤◌, ◌+◌, ◌/◌, ◌++◌, List, ℕ, length, take, drop, sym, ap, subst, ◌∙◌, arith}
use Rattle.std.specs.Vec.{with_items}
use Rattle.std.proofs.lemmas.List.{with_items_is}
use Rattle.rd_text.specs.declared.gap.TheConstants.{STRETCH}
use Rattle.rd_text.specs.Gaps.{text_of, IsGapped, IsRecounted}
use Rattle.rd_text.specs.declared.gap.GapText.{GapText}
use Rattle.rd_text.specs.declared.stretch.Stretch.{Stretch}
use Rattle.rd_text.proofs.Ranges.{length-gap}
use Rattle.rd_text.proofs.Moves.{put_right, put_text, written_size}
use Rattle.rd_text.proofs.gap.GapText.insert.Goals as goal
use Rattle.rd_text.proofs.gap.GapText.insert.Goals.{After-write}

-- the text was written into the gap, which had the room
record Written (m : GapText) (at : ℕ) (text new : List ℕ) : Type 0 where
  right : IsGapped m.codes.items m.stretches.items at m.back
  room : at + length text ≤ m.back
  is : new ≡ take at m.codes.items ++ (text ++ drop (at + length text) m.codes.items)
  held : (with_items m.codes new).items ≡ new

written : (c : goal.After-write) → Written c.move_gap.new.self c.args.at c.args.text.now c.write.new.codes
written c =
    let m = c.move_gap.new.self in
    let at = c.args.at in
    let text = c.args.text.now in
    let new = c.write.new.codes in
    let r = c.make_room.new.self in
    let roomed = c.in_ok-make_room.ensures.ok in
    let moved = c.move_gap.ensures.right in
    let right = subst (λ (n : ℕ). IsGapped m.codes.items m.stretches.items n m.back) c.move_gap.ensures.front moved in
    let front = c.move_gap.ensures.front in
    let places = c.move_gap.ensures.places in
    let before = c.in_ok-make_room.ensures.right in
    let g1 = length-gap m.codes.items m.front m.back moved.order moved.within in
    let g2 = length-gap r.codes.items r.front r.back before.order before.within in
    let same = ap length c.move_gap.ensures.text in
    let o1 = moved.order in
    let w1 = moved.within in
    let o2 = before.order in
    let w2 = before.within in
    let room : at + length text ≤ m.back = omega arith in
    let here = c.as_mut_slice.ensures.value in
    let is = c.write.ensures.value ∙ ap (λ (xs : List ℕ). take at xs ++ (text ++ drop (at + length text) xs)) here in
    let size : length new ≡ length m.codes.items = written_size m.codes.items new m.stretches.items m.stretches.items at m.back 0 0 text right room is in
    let all = c.as_mut_slice.ensures.len in
    let sized = ap length here in
    record { right = right; room = room; is = is; held = with_items_is m.codes new (omega arith) }

pub returns-clause-right : goal.returns-clause-right
returns-clause-right c =
    let m = c.move_gap.new.self in
    let at = c.args.at in
    let text = c.args.text.now in
    let new = c.write.new.codes in
    let news = c.recount.new.stretches in
    let w = written (goal.at.returns-clause-right c).After-write in
    let ss = with_items_is m.stretches news (c.recount.ensures.size ∙ c.as_mut_slice-stretches.ensures.len) in
    let first : ℕ = at / STRETCH in
    let last : ℕ = (at + length text) / STRETCH in
    let again = subst (λ (xs : List ℕ). IsRecounted xs m.stretches.items news first last) (c.as_slice-codes.ensures.value ∙ w.held)
    (subst (λ (xs : List Stretch). IsRecounted c.as_slice-codes.result.now xs news first last) c.as_mut_slice-stretches.ensures.value c.recount.ensures) in
    subst (λ (xs : List ℕ). IsGapped xs (with_items m.stretches news).items (at + length text) m.back) (sym w.held)
    (subst (λ (xs : List Stretch). IsGapped new xs (at + length text) m.back) (sym ss)
    (put_right m.codes.items new m.stretches.items news at m.back first last text w.right w.room w.is c.write.ensures.right again (omega arith) (omega arith) (omega arith) (omega arith)))

pub returns-clause-ok : goal.returns-clause-ok
returns-clause-ok c =
    let m = c.move_gap.new.self in
    let at = c.args.at in
    let text = c.args.text.now in
    let w = written (goal.at.returns-clause-ok c).After-write in
    let whole = sym (c.in_ok-make_room.ensures.text) ∙ sym c.move_gap.ensures.text ∙ ap (λ (n : ℕ). take n m.codes.items ++ drop m.back m.codes.items) c.move_gap.ensures.front in
    ap (λ (xs : List ℕ). take (at + length text) xs ++ drop m.back xs) w.held
    ∙ put_text m.codes.items c.write.new.codes m.stretches.items m.stretches.items at m.back 0 0 text w.right w.room w.is (text_of c.args.self.now) whole
