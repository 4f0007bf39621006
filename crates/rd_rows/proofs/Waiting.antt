-- Elements that wait for the next row.
use Rattle.std.proofs.Common.{◌≡◌, ℕ, ◌+◌, ◌-◌, ◌≤◌, not, Bool, true, false, List, [], ◌∷◌, ◌++◌, length, drop, Option, None, Some, refl, ap, sym, ◌∙◌, subst, arith, append_assoc}
use Rattle.std.specs.Prelude.{slice_get, is_some}
use Rattle.std.proofs.lemmas.Bool.{or_parts}
use Rattle.std.proofs.lemmas.List.{append-nil}
use Rattle.std.proofs.lemmas.List.Elements.{All-tail}
use Rattle.rd_base.proofs.Choices.{opposite}
use Rattle.rd_base.specs.Elements.{IsSound, AreSound}
use Rattle.rd_base.specs.declared.element.Element.{Element}
use Rattle.rd_base.proofs.Lists.{drop-at}
use Rattle.rd_rows.specs.declared.cutting.Cutting.{Cutting}
use Rattle.rd_rows.specs.declared.draft.Break.{Break}
use Rattle.rd_rows.specs.declared.draft.Draft.{Draft}
use Rattle.rd_rows.specs.declared.filling.Filling.{Filling}
use Rattle.rd_rows.specs.declared.spot.Placed.{Placed}
use Rattle.rd_rows.specs.declared.spot.Spot.{Spot}
use Rattle.rd_rows.specs.Cuts.{is_break, ends_some}
use Rattle.rd_rows.specs.Copies.{RowValues}
use Rattle.rd_rows.specs.Left.{MakerValues}
use Rattle.rd_rows.specs.Makers.{IsMaking, IsDraft, IsNoted, IsFilling, Leaves, can_wrap, kept_of}
use Rattle.rd_rows.specs.Placing.{ends_row}
use Rattle.rd_rows.specs.Rows.{finished_row}
use Rattle.rd_rows.specs.Shapes.{ShapeValues, is_word}
use Rattle.rd_rows.proofs.Fill.{noted-none, noted-behind}

pub taken-making : (c : Cutting) (s : Spot) (b fin : Bool) (xs : List Element) (n : ℕ) (x : Element) → slice_get xs n ≡ Some x
    → IsMaking (record { cutting = c; spot = s; continued = b; held = drop n xs; finished = fin }) → IsMaking (record { cutting = c; spot = s; continued = b; held = drop (n + 1) xs; finished = fin })
taken-making c s b fin xs n x h m =
    let more = drop-at xs n x h in
    record {
      leads = m.leads;
      sound = All-tail IsSound x (drop (n + 1) xs) (subst AreSound more m.sound);
      on = (or_parts (ends_row x.look) (ends_some (drop (n + 1) xs)) (sym (ap ends_some more) ∙ m.on)).1;
      narrow = m.narrow;
      few = let size = ap length more in let few = m.few in omega (arith, size, few);
    }

pub taken-less : (xs : List Element) (n : ℕ) (x : Element) → slice_get xs n ≡ Some x → length (drop (n + 1) xs) ≡ length (drop n xs) - 1
taken-less xs n x h = let size = ap length (drop-at xs n x h) in omega (arith, size)

pub taken-next : (xs es : List Element) (n : ℕ) (x : Element) → slice_get xs n ≡ Some x → drop n xs ++ es ≡ x ∷ (drop (n + 1) xs ++ es)
taken-next xs es n x h = ap (λ ys. ys ++ es) (drop-at xs n x h)

pub noted-some : (shape : ShapeValues) (lead : List Placed) (start : Spot) (xs : List Element) (e : Element) (b : Option Break) (old new : List Element) → is_some b ≡ true → is_break e.look ≡ false
    → new ≡ old ++ e ∷ [] → IsNoted shape lead start xs b old → IsNoted shape lead start (xs ++ e ∷ []) b new
noted-some shape lead start xs e None old new some break more h = cc
noted-some shape lead start xs e (Some b) old new some break more h = noted-behind shape lead start xs e b old new break more h

pub noted-still : (shape : ShapeValues) (lead : List Placed) (start : Spot) (xs : List Element) (e : Element) (b : Option Break) (waiting : List Element) → is_some b ≡ false → is_word shape.wrap ≡ true
    → is_break e.look ≡ false → IsNoted shape lead start xs b waiting → IsNoted shape lead start (xs ++ e ∷ []) b waiting
noted-still shape lead start xs e None waiting none word break h = noted-none shape lead start xs e waiting word break h
noted-still shape lead start xs e (Some b) waiting none word break h = cc

-- the draft of a row that is left

noted-waits : (shape : ShapeValues) (lead : List Placed) (start : Spot) (xs : List Element) (b : Option Break) (waiting : List Element) → IsNoted shape lead start xs b waiting → kept_of shape xs ++ waiting ≡ xs
noted-waits shape lead start xs None waiting h = rw h.0 (rw h.1 (append-nil xs))
noted-waits shape lead start xs (Some b) waiting h = rw h.0 (sym h.2)

noted-break : (shape : ShapeValues) (lead : List Placed) (start : Spot) (xs : List Element) (b : Option Break) (waiting : List Element) → IsNoted shape lead start xs b waiting → is_some b ≡ can_wrap shape xs
noted-break shape lead start xs None waiting h = sym h.0
noted-break shape lead start xs (Some b) waiting h = sym h.0

pub leaves-by : (m p : MakerValues) (lead : List Placed) (start : Spot) (xs : List Element) (e : Element) (f : Filling) (d : Draft) (c : Cutting) (pushed held left : List Element) (none : Bool) (row : RowValues)
    → IsFilling m.cutting.shape lead start xs f → IsDraft m.cutting.shape lead start (kept_of m.cutting.shape xs) d → pushed ≡ f.waiting ++ e ∷ [] → held ≡ pushed ++ left → left ≡ m.held → is_some f.last_break ≡ not none
    → c ≡ m.cutting → row ≡ record { shown = finished_row c d.spot.used d.cells d.begins none false; copies = 0 }
    → p ≡ record { cutting = m.cutting; spot = d.spot; continued = true; held = held; finished = m.finished } → Leaves m p lead start xs e row d.placed
leaves-by m p lead start xs e f d c pushed held left none row filling is push extend rest none_is same row_is next =
    let shape = m.cutting.shape in
    let kept = kept_of shape xs in
    let noted = filling.noted in
    let held_is : p.held ≡ held = ap (λ (y : MakerValues). y.held) next in
    let all : held ≡ f.waiting ++ e ∷ m.held = rw (extend, push, rest) (append_assoc f.waiting (e ∷ []) m.held) in
    let mark : none ≡ not (can_wrap shape xs) = opposite (can_wrap shape xs) none (sym (noted-break shape lead start xs f.last_break f.waiting noted) ∙ none_is) in
    record {
      row_is = row_is ∙ rw (same, is.spot, is.cells, is.begins, mark) refl;
      weight_is = is.placed;
      waits = rw (held_is, all) (sym (append_assoc kept f.waiting (e ∷ m.held)) ∙ ap (λ ys. ys ++ e ∷ m.held) (noted-waits shape lead start xs f.last_break f.waiting noted));
      next = next ∙ rw (is.spot, held_is) refl;
    }

pub left-making : (c : Cutting) (s t : Spot) (b d fin end : Bool) (waiting pushed held left old : List Element) (e : Element) → IsMaking (record { cutting = c; spot = s; continued = b; held = old; finished = fin })
    → AreSound (waiting ++ e ∷ old) → ends_some (waiting ++ e ∷ old) ≡ false → length (waiting ++ e ∷ old) ≤ 400 → pushed ≡ waiting ++ e ∷ [] → held ≡ pushed ++ left → left ≡ old
    → IsMaking (record { cutting = c; spot = t; continued = d; held = held; finished = end })
left-making c s t b d fin end waiting pushed held left old e m sound on few push extend rest =
    let all : held ≡ waiting ++ e ∷ old = rw (extend, push, rest) (append_assoc waiting (e ∷ []) old) in
    record { leads = m.leads; sound = rw all sound; on = rw all on; narrow = m.narrow; few = rw all few }
