-- What holds while a row is made, and what follows when it ends.
use Rattle.std.proofs.Common.{◌≡◌, ℕ, zero, suc, ◌+◌, ◌-◌, ◌^◌, ◌<◌, ◌≤◌, not, Bool, true, false, if◌then◌else◌, IsTrue, List, [], ◌∷◌, ◌++◌, length, drop, Option, None, Some, Result, Ok, Err, IfOk, refl, ap, sym, ◌∙◌, subst, arith, length-append, append_assoc}
use Rattle.std.proofs.Math.Bool.{and-true, and-false, or-true}
use Rattle.std.proofs.lemmas.Bool.{and_parts, or_parts}
use Rattle.std.proofs.lemmas.List.{append-nil}
use Rattle.std.proofs.lemmas.List.Elements.{All-append}
use Rattle.std.proofs.Math.Seq.{drop-append_seam}
use Rattle.rd_base.proofs.Choices.{either}
use Rattle.rd_base.proofs.Rows.{columns-append}
use Rattle.rd_base.specs.Elements.{IsSound, AreSound, width_at_most, columns_at_most, is_line_end, ends_once}
use Rattle.rd_base.specs.declared.element.Element.{Element}
use Rattle.rd_base.specs.declared.memory.Memory.{Memory}
use Rattle.rd_base.proofs.Lists.{all-front, all-back}
use Rattle.rd_rows.specs.declared.cutting.Cutting.{Cutting}
use Rattle.rd_rows.specs.declared.draft.Break.{Break}
use Rattle.rd_rows.specs.declared.filling.Filling.{Filling}
use Rattle.rd_rows.specs.declared.making.MadeRow.{MadeRow}
use Rattle.rd_rows.specs.declared.spot.Placed.{Placed}
use Rattle.rd_rows.specs.declared.spot.Spot.{Spot}
use Rattle.rd_rows.specs.Copies.{RowValues}
use Rattle.rd_rows.specs.Cuts.{has_break, up_to_break, ends_some, room_for, RowCut, cut_of, cut_row}
use Rattle.rd_rows.specs.Leads.{HasLeads}
use Rattle.rd_rows.specs.Left.{MakerValues, IsLine, lead_of, rows_behind}
use Rattle.rd_rows.specs.Makers.{IsNoted, IsMaking, IsFilling, Leaves, Ends, Cuts, standing, reached, can_wrap, is_empty, has_room, room_behind, kept_of, row_standing}
use Rattle.rd_rows.specs.Placing.{ends_row, next_row, next_line, columns_of, has_line_end}
use Rattle.rd_rows.specs.Prefixes.{IsLead}
use Rattle.rd_rows.specs.Rows.{RowMeaning, LaidRow, laid, rows_within, first_seen}
use Rattle.rd_rows.specs.Shapes.{ShapeValues, room, is_word}
use Rattle.rd_rows.proofs.Ends.{any-more, line_ends, on-parts, on-append, on-line_ends, ends-append, standing-ends, ends_once-parts}
use Rattle.rd_rows.proofs.Few.{AreFewBehind, few-none, few-more, few-wait}
use Rattle.rd_rows.proofs.Fill.{standing-length, reached-column, reached-used, line-behind, once-behind, once-some, room-on, room-ended, room-full, unfit-ends, cells-room}
use Rattle.rd_rows.proofs.Splits.{IsFront, break-front, break-some, lead_behind, none-left, rows-same}

-- where the next row begins behind its prefix
abbrev pub start_of : MakerValues → Spot
start_of m = next_row (columns_of (lead_of m)) m.spot

-- the elements that stand in a row, and what is left of the line
pub record Walks (m : MakerValues) (es : List Element) (n : MakerValues) (fs : List Element) (f : Filling) : Type 0 where
  pub xs : List Element
  pub filling : IsFilling m.cutting.shape (lead_of m) (start_of m) xs f
  pub parts : m.held ++ es ≡ xs ++ (n.held ++ fs)
  pub room : room_for m.cutting.shape (start_of m) (m.held ++ es) ≡ xs ++ room_behind m.cutting.shape xs (reached m.cutting.shape (start_of m) xs) (n.held ++ fs)
  pub on : ends_some xs ≡ false
  pub maker : n ≡ record m { held = n.held }
  pub line : IsLine m.spot.column (m.held ++ es)
  pub making : IsMaking m
  pub held : length n.held ≡ length m.held - length xs
  pub few : AreFewBehind m.cutting.shape (reached m.cutting.shape (start_of m) xs) xs
  pub going_on : m.finished ≡ false

pub walk-start : (m : MakerValues) (es : List Element) (f : Filling) → IsFilling m.cutting.shape (lead_of m) (start_of m) [] f → IsLine m.spot.column (m.held ++ es) → IsMaking m → m.finished ≡ false
    → Walks m es m es f
walk-start m es f filling line making on = record {
  xs = [];
  filling = filling;
  parts = refl;
  room = refl;
  on = refl;
  maker = refl;
  line = line;
  making = making;
  held = omega arith;
  few = few-none m.cutting.shape (start_of m);
  going_on = on;
}

pub lead-is : (m : MakerValues) → HasLeads m.cutting → IsLead (lead_of m)
lead-is m leads = either IsLead m.continued m.cutting.wrap m.cutting.first leads.wrap leads.first

pub walk-some : (m n : MakerValues) (es fs : List Element) (f : Filling) → Walks m es n fs f → 0 < length (n.held ++ fs)
walk-some m n es fs f w =
    once-some (n.held ++ fs) (once-behind w.xs (n.held ++ fs) (on-line_ends w.xs w.on) (subst (λ ys. IsTrue (ends_once ys)) w.parts w.line.end))

pub walk-column : (m n : MakerValues) (es fs rest : List Element) (f : Filling) (e : Element) → Walks m es n fs f → n.held ++ fs ≡ e ∷ rest → f.draft.spot.column + width_at_most e.extent < 2 ^ 63
walk-column m n es fs rest f e w more =
    let all : m.held ++ es ≡ w.xs ++ e ∷ rest = w.parts ∙ ap (λ ys. w.xs ++ ys) more in
    let sum = ap columns_at_most all ∙ columns-append w.xs (e ∷ rest) in
    let few = w.line.columns in
    let here = reached-column m.cutting.shape (start_of m) w.xs in
    let spot = ap (λ (s : Spot). s.column) w.filling.draft.spot in
    omega (arith, sum, few, here, spot)

pub walk-used : (m n : MakerValues) (es fs : List Element) (f : Filling) → Walks m es n fs f → f.draft.spot.used ≤ f.draft.spot.column + 200
walk-used m n es fs f w =
    let few = (lead-is m w.making.leads).short in
    let here = reached-used m.cutting.shape (start_of m) w.xs (omega (arith, few)) in
    let used = ap (λ (s : Spot). s.used) w.filling.draft.spot in
    let column = ap (λ (s : Spot). s.column) w.filling.draft.spot in
    omega (arith, here, used, column)

-- the answer of the test for room
pub walk-fits : (m n : MakerValues) (es fs : List Element) (f : Filling) (w : Walks m es n fs f) (shape : ShapeValues) (b : Bool) (e : Element) → shape ≡ m.cutting.shape
    → ((lead : List Placed) (start : Spot) (xs : List Element) → IsFilling shape lead start xs f → b ≡ has_room shape xs (reached shape start xs) e)
    → b ≡ has_room m.cutting.shape w.xs (reached m.cutting.shape (start_of m) w.xs) e
walk-fits m n es fs f w shape b e same test =
    subst (λ (s : ShapeValues). (lead : List Placed) (start : Spot) (xs : List Element) → IsFilling s lead start xs f → b ≡ has_room s xs (reached s start xs) e) same test
    (lead_of m) (start_of m) w.xs w.filling

taken : (m n k : MakerValues) → n ≡ record m { held = n.held } → k ≡ record n { held = k.held } → k ≡ record m { held = k.held }
taken m n k h i = i ∙ ap (λ (x : MakerValues). let y : MakerValues = record x { held = k.held } in y) h

pub taken-cutting : (m n k : MakerValues) → n ≡ record m { held = n.held } → k ≡ record n { held = k.held } → k.cutting ≡ m.cutting
taken-cutting m n k h i = ap (λ (x : MakerValues). x.cutting) (taken m n k h i)

sound-parts : (m n : MakerValues) (es fs : List Element) (f : Filling) → (w : Walks m es n fs f) → AreSound w.xs × AreSound (n.held ++ fs)
sound-parts m n es fs f w =
    let all = subst AreSound w.parts w.line.sound in
    (all-front IsSound w.xs (n.held ++ fs) all, all-back IsSound w.xs (n.held ++ fs) all)

-- a walk over a row's elements goes on by one element more
pub walk-on : (m n k : MakerValues) (es fs gs : List Element) (f g : Filling) (w : Walks m es n fs f) (e : Element) (shape : ShapeValues) → n.held ++ fs ≡ e ∷ (k.held ++ gs) → k ≡ record n { held = k.held } → length k.held ≡ length n.held - 1
    → has_room m.cutting.shape w.xs (reached m.cutting.shape (start_of m) w.xs) e ≡ true → ends_row e.look ≡ false → shape ≡ m.cutting.shape
    → ((lead : List Placed) (start : Spot) (xs : List Element) → IsFilling shape lead start xs f → IsFilling shape lead start (xs ++ e ∷ []) g)
    → Walks m es k gs g
walk-on m n k es fs gs f g w e shape more rest less fit on same placed =
    let filled = subst (λ (s : ShapeValues). (lead : List Placed) (start : Spot) (xs : List Element) → IsFilling s lead start xs f → IsFilling s lead start (xs ++ e ∷ []) g) same placed in
    let room = subst (λ ys. room_for m.cutting.shape (start_of m) (m.held ++ es) ≡ w.xs ++ room_behind m.cutting.shape w.xs (reached m.cutting.shape (start_of m) w.xs) ys) more w.room in
    record {
      xs = w.xs ++ e ∷ [];
      filling = filled (lead_of m) (start_of m) w.xs w.filling;
      parts = w.parts ∙ (ap (λ ys. w.xs ++ ys) more ∙ sym (append_assoc w.xs (e ∷ []) (k.held ++ gs)));
      room = room-on m.cutting.shape (start_of m) w.xs (m.held ++ es) (k.held ++ gs) e fit on room;
      on = on-append w.xs (e ∷ []) w.on (rw on refl);
      maker = taken m n k w.maker rest;
      line = w.line;
      making = w.making;
      held = let before = w.held in let size = length-append w.xs (e ∷ []) in omega (arith, before, size, less);
      few = few-more m.cutting.shape (start_of m) w.xs e (subst AreSound more (sound-parts m n es fs f w).1 zero e (omega arith)) fit on w.few;
      going_on = w.going_on;
    }

-- what a row that is left asks

record IsBack (ws xs : List Element) : Type 0 where
  front : List Element
  parts : xs ≡ front ++ ws

noted-back : (shape : ShapeValues) (lead : List Placed) (start : Spot) (xs : List Element) (b : Option Break) (waiting : List Element) → IsNoted shape lead start xs b waiting → IsBack waiting xs
noted-back shape lead start xs None waiting h = record { front = xs; parts = sym (ap (λ ys. xs ++ ys) h.1 ∙ append-nil xs) }
noted-back shape lead start xs (Some b) waiting h = record { front = up_to_break xs; parts = h.2 }

pub waiting-sound : (m n k : MakerValues) (es fs gs : List Element) (f : Filling) (e : Element) → Walks m es n fs f → n.held ++ fs ≡ e ∷ (k.held ++ gs) → AreSound (f.waiting ++ e ∷ k.held)
waiting-sound m n k es fs gs f e w more =
    let both = sound-parts m n es fs f w in
    let back = noted-back m.cutting.shape (lead_of m) (start_of m) w.xs f.last_break f.waiting w.filling.noted in
    All-append IsSound f.waiting (e ∷ k.held)
    (all-back IsSound back.front f.waiting (subst AreSound back.parts both.0))
    (all-front IsSound (e ∷ k.held) gs (subst AreSound more both.1))

pub waiting-on : (m n k : MakerValues) (es fs : List Element) (f : Filling) (w : Walks m es n fs f) (e : Element) → has_room m.cutting.shape w.xs (reached m.cutting.shape (start_of m) w.xs) e ≡ false → ends_some k.held ≡ false
    → ends_some (f.waiting ++ e ∷ k.held) ≡ false
waiting-on m n k es fs f w e unfit held =
    let back = noted-back m.cutting.shape (lead_of m) (start_of m) w.xs f.last_break f.waiting w.filling.noted in
    let on = unfit-ends m.cutting.shape w.xs (reached m.cutting.shape (start_of m) w.xs) e unfit in
    on-append f.waiting (e ∷ k.held) (on-parts back.front f.waiting (sym (ap ends_some back.parts) ∙ w.on)).1 (rw (on, held) refl)

pub waiting-few : (m n k : MakerValues) (es fs : List Element) (f : Filling) (w : Walks m es n fs f) (e : Element) → has_room m.cutting.shape w.xs (reached m.cutting.shape (start_of m) w.xs) e ≡ false
    → length k.held ≡ length n.held - 1 → length (f.waiting ++ e ∷ k.held) ≤ 400
waiting-few m n k es fs f w e unfit less =
    let back = noted-back m.cutting.shape (lead_of m) (start_of m) w.xs f.last_break f.waiting w.filling.noted in
    let behind = ap length back.parts ∙ length-append back.front f.waiting in
    let wait = few-wait m.cutting.shape (lead_of m) (start_of m) (reached m.cutting.shape (start_of m) w.xs) w.xs f.last_break f.waiting e w.filling.noted w.few unfit in
    let size = length-append f.waiting (e ∷ k.held) in
    let held = w.held in
    let most = w.making.few in
    let narrow = w.making.narrow in
    omega (arith, behind, wait, size, held, most, less, narrow)

pub walk-cells : (m n : MakerValues) (es fs : List Element) (f : Filling) (shape : ShapeValues) → Walks m es n fs f → shape ≡ m.cutting.shape → length f.draft.cells ≤ shape.hscroll + room shape - first_seen shape
walk-cells m n es fs f shape w same =
    let lead = lead-is m w.making.leads in
    rw same (cells-room m.cutting.shape (lead_of m) (start_of m) w.xs f.draft w.filling.draft lead.stand (sound-parts m n es fs f w).0)

pub ended-cells : (m n k : MakerValues) (es fs gs : List Element) (f g : Filling) (e : Element) (shape here : ShapeValues) → Walks m es n fs f → n.held ++ fs ≡ e ∷ (k.held ++ gs) → shape ≡ m.cutting.shape → here ≡ m.cutting.shape
    → ((lead : List Placed) (start : Spot) (xs : List Element) → IsFilling shape lead start xs f → IsFilling shape lead start (xs ++ e ∷ []) g)
    → length g.draft.cells ≤ here.hscroll + room here - first_seen here
ended-cells m n k es fs gs f g e shape here w more same too placed =
    let lead = lead-is m w.making.leads in
    let both = sound-parts m n es fs f w in
    let filled = subst (λ (s : ShapeValues). (lead : List Placed) (start : Spot) (xs : List Element) → IsFilling s lead start xs f → IsFilling s lead start (xs ++ e ∷ []) g) same placed in
    let sound = All-append IsSound w.xs (e ∷ []) both.0 (all-front IsSound (e ∷ []) (k.held ++ gs) (subst AreSound more both.1)) in
    rw too (cells-room m.cutting.shape (lead_of m) (start_of m) (w.xs ++ e ∷ []) g.draft (filled (lead_of m) (start_of m) w.xs w.filling).draft lead.stand sound)

-- the row that was made is the next of the line

abbrev pub line_row : Cutting → List Placed → Spot → RowCut → LaidRow
line_row c lead start cut = laid c (reached c.shape start cut.elements).used cut.marked (standing c.shape lead start cut.elements)

abbrev pub next_spot : Bool → Spot → Spot
next_spot b spot = if b then next_line spot else spot

same-rows : (fin : Bool) (n : ℕ) (c : Cutting) (b : Bool) (spot : Spot) (rest : List Element) → (fin ≡ true → rest ≡ []) → length rest ≤ n
    → rows_within n c (lead_behind c b) spot rest ≡ (if fin then [] else rows_within (length rest) c (if not b then c.wrap else c.first) spot rest)
same-rows true n c b spot rest over few = rw (over refl) (none-left n c (lead_behind c b) spot)
same-rows false n c true spot rest over few = rows-same n (length rest) c c.first spot rest few (omega arith)
same-rows false n c false spot rest over few = rows-same n (length rest) c c.wrap spot rest few (omega arith)

row-parts : (r : LaidRow) (row : RowValues) (weight : ℕ) (rs qs : List LaidRow) → r.row ≡ row.shown → r.weight ≡ weight → rs ≡ qs → r ∷ rs ≡ record { row = row.shown; weight = weight } ∷ qs
row-parts r row weight rs qs h k i =
    let same : r ≡ record { row = row.shown; weight = weight }
    = ap (λ (x : RowMeaning). let y : LaidRow = record { row = x; weight = r.weight } in y) h ∙ ap (λ (n : ℕ). let y : LaidRow = record { row = row.shown; weight = n } in y) k in
    ap (λ (x : LaidRow). x ∷ rs) same ∙ ap (λ (xs : List LaidRow). (record { row = row.shown; weight = weight }) ∷ xs) i

-- behind the end of a line nothing stands
once-over : (xs rest : List Element) → line_ends xs ≡ true → IsTrue (ends_once (xs ++ rest)) → rest ≡ []
once-over xs [] h end = refl
once-over xs (f ∷ fs) h end = let none = (ends_once-parts xs f fs end).0 in absurd (cc)

low-column : (b : Bool) (s : Spot) → (next_spot b s).column ≤ s.column
low-column true s = omega arith
low-column false s = omega arith

first-cut : (n : ℕ) (c : Cutting) (lead : List Placed) (spot : Spot) (cut : RowCut) (all : List Element) → 0 < length all → cut_row c.shape (next_row (columns_of lead) spot) all ≡ cut
    → (let start = next_row (columns_of lead) spot in rows_within (suc n) c lead spot all ≡ line_row c lead start cut ∷ rows_within n c (lead_behind c cut.ended) (next_spot cut.ended (reached c.shape start cut.elements)) (drop (length cut.elements) all))
first-cut n c lead spot cut [] some is = absurd (omega arith)
first-cut n c lead spot cut (x ∷ xs) some is = rw (sym is) refl

-- a row is cut from the elements of a line
cuts-by : (m p : MakerValues) (es gs : List Element) (row : RowValues) (weight : ℕ) (kept : List Element) (b marked fin : Bool) → m.finished ≡ false → IsLine m.spot.column (m.held ++ es) → HasLeads m.cutting
    → cut_row m.cutting.shape (start_of m) (m.held ++ es) ≡ record { elements = kept; ended = b; marked = marked } → m.held ++ es ≡ kept ++ (p.held ++ gs) → 0 < length kept
    → p ≡ record { cutting = m.cutting; spot = next_spot b (reached m.cutting.shape (start_of m) kept); continued = not b; held = p.held; finished = fin }
    → row ≡ row_standing m.cutting (lead_of m) (start_of m) kept marked fin → weight ≡ length (lead_of m) + length kept → line_ends kept ≡ fin → ends_some p.held ≡ false
    → Cuts m p es gs row weight
cuts-by m p es gs row weight kept b marked fin on line leads cut parts some next row_is weight_is ends waits =
    let c : Cutting = m.cutting in
    let lead : List Placed = lead_of m in
    let start : Spot = start_of m in
    let spot : Spot = next_spot b (reached c.shape start kept) in
    let made : RowCut = record { elements = kept; ended = b; marked = marked } in
    let all : List Element = m.held ++ es in
    let rest : List Element = p.held ++ gs in
    let behind : drop (length kept) all ≡ rest = ap (drop (length kept)) parts ∙ drop-append_seam kept rest in
    let size = ap length parts ∙ length-append kept rest in
    let n : ℕ = length all - 1 in
    let long : length all ≡ suc n = omega (arith, size, some) in
    let left : rows_behind m es ≡ line_row c lead start made ∷ rows_within n c (lead_behind c b) spot rest
    = rw (on, sym behind) (ap (λ (k : ℕ). rows_within k c lead m.spot all) long ∙ first-cut n c lead m.spot made all (omega (arith, long)) cut) in
    let over : fin ≡ true → rest ≡ [] = λ h. once-over kept rest (ends ∙ h) (subst (λ ys. IsTrue (ends_once ys)) parts line.end) in
    let later : rows_within n c (lead_behind c b) spot rest ≡ rows_behind p gs
    = same-rows fin n c b spot rest over (omega (arith, size, some, long)) ∙ ap (λ (y : MakerValues). rows_behind y gs) (sym next) in
    let fin_is : p.finished ≡ fin = ap (λ (y : MakerValues). y.finished) next in
    let last : fin ≡ has_line_end (standing c.shape lead start kept) = sym (standing-ends c.shape lead start kept (lead-is m leads).on ∙ ends) in
    let shown = ap (λ (r : RowValues). r.shown) (row_is ∙ ap (row_standing c lead start kept marked) last) in
    let column : p.spot.column ≤ m.spot.column + columns_at_most kept
    = let here = reached-column c.shape start kept in let at = ap (λ (y : MakerValues). y.spot.column) next in omega (arith, here, at, low-column b (reached c.shape start kept)) in
    record {
      row_is = left ∙ row-parts (line_row c lead start made) row weight _ (rows_behind p gs) (sym shown) (standing-length c.shape lead start kept ∙ sym weight_is) later;
      fresh = ap (λ (r : RowValues). r.copies) row_is;
      last = fin_is ∙ sym (ap (λ (r : RowValues). r.shown.ends_block) row_is);
      on = waits;
      line = λ h. line-behind m.spot.column p.spot.column kept rest (ends ∙ (sym fin_is ∙ h)) column (subst (IsLine m.spot.column) parts line);
    }

-- a row that is left

left-cut : (shape : ShapeValues) (row : List Element) → ends_some row ≡ false
    → cut_of shape row ≡ record { elements = if can_wrap shape row then up_to_break row else row; ended = false; marked = not (can_wrap shape row) }
left-cut shape row on = rw on (rw (and-true (can_wrap shape row)) refl)

kept-front : (b : Bool) (xs : List Element) → IsFront (if b then up_to_break xs else xs) xs
kept-front true xs = break-front xs
kept-front false xs = record { rest = []; parts = sym (append-nil xs) }

can-break : (shape : ShapeValues) (xs : List Element) → can_wrap shape xs ≡ true → has_break xs ≡ true
can-break shape xs h = (and_parts (is_word shape.wrap) (has_break xs) h).1

kept-some : (shape : ShapeValues) (xs : List Element) (b : Bool) → can_wrap shape xs ≡ b → 0 < length xs → 0 < length (if b then up_to_break xs else xs)
kept-some shape xs true h some = break-some xs (can-break shape xs h)
kept-some shape xs false h some = some

not-empty : (xs : List Element) → is_empty xs ≡ false → 0 < length xs
not-empty [] h = cc
not-empty (x ∷ xs) h = omega arith

left-cuts : (m p : MakerValues) (es hs gs xs : List Element) (e : Element) (row : RowValues) (weight : ℕ) → m.finished ≡ false → IsLine m.spot.column (m.held ++ es) → HasLeads m.cutting
    → m.held ++ es ≡ xs ++ e ∷ (hs ++ gs) → room_for m.cutting.shape (start_of m) (m.held ++ es) ≡ xs → ends_some xs ≡ false → 0 < length xs → ends_row e.look ≡ false → ends_some hs ≡ false
    → Leaves (record m { held = hs }) p (lead_of m) (start_of m) xs e row weight → Cuts m p es gs row weight
left-cuts m p es hs gs xs e row weight on line leads parts full ends some unended held leaves =
    let shape = m.cutting.shape in
    let wrap : Bool = can_wrap shape xs in
    let kept : List Element = kept_of shape xs in
    let all : m.held ++ es ≡ kept ++ (p.held ++ gs)
    = parts ∙ (sym (append_assoc xs (e ∷ hs) gs) ∙ (ap (λ ys. ys ++ gs) (sym leaves.waits) ∙ append_assoc kept p.held gs)) in
    let front = kept-front wrap xs in
    let kept_on : ends_some kept ≡ false = (on-parts kept front.rest (sym (ap ends_some front.parts) ∙ ends)).0 in
    let next : p ≡ record { cutting = m.cutting; spot = reached shape (start_of m) kept; continued = true; held = p.held; finished = false }
    = leaves.next ∙ ap (λ (b : Bool). let y : MakerValues = record { cutting = m.cutting; spot = reached shape (start_of m) kept; continued = true; held = p.held; finished = b } in y) on in
    cuts-by m p es gs row weight kept false (not wrap) false on line leads (ap (cut_of shape) full ∙ left-cut shape xs ends) all (kept-some shape xs wrap refl some) next
    leaves.row_is leaves.weight_is (on-line_ends kept kept_on)
    (on-parts kept p.held (ap ends_some leaves.waits ∙ on-append xs (e ∷ hs) ends (rw (unended, held) refl))).1

pub leave-cuts : (result : Result MadeRow Memory) (m n k p : MakerValues) (held : ends_some k.held ≡ false) (es fs gs : List Element) (f : Filling) (w : Walks m es n fs f) (e : Element) → n.held ++ fs ≡ e ∷ (k.held ++ gs) → k ≡ record n { held = k.held }
    → has_room m.cutting.shape w.xs (reached m.cutting.shape (start_of m) w.xs) e ≡ false
    → IfOk result (λ made. (lead : List Placed) (start : Spot) (xs : List Element) → IsFilling k.cutting.shape lead start xs f → Leaves k p lead start xs e made.row made.weight)
    → IfOk result (λ made. Cuts m p es gs made.row made.weight)
leave-cuts (Err x) m n k p held es fs gs f w e more rest unfit h = h
leave-cuts (Ok made) m n k p held es fs gs f w e more rest unfit h =
    let k_is = taken m n k w.maker rest in
    let leaves = subst (λ (y : MakerValues). (lead : List Placed) (start : Spot) (xs : List Element) → IsFilling y.cutting.shape lead start xs f → Leaves y p lead start xs e made.row made.weight) k_is h in
    let room = subst (λ ys. room_for m.cutting.shape (start_of m) (m.held ++ es) ≡ w.xs ++ room_behind m.cutting.shape w.xs (reached m.cutting.shape (start_of m) w.xs) ys) more w.room in
    let empty : is_empty w.xs ≡ false = (or_parts (is_empty w.xs) _ unfit).0 in
    left-cuts m p es k.held gs w.xs e made.row made.weight w.going_on w.line w.making.leads (w.parts ∙ ap (λ ys. w.xs ++ ys) more)
    (room-full m.cutting.shape (start_of m) w.xs (m.held ++ es) (k.held ++ gs) e unfit room) w.on (not-empty w.xs empty) (unfit-ends m.cutting.shape w.xs (reached m.cutting.shape (start_of m) w.xs) e unfit) held
    (leaves (lead_of m) (start_of m) w.xs w.filling)

-- a row that is ended

ended-cut : (shape : ShapeValues) (row : List Element) → ends_some row ≡ true → cut_of shape row ≡ record { elements = row; ended = true; marked = false }
ended-cut shape row h = rw h (rw (and-false (can_wrap shape row)) refl)

some-last : (xs : List Element) (e : Element) → ends_row e.look ≡ true → ends_some (xs ++ e ∷ []) ≡ true
some-last xs e h = ends-append xs (e ∷ []) ∙ rw h (or-true (ends_some xs))

ended-cuts : (m p : MakerValues) (es hs gs xs : List Element) (e : Element) (fin : Bool) (row : RowValues) (weight : ℕ) → m.finished ≡ false → IsLine m.spot.column (m.held ++ es) → HasLeads m.cutting
    → m.held ++ es ≡ xs ++ e ∷ (hs ++ gs) → room_for m.cutting.shape (start_of m) (m.held ++ es) ≡ xs ++ e ∷ [] → ends_some xs ≡ false → ends_row e.look ≡ true → fin ≡ is_line_end e.look → ends_some hs ≡ false
    → Ends (record m { held = hs }) p (lead_of m) (start_of m) (xs ++ e ∷ []) fin row weight → Cuts m p es gs row weight
ended-cuts m p es hs gs xs e fin row weight on line leads parts full none close fin_is waits ends =
    let shape = m.cutting.shape in
    let kept : List Element = xs ++ e ∷ [] in
    let held : p.held ≡ hs = ap (λ (y : MakerValues). y.held) ends.next in
    let all : m.held ++ es ≡ kept ++ (p.held ++ gs) = parts ∙ (sym (append_assoc xs (e ∷ []) (hs ++ gs)) ∙ ap (λ ys. kept ++ (ys ++ gs)) (sym held)) in
    let next : p ≡ record { cutting = m.cutting; spot = next_line (reached shape (start_of m) kept); continued = false; held = p.held; finished = fin }
    = ends.next ∙ ap (λ (ys : List Element). let y : MakerValues = record { cutting = m.cutting; spot = next_line (reached shape (start_of m) kept); continued = false; held = ys; finished = fin } in y) (sym held) in
    cuts-by m p es gs row weight kept true false fin on line leads (ap (cut_of shape) full ∙ ended-cut shape kept (some-last xs e close)) all (omega (arith, length-append xs (e ∷ []))) next
    ends.row_is ends.weight_is (any-more (λ (x : Element). is_line_end x.look) xs e ∙ rw (on-line_ends xs none) (sym fin_is)) (ap ends_some held ∙ waits)

pub end-cuts : (result : Result MadeRow Memory) (m n k p : MakerValues) (held : ends_some k.held ≡ false) (es fs gs : List Element) (f g : Filling) (w : Walks m es n fs f) (e : Element) (shape : ShapeValues) (fin : Bool) → n.held ++ fs ≡ e ∷ (k.held ++ gs) → k ≡ record n { held = k.held }
    → has_room m.cutting.shape w.xs (reached m.cutting.shape (start_of m) w.xs) e ≡ true → ends_row e.look ≡ true → fin ≡ is_line_end e.look → shape ≡ m.cutting.shape
    → ((lead : List Placed) (start : Spot) (xs : List Element) → IsFilling shape lead start xs f → IsFilling shape lead start (xs ++ e ∷ []) g)
    → IfOk result (λ made. (lead : List Placed) (start : Spot) (xs : List Element) → IsFilling k.cutting.shape lead start xs g → Ends k p lead start xs fin made.row made.weight)
    → IfOk result (λ made. Cuts m p es gs made.row made.weight)
end-cuts (Err x) m n k p held es fs gs f g w e shape fin more rest fit close fin_is same placed h = h
end-cuts (Ok made) m n k p held es fs gs f g w e shape fin more rest fit close fin_is same placed h =
    let k_is = taken m n k w.maker rest in
    let filled = subst (λ (s : ShapeValues). (lead : List Placed) (start : Spot) (xs : List Element) → IsFilling s lead start xs f → IsFilling s lead start (xs ++ e ∷ []) g) same placed in
    let ends = subst (λ (y : MakerValues). (lead : List Placed) (start : Spot) (xs : List Element) → IsFilling y.cutting.shape lead start xs g → Ends y p lead start xs fin made.row made.weight) k_is h in
    let room = subst (λ ys. room_for m.cutting.shape (start_of m) (m.held ++ es) ≡ w.xs ++ room_behind m.cutting.shape w.xs (reached m.cutting.shape (start_of m) w.xs) ys) more w.room in
    ended-cuts m p es k.held gs w.xs e fin made.row made.weight w.going_on w.line w.making.leads (w.parts ∙ ap (λ ys. w.xs ++ ys) more)
    (room-ended m.cutting.shape (start_of m) w.xs (m.held ++ es) (k.held ++ gs) e fit close room) w.on close fin_is held
    (ends (lead_of m) (start_of m) (w.xs ++ e ∷ []) (filled (lead_of m) (start_of m) w.xs w.filling))

pub walk-less : (n k : MakerValues) (fs gs : List Element) (e : Element) → n.held ++ fs ≡ e ∷ (k.held ++ gs) → length (k.held ++ gs) < length (n.held ++ fs)
walk-less n k fs gs e more = let size = ap length more in omega (arith, size)
