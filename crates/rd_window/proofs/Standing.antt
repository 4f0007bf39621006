-- A window that rests on its last layout, and a new layout that stands.
use Rattle.std.proofs.Common.{◌≡◌, ℕ, suc, ◌+◌, ◌-◌, ◌<◌, ◌≤◌, inl, inr, Bool, true, false, if◌then◌else◌, ◌==◌, ◌&&◌, leb, ltb, min, List, [], ◌∷◌, ◌++◌, length, take, drop, slice_get, Option, Some, refl, sym, ap, ap₂, ◌∙◌, subst, arith}
use Rattle.std.specs.Option.{unwrap_or}
use Rattle.std.proofs.lemmas.Bool.{and_parts, cases_lt, eq-eqb, eqb-true, lt-ltb, ltb-true}
use Rattle.std.proofs.lemmas.Bool.Decides.{nat_tests}
use Rattle.rd_base.proofs.Lists.{at-seam}
use Rattle.rd_base.proofs.Choices.{opposite}
use Rattle.rd_base.specs.declared.settings.Anchor.{Anchor}
use Rattle.rd_matrix.specs.Blocks.{IsAmong, StandFrom, first_start}
use Rattle.rd_matrix.specs.Entries.{EntryMeaning, all_rows, numbered, shown_entries}
use Rattle.rd_matrix.specs.Sources.{IsSource, SourceValues, rows_at}
use Rattle.rd_matrix.specs.declared.block.Block.{Block}
use Rattle.rd_reuse.specs.Changes.{is_none}
use Rattle.rd_reuse.specs.Views.{Names}
use Rattle.rd_reuse.proofs.Changes.{none-is}
use Rattle.rd_matrix.proofs.HeldLemmas.{later-start}
use Rattle.rd_reuse.proofs.Places.{anchor-found}
use Rattle.rd_rows.specs.Rows.{RowMeaning}
use Rattle.rd_rows.specs.Shapes.{IsShape, ShapeValues, is_same_shape}
use Rattle.rd_rows.proofs.SameShapes.{same-shape}
use Rattle.rd_start.proofs.Blocks.{anchor-skips}
use Rattle.rd_start.proofs.Lists.{find-first}
use Rattle.rd_start.specs.Chosen.{anchor_at, anchor_from, anchor_row, chosen_of, places_of, point_from, row_in_block}
use Rattle.rd_start.specs.Starts.{Places, centred, following, is_inside, margin_of, scrolled, suits, wanted_above, wanted_below}
use Rattle.rd_start.specs.declared.wanted.Wanted.{Wanted}
use Rattle.rd_window.specs.Layouts.{IsLaidOut, IsSourceOf, Stands, StandsUnchanged, TellsEnds, is_current, rests}
use Rattle.rd_window.specs.Views.{rows_in_view, start_row}
use Rattle.rd_window.specs.declared.layout.Layout.{Layout}
use Rattle.rd_window.specs.declared.layout.TextEnds.{TextEnds}
use Rattle.rd_window.proofs.Ends.{tells}
use Rattle.rd_window.proofs.Points.{in-view}
use Rattle.rd_window.proofs.Starting.{some-laid, start-named}

-- ---- what a current layout is

pub record IsCurrent (l : Layout) (shape : ShapeValues) (w : Wanted) : Type 0 where
  pub unchanged : is_none l.change ≡ true
  pub free : w.forced ≡ false
  pub shapes : is_same_shape l.shape shape ≡ true
  pub height : l.height ≡ w.height
  pub margin : l.margin ≡ w.margin
  pub conservatively : l.conservatively ≡ w.conservatively

pub current : (l : Layout) (shape : ShapeValues) (w : Wanted) → is_current l shape w ≡ true → IsCurrent l shape w
current l shape w e =
    let five = and_parts _ _ e in
    let four = and_parts _ _ five.0 in
    let three = and_parts _ _ four.0 in
    let two = and_parts _ _ three.0 in
    let one = and_parts _ _ two.0 in
    record {
      unchanged = one.0;
      free = opposite true w.forced (sym one.1);
      shapes = two.1;
      height = eqb-true l.height w.height three.1;
      margin = eqb-true l.margin w.margin four.1;
      conservatively = eqb-true l.conservatively w.conservatively five.1;
    }

-- ---- whether a layout's start suits

pub suits-shown : (w : Wanted) (at : Places) (row above below : ℕ) → at.point ≡ at.old + row → at.old < at.count → above ≡ wanted_above w at.old → below ≡ wanted_below w at.count at.old
    → is_inside w.height above below 0 row ≡ suits w at at.old
suits-shown w at row above below place low up down =
    let inside = lt-ltb at.old at.count low in
    let tests : is_inside w.height above below at.old at.point ≡ is_inside w.height above below 0 row = grind (arith, nat_tests, place) in
    sym (ap (λ b. b && is_inside w.height (wanted_above w at.old) (wanted_below w at.count at.old) at.old at.point) inside
    ∙ (sym (ap₂ (λ (a b : ℕ). is_inside w.height a b at.old at.point) up down) ∙ tests))

pub suits-hidden : (w : Wanted) (at : Places) → (at.old ≤ at.point → at.point < at.old + w.height → false ≡ true) → suits w at at.old ≡ false
suits-hidden w at out =
    elim (cases_lt at.point at.old) [
      | inl above ↦ grind (arith, nat_tests)
      | inr low ↦
          elim (cases_lt at.point (at.old + w.height)) [
            | inl high ↦ absurd (let never = out low high in cc)
            | inr below ↦ grind (arith, nat_tests)
          ]
    ]

-- how many rows are wanted above and below point's, where it is known whether all rows there are in view
pub above-known : (w : Wanted) (top : Bool) (i : ℕ) → top ≡ (i == 0) → (if top then 0 else margin_of w) ≡ wanted_above w i
above-known w top i known = ap (λ b. if b then 0 else margin_of w) known

pub below-known : (w : Wanted) (bottom : Bool) (count i height : ℕ) → height ≡ w.height → bottom ≡ leb count (i + height) → (if bottom then 0 else margin_of w) ≡ wanted_below w count i
below-known w bottom count i height same known = ap (λ b. if b then 0 else margin_of w) (known ∙ ap (λ n. leb count (i + n)) same)

-- ---- a window that rests

pub record Rests (l : Layout) (m : SourceValues) (shape : ShapeValues) (w : Wanted) : Type 0 where
  pub current : IsCurrent l shape w
  pub fits : suits w (places_of m shape w) (places_of m shape w).old ≡ true
  pub stands : Stands m w.anchor l
  pub is : rests (Some l) m shape w ≡ true

pub rests-parts : (l : Layout) (m : SourceValues) (shape : ShapeValues) (w : Wanted) → rests (Some l) m shape w ≡ true → StandsUnchanged (Some l) m w.forced w.anchor → Rests l m shape w
rests-parts l m shape w e stands =
    let both = and_parts (is_current l shape w) (suits w (places_of m shape w) (places_of m shape w).old) e in
    let now = current l shape w both.0 in
    record { current = now; fits = both.1; stands = stands now.unchanged now.free; is = e }

module _ {l : Layout} {m : SourceValues} {shape : ShapeValues} {w : Wanted} (r : Rests l m shape w) where
  abbrev at : Places
  at = places_of m shape w

  -- a window that rests starts where it started
  start-stays : start_row m shape w ≡ at.old
  start-stays =
      ap (λ (b : Bool). if b then scrolled w at else following w at) r.current.free ∙ ap (λ o. unwrap_or o (centred w at)) (find-first (suits w at) at.old w.conservatively r.fits)

  shapes : l.shape ≡ shape
  shapes = same-shape l.shape shape r.current.shapes

  start-seen : anchor_row (λ b. m.rows_of b l.shape) w.anchor m.blocks ≡ start_row m shape w
  start-seen = ap (λ (s : ShapeValues). anchor_row (λ b. m.rows_of b s) w.anchor m.blocks) shapes ∙ sym start-stays

  rows-stay : shown_entries l.matrix ≡ rows_in_view m shape w
  rows-stay = r.stands.rows ∙ (λ i. take (r.current.height i) (drop (start-seen i) (rows_at m (shapes i))))

  start-inside : start_row m shape w < length (rows_at m shape)
  start-inside =
      let start = start-stays in
      let inside = ltb-true at.old at.count (and_parts (ltb at.old at.count) (is_inside w.height (wanted_above w at.old) (wanted_below w at.count at.old) at.old at.point) r.fits).0 in
      omega (arith, start, inside)

  -- a window that rests has a row
  pub some-stay : 1 ≤ w.height → 0 < length l.matrix
  some-stay some = some-laid m shape w l.matrix some start-inside rows-stay

  -- a window that rests tells whether it has the first row and the last one
  pub tells-resting : {ends : TextEnds} → IsSourceOf ends m → IsShape shape → 1 ≤ w.height → TellsEnds ends m shape w l
  tells-resting of is some = tells of is w l start-inside some rows-stay

  -- the start is that of its first row, and point stays
  pub chosen-stays : 1 ≤ w.height → record { anchor = anchor_at (shown_entries l.matrix) 0; point = w.point } ≡ chosen_of m shape w
  chosen-stays some =
      let rows = rows_at m shape in
      let start = start_row m shape w in
      let same : start + 0 ≡ start = omega arith in
      let first : anchor_at (shown_entries l.matrix) 0 ≡ anchor_at rows start =
      ap (λ (es : List EntryMeaning). anchor_at es 0) rows-stay ∙ ap anchor_from (in-view rows start w.height 0 (omega (arith, some)) ∙ ap (slice_get rows) same) in
      let point : w.point ≡ point_from w at start rows = sym (ap (λ (b : Bool). point_from (record w { forced = b }) at start rows) r.current.free) in
      ap₂ (λ (a : Anchor) (p : ℕ). record { anchor = a; point = p }) first point

  pub laid-resting : IsLaidOut (Some l) m shape w l
  laid-resting = record {
    rows = rows-stay;
    is = λ i. record l {
      shape = shapes i;
      height = r.current.height i;
      margin = r.current.margin i;
      conservatively = r.current.conservatively i;
      change = none-is l.change r.current.unchanged i;
    };
    stays = λ e. sym (ap (λ (b : Bool). if b then l.matrix else []) r.current.shapes);
    copies = λ e. let never : true ≡ false = sym r.is ∙ e in absurd cc;
  }

-- ---- a new layout stands

-- an anchor that names a row has that row
anchor-place : (m : SourceValues) (shape : ShapeValues) (anchor : Anchor) (k : ℕ) → IsSource m → Names anchor (rows_at m shape) k → anchor_row (λ b. m.rows_of b shape) anchor m.blocks ≡ k
anchor-place m shape anchor k source named =
    let rows : Block → List RowMeaning = λ b. m.rows_of b shape in
    let from = first_start m.blocks in
    let f = anchor-found rows m.blocks k anchor named in
    let whole = subst (StandFrom from) f.pieces source.blocks.stand in
    let some = (later-start from (length f.before) (f.before ++ f.block ∷ f.after) f.block whole (at-seam f.before f.block f.after)).1 in
    let starts = f.starts in
    let inside = f.inside in
    let skips = anchor-skips rows anchor from f.before f.after f.block whole (omega (arith, starts)) (omega (arith, starts, some)) in
    let held : min anchor.row (length (rows f.block) - 1) ≡ anchor.row = omega (arith, inside) in
    let own_row : row_in_block anchor f.block.start (rows f.block) ≡ anchor.row =
    ap (λ (b : Bool). if b then min anchor.row (length (rows f.block) - 1) else 0) (eq-eqb anchor.pos f.block.start (sym starts)) ∙ held in
    ap (anchor_row rows anchor) f.pieces ∙ (skips ∙ (ap (λ (n : ℕ). length (all_rows rows f.before) + n) own_row ∙ f.place))

pub stands-new : (last : Option Layout) (m : SourceValues) (shape : ShapeValues) (w : Wanted) (new : Layout) → IsSource m → start_row m shape w < length (rows_at m shape) → IsLaidOut last m shape w new
    → Stands m (chosen_of m shape w).anchor new
stands-new last m shape w new source low laid =
    let anchor = (chosen_of m shape w).anchor in
    let place = anchor-place m shape anchor (start_row m shape w) source (start-named m shape w low) in
    subst (Stands m anchor) (sym laid.is) (record { rows = laid.rows ∙ sym (ap (λ (i : ℕ). take w.height (drop i (rows_at m shape))) place) })

-- ---- a source with equal rows

same-rows : (f h : Block → List RowMeaning) (bs : List Block) → ((b : Block) → IsAmong bs b → h b ≡ f b) → all_rows h bs ≡ all_rows f bs
same-rows f h [] each = refl
same-rows f h (b ∷ bs) each =
    ap₂ (λ (xs ys : List EntryMeaning). xs ++ ys) (ap (numbered b.start 0) (each b (0, refl))) (same-rows f h bs (λ x k. each x (suc k.0, k.1)))

same-anchor : (f h : Block → List RowMeaning) (anchor : Anchor) (bs : List Block) → ((b : Block) → IsAmong bs b → h b ≡ f b) → anchor_row h anchor bs ≡ anchor_row f anchor bs
same-anchor f h anchor [] each = refl
same-anchor f h anchor (b ∷ bs) each =
    ap₂ (λ (rows : List RowMeaning) (rest : ℕ). if ltb anchor.pos b.end then row_in_block anchor b.start rows else length rows + rest) (each b (0, refl))
    (same-anchor f h anchor bs (λ x k. each x (suc k.0, k.1)))

pub stands-on : (m n : SourceValues) (anchor : Anchor) (l : Layout) → n.blocks ≡ m.blocks → ((b : Block) → IsAmong m.blocks b → n.rows_of b l.shape ≡ m.rows_of b l.shape) → Stands m anchor l
    → Stands n anchor l
stands-on m n anchor l blocks each stands =
    let f : Block → List RowMeaning = λ b. m.rows_of b l.shape in
    let h : Block → List RowMeaning = λ b. n.rows_of b l.shape in
    let rows : rows_at n l.shape ≡ rows_at m l.shape = ap (all_rows h) blocks ∙ same-rows f h m.blocks each in
    let place : anchor_row h anchor n.blocks ≡ anchor_row f anchor m.blocks = ap (anchor_row h anchor) blocks ∙ same-anchor f h anchor m.blocks each in
    record { rows = stands.rows ∙ sym (ap₂ (λ (i : ℕ) (es : List EntryMeaning). take l.height (drop i es)) place rows) }
