-- How often rows were copied changes no allowance, no op, and nothing that is told.
use Rattle.std.proofs.Common.{◌≡◌, ℕ, zero, suc, ◌+◌, ◌*◌, ◌&&◌, Bool, true, false, cond, if◌then◌else◌, Option, None, Some, Err, List, [], ◌∷◌, length, map, sym, ap, refl, ◌∙◌}
use Rattle.std.proofs.lemmas.List.{length-map}
use Rattle.std.proofs.lemmas.Simd.{map-map}
use Rattle.std.specs.Prelude.{option_map, unwrap_or}
use Rattle.rd_base.proofs.Choices.{of-choice}
use Rattle.rd_frame.specs.Panes.{body_height}
use Rattle.rd_matrix.specs.Cursors.{cursor_in}
use Rattle.rd_matrix.specs.Entries.{EntryMeaning, shown_entries, shown_entry}
use Rattle.rd_matrix.specs.Rows.{blocks_with}
use Rattle.rd_matrix.specs.Sources.{SourceValues, costs_of}
use Rattle.rd_matrix.specs.declared.block.Block.{Block}
use Rattle.rd_matrix.specs.declared.matrix.Entry.{Entry}
use Rattle.rd_reuse.specs.Keeping.{are_whole, entry_under, is_kept, is_outside, is_under, taken, taken_from, up_to_end}
use Rattle.rd_reuse.specs.declared.change.Change.{Change}
use Rattle.rd_rows.specs.Copies.{RowValues, shown_rows}
use Rattle.rd_rows.specs.Rows.{RowMeaning}
use Rattle.rd_rows.specs.Shapes.{ShapeValues, is_same_shape}
use Rattle.rd_start.specs.Chosen.{places_of}
use Rattle.rd_start.specs.Near.{is_near}
use Rattle.rd_start.specs.declared.wanted.Wanted.{Wanted}
use Rattle.rd_script.specs.declared.op.Op.{Op}
use Rattle.rd_script.specs.declared.op.Op.TheVariants as ops
use Rattle.rd_state.specs.Effects.{effect_of}
use Rattle.rd_state.specs.States.{StateValue}
use Rattle.rd_state.specs.Steps.{step, with_found}
use Rattle.rd_state.specs.Windows.{window_of}
use Rattle.rd_state.specs.declared.effect.Effect.{Effect}
use Rattle.rd_state.specs.declared.refused.Refused.TheVariants.{NoWindow, NotShown}
use Rattle.rd_state.specs.declared.window.WindowState.{WindowState}
use Rattle.rd_tree.specs.declared.placed.Placed.{Placed}
use Rattle.rd_ucd.specs.Data.{Data}
use Rattle.rd_visual.specs.Hits.{hit_in}
use Rattle.rd_window.specs.Layouts.{allowance, kept_by, older_rows, rests}
use Rattle.rd_window.specs.declared.layout.Layout.{Layout}
use Rattle.rd_layout.specs.Changes.{later, layouts_after}
use Rattle.rd_layout.specs.Copies.{uncopied, uncopied_entry, without_copies}
use Rattle.rd_layout.specs.Facts.{cursor_since, fact_of, facts_of}
use Rattle.rd_layout.specs.Pointing.{hitting, hitting_by, is_shown}
use Rattle.rd_layout.specs.Redisplays.{allowance_by, allowances, allowed}
use Rattle.rd_layout.specs.Sessions.{SessionValue, behind, layout_of, session_step}
use Rattle.rd_layout.specs.Windows.{of_windows, place_of, places, wanted_of, window_shape, window_source}
use Rattle.rd_layout.proofs.Known.{Last}
use Rattle.rd_state.proofs.ByNumber.{under-became}

-- ---- older rows

found-by : (t : Bool) (e : Entry) (o u : Option Entry) → u ≡ option_map uncopied_entry o → cond t (Some (uncopied_entry e)) u ≡ option_map uncopied_entry (cond t (Some e) o)
found-by true e o u h = refl
found-by false e o u h = h

same-entry : (es : List Entry) (c : Change) (start number : ℕ) → entry_under (map uncopied_entry es) c start number ≡ option_map uncopied_entry (entry_under es c start number)
same-entry [] c start number = refl
same-entry (e ∷ es) c start number =
    found-by (is_under c start number e) e (entry_under es c start number) (entry_under (map uncopied_entry es) c start number) (same-entry es c start number)

ended-by : (t : Bool) (rs qs : List RowValues) → shown_rows rs ≡ shown_rows qs → shown_rows (if t then [] else rs) ≡ shown_rows (if t then [] else qs)
ended-by true rs qs h = refl
ended-by false rs qs h = h

same-end : (o : Option Entry) (rs qs : List RowValues) → shown_rows rs ≡ shown_rows qs → shown_rows (up_to_end (option_map uncopied_entry o) rs) ≡ shown_rows (up_to_end o qs)
same-end None rs qs h = refl
same-end (Some e) rs qs h = ap (λ (xs : List RowMeaning). e.row.shown ∷ xs) (ended-by e.row.shown.ends_block rs qs h)

same-taken : (n : ℕ) (es : List Entry) (c : Change) (start number : ℕ) → shown_rows (taken_from n (map uncopied_entry es) c start number) ≡ shown_rows (taken_from n es c start number)
same-taken zero es c start number = refl
same-taken (suc n) es c start number =
    let behind = same-taken n es c start (number + 1) in
    ap (λ (o : Option Entry). shown_rows (up_to_end o (taken_from n (map uncopied_entry es) c start (number + 1)))) (same-entry es c start number)
    ∙ same-end (entry_under es c start number) (taken_from n (map uncopied_entry es) c start (number + 1)) (taken_from n es c start (number + 1)) behind

same-kept : (es : List Entry) (c : Change) (b : Block) → is_kept (map uncopied_entry es) c b ≡ is_kept es c b
same-kept es c b =
    let all : shown_rows (taken (map uncopied_entry es) c b.start) ≡ shown_rows (taken es c b.start) =
    ap (λ (n : ℕ). shown_rows (taken_from n (map uncopied_entry es) c b.start 0)) (length-map es uncopied_entry) ∙ same-taken (length es) es c b.start 0 in
    ap (λ (rows : List RowMeaning). is_outside c b && are_whole b.base rows) all

same-older : (l : Layout) (shape : ShapeValues) → older_rows (Some (uncopied l)) shape ≡ map uncopied_entry (older_rows (Some l) shape)
same-older l shape = sym (of-choice (map uncopied_entry) (is_same_shape l.shape shape) l.matrix [])

-- ---- allowances

same-allowance : (last : Option Layout) (m : SourceValues) (shape : ShapeValues) (w : Wanted) → allowance (option_map uncopied last) m shape w ≡ allowance last m shape w
same-allowance None m shape w = refl
same-allowance (Some l) m shape w = λ i. if rests (Some l) m shape w then 0 else 3 * costs_of (λ b. cost b i) (blocks_with (is_near w (places_of m shape w)) (λ b. m.rows_of b shape) 0 m.blocks) where
  cost : (b : Block) → (kept_by (Some (uncopied l)) m shape).cost_of b shape ≡ (kept_by (Some l) m shape).cost_of b shape
  cost b =
      let kept : is_kept (older_rows (Some (uncopied l)) shape) l.change b ≡ is_kept (older_rows (Some l) shape) l.change b =
      ap (λ (es : List Entry). is_kept es l.change b) (same-older l shape) ∙ same-kept (older_rows (Some l) shape) l.change b in
      ap (λ (t : Bool). if is_same_shape shape shape then (if t then 0 else m.cost_of b shape) else m.cost_of b shape) kept

same-layout : (n : ℕ) (ls : List Last) → layout_of n (map (λ (e : Last). (e.0, uncopied e.1)) ls) ≡ option_map uncopied (layout_of n ls)
same-layout n ls = under-became (λ k. uncopied) n ls

same-by : (files : Data) (s : StateValue) (last : Option Layout) (p : Placed) (o : Option WindowState) → allowance_by files s (option_map uncopied last) p o ≡ allowance_by files s last p o
same-by files s last p None = refl
same-by files s last p (Some w) = same-allowance last (window_source files s w) (window_shape s w p) (wanted_of s w p)

same-allowances : (v : SessionValue) (ps : List Placed) → allowances (without_copies v) ps ≡ allowances v ps
same-allowances v [] = refl
same-allowances v (p ∷ ps) =
    let o = window_of p.number v.state.windows in
    let here = ap (λ (last : Option Layout). allowance_by v.files v.state last p o) (same-layout p.number v.layouts) ∙ same-by v.files v.state (layout_of p.number v.layouts) p o in
    let behind = same-allowances v ps in
    λ i. here i + behind i

pub same-allowed : (v : SessionValue) → allowed (without_copies v) ≡ allowed v
same-allowed v = same-allowances v (places v.state)

-- ---- ops

same-shown : (es : List Entry) → shown_entries (map uncopied_entry es) ≡ shown_entries es
same-shown es = map-map shown_entry uncopied_entry es

same-pointed : (s : StateValue) (window : ℕ) (w : WindowState) (last : Option Layout) (place : Option Placed) (row column : ℕ)
    → hitting_by s window w (option_map uncopied last) place row column ≡ hitting_by s window w last place row column
same-pointed s window w None place row column = refl
same-pointed s window w (Some l) None row column = refl
same-pointed s window w (Some l) (Some place) row column =
    ap (λ (es : List EntryMeaning).
    if is_shown l (window_shape s w place) (body_height place) then step s (ops.Point window (unwrap_or (hit_in es row column) w.point)) else Err NotShown) (same-shown l.matrix)

same-hitting : (s : StateValue) (window : ℕ) (last : Option Layout) (row column : ℕ) → hitting s window (option_map uncopied last) row column ≡ hitting s window last row column
same-hitting s window last row column = by (window_of window s.windows) where
  by : (o : Option WindowState) → with_found NoWindow o (λ w. hitting_by s window w (option_map uncopied last) (place_of window s) row column) ≡ with_found NoWindow o (λ w. hitting_by s window w last (place_of window s) row column)
  by None = refl
  by (Some w) = same-pointed s window w last (place_of window s) row column

pub same-step : (v : SessionValue) (op : Op) → session_step (without_copies v) op ≡ session_step v op
same-step v (ops.Hit window row column) =
    ap (λ (last : Option Layout). hitting v.state window last row column) (same-layout window v.layouts) ∙ same-hitting v.state window (layout_of window v.layouts) row column
same-step v op = refl

-- ---- what is behind an op

same-later : (effect : Effect) (s : StateValue) (ls : List Last) → map (λ (e : Last). (e.0, uncopied e.1)) (layouts_after effect s ls) ≡ layouts_after effect s (map (λ (e : Last). (e.0, uncopied e.1)) ls)
same-later effect s [] = refl
same-later effect s (e ∷ rest) = ap (λ (xs : List Last). later effect s (e.0, uncopied e.1) ∷ xs) (same-later effect s rest)

pub same-behind : (v : SessionValue) (op : Op) (state : StateValue) → without_copies (behind v op state) ≡ behind (without_copies v) op state
same-behind v op state = ap (λ (ls : List Last). record (behind v op state) { layouts = ls }) (same-later (effect_of v.state op) state v.layouts)

-- ---- what is told of windows

same-cursor : (last : Option Layout) (point : ℕ) → cursor_since (option_map uncopied last) point ≡ cursor_since last point
same-cursor None point = refl
same-cursor (Some l) point = ap (cursor_in point) (same-shown l.matrix)

same-fact : (v : SessionValue) (p : Placed) (w : WindowState) → fact_of (without_copies v) p w ≡ fact_of v p w
same-fact v p w =
    let cursor = ap (λ (last : Option Layout). cursor_since last w.point) (same-layout p.number v.layouts) ∙ same-cursor (layout_of p.number v.layouts) w.point in
    λ i. record { window = p.number; rect = p.rect; start = w.anchor; point = w.point; cursor = cursor i }

pub same-facts : (v : SessionValue) → facts_of (without_copies v) ≡ facts_of v
same-facts v = λ i. of_windows (λ p w. same-fact v p w i) v.state
