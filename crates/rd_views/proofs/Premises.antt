-- What the layout of a window asks of its source and its last layout, and what it answers.
use Rattle.std.proofs.Common.{◌≡◌, ℕ, ◌+◌, ◌≤◌, not, is_some, Option, Some, sym, ap, subst, subst₂, ◌∙◌}
use Rattle.std.specs.Prelude.{IfSome, slice_get}
use Rattle.rd_blocks.specs.Sources.{source_of, text_source}
use Rattle.rd_matrix.specs.Blocks.{IsWithin, end_from, first_start}
use Rattle.rd_matrix.specs.Sources.{EndersBeginLast, IsSource, SourceValues}
use Rattle.rd_objects.specs.Things.{ObjectLists}
use Rattle.rd_props.specs.Buffers as props
use Rattle.rd_props.specs.Buffers.{files_of, meaning}
use Rattle.rd_props.specs.declared.state.View.{View}
use Rattle.rd_reuse.specs.Keeping.{AreRight}
use Rattle.rd_rows.specs.Shapes.{ShapeValues}
use Rattle.rd_start.specs.Chosen.{chosen_of}
use Rattle.rd_start.specs.declared.wanted.Wanted.{Wanted}
use Rattle.rd_state.proofs.Showing.{shown-has, window-valid}
use Rattle.rd_state.specs.States.{BufferValue, StateValue, seen}
use Rattle.rd_state.specs.Valid.{IsWindow}
use Rattle.rd_state.specs.Windows.{shown_content, window_of}
use Rattle.rd_state.specs.declared.window.WindowState.{WindowState}
use Rattle.rd_text.specs.Texts.{IsAccessible, IsText}
use Rattle.rd_tree.specs.declared.placed.Placed.{Placed}
use Rattle.rd_ucd.specs.Data.{Data}
use Rattle.rd_window.specs.Layouts.{IsLaidOut, IsSourceOf, StandsUnchanged, TellsEnds, allowance, change_since, layout_after, older_rows, rests}
use Rattle.rd_window.specs.declared.layout.Layout.{Layout}
use Rattle.rd_window.specs.declared.layout.TextEnds.{TextEnds}
use Rattle.rd_layout.specs.Redisplays.{allowance_by}
use Rattle.rd_layout.specs.Sessions.{SessionValue, layout_of}
use Rattle.rd_layout.specs.Since.{IsSession}
use Rattle.rd_layout.specs.Windows.{wanted_of, window_shape, window_source}
use Rattle.rd_views.specs.Layings.{IsDesiredAt, IsDesiredBy, layout_in, window_in}
use Rattle.rd_views.specs.declared.laying.TextLaying.{TextLaying}
use Rattle.rd_views.proofs.Desiring.{desired-window}

-- the source that a look at a buffer gives
pub source-is : (view : View) (content : props.BufferValue) (objects : ObjectLists) (files : Data) → meaning view.state.now ≡ content → view.objects.now ≡ objects → files_of view ≡ files
    → source_of view ≡ text_source content objects files
source-is view content objects files a b c = λ i. text_source (a i) (b i) (c i)

-- what the layers below say
pub record LookLaws : Type 0 where
  pub source : (s : props.BufferValue) (objects : ObjectLists) (files : Data) → IsText s.text → IsSource (text_source s objects files)
  pub within : (s : props.BufferValue) (objects : ObjectLists) (files : Data) (pos : ℕ) → IsAccessible s.text pos → IsWithin pos (text_source s objects files).blocks
  pub begin : (s : props.BufferValue) (objects : ObjectLists) (files : Data) → IsText s.text → first_start (text_source s objects files).blocks ≡ s.text.begin
  pub end : (s : props.BufferValue) (objects : ObjectLists) (files : Data) → IsText s.text → end_from 0 (text_source s objects files).blocks ≡ s.text.end + 1
  pub last : (s : props.BufferValue) (objects : ObjectLists) (files : Data) → IsText s.text → EndersBeginLast (text_source s objects files)
  pub kept : (v : SessionValue) (number : ℕ) (w : WindowState) (shape : ShapeValues) → IsSession v → window_of number v.state.windows ≡ Some w
      → AreRight (window_source v.files v.state w) (older_rows (layout_of number v.layouts) shape) (change_since (layout_of number v.layouts)) shape
  pub stands : (v : SessionValue) (number : ℕ) (w : WindowState) → IsSession v → window_of number v.state.windows ≡ Some w
      → StandsUnchanged (layout_of number v.layouts) (window_source v.files v.state w) w.forced w.anchor

module _ (laws : LookLaws) (v : SessionValue) (session : IsSession v) (n : ℕ) (w : WindowState) (lives : window_of n v.state.windows ≡ Some w) (m : SourceValues) (source : m ≡ window_source v.files v.state w) where
  window : IsWindow v.state.buffers w
  window = window-valid v.state n w session.state lives

  text : IsText (shown_content v.state w).text
  text = shown-has (λ c. IsText c.text) v.state w window (λ b at. (session.state.buffers.contents w.buffer b at).text)

  -- the source is one, whose blocks begin and end with the text of the window's buffer
  pub is-source : (ends : TextEnds) → ends.begin ≡ (shown_content v.state w).text.begin → ends.end ≡ (shown_content v.state w).text.end → IsSourceOf ends m
  is-source ends begin end =
      let content = seen (shown_content v.state w) in
      subst (λ (k : SourceValues). IsSourceOf ends k) (sym source) (record {
        source = laws.source content v.state.objects v.files text;
        begin = begin ∙ sym (laws.begin content v.state.objects v.files text);
        end = ap (λ (n : ℕ). n + 1) end ∙ sym (laws.end content v.state.objects v.files text);
        last = laws.last content v.state.objects v.files text;
      })

  -- a position that is accessible in the window's buffer lies in the source's blocks
  lies-within : (p : ℕ) → ((b : BufferValue) → slice_get v.state.buffers w.buffer ≡ Some b → IsAccessible b.content.text p) → IsWithin p m.blocks
  lies-within p own =
      subst (λ (k : SourceValues). IsWithin p k.blocks) (sym source)
      (laws.within (seen (shown_content v.state w)) v.state.objects v.files p (shown-has (λ c. IsAccessible c.text p) v.state w window own))

  -- what is wanted of the window's start is wanted at the window's start and point
  pub anchor-wanted : (s : StateValue) (place : Placed) (x : Wanted) → x ≡ wanted_of s w place → IsWithin x.anchor.pos m.blocks
  anchor-wanted s place x is = subst (λ (y : Wanted). IsWithin y.anchor.pos m.blocks) (sym is) (lies-within w.anchor.pos window.anchor)

  pub point-wanted : (s : StateValue) (place : Placed) (x : Wanted) → x ≡ wanted_of s w place → IsWithin x.point m.blocks
  point-wanted s place x is = subst (λ (y : Wanted). IsWithin y.point m.blocks) (sym is) (lies-within w.point window.point)

  pub kept-right : (last : Option Layout) (shape : ShapeValues) → last ≡ layout_of n v.layouts → AreRight m (older_rows last shape) (change_since last) shape
  kept-right last shape is =
      subst₂ (λ (k : SourceValues) (l : Option Layout). AreRight k (older_rows l shape) (change_since l) shape) (sym source) (sym is) (laws.kept v n w shape session lives)

  pub stands-unchanged : (s : StateValue) (place : Placed) (last : Option Layout) (x : Wanted) → last ≡ layout_of n v.layouts → x ≡ wanted_of s w place → StandsUnchanged last m x.forced x.anchor
  stands-unchanged s place last x is wants =
      subst (λ (y : Wanted). StandsUnchanged last m y.forced y.anchor) (sym wants)
      (subst₂ (λ (k : SourceValues) (l : Option Layout). StandsUnchanged l k w.forced w.anchor) (sym source) (sym is) (laws.stands v n w session lives))

-- what the layout of a window answers
abbrev pub Laid : Option Layout → SourceValues → ShapeValues → Wanted → TextLaying → Type 0
Laid last m shape wanted laid =
    (laid.laying.chosen ≡ chosen_of m shape wanted)
    × IfSome (layout_after last laid.laying.anew) (λ new. IsLaidOut last m shape wanted new)
    × IfSome (layout_after last laid.laying.anew) (λ new. TellsEnds laid.ends m shape wanted new)
    × (is_some laid.laying.anew ≡ not (rests last m shape wanted))

module _ (files : Data) (s : StateValue) (place : Placed) (w : WindowState) (last : Option Layout) where
  abbrev m : SourceValues
  m = window_source files s w

  abbrev shape : ShapeValues
  shape = window_shape s w place

  abbrev wanted : Wanted
  wanted = wanted_of s w place

  laid-here : (laid : TextLaying) → Laid last m shape wanted laid → IsDesiredAt files s last place w (window_in laid) (place.number, layout_in laid)
  laid-here laid h = desired-window files s place w last laid h.0 h.1 h.2 h.3

  laid-there : (l : Option Layout) (k : SourceValues) (x : ShapeValues) (y : Wanted) (laid : TextLaying) → l ≡ last → k ≡ m → x ≡ shape → y ≡ wanted → Laid l k x y laid → Laid last m shape wanted laid
  laid-there l k x y laid a b c d h =
      subst₂ (λ (o : Option Layout) (q : SourceValues). Laid o q shape wanted laid) a b (subst₂ (λ (z : ShapeValues) (u : Wanted). Laid l k z u laid) c d h)

  pub laid-result : (l : Option Layout) (k : SourceValues) (x : ShapeValues) (y : Wanted) (o : Option WindowState) (laid : TextLaying)
      → l ≡ last → k ≡ m → x ≡ shape → y ≡ wanted → o ≡ Some w → Laid l k x y laid → IsDesiredBy files s last place o (window_in laid) (place.number, layout_in laid)
  laid-result l k x y o laid a b c d lives h =
      subst (λ (p : Option WindowState). IsDesiredBy files s last place p (window_in laid) (place.number, layout_in laid)) (sym lives) (laid-here laid (laid-there l k x y laid a b c d h))

  pub allowed-steps : (l : Option Layout) (k : SourceValues) (x : ShapeValues) (y : Wanted) (o : Option WindowState) (before after : ℕ)
      → l ≡ last → k ≡ m → x ≡ shape → y ≡ wanted → o ≡ Some w → after ≤ before + allowance l k x y → after ≤ before + allowance_by files s last place o
  allowed-steps l k x y o before after a b c d lives h =
      let same : allowance l k x y ≡ allowance last m shape wanted = λ i. allowance (a i) (b i) (c i) (d i) in
      subst (λ (n : ℕ). after ≤ before + n) (same ∙ sym (ap (allowance_by files s last place) lives)) h
