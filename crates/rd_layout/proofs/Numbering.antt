-- What an op makes has a number under which nothing was there.
use Rattle.std.proofs.Common.{◌≡◌, ℕ, zero, suc, ◌+◌, ◌==◌, nat_le, Bool, true, false, cond, not, if◌then◌else◌, is_some, ℤ, pos, Option, None, Some, Ok, List, [], ◌∷◌, ◌++◌, length, map, sym, ap, refl, subst, ◌∙◌, arith, unwrap_or}
use Rattle.std.proofs.lemmas.Bool.{cond-true, eq-eqb}
use Rattle.std.proofs.lemmas.Option.{same_Some, slice_get_past}
use Rattle.std.proofs.lemmas.Result.{IfOk-at_ok}
use Rattle.std.specs.Option.{option_and_then, option_or}
use Rattle.std.specs.Prelude.{IfOk, option_map, slice_get, slice_set}
use Rattle.std.specs.Str.{bytes_eq}
use Rattle.rd_base.proofs.Choices.{ok-unless}
use Rattle.rd_base.proofs.Lists.{at-seam}
use Rattle.rd_base.specs.Faces.{Attributes}
use Rattle.rd_base.specs.declared.limits.TheConstants.{FACES, OVERLAYS, TABLES}
use Rattle.rd_objects.specs.Tables.{TableValue}
use Rattle.rd_objects.specs.Texts.{text_of}
use Rattle.rd_objects.specs.Things.{ObjectLists, face_added, full_fault, spec_added, spec_fault, string_added, string_fault, table_added}
use Rattle.rd_objects.specs.declared.fault.ObjectFault.{ObjectFault}
use Rattle.rd_overlays.specs.Overlays.{new_overlay, overlay_at}
use Rattle.rd_overlays.specs.declared.overlay.Overlay.{Overlay}
use Rattle.rd_script.specs.declared.op.Op.{Op}
use Rattle.rd_script.specs.declared.op.Op.TheVariants as ops
use Rattle.rd_script.specs.declared.object.OpRun.{OpRun}
use Rattle.rd_script.specs.declared.object.OpSpec.{OpSpec}
use Rattle.rd_state.proofs.ByNumber.{window-end}
use Rattle.rd_state.proofs.Leaves.{unmade}
use Rattle.rd_state.proofs.StepParts.{edited-if, found, making-if, objects-if, tree-if, with_content}
use Rattle.rd_state.specs.Edits.{is_range_of_all, overlay_making}
use Rattle.rd_state.specs.Effects.{overlay_in}
use Rattle.rd_state.specs.Making.{face_making, object_run, spec_making, spec_of, string_making, table_making, table_of, unless_fault}
use Rattle.rd_state.specs.States.{BufferValue, ContentValue, StateValue, new_buffer, number_of}
use Rattle.rd_state.specs.Steps.{edited, making, splitting, step, with_objects}
use Rattle.rd_state.specs.Valid.{IsValid}
use Rattle.rd_state.specs.Windows.{window_of}
use Rattle.rd_state.specs.declared.refused.Refused.TheVariants.{OutOfRange, TooManyOverlays}
use Rattle.rd_state.specs.declared.window.WindowState.{WindowState}
use Rattle.rd_tree.specs.Calls.{split_tree}
use Rattle.rd_tree.specs.declared.side.Side.{Side}
use Rattle.rd_layout.specs.Numbers.{IsMade, is_there, number_made, overlays_made}

-- ---- lists

-- the next number is free, and one more thing takes it
next-free : {X : Type 0} (xs : List X) → is_some (slice_get xs (length xs)) ≡ false
next-free xs = ap is_some (slice_get_past xs (length xs) (omega arith))

next-taken : {X : Type 0} (xs : List X) (x : X) → is_some (slice_get (xs ++ x ∷ []) (length xs)) ≡ true
next-taken xs x = ap is_some (at-seam xs x [])

-- what is written where something stood
written-there : {X : Type 0} (xs : List X) (i : ℕ) (x y : X) → slice_get xs i ≡ Some x → slice_get (slice_set xs i y) i ≡ Some y
written-there [] i x y at = absurd (cc)
written-there (z ∷ xs) zero x y at = refl
written-there (z ∷ xs) (suc i) x y at = written-there xs i x y at

-- another content leaves the buffers their numbers
named-same : (name : List ℕ) (bs : List BufferValue) (i : ℕ) (b : BufferValue) (c : ContentValue) → slice_get bs i ≡ Some b
    → number_of name (slice_set bs i (record b { content = c })) ≡ number_of name bs
named-same name [] i b c at = refl
named-same name (x ∷ bs) zero b c at = ap (λ (y : BufferValue). cond (not (bytes_eq name y.name)) (1 + number_of name bs) 0) (sym (same_Some x b at))
named-same name (x ∷ bs) (suc i) b c at = ap (λ (n : ℕ). cond (not (bytes_eq name x.name)) (1 + n) 0) (named-same name bs i b c at)

-- ---- overlays

-- the overlay of a number in the buffer with a name, where this is that buffer
overlay-seen : (name : List ℕ) (n : ℕ) (t : StateValue) (b : BufferValue) → slice_get t.buffers (number_of name t.buffers) ≡ Some b → overlay_in t name n ≡ overlay_at b.content.overlays n
overlay-seen name n t b at = ap (option_and_then (λ (x : BufferValue). overlay_at x.content.overlays n)) at

-- the overlays of a buffer with one more
overlay-taken : (from to : ℕ) (priority : ℤ) (front rear : Bool) (c d : ContentValue) → overlay_making from to priority front rear c ≡ Ok d → is_some (overlay_at d.overlays (length c.overlays)) ≡ true
overlay-taken from to priority front rear c d done =
    let new = Some (new_overlay from to priority front rear) in
    let more : ContentValue = record c { overlays = c.overlays ++ new ∷ [] } in
    let is = ok-unless (is_range_of_all c.text from to) (nat_le OVERLAYS (length c.overlays)) more TooManyOverlays OutOfRange d done in
    subst (λ (e : ContentValue). is_some (overlay_at e.overlays (length c.overlays)) ≡ true) is.2
    (ap (λ (o : Option (Option Overlay)). is_some (unwrap_or o None)) (at-seam c.overlays new []))

-- ---- objects

fault-none : (fault : Option ObjectFault) (made o : ObjectLists) → unless_fault fault made ≡ Ok o → made ≡ o
fault-none None made o h = cc
fault-none (Some fault) made o h = absurd (cc)

-- ---- each sort

module _ (s : StateValue) where
  buffer-made : (name : List ℕ) → IfOk (making s name) (IsMade s (ops.Buffer name) (length s.buffers))
  buffer-made name = making-if (IsMade s (ops.Buffer name) (length s.buffers)) s name (λ free room. (next-free s.buffers, next-taken s.buffers (new_buffer name)))

  overlay-made : (name : List ℕ) (from to : ℕ) (priority : ℤ) (front rear : Bool) (n : ℕ) → overlays_made s name ≡ Some n
      → IfOk (edited s name (overlay_making from to priority front rear)) (IsMade s (ops.Overlay name from to priority front rear) n)
  overlay-made name from to priority front rear n is =
      edited-if (IsMade s (ops.Overlay name from to priority front rear) n) s name (overlay_making from to priority front rear)
      (λ b c at done.
      let i = number_of name s.buffers in
      let t = with_content s i b c in
      let size = length b.content.overlays in
      let number : size ≡ n = same_Some size n (sym (ap (option_map (λ (x : BufferValue). length x.content.overlays)) at) ∙ is) in
      let there : slice_get t.buffers (number_of name t.buffers) ≡ Some (record b { content = c }) =
      ap (slice_get t.buffers) (named-same name s.buffers i b c at) ∙ written-there s.buffers i b (record b { content = c }) at in (
        ap is_some (overlay-seen name n s b at ∙ ap (λ (o : Option (Option Overlay)). unwrap_or o None) (slice_get_past b.content.overlays n (omega (arith, number)))),
        ap is_some (overlay-seen name n t (record b { content = c }) there)
            ∙ subst (λ (k : ℕ). is_some (overlay_at c.overlays k) ≡ true) number (overlay-taken from to priority front rear b.content c done),
      ))

  -- the objects of a sort with one more
  object-taken : {X : Type 0} (sort : ObjectLists → List X) (x : X) (fault : Option ObjectFault) (made o : ObjectLists) → sort made ≡ sort s.objects ++ x ∷ [] → unless_fault fault made ≡ Ok o
      → is_some (slice_get (sort o) (length (sort s.objects))) ≡ true
  object-taken {X = X} sort x fault made o more done =
      subst (λ (p : ObjectLists). is_some (slice_get (sort p) (length (sort s.objects))) ≡ true) (fault-none fault made o done)
      (ap (λ (xs : List X). is_some (slice_get xs (length (sort s.objects)))) more ∙ next-taken (sort s.objects) x)

  string-made : (text : List ℕ) (runs : List OpRun) → IfOk (with_objects s (string_making s.objects text runs)) (IsMade s (ops.AddString text runs) (length s.objects.strings))
  string-made text runs =
      let all = map object_run runs in
      objects-if (IsMade s (ops.AddString text runs) (length s.objects.strings)) s (string_making s.objects text runs)
      (λ o done. (next-free s.objects.strings, object-taken (λ p. p.strings) (text_of text all s.objects.faces) (string_fault s.objects text all) (string_added s.objects text all) o refl done))

  spec-made : (spec : OpSpec) → IfOk (with_objects s (spec_making s.objects spec)) (IsMade s (ops.AddSpec spec) (length s.objects.specs))
  spec-made spec =
      objects-if (IsMade s (ops.AddSpec spec) (length s.objects.specs)) s (spec_making s.objects spec)
      (λ o done. (next-free s.objects.specs, object-taken (λ p. p.specs) (spec_of spec) (spec_fault s.objects (spec_of spec)) (spec_added s.objects (spec_of spec)) o refl done))

  face-made : (face : Attributes) → IfOk (with_objects s (face_making s.objects face)) (IsMade s (ops.AddFace face) (length s.objects.faces))
  face-made face =
      objects-if (IsMade s (ops.AddFace face) (length s.objects.faces)) s (face_making s.objects face)
      (λ o done. (next-free s.objects.faces, object-taken (λ p. p.faces) face (full_fault FACES (length s.objects.faces)) (face_added s.objects face) o refl done))

  table-made : (op : Op) (table : TableValue) → ((t : StateValue) (n : ℕ) → is_there t op n ≡ is_some (slice_get t.objects.tables n))
      → IfOk (with_objects s (table_making s.objects table)) (IsMade s op (length s.objects.tables))
  table-made op table looks =
      let n = length s.objects.tables in
      objects-if (IsMade s op n) s (table_making s.objects table)
      (λ o done. (
        looks s n ∙ next-free s.objects.tables,
        looks (record s { objects = o }) n
            ∙ object-taken (λ p. p.tables) table (full_fault TABLES (length s.objects.tables)) (table_added s.objects table) o refl done,
      ))

  window-made : (window : ℕ) (side : Side) (size : ℕ) → IsValid s → IfOk (splitting s window side size) (IsMade s (ops.Split window side size) s.tree.made)
  window-made window side size valid =
      let P = IsMade s (ops.Split window side size) s.tree.made in
      let n = s.tree.made in
      let free : window_of n s.windows ≡ None = unmade s n valid (omega arith) in
      found P _ (window_of window s.windows) _
      (λ w lives. tree-if P (split_tree s.tree window side size) _
      (λ d is.
      let copy : WindowState = record w { forced = false; pending = pos 0 } in
      let new = if n == n then Some copy else None in (
        ap is_some free,
        ap is_some (window-end n s.windows (n, copy) ∙ (ap (λ (o : Option WindowState). option_or o new) free ∙ cond-true (n == n) (Some copy) None (eq-eqb n n refl))),
      )))

-- ---- all ops

-- the thing that has the number of what an op makes is there behind the op, and was not before
made : (s : StateValue) (op : Op) (n : ℕ) → IsValid s → number_made s op ≡ Some n → IfOk (step s op) (IsMade s op n)
unfolding step
made s (ops.Buffer name) n valid is = subst (λ (k : ℕ). IfOk (making s name) (IsMade s (ops.Buffer name) k)) (same_Some _ n is) (buffer-made s name)
made s (ops.Overlay name from to priority front rear) n valid is = overlay-made s name from to priority front rear n is
made s (ops.AddString text runs) n valid is =
    subst (λ (k : ℕ). IfOk (with_objects s (string_making s.objects text runs)) (IsMade s (ops.AddString text runs) k)) (same_Some _ n is) (string-made s text runs)
made s (ops.AddSpec spec) n valid is = subst (λ (k : ℕ). IfOk (with_objects s (spec_making s.objects spec)) (IsMade s (ops.AddSpec spec) k)) (same_Some _ n is) (spec-made s spec)
made s (ops.AddFace face) n valid is = subst (λ (k : ℕ). IfOk (with_objects s (face_making s.objects face)) (IsMade s (ops.AddFace face) k)) (same_Some _ n is) (face-made s face)
made s (ops.AddTable entries truncation continuation escape control ellipsis border) n valid is =
    let op = ops.AddTable entries truncation continuation escape control ellipsis border in
    let table = table_of entries truncation continuation escape control ellipsis border in
    subst (λ (k : ℕ). IfOk (with_objects s (table_making s.objects table)) (IsMade s op k)) (same_Some _ n is) (table-made s op table (λ t k. refl))
made s (ops.Split window side size) n valid is =
    subst (λ (k : ℕ). IfOk (splitting s window side size) (IsMade s (ops.Split window side size) k)) (same_Some _ n is) (window-made s window side size valid)
made s op n valid is = absurd (cc)

pub number-is-new : (s t : StateValue) (op : Op) (n : ℕ) → IsValid s → step s op ≡ Ok t → number_made s op ≡ Some n → IsMade s op n t
number-is-new s t op n valid led is = IfOk-at_ok (IsMade s op n) led (made s op n valid is)
