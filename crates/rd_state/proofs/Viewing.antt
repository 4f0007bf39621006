-- What the ops on a window's view leave.
use Rattle.std.proofs.Common.{◌≡◌, ℕ, ◌<◌, ◌≤◌, Bool, false, if◌then◌else◌, IsTrue, ℤ, pos, ◌+ℤ◌, neg_ℤ, ◌≤ℤ◌, FitsSigned, w64, to_z, of_z, Some, Result, Ok, Err, List, length, set, get_or, ap, subst, sym, ◌∙◌, arith}
use Rattle.std.proofs.lemmas.Bool.{and_parts}
use Rattle.std.proofs.lemmas.Int.{ints, to_z-of_z}
use Rattle.std.proofs.lemmas.Option.{slice_get_past}
use Rattle.std.specs.Prelude.{int_le, slice_get}
use Rattle.rd_script.specs.Numbers.{is_near_zero}
use Rattle.rd_text.specs.Texts.{TextValue}
use Rattle.rd_state.specs.declared.refused.Refused.{Refused}
use Rattle.rd_state.specs.declared.refused.Refused.TheVariants.{NoBuffer, OutOfRange}
use Rattle.rd_state.specs.declared.window.WindowState.{WindowState}
use Rattle.rd_state.specs.Edits.{is_accessible}
use Rattle.rd_state.specs.States.{BufferValue, StateValue, number_of}
use Rattle.rd_state.specs.Steps.{changing, held, in_buffer, in_shown, placing, setting, showing, with_found}
use Rattle.rd_state.specs.Valid.{IsValid}
use Rattle.rd_state.specs.Windows.{place_in, NumberedWindow}
use Rattle.rd_state.proofs.ByNumber.{IsFound}
use Rattle.rd_state.proofs.Finding.{at-window, found-in, sets-window}
use Rattle.rd_state.proofs.Showing.{held-small, window-valid}

-- a window that lives shows a buffer that was made
pub shown-made : (s : StateValue) (n i : ℕ) (e : NumberedWindow) → IsValid s → IsFound n i s.windows e → e.1.buffer < length s.buffers
shown-made s n i e valid there = (window-valid s n e.1 valid there.stands).made

pub rows-near : (s : StateValue) (n i : ℕ) (e : NumberedWindow) → IsValid s → IsFound n i s.windows e → IsTrue (is_near_zero (pos 1000000000) e.1.pending)
rows-near s n i e valid there = (window-valid s n e.1 valid there.stands).pending

-- ---- a buffer that is shown

pub shows-buffer : (s t : StateValue) (n i : ℕ) (e : NumberedWindow) (name : List ℕ) (k begin : ℕ) (b : BufferValue) → t ≡ s → IsFound n i t.windows e → k ≡ number_of name t.buffers
    → slice_get t.buffers k ≡ Some b → begin ≡ b.content.text.begin
    → showing s n name ≡ Ok (record t { windows = set t.windows i (e.0, record e.1 { buffer = k; point = begin; anchor = record { pos = begin; row = 0 }; forced = false; pending = pos 0 }) })
shows-buffer s t n i e name k begin b same there is at first =
    let f : ℕ → ℕ → WindowState → WindowState = λ j p old. record old { buffer = j; point = p; anchor = record { pos = p; row = 0 }; forced = false; pending = pos 0 } in
    let shown : StateValue → ℕ → BufferValue → Result StateValue Refused = λ x j c. changing n (f j c.content.text.begin) (Ok x) in
    at-window s t n i e (λ x w. in_buffer x name (shown x)) same there
    ∙ (ap (λ j. with_found NoBuffer (slice_get t.buffers j) (shown t j)) (sym is)
    ∙ (ap (λ o. with_found NoBuffer o (shown t k)) at
    ∙ (ap (λ p. changing n (f k p) (Ok t)) (sym first)
    ∙ ap (λ xs. Ok (record t { windows = xs })) (sym (there.changed (f k begin))))))

pub shows-none : (s t : StateValue) (n i : ℕ) (e : NumberedWindow) (name : List ℕ) → t ≡ s → IsFound n i t.windows e → number_of name t.buffers ≡ length t.buffers → showing s n name ≡ Err NoBuffer
shows-none s t n i e name same there past =
    let shown : StateValue → ℕ → BufferValue → Result StateValue Refused
    = λ x j c. changing n (λ old. record old { buffer = j; point = c.content.text.begin; anchor = record { pos = c.content.text.begin; row = 0 }; forced = false; pending = pos 0 }) (Ok x) in
    let k = number_of name t.buffers in
    at-window s t n i e (λ x w. in_buffer x name (shown x)) same there
    ∙ ap (λ o. with_found NoBuffer o (shown t k)) (slice_get_past t.buffers k (omega (arith, past)))

-- ---- a position in the buffer that is shown

pub placing-is : (s t : StateValue) (n i place : ℕ) (e : NumberedWindow) (f : WindowState → WindowState) (b : BufferValue) (inside : Bool) → t ≡ s → IsFound n i t.windows e
    → slice_get t.buffers e.1.buffer ≡ Some b → is_accessible b.content.text place ≡ inside
    → placing s n place f ≡ (if inside then Ok (record t { windows = set t.windows i (e.0, f e.1) }) else Err OutOfRange)
placing-is s t n i place e f b inside same there at is =
    let done : StateValue → BufferValue → Result StateValue Refused = λ x c. if is_accessible c.content.text place then changing n f (Ok x) else Err OutOfRange in
    at-window s t n i e (λ x w. in_shown x w (done x)) same there
    ∙ (ap (λ o. with_found NoBuffer o (done t)) at
    ∙ (ap (λ y. if y then changing n f (Ok t) else Err OutOfRange) is
    ∙ ap (λ xs. if inside then Ok (record t { windows = xs }) else Err OutOfRange) (sym (there.changed f))))

-- what is set of a window, where a position was found that is accessible in the buffer that it shows
pub sets-placed : (s t : StateValue) (n i place short : ℕ) (e : NumberedWindow) (f : ℕ → WindowState → WindowState) → t ≡ s → i ≡ place_in n s.windows → i < length s.windows → short ≡ place
    → e ≡ get_or t.windows i e → ((g : WindowState → WindowState) → placing s n place g ≡ setting s n g)
    → placing s n place (f place) ≡ Ok (record t { windows = set t.windows i (e.0, f short e.1) })
sets-placed s t n i place short e f same is inside near at placed =
    let there = found-in t s.windows n i e (ap (λ (x : StateValue). x.windows) (sym same)) is inside at in
    placed (f place) ∙ (sets-window s t n i e (f place) same there ∙ ap (λ p. Ok (record t { windows = set t.windows i (e.0, f p e.1) })) (sym near))

-- what `text_at` tells of the buffer with a number
abbrev pub IsTextAt : List BufferValue → ℕ → TextValue → Type 0
IsTextAt buffers i t = (b : BufferValue) × (slice_get buffers i ≡ Some b) × (t ≡ b.content.text)

-- whether a position is accessible in it
abbrev pub TellsAt : List BufferValue → ℕ → ℕ → Bool → Type 0
TellsAt buffers i place answer = (b : BufferValue) × (slice_get buffers i ≡ Some b) × (is_accessible b.content.text place ≡ answer)

pub tells-at : (buffers : List BufferValue) (i place : ℕ) (answer : Bool) (t : TextValue) → IsTextAt buffers i t → is_accessible t place ≡ answer → TellsAt buffers i place answer
tells-at buffers i place answer t at is = (at.0, at.1, ap (λ (x : TextValue). is_accessible x place) (sym at.2) ∙ is)

-- ---- rows that wait

near-bounds : (most : ℕ) (z : ℤ) → IsTrue (is_near_zero (pos most) z) → (neg_ℤ (pos most) ≤ℤ z) × (z ≤ℤ pos most)
near-bounds most z h =
    let parts = and_parts (int_le (neg_ℤ (pos most)) z) (int_le z (pos most)) h in
    let low = parts.0 in
    let high = parts.1 in
    (omega (arith, ints), omega (arith, ints))

near-fits : (most : ℕ) (z : ℤ) → most ≤ 1000000000 → IsTrue (is_near_zero (pos most) z) → FitsSigned w64 z
near-fits most z small h =
    let b = near-bounds most z h in
    let low = b.0 in
    let high = b.1 in
    omega (arith, ints)

near-same : (most : ℕ) (z : ℤ) → most ≤ 1000000000 → IsTrue (is_near_zero (pos most) z) → to_z w64 (of_z w64 z) ≡ z
near-same most z small h = to_z-of_z w64 z (near-fits most z small h)

-- a window's rows and those of an op make no sum that 64 bits do not hold
pub rows-fit : (old rows : ℤ) → IsTrue (is_near_zero (pos 1000000000) old) → IsTrue (is_near_zero (pos 1000000) rows) → FitsSigned w64 (to_z w64 (of_z w64 old) +ℤ to_z w64 (of_z w64 rows))
rows-fit old rows h g =
    let a = near-bounds 1000000000 old h in
    let b = near-bounds 1000000 rows g in
    let low = a.0 in
    let high = a.1 in
    let bottom = b.0 in
    let top = b.1 in
    let sum : FitsSigned w64 (old +ℤ rows) = omega (arith, ints) in
    subst (λ (x : ℤ). FitsSigned w64 (x +ℤ to_z w64 (of_z w64 rows))) (sym (near-same 1000000000 old (omega arith) h))
    (subst (λ (x : ℤ). FitsSigned w64 (old +ℤ x)) (sym (near-same 1000000 rows (omega arith) g)) sum)

pub rows-held : (old rows now : ℤ) → IsTrue (is_near_zero (pos 1000000000) old) → IsTrue (is_near_zero (pos 1000000) rows)
    → now ≡ held (to_z w64 (of_z w64 (to_z w64 (of_z w64 old) +ℤ to_z w64 (of_z w64 rows))))
    → to_z w64 (of_z w64 now) ≡ held (old +ℤ rows)
rows-held old rows now h g is =
    let sum : now ≡ held (old +ℤ rows)
    = is ∙ (ap held (to_z-of_z w64 (to_z w64 (of_z w64 old) +ℤ to_z w64 (of_z w64 rows)) (rows-fit old rows h g))
    ∙ (ap (λ (x : ℤ). held (x +ℤ to_z w64 (of_z w64 rows))) (near-same 1000000000 old (omega arith) h) ∙ ap (λ (x : ℤ). held (old +ℤ x)) (near-same 1000000 rows (omega arith) g))) in
    ap (λ (x : ℤ). to_z w64 (of_z w64 x)) sum ∙ near-same 1000000000 (held (old +ℤ rows)) (omega arith) (held-small (old +ℤ rows))
