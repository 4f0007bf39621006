-- The map of buffers by name, as the list of buffers.
use Rattle.std.proofs.Common.{◌≡◌, ◌≢◌, ℕ, zero, suc, ◌+◌, ◌<◌, ◌≤◌, Bool, true, false, cond, not, if◌then◌else◌, None, Some, Result, Ok, Err, List, [], ◌∷◌, ◌++◌, length, sym, ap, refl, ◌∙◌, arith}
use Rattle.std.proofs.lemmas.Bool.{ltb-false}
use Rattle.std.proofs.lemmas.List.Sums.{prefix_len-le-length}
use Rattle.std.proofs.lemmas.Map.Entries.{length-keys_of}
use Rattle.std.specs.Prelude.{option_map, slice_get, slice_set, nat_lt, position, String, string_bytes}
use Rattle.std.specs.String.{string_eq}
use Rattle.std.specs.declared.alloc.Global.{Global}
use Rattle.std.specs.List.{position_or_len}
use Rattle.std.specs.Map.{keys_of, values_of}
use Rattle.std.specs.Str.{bytes_eq}
use Rattle.indexmap.specs.IndexMap.{insert_entry}
use Rattle.indexmap.specs.Layout.{set_value_at}
use Rattle.rd_base.proofs.Choices.{none-chosen}
use Rattle.rd_state.specs.declared.refused.Refused.{Refused}
use Rattle.rd_state.specs.declared.refused.Refused.TheVariants.{Memory}
use Rattle.rd_state.specs.States.{BufferValue, ContentValue, buffers_of, number_of}
use Rattle.rd_state.specs.Answers.{Answers}
use Rattle.rd_state.proofs.Options.{position-is}

-- ---- searching

abbrev has_name : List ℕ → String Global → Bool
has_name name key = bytes_eq name (string_bytes key)

pub length-buffers_of : (es : List (String Global × ContentValue)) → length (buffers_of es) ≡ length es
length-buffers_of [] = refl
length-buffers_of (e ∷ es) = ap suc (length-buffers_of es)

number_of-keys : (name : List ℕ) (es : List (String Global × ContentValue)) → position_or_len (has_name name) (keys_of es) ≡ number_of name (buffers_of es)
number_of-keys name [] = refl
number_of-keys name (e ∷ es) = ap (λ n. cond (not (bytes_eq name (string_bytes e.0))) (1 + n) 0) (number_of-keys name es)

pub number_of-bound : (name : List ℕ) (es : List (String Global × ContentValue)) → number_of name (buffers_of es) ≤ length (buffers_of es)
number_of-bound name es = prefix_len-le-length (λ b. not (bytes_eq name b.name)) (buffers_of es)

pub number_of-found : (name : List ℕ) (es : List (String Global × ContentValue)) (i : ℕ) → position (has_name name) (keys_of es) ≡ Some i
    → (i ≡ number_of name (buffers_of es)) × (i < length (buffers_of es))
number_of-found name es i h =
    let (is, within) = position-is (has_name name) (keys_of es) i h in
    (is ∙ number_of-keys name es, omega (arith, within, length-keys_of es, length-buffers_of es))

pub number_of-missed : (name : List ℕ) (es : List (String Global × ContentValue)) → position (has_name name) (keys_of es) ≡ None → number_of name (buffers_of es) ≡ length (buffers_of es)
number_of-missed name es h =
    let n = position_or_len (has_name name) (keys_of es) in
    let past = ltb-false n (length (keys_of es)) (none-chosen (nat_lt n (length (keys_of es))) n None h).0 in
    omega (arith, past, number_of-keys name es, length-keys_of es, length-buffers_of es, number_of-bound name es)

-- ---- adding

-- a buffer under its name
abbrev named : String Global → ContentValue → BufferValue
named key content = record { name = string_bytes key; content = content }

added-by : (b : Bool) (n m : ℕ) (x y : List (String Global × ContentValue)) (z : List BufferValue) → cond (not b) (1 + n) 0 ≡ suc m
    → (n ≡ m → buffers_of y ≡ z) → buffers_of (if b then x else y) ≡ z
added-by true n m x y z h new = absurd (omega (arith, h))
added-by false n m x y z h new = new (omega (arith, h))

-- a name that no buffer has goes last
pub added : (es : List (String Global × ContentValue)) (k : String Global) (b : ContentValue) → number_of (string_bytes k) (buffers_of es) ≡ length (buffers_of es)
    → buffers_of (insert_entry string_eq es k b) ≡ buffers_of es ++ named k b ∷ []
added [] k b h = refl
added (e ∷ es) k b h =
    added-by (string_eq k e.0) (number_of (string_bytes k) (buffers_of es)) (length (buffers_of es)) _ (e ∷ insert_entry string_eq es k b) _ h
    (λ p. ap (λ bs. named e.0 e.1 ∷ bs) (added es k b p))

-- ---- changing

-- the name of the buffer at a place
abbrev pub name_at : List (String Global × ContentValue) → ℕ → List ℕ
name_at [] i = []
name_at (e ∷ es) zero = string_bytes e.0
name_at (e ∷ es) (suc i) = name_at es i

-- the buffer at a place
pub stands : (es : List (String Global × ContentValue)) (i : ℕ)
    → slice_get (buffers_of es) i ≡ option_map (λ c. record { name = name_at es i; content = c }) (slice_get (values_of es) i)
stands [] i = refl
stands (e ∷ es) zero = refl
stands (e ∷ es) (suc i) = stands es i

-- the list after a write there
pub written : (es : List (String Global × ContentValue)) (i : ℕ) (c : ContentValue)
    → buffers_of (set_value_at es i c) ≡ slice_set (buffers_of es) i (record { name = name_at es i; content = c })
written [] i c = refl
written (e ∷ es) zero c = refl
written (e ∷ es) (suc i) c = ap (λ bs. named e.0 e.1 ∷ bs) (written es i c)

-- buffers stay as they are where what one holds is written again
pub rewritten : (es : List (String Global × ContentValue)) (i : ℕ) (b : ContentValue) → slice_get (values_of es) i ≡ Some b
    → buffers_of (set_value_at es i b) ≡ buffers_of es
rewritten [] i b h = refl
rewritten (e ∷ es) zero b h = let same : e.1 ≡ b = cc in ap (λ x. named e.0 x ∷ buffers_of es) (sym same)
rewritten (e ∷ es) (suc i) b h = ap (λ bs. named e.0 e.1 ∷ bs) (rewritten es i b h)

pub there : (es : List (String Global × ContentValue)) (i : ℕ) (b : ContentValue) → slice_get (values_of es) i ≡ Some b
    → slice_get (buffers_of es) i ≡ Some (record { name = name_at es i; content = b })
there es i b at = stands es i ∙ ap (option_map (λ (c : ContentValue). record { name = name_at es i; content = c })) at

-- what is known of a buffer that is found by its number and changed in place
pub ruleset in_place = (stands, written, rewritten)

-- what is done by an edit to the buffer at a place: a refusal is the edit's or want of memory, and leaves the buffers as they were
abbrev pub AnswersAt : Result Unit Refused → (ContentValue → Result ContentValue Refused) → ℕ → List BufferValue → List BufferValue → Type 0
AnswersAt (Ok _) edit i old new =
    (b : BufferValue) × (c : ContentValue) × (slice_get old i ≡ Some b) × (edit b.content ≡ Ok c) × (new ≡ slice_set old i (record b { content = c }))
AnswersAt (Err refused) edit i old new =
    (new ≡ old) × (refused ≢ Memory → (b : BufferValue) × (slice_get old i ≡ Some b) × (edit b.content ≡ Err refused))

-- as the method of the buffer answers, so the buffers are left
pub answers-at : (r : Result Unit Refused) (edit : ContentValue → Result ContentValue Refused) (i : ℕ) (es : List (String Global × ContentValue)) (b c : ContentValue)
    → slice_get (values_of es) i ≡ Some b → Answers r (edit b) b c → AnswersAt r edit i (buffers_of es) (buffers_of (set_value_at es i c))
answers-at (Ok u) edit i es b c at h = (record { name = name_at es i; content = b }, c, there es i b at, h, written es i c)
answers-at (Err e) edit i es b c at h = (
  ap (λ (x : ContentValue). buffers_of (set_value_at es i x)) h.0 ∙ rewritten es i b at,
  λ ne. (record { name = name_at es i; content = b }, there es i b at, h.1 ne),
)

pub text-at : (es : List (String Global × ContentValue)) (i : ℕ) (b : ContentValue) → slice_get (values_of es) i ≡ Some b
    → (x : BufferValue) × (slice_get (buffers_of es) i ≡ Some x) × (b.text ≡ x.content.text)
text-at es i b at = (record { name = name_at es i; content = b }, there es i b at, refl)
