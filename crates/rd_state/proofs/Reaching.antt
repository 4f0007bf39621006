-- An edit of a text at a position that no text reaches is refused.
use Rattle.std.proofs.Common.{◌≡◌, ℕ, ◌+◌, ◌<◌, Bool, true, false, if◌then◌else◌, Some, Result, Err, List, length, get_or, max, subst, sym, ap, refl, ◌∙◌, arith}
use Rattle.std.proofs.lemmas.Bool.{cond-false}
use Rattle.std.proofs.lemmas.Bool.Decides.{nat_tests}
use Rattle.std.proofs.lemmas.Option.{slice_get-get_or, slice_get_past}
use Rattle.std.specs.Prelude.{IsErr, slice_get}
use Rattle.std.specs.Result.{IsErrAnd}
use Rattle.rd_base.specs.declared.limits.TheConstants.{TEXT_CHARACTERS}
use Rattle.rd_text.specs.Texts.{TextValue, IsText}
use Rattle.rd_script.specs.declared.op.Op.{Op}
use Rattle.rd_script.specs.declared.op.Op.TheVariants.{Delete, Narrow}
use Rattle.rd_state.specs.declared.effect.Effect.{Effect}
use Rattle.rd_state.specs.declared.moves.Move.{Move}
use Rattle.rd_state.specs.declared.moves.Move.TheVariants.{Deleted, Narrowed}
use Rattle.rd_state.specs.declared.refused.Refused.{Refused}
use Rattle.rd_state.specs.declared.refused.Refused.TheVariants.{NoBuffer, OutOfRange}
use Rattle.rd_state.specs.Answers.{Applies}
use Rattle.rd_state.specs.Edits.{is_accessible, is_accessible_range, is_range_of_all, deletion, insertion, narrowing}
use Rattle.rd_state.specs.States.{BufferValue, ContentValue, StateValue, new_buffer, number_of}
use Rattle.rd_state.specs.Steps.{edited_moving, moving, content_replaced, step, with_found}
use Rattle.rd_state.specs.Valid.{IsValid}
use Rattle.rd_state.proofs.Sharing.{refuses}

-- ---- texts

behind : (t : TextValue) (pos : ℕ) → IsText t → TEXT_CHARACTERS + 1 < pos → is_accessible t pos ≡ false
behind t pos text far =
    let last = text.last in
    let short = text.short in
    grind (arith, nat_tests)

range-behind : (t : TextValue) (from to : ℕ) → IsText t → TEXT_CHARACTERS + 1 < max from to → is_accessible_range t from to ≡ false
range-behind t from to text far =
    let last = text.last in
    let short = text.short in
    grind (arith, nat_tests)

all-behind : (t : TextValue) (from to : ℕ) → IsText t → TEXT_CHARACTERS + 1 < max from to → is_range_of_all t from to ≡ false
all-behind t from to text far =
    let short = text.short in
    grind (arith, nat_tests)

-- ---- edits

pub insertion-behind : (pos : ℕ) (new : List ℕ) → TEXT_CHARACTERS + 1 < pos → (c : ContentValue) → IsText c.text → insertion pos new c ≡ Err OutOfRange
insertion-behind pos new far c text = cond-false (is_accessible c.text pos) _ _ (behind c.text pos text far)

pub deletion-behind : (from to : ℕ) → TEXT_CHARACTERS + 1 < max from to → (c : ContentValue) → IsText c.text → deletion from to c ≡ Err OutOfRange
deletion-behind from to far c text = cond-false (is_accessible_range c.text from to) _ _ (range-behind c.text from to text far)

pub narrowing-behind : (from to : ℕ) → TEXT_CHARACTERS + 1 < max from to → (c : ContentValue) → IsText c.text → narrowing from to c ≡ Err OutOfRange
narrowing-behind from to far c text = cond-false (is_range_of_all c.text from to) _ _ (all-behind c.text from to text far)

-- ---- states

-- an edit that every text refuses
refused-there : (s : StateValue) (name : List ℕ) (how : Move) (edit : ContentValue → Result ContentValue Refused) → IsValid s → number_of name s.buffers < length s.buffers
    → ((c : ContentValue) → IsText c.text → edit c ≡ Err OutOfRange) → edited_moving s name how edit ≡ Err OutOfRange
refused-there s name how edit valid less refuses =
    let i = number_of name s.buffers in
    let b = get_or s.buffers i (new_buffer name) in
    let at : slice_get s.buffers i ≡ Some b = slice_get-get_or s.buffers i (new_buffer name) less in
    let done : BufferValue → Result StateValue Refused = λ x. moving i how (content_replaced s i x (edit x.content)) in
    ap (λ o. with_found NoBuffer o done) at ∙ ap (λ r. moving i how (content_replaced s i b r)) (refuses b.content (valid.buffers.contents i b at).text)

-- an op that asks for an edit of the buffer that was found is refused where the edit is
pub refuses-behind : (r : Result Effect Refused) (op : Op) (s t : StateValue) (e : Refused) (name : List ℕ) (i : ℕ) (how : Move) (edit : ContentValue → Result ContentValue Refused)
    → IsErr r → IsErrAnd r (λ x. x ≡ e) → e ≡ OutOfRange → t ≡ s → IsValid s → i ≡ number_of name t.buffers → i < length t.buffers
    → ((c : ContentValue) → IsText c.text → edit c ≡ Err OutOfRange) → step s op ≡ edited_moving s name how edit → Applies r op s s
refuses-behind r op s t e name i how edit is and out same valid found within every asks =
    let less = subst (λ k. k < length t.buffers) found within in
    let refused = refused-there t name how edit (subst IsValid (sym same) valid) less every in
    refuses r op s s e is and refl (asks ∙ (ap (λ x. edited_moving x name how edit) (sym same) ∙ (refused ∙ ap (λ x. Err x) (sym out))))

-- a range is taken away or made the accessible one
pub range-asks : (s : StateValue) (name : List ℕ) (from to : ℕ) (deletes : Bool) → step s (if deletes then Delete name from to else Narrow name from to)
    ≡ edited_moving s name (if deletes then Deleted from to else Narrowed from to) (if deletes then deletion from to else narrowing from to)
unfolding step
range-asks s name from to true = refl
range-asks s name from to false = refl

pub range-unnamed : (s : StateValue) (name : List ℕ) (from to : ℕ) (deletes : Bool) → number_of name s.buffers ≡ length s.buffers
    → step s (if deletes then Delete name from to else Narrow name from to) ≡ Err NoBuffer
range-unnamed s name from to deletes none =
    range-asks s name from to deletes
    ∙ ap (λ o. with_found NoBuffer o (λ b. moving (number_of name s.buffers) (if deletes then Deleted from to else Narrowed from to)
    (content_replaced s (number_of name s.buffers) b ((if deletes then deletion from to else narrowing from to) b.content))))
    (slice_get_past s.buffers (number_of name s.buffers) (omega (arith, none)))
