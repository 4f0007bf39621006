-- The characters of UTF-8 bytes are scalar values.
use Rattle.std.proofs.Common.{◌≡◌, ℕ, true, List, [], ◌∷◌, Result, Ok, Err, IfOk, refl, ap, ◌∙◌, arith}
use Rattle.std.specs.Str.{IsUtf8, chars, all_scalars}
use Rattle.std.proofs.lemmas.Str.{scalars-chars}
use Rattle.rd_script.specs.Forms.{is_text}

is_text-all_scalars : (cs : List ℕ) → all_scalars cs ≡ true → is_text cs ≡ true
is_text-all_scalars [] e = refl
is_text-all_scalars (c ∷ cs) e = grind (arith, is_text-all_scalars cs)

pub texts-scalar : {E : Type 0} (result : Result (List ℕ) E) (bs : List ℕ) → IsUtf8 bs → IfOk result (λ list. list ≡ chars bs) → IfOk result (λ list. is_text list ≡ true)
texts-scalar (Ok list) bs u is = ap is_text is ∙ is_text-all_scalars (chars bs) (scalars-chars bs u)
texts-scalar (Err e) bs u is = tt
