-- Texts that are UTF-8 or not.
use Rattle.std.proofs.Common.{◌≡◌, ℕ, Bool, true, false, if◌then◌else◌, Option, None, List, [], refl, sym, ap, ◌∙◌}
use Rattle.std.specs.Str.{IsUtf8, chars, is_utf8}
use Rattle.std.proofs.lemmas.Str.{IsUtf8-from_is_utf8, is_utf8-from_IsUtf8}
use Rattle.rd_base.specs.declared.cell.Cell.{Cell}
use Rattle.rd_audit.specs.Texts.{cells_from, text_cells}

no-text_at : (bytes : List ℕ) (t : Bool) → is_utf8 bytes ≡ t → (IsUtf8 bytes → ⊥) → ◌≡◌ {A = Option (List Cell)} None (if t then cells_from [] None (chars bytes) else None)
no-text_at bytes true e wrong = absurd (wrong (IsUtf8-from_is_utf8 bytes e))
no-text_at bytes false e wrong = refl

pub no-text : (bytes : List ℕ) → (IsUtf8 bytes → ⊥) → None ≡ text_cells bytes
no-text bytes wrong = no-text_at bytes (is_utf8 bytes) refl wrong

pub text-as : (bytes text codes : List ℕ) → IsUtf8 bytes → text ≡ bytes → codes ≡ chars text → cells_from [] None codes ≡ text_cells bytes
text-as bytes text codes utf8 same is =
    ap (cells_from [] None) (is ∙ ap chars same) ∙ sym (ap (λ t. if t then cells_from [] None (chars bytes) else None) (is_utf8-from_IsUtf8 bytes utf8))
