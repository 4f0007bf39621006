-- A line as JSON.
use Rattle.std.proofs.Common.{◌≡◌, ℕ, Bool, true, false, List, Option, None, Some, ok_or, Ok, Err, refl, if◌then◌else◌}
use Rattle.std.specs.Str.{IsUtf8, is_utf8}
use Rattle.std.proofs.lemmas.Str.{IsUtf8-from_is_utf8, is_utf8-from_IsUtf8}
use Rattle.serde_json.specs.Data.{Data}
use Rattle.serde_json.specs.Read.{read}
use Rattle.rd_script.specs.declared.fault.OpFault.TheVariants.{NotJson}
use Rattle.rd_script.specs.Reading.{json_of}

some_if : (b : Bool) (o : Option Data) (d : Data) → b ≡ true → o ≡ Some d → ok_or (if b then o else None) NotJson ≡ Ok d
some_if b o d t e = rw (t, e) refl

none_if : (b : Bool) (o : Option Data) → (b ≡ true → o ≡ None) → ok_or (if b then o else None) NotJson ≡ Err NotJson
none_if true o h = rw (h refl) refl
none_if false o h = refl

pub json_of-value : (line : List ℕ) (d : Data) → IsUtf8 line → read line ≡ Some d → json_of line ≡ Ok d
json_of-value line d u e = some_if (is_utf8 line) (read line) d (is_utf8-from_IsUtf8 line u) e

pub json_of-none : (line : List ℕ) → (IsUtf8 line → read line ≡ None) → json_of line ≡ Err NotJson
json_of-none line h = none_if (is_utf8 line) (read line) (λ t. h (IsUtf8-from_is_utf8 line t))
