-- What the calls' arguments are found to be.
use Rattle.std.specs.Prelude.{◌≡◌, ℕ, true, false, IsTrue, List, Option, None, Some, Result, Ok, Err}
use Rattle.std.specs.Borrow.{Bor}
use Rattle.std.specs.Str.{chars, is_utf8}
use Rattle.rd_script.specs.Forms.{is_buffer_name, is_plain_text, is_text}
use Rattle.rd_state.specs.declared.refused.Refused.TheVariants as refusals
use Rattle.rd_embed.specs.declared.ending.Ending.{Ending}
use Rattle.rd_embed.specs.declared.ending.Ending.TheVariants.{BadArgument, BadText, NoMemory, Refused}

-- the name of a buffer that was looked up, that there is none, or want of memory
abbrev pub IsName : Result (List ℕ) Ending → Option (List ℕ) → Type 0
IsName (Ok name) said = (said ≡ Some name) × IsTrue (is_buffer_name name)
IsName (Err NoMemory) said = Unit {0}
IsName (Err (Refused refusals.NoBuffer)) said = said ≡ None
IsName (Err ending) said = ⊥

-- the text that bytes are, or that they are no UTF-8
abbrev pub IsText : Result (Bor (List ℕ)) Ending → List ℕ → Type 0
IsText (Ok text) bytes = (text.now ≡ bytes) × (is_utf8 bytes ≡ true)
IsText (Err BadText) bytes = is_utf8 bytes ≡ false
IsText (Err ending) bytes = ⊥

-- the characters that bytes spell, that they are no UTF-8, or want of memory
abbrev pub IsSpelt : Result (List ℕ) Ending → List ℕ → Type 0
IsSpelt (Ok text) bytes = (is_utf8 bytes ≡ true) × (text ≡ chars bytes) × IsTrue (is_text text)
IsSpelt (Err NoMemory) bytes = Unit {0}
IsSpelt (Err BadText) bytes = is_utf8 bytes ≡ false
IsSpelt (Err ending) bytes = ⊥

-- the same of a text that a mode line or the echo area can show
abbrev pub IsPlain : Result (List ℕ) Ending → List ℕ → Type 0
IsPlain (Ok text) bytes = (is_utf8 bytes ≡ true) × (text ≡ chars bytes) × IsTrue (is_plain_text text)
IsPlain (Err NoMemory) bytes = Unit {0}
IsPlain (Err BadText) bytes = is_utf8 bytes ≡ false
IsPlain (Err BadArgument) bytes = (is_utf8 bytes ≡ true) × (is_plain_text (chars bytes) ≡ false)
IsPlain (Err ending) bytes = ⊥

-- the name that bytes are, that they are none, or want of memory
abbrev pub IsNewName : Result (List ℕ) Ending → List ℕ → Type 0
IsNewName (Ok name) bytes = (is_utf8 bytes ≡ true) × (name ≡ bytes) × IsTrue (is_buffer_name bytes)
IsNewName (Err NoMemory) bytes = Unit {0}
IsNewName (Err BadText) bytes = is_utf8 bytes ≡ false
IsNewName (Err BadArgument) bytes = (is_utf8 bytes ≡ true) × (is_buffer_name bytes ≡ false)
IsNewName (Err ending) bytes = ⊥
