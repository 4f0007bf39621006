-- Calls that end before an op is applied, and bytes that are no text.
use Rattle.std.proofs.Common.{◌≡◌, ◌⊎◌, ℕ, Bool, true, false, if◌then◌else◌, Option, Some, None, Result, Ok, Err, List, [], ◌∷◌, length, inl, inr, refl, sym, subst, ap, arith}
use Rattle.std.specs.Prelude.{nat_lt}
use Rattle.std.specs.Str.{IsUtf8, all_scalars, chars, is_utf8}
use Rattle.std.proofs.lemmas.Str.{IsUtf8-from_is_utf8, is_utf8-from_IsUtf8, scalars-chars}
use Rattle.rd_base.specs.declared.limits.TheConstants.{LINE_BYTES}
use Rattle.rd_run.specs.Runs.{is_blank}
use Rattle.rd_script.specs.Fields.{IsRead}
use Rattle.rd_script.specs.Forms.{is_text}
use Rattle.rd_script.specs.Reading.{reading}
use Rattle.rd_script.specs.declared.fault.OpFault.{OpFault}
use Rattle.rd_script.specs.declared.fault.OpFault.TheVariants.{Memory}
use Rattle.rd_script.specs.declared.op.Op.{Op}
use Rattle.rd_embed.specs.Calls.{Asks, Does, DoesAsked, Ends, IsLineStop, IsStop, LineDoes, asked_by, asked_line}
use Rattle.rd_embed.specs.Endings.{ending_of_fault}
use Rattle.rd_embed.specs.declared.embedded.Embedded.{Embedded}
use Rattle.rd_embed.specs.declared.ending.Ending.{Ending}
use Rattle.rd_embed.specs.declared.ending.Ending.TheVariants.{NoMemory, TooLong}
use Rattle.rd_embed.specs.declared.shown.Shown.{Shown}
use Rattle.rd_embed.specs.declared.status.Status.{Status}

pub asks-stopped : (ending : Ending) (status : Status) (asked : Result Op Ending) (old new : Embedded) → IsStop ending asked → Ends status ending old new → Asks status asked old new
asks-stopped NoMemory status asked old new h e = inl e
asks-stopped ending status asked old new h e = inr (subst (λ (a : Result Op Ending). Does status a old new) (sym h) e)

pub line-stopped : (ending : Ending) (shown : Shown) (asked : Result (Option Op) Ending) (old new : Embedded) → IsLineStop ending asked → Ends shown.status ending old new → shown.rows ≡ 0
    → LineDoes shown asked old new
line-stopped NoMemory shown asked old new h e r = inl (e, r)
line-stopped ending shown asked old new h e r = inr (subst (λ (a : Result (Option Op) Ending). DoesAsked shown a old new) (sym h) (e, r))

not-text : (bytes : List ℕ) (t : Bool) → is_utf8 bytes ≡ t → (IsUtf8 bytes → ⊥) → is_utf8 bytes ≡ false
not-text bytes true e h = absurd (h (IsUtf8-from_is_utf8 bytes e))
not-text bytes false e h = e

pub no-text : (bytes : List ℕ) → (IsUtf8 bytes → ⊥) → is_utf8 bytes ≡ false
no-text bytes h = not-text bytes (is_utf8 bytes) refl h

is_text-scalars : (cs : List ℕ) → all_scalars cs ≡ true → is_text cs ≡ true
is_text-scalars [] e = refl
is_text-scalars (c ∷ cs) e = grind (arith, is_text-scalars cs)

-- the characters of a text are scalar values
pub text-scalars : (bytes : List ℕ) → IsUtf8 bytes → is_text (chars bytes) ≡ true
text-scalars bytes u = is_text-scalars (chars bytes) (scalars-chars bytes u)

-- ---- lines

stop-read : (fault : OpFault) (said : Result Op OpFault) → IsRead (Err fault) said → IsLineStop (ending_of_fault fault) (asked_by said)
stop-read Memory said h = tt
stop-read fault said h = ap asked_by h

pub line-said : (fault : OpFault) (line : List ℕ) → nat_lt LINE_BYTES (length line) ≡ false → is_blank line ≡ false → IsRead (Err fault) (reading line) → IsLineStop (ending_of_fault fault) (asked_line line)
line-said fault line long blank h =
    subst (λ (a : Result (Option Op) Ending). IsLineStop (ending_of_fault fault) a)
    (sym (λ i. if long i then Err TooLong else (if blank i then Ok None else asked_by (reading line))))
    (stop-read fault (reading line) h)
