-- What is read of a text of codes has codes.
use Rattle.std.proofs.Common.{ℕ, ◌-◌, nat_le, nat_lt, IsTrue, Option, None, IfSome}
use Rattle.std.specs.Prelude.{slice_get}
use Rattle.rd_base.proofs.Choices.{either}
use Rattle.rd_base.specs.Chars.{is_code}
use Rattle.rd_text.specs.Texts.{char_at}
use Rattle.rd_objects.specs.Sound.{AreCodes}
use Rattle.rd_objects.specs.Things.{ObjectLists}
use Rattle.rd_props.specs.Buffers.{BufferValue}
use Rattle.rd_props.specs.Seen.{accessible_char}
use Rattle.rd_items.specs.Readings.{reading, HasCode, HaveCodes}
use Rattle.rd_items.proofs.Readings.{reading-each}
use Rattle.rd_stack.proofs.Good.{found}

code-seen : (s : BufferValue) (objects : ObjectLists) (p : ℕ) → AreCodes s.text.text → IfSome (accessible_char s.text p) (λ n. IsTrue (is_code n))
code-seen s objects p codes =
    let P : Option ℕ → Type 0 = λ c. IfSome c (λ n. IsTrue (is_code n)) in
    either P (nat_lt p s.text.end) (char_at s.text p) None
    (either P (nat_le 1 p) (slice_get s.text.text (p - 1)) None (found (λ n. IsTrue (is_code n)) s.text.text (p - 1) codes) tt) tt

pub reading-codes : (s : BufferValue) (objects : ObjectLists) (p : ℕ) → AreCodes s.text.text → HaveCodes (reading s objects p)
reading-codes s objects p codes = reading-each HasCode s objects (λ q. code-seen s objects q codes) p
