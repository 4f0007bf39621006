use Rattle.std.proofs.Common.{◌≡◌, ℕ, get_or}
use Rattle.std.specs.Prelude.{IsTrue}
use lib.Seq.{paste}
use Rattle.rd_base.specs.Chars.{is_code}
use Rattle.rd_text.proofs.gap.write.Given as goal

abbrev pub invariant-loop-i : goal.invariant-loop-i
invariant-loop-i l = (l.codes ≡ paste l.initial.codes l.at l.text l.i) × ((k : ℕ) → IsTrue (is_code (get_or l.codes k 0)))
