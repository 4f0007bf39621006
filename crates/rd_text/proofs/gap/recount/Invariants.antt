use Rattle.std.proofs.Common.{◌≡◌, ℕ, ◌+◌, ◌*◌, ◌<◌, ◌≤◌, get_or}
use Rattle.std.specs.Prelude.{slice_range}
use Rattle.rd_text.specs.declared.gap.TheConstants.{STRETCH}
use Rattle.rd_text.specs.Stretches.{summary}
use Rattle.rd_text.specs.declared.stretch.Stretch.{Stretch}
use Rattle.rd_text.proofs.gap.recount.Given as goal

abbrev pub invariant-loop-k : goal.invariant-loop-k
invariant-loop-k l = record {
  counted : (k : ℕ) (d : Stretch) → l.first ≤ k → k < l.k → get_or l.stretches k d ≡ summary (slice_range l.codes (k * STRETCH) (k * STRETCH + STRETCH));
  below : (k : ℕ) (d : Stretch) → k < l.first → get_or l.stretches k d ≡ get_or l.initial.stretches k d;
  edge : l.last < l.first → l.k ≡ l.first;
  above : (k : ℕ) (d : Stretch) → l.k ≤ k → get_or l.stretches k d ≡ get_or l.initial.stretches k d;
}
