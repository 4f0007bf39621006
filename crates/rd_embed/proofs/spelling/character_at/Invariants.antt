use Rattle.std.proofs.Common.{◌≡◌, ◌≤◌, length}
use Rattle.rd_embed.proofs.spelling.character_at.Given as goal

abbrev pub invariant-loop-c : goal.invariant-loop-c
invariant-loop-c l = record {
  count : l.k ≡ length l.yielded;
  within : l.k ≤ l.i;
}
