use Rattle.std.proofs.Common.{◌<◌, length, arith}
use Rattle.rd_explicit.specs.Explicit.{Rises}
use Rattle.rd_explicit.proofs.Stacks.{x6a_below_isolate-keeps}
use Rattle.rd_explicit.proofs.state.State.x6a_pop_directional_isolate.Goals as goal

pub returns-then-self-gt0-2-clause-leaves : goal.returns-then-self-gt0-2-clause-leaves
returns-then-self-gt0-2-clause-leaves c = record {
  rises = rw c.x6a_close_isolate.ensures (x6a_below_isolate-keeps Rises (λ e f es r. r.2) c.args.self.now.stack c.requires.rises);
  some = rw c.x6a_close_isolate.ensures (x6a_below_isolate-keeps (λ es. 0 < length es) (λ e f es some. omega arith) c.args.self.now.stack c.requires.some);
  counts = record { overflow_isolates = omega arith; overflow_embeddings = omega arith; valid_isolates = omega arith };
}
