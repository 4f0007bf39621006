use Rattle.std.proofs.Common.{◌≡◌, ◌<◌, ◌≤◌, ◌-◌, ℕ, List, length}
use Rattle.rd_base.specs.declared.limits.TheConstants.{FILE_BYTES}
use Rattle.rd_io.proofs.Bytes.{IsFront}
use Rattle.rd_io.proofs.file.read_file.Given as goal

abbrev pub invariant-loop-n : goal.invariant-loop-n
invariant-loop-n g l =
    let contents = g.F.Files.contents in
    let faults = g.F.Files.faults in
    record {
      room : 0 < length l.buffer;
      small : length l.bytes.items ≤ FILE_BYTES;
      front : IsFront l.bytes.items (contents l.fn.files l.name);
      same : (file : List ℕ) → contents l.files file ≡ contents l.fn.files file;
      count : (file : List ℕ) → faults l.files file ≡ faults l.fn.files file;
    }

abbrev pub decreases-loop-n : goal.decreases-loop-n
decreases-loop-n g l = FILE_BYTES - length l.bytes.items
