use Rattle.std.proofs.Common.{◌≡◌, ◌+◌, ◌-◌, ◌≤◌, None, option_map, IfSome, length, drop}
use Rattle.rd_io.specs.Lines.{lines_of}
use Rattle.rd_audit.specs.Dumps.{last_group}
use Rattle.rd_audit.specs.Results.{lines_from}
use Rattle.rd_audit.proofs.dump.last_group.Given as goal

abbrev pub invariant-loop-line : goal.invariant-loop-line
invariant-loop-line l = record {
  rest : l.rest ≡ drop (length l.file - length l.rest) l.file;
  short : length l.rest ≤ length l.file;
  number : l.number + length l.rest ≤ length l.file + 1;
  whole : last_group l.number (option_map (lines_from l.file) l.groups.begun) (option_map (lines_from l.file) l.groups.found) (lines_of l.rest) ≡ last_group 1 None None (lines_of l.file);
  begun : IfSome l.groups.begun (λ start. (start.from ≤ length l.file) × (start.number ≤ length l.file + 1));
  found : IfSome l.groups.found (λ start. (start.from ≤ length l.file) × (start.number ≤ length l.file + 1));
}

abbrev pub decreases-loop-line : goal.decreases-loop-line
decreases-loop-line l = length l.rest
