use Rattle.std.proofs.Common.{◌≡◌, ◌≤◌, drop}
use Rattle.rd_modeline.specs.Formats.{pieces_from, pieces_at, IsBegun}
use Rattle.rd_modeline.proofs.reading.next_piece.Given as goal

abbrev pub invariant-loop-place : goal.invariant-loop-place
invariant-loop-place l =
    (pieces_at l.text l.from ≡ pieces_from l.begun l.place (drop l.place l.text)) × (l.from ≤ l.place) × IsBegun l.begun
