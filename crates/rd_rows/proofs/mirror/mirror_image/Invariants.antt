use Rattle.std.proofs.Common.{◌≡◌, ◌+◌, ◌≤◌, length, drop}
use Rattle.rd_rows.specs.Mirrors.{mirror_image, leading_rests}
use Rattle.rd_rows.proofs.mirror.mirror_image.Given as goal

abbrev pub invariant-loop-place : goal.invariant-loop-place
invariant-loop-place l = record {
  image : l.image ≡ mirror_image (drop l.place l.cells);
  rests : l.rests ≡ leading_rests (drop l.place l.cells);
  few : l.rests + l.place ≤ length l.cells;
}
