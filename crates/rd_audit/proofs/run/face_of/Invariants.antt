use Rattle.std.proofs.Common.{◌≡◌, length, drop}
use Rattle.rd_audit.specs.Cuts.{pieces}
use Rattle.rd_audit.specs.FaceRuns.{face_from, face_of}
use Rattle.rd_audit.proofs.run.face_of.Given as goal

abbrev pub invariant-loop-text : goal.invariant-loop-text
invariant-loop-text l = face_from l.place l.face (drop (length l.yielded) (pieces 59 l.codes)) ≡ face_of l.codes
