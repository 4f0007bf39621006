use Rattle.rd_objects.proofs.Soundness.{nothing_closed, string_closed, spec_closed, face_closed, table_closed}
use Rattle.rd_objects.proofs.laws.objects_stay_closed.Goals as goal

pub returns : goal.returns
returns c = record { nothing = nothing_closed; string = string_closed; spec = spec_closed; face = face_closed; table = table_closed }
