use Rattle.rd_objects.proofs.Soundness.{nothing_sound, string_keeps, spec_keeps, face_keeps, table_keeps}
use Rattle.rd_objects.proofs.laws.objects_stay_sound.Goals as goal

pub returns : goal.returns
returns c = record { nothing = nothing_sound; string = string_keeps; spec = spec_keeps; face = face_keeps; table = table_keeps }
