use Rattle.std.proofs.Common.{refl}
use Rattle.std.specs.Prelude.{codes, false}
use Rattle.serde_json.specs.Find.{as_bool}
use Rattle.rd_script.specs.Fields.{defaulted, both}
use Rattle.rd_script.specs.Objects.{face, face_of}
use Rattle.rd_script.proofs.Taking.{Left, all-left, taken, last-taken, first-refused, last-refused}
use Rattle.rd_script.proofs.object_row.face.Goals as goal
use Rattle.rd_script.proofs.object_row.face.Goals.{In_ok-flag}

-- what is left of a face's fields behind its colours and whether it is bold
left : (c : goal.In_ok-flag) → Left face c.args.asked.now c.flag.new.asked (both (defaulted false (codes "underline") as_bool) (defaulted false (codes "inverse") as_bool))
    (λ f. face_of (c.in_ok-colour.field-0, (c.in_ok-colour-2.field-0, (c.in_ok-flag.field-0, f))))
left c = taken _ _ (taken _ _ (taken _ _ (all-left face c.args.asked.now _ _ refl) c.in_ok-colour.ensures.value) c.in_ok-colour-2.ensures.value) c.in_ok-flag.ensures

pub returns-in_err-flag-2 : goal.returns-in_err-flag-2
returns-in_err-flag-2 c =
    first-refused (defaulted false (codes "underline") as_bool) _ _ _ _ c.from_residual-in_err-flag-2.ensures.1 (left (goal.at.returns-in_err-flag-2 c).In_ok-flag) c.in_err-flag-2.ensures

pub returns-in_err-flag-3 : goal.returns-in_err-flag-3
returns-in_err-flag-3 c =
    let behind = taken (defaulted false (codes "underline") as_bool) _ (left (goal.at.returns-in_err-flag-3 c).In_ok-flag) c.in_ok-flag-2.ensures in
    last-refused _ _ _ c.from_residual-in_err-flag-3.ensures.1 behind c.in_err-flag-3.ensures

pub returns : goal.returns
returns c = last-taken (taken (defaulted false (codes "underline") as_bool) _ (left (goal.at.returns c).In_ok-flag) c.in_ok-flag-2.ensures) c.in_ok-flag-3.ensures
