use Rattle.std.proofs.Common.{◌≡◌, List, String, subst, ap}
use Rattle.std.specs.Prelude.{map, string_bytes}
use Rattle.std.specs.Global.{Global}
use Rattle.rd_audit.proofs.Judging.{judged}
use Rattle.rd_audit.specs.Verdicts.{ReadFails, Comes}
use Rattle.rd_audit.specs.declared.verdict.Verdict.TheVariants.{ReadFault}
use Rattle.rd_audit.proofs.audit.audit.Goals as goal

pub returns-in-Ok-clause-complete : goal.returns-in-Ok-clause-complete
returns-in-Ok-clause-complete g c =
    let j = c.judge-verdict.ensures.comes in
    let words = ap (λ (list : List (String Global)). map string_bytes list) c.as_slice.ensures.value in
    let verdict = c.judge-verdict.result in
    let comes = subst (λ ws. Comes verdict ws (g.F.Files.contents c.args.files.now) j.0 (g.S.Source.left c.judge-verdict.new.stream)) words j.2 in
    let read = subst (λ ws. verdict ≡ ReadFault → ReadFails g.S.Source.faults c.args.stream.now c.judge-verdict.new.stream g.F.Files.faults c.args.files.now c.judge-verdict.new.files ws) words
    c.judge-verdict.ensures.read in
    λ sound. judged verdict _ _ _ _ j.0 _ _ sound j.1 comes read
