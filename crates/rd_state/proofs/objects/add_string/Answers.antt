use Rattle.std.proofs.Common.{List, length, ap, rules, subst, sym, ◌∙◌}
use Rattle.rd_objects.specs.Things.{string_added, string_fault}
use Rattle.rd_objects.specs.declared.run.Run.{Run}
use Rattle.rd_state.specs.Answers.{Answers}
use Rattle.rd_state.specs.Held.{capped_run}
use Rattle.rd_state.specs.Making.{unless_fault}
use Rattle.rd_state.proofs.Faults.{string-capped}
use Rattle.rd_state.proofs.objects.add_string.Goals as goal

pub returns : goal.returns
returns c =
    let o = c.args.objects.now in
    let text = c.args.text.now in
    let runs = c.as_slice.ensures ∙ c.in_ok-runs.ensures (capped_run (length text)) (λ x y told. search rules) in
    subst (λ said. Answers c.add_runs.result said o c.add_runs.new.objects)
    (ap (λ (rs : List Run). unless_fault (string_fault o text rs) (string_added o text rs)) runs ∙ sym (string-capped o c.requires text c.args.runs.now)) c.add_runs.ensures
