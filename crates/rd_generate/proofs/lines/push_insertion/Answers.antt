use Rattle.std.proofs.Common.{◌++◌, ap, ◌∙◌}
use Rattle.rd_generate.proofs.Texts.{five-made}
use Rattle.rd_generate.proofs.lines.push_insertion.Goals as goal

pub returns-clause-line : goal.returns-clause-line
returns-clause-line c =
    let number = c.in_ok-extend_from_slice-2.ensures.ok ∙ ap (λ text. c.extend_from_slice.new.self ++ text) (c.as_bytes.ensures.value ∙ c.format.ensures.text) in
    five-made _ _ _ _ _ _ _ _ _ _ _ c.in_ok-extend_from_slice.ensures.ok number c.in_ok-extend_from_slice-3.ensures.ok c.in_ok-next.ensures.line c.in_ok-extend_from_slice-4.ensures.ok
