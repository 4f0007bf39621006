use Rattle.std.proofs.Common.{◌∙◌}
use Rattle.rd_generate.proofs.Texts.{line-pieces}
use Rattle.rd_generate.proofs.template.push_line.Goals as goal

pub returns : goal.returns
returns c =
    line-pieces c.args.k c.args.x _ _ _ _ _ c.in_ok-push_copies.ensures (c.as_bytes.ensures.value ∙ c.chosen.ensures) c.in_ok-extend_from_slice.ensures.ok c.in_ok-extend_from_slice-2.ensures.ok
