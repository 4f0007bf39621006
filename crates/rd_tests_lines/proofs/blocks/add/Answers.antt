use Rattle.std.proofs.Common.{ap, ◌∙◌}
use Rattle.rd_matrix.specs.Blocks.{end_from, first_start}
use Rattle.rd_matrix.specs.Held.{blocks_held}
use Rattle.rd_tests_lines.proofs.Ends.{end-more, first-more}
use Rattle.rd_tests_lines.proofs.blocks.add.Goals as goal

pub returns-clause-first : goal.returns-clause-first
returns-clause-first c =
    ap (λ hs. first_start (blocks_held hs)) c.in_ok-push.ensures.ok
    ∙ first-more c.args.source.now c.args.held c.args.held.block.start c.requires.next

pub returns-clause-end : goal.returns-clause-end
returns-clause-end c =
    λ from. ap (λ hs. end_from from (blocks_held hs)) c.in_ok-push.ensures.ok ∙ end-more from c.args.source.now c.args.held
