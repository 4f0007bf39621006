use Rattle.std.proofs.Common.{arith, ◌≡◌, ℕ, List}
use Rattle.rd_embed.proofs.Filling.{filled-behind}
use Rattle.rd_embed.proofs.fill.fill_behind.Goals as goal

pub returns-clause-filled : goal.returns-clause-filled
returns-clause-filled c text before filled =
    filled-behind c.args.at c.min-count.result text before c.args.bytes.now c.args.out.now c.overwrite.new.out filled c.min-count.ensures c.overwrite.ensures
