use Rattle.std.proofs.Common.{refl}
use Rattle.rd_embed.proofs.Stops.{line-stopped}
use Rattle.rd_embed.proofs.lines.stop_line.Goals as goal

pub returns : goal.returns
returns c asked h = line-stopped c.args.ending (record { status = c.end-status.result; rows = 0 }) asked c.args.held.now c.end-status.new.self h c.end-status.ensures refl
