use Rattle.rd_matrix.proofs.held.MemBlocksBlockSource.next.Goals as goal

pub returns-clause-source : goal.returns-clause-source
returns-clause-source c = c.rules.ensures.among c.args.block.now c.requires
