use Rattle.rd_layout.proofs.laws.view_laws.Goals as goal

pub returns : goal.returns
returns c = record {
  source = c.buffers_are_sources.ensures;
  within = c.accessible_positions_lie_in_blocks.ensures;
  listed = c.blocks_are_listed.ensures;
}
