use Rattle.rd_paint.proofs.laws.paint_laws.Goals as goal

pub returns : goal.returns
returns c = record {
  listed = c.blocks_are_listed.ensures;
  fits = c.targets_fit_their_frames.ensures;
  next = c.windows_are_painted_one_by_one.ensures;
  chosen = c.redisplays_keep_states.ensures.chosen;
}
