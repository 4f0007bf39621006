use Rattle.std.proofs.Common.{[], Some}
use Rattle.std.proofs.KnownBytes.{Consumes-nil}
use Rattle.rd_player.specs.Devices.{drawn_by}
use Rattle.rd_player.specs.Acts.{mode_of}
use Rattle.rd_player.proofs.Ending.{played}
use Rattle.rd_player.proofs.top.run_whole.Goals as goal

pub returns-in-Some-clause-played : goal.returns-in-Some-clause-played
returns-in-Some-clause-played g c given mode none =
    let h = c.run_generated-ending.ensures.comes given (g.S.Source.left c.args.script.now) (g.S.Source.faults c.args.script.now) mode none in
    played c.run_generated-ending.result given (Some (mode_of c.args.run.now)) _ (drawn_by g.S.Source.left g.S.Source.faults c.args.script.now c.args.script.now) _ c.finish.result _ _ _ _ _ _
    c.args.steps.now c.run_generated-ending.new.steps c.each_redisplay_is_shown.ensures (h.0, [], Consumes-nil _, h.1) (c.each_redisplay_is_shown.ensures (mode_of c.args.run.now) h.0) (c.each_slice_is_known.ensures (mode_of c.args.run.now) h.0) c.finish.ensures.finishes

pub returns-in-None-clause-played : goal.returns-in-None-clause-played
returns-in-None-clause-played g c given mode none =
    let h = c.run_script-ending.ensures.comes given mode none in
    played c.run_script-ending.result given (Some (mode_of c.args.run.now)) _ (drawn_by g.S.Source.left g.S.Source.faults c.args.script.now c.run_script-ending.new.script) _ c.finish-in-None.result _ _ _ _ _ _
    c.args.steps.now c.run_script-ending.new.steps c.each_redisplay_is_shown.ensures h (c.each_redisplay_is_shown.ensures (mode_of c.args.run.now) h.0) (c.each_slice_is_known.ensures (mode_of c.args.run.now) h.0) c.finish-in-None.ensures.finishes
