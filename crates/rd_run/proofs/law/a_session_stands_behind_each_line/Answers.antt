use Rattle.rd_run.proofs.Lines.{RunLaws, leads, stands}
use Rattle.rd_run.proofs.law.a_session_stands_behind_each_line.Goals as goal

laws : goal.After-targets_are_sound → RunLaws
laws c =
    let targets = c.targets_are_sound.ensures in
    record {
      opened = c.sessions_stay_known.ensures.opened;
      stepped = c.sessions_stay_known.ensures.step;
      lead = c.redisplays_lead_on.ensures;
      bands = c.redisplays_keep_states.ensures.bands;
      targets = λ files s valid. (targets.size files s valid, targets.sound files s valid);
      updated = c.shift_law.ensures;
      reached = c.shifted_updates_reach_their_targets.ensures.reached;
    }

pub returns : goal.returns
returns c = record {
  session = λ mode inputs. let here = stands (laws c) mode inputs in here.at.session;
  in_mode = λ mode inputs. let here = stands (laws c) mode inputs in here.under;
  leads = leads (laws c);
}
