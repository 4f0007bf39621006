use Rattle.rd_layout.proofs.Sending.{SendLaws, sent-session}
use Rattle.rd_layout.proofs.laws.redisplays_lead_on.Goals as goal

pub returns : goal.returns
returns c =
    let laws : SendLaws = record {
      views = c.view_laws.ensures;
      read = c.shift_law.ensures;
      sound = c.shifted_updates_keep_screens_sound.ensures.sound;
      rows = c.kept_rows_are_fresh.ensures.rows;
      grown = c.changes_lead_on.ensures.grown;
      stand = c.new_layouts_stand.ensures;
    } in
    let target = c.targets_are_sound.ensures in
    λ rows done stop old new before after session sent.
    sent-session laws rows done stop old new before after session sent (target.size old.files old.state session.state) (target.sound old.files old.state session.state)
