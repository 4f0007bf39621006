use Rattle.rd_session.specs.Screens.{with_screen}
use Rattle.rd_session.proofs.Leading.{redisplay-leads}
use Rattle.rd_session.proofs.session.Session.redisplay.Goals as goal

pub invariant_of-self : goal.invariant_of-self
invariant_of-self g c =
    let old = c.self.inside in (
      redisplay-leads c.redisplays_lead_on.ensures c.send.result c.args.stop (with_screen old.views old.screen) (with_screen c.send.new.views c.send.new.screen) _ _ c.self.invariant.0 c.send.ensures.redisplayed,
      c.self.invariant.1,
    )
