use Rattle.std.specs.Prelude.{◌+◌, ◌-◌, ◌≤◌, drop}
use Rattle.rd_base.specs.declared.limits.TheConstants.{WINDOWS}
use Rattle.rd_layout.specs.Redisplays.{allowances, allowed}
use Rattle.rd_layout.specs.Windows.{places}
use Rattle.rd_views.proofs.Desiring.{Leads}
use Rattle.rd_views.proofs.views.Views.lay_out.Given as goal

abbrev pub invariant-loop-place : goal.invariant-loop-place
invariant-loop-place g l = record {
  desired : Leads l.self (places l.self.state) (drop l.i (places l.self.state)) l.desired.windows l.desired.layouts.items;
  steps : l.steps + allowances l.self (drop l.i (places l.self.state)) ≤ l.fn.steps + allowed l.self;
}

abbrev pub decreases-loop-place : goal.decreases-loop-place
decreases-loop-place g l = WINDOWS - l.i
