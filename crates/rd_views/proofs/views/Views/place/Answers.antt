use Rattle.std.proofs.Common.{◌<◌, subst}
use Rattle.std.specs.Prelude.{IfSome}
use Rattle.rd_base.proofs.Choices.{some-of}
use Rattle.rd_base.specs.declared.limits.TheConstants.{WINDOWS}
use Rattle.rd_views.proofs.views.Views.place.Goals as goal

pub returns-clause-few : goal.returns-clause-few
returns-clause-few c = λ some. subst (λ o. IfSome o (λ place. c.args.i < WINDOWS)) (some-of c.placed_leaf.result some).1 c.placed_leaf.ensures.few
