use Rattle.std.proofs.Common.{◌+◌, ◌-◌, ◌≤◌, SomeIff, ap, subst}
use Rattle.rd_start.proofs.Suits.{greater-found, lesser-found, place-above, reached-above}
use Rattle.rd_start.proofs.view.suiting_at.Given as given
use Rattle.rd_start.proofs.view.suiting_at.Goals as goal
use Rattle.rd_start.proofs.view.suiting_at.Goals.{After-checked_sub}

-- the lesser row, where there is one
lesser : (g : given.Over) (c : goal.After-checked_sub g) → SomeIff c.checked_sub.result (c.args.far ≤ c.args.window.now.strip.home) (c.args.window.now.strip.home - c.args.far)
lesser g c = subst (λ n. SomeIff c.checked_sub.result (c.args.far ≤ n) (n - c.args.far)) c.home-home.ensures c.checked_sub.ensures

pub suiting-requires-clause-reached : goal.suiting-requires-clause-reached
suiting-requires-clause-reached g c =
    let win = c.args.window.now in
    reached-above (g.B.BlockSource.meaning c.args.source.now) win.strip c.args.far win.wanted.height c.checked_sub.result (lesser g (goal.at.suiting-requires-clause-reached g c).After-checked_sub) c.requires.reached

pub returns-in-Some-clause-value : goal.returns-in-Some-clause-value
returns-in-Some-clause-value g c =
    let m = g.B.BlockSource.meaning c.args.source.now in
    let win = c.args.window.now in
    let above = place-above m win.strip c.args.far c.checked_sub.result (lesser g (goal.at.returns-in-Some-clause-value g c).After-checked_sub) c.requires.shows.laid.strip c.requires.above in
    lesser-found m win c.args.far c.in-Some.start c.in_ok-start.field-0 c.checked_sub.result above c.in_ok-start.ensures.value c.in-Some.is

pub returns-in-None-clause-value : goal.returns-in-None-clause-value
returns-in-None-clause-value g c =
    let m = g.B.BlockSource.meaning c.args.source.now in
    let win = c.args.window.now in
    let above = place-above m win.strip c.args.far c.checked_sub.result (lesser g (goal.at.returns-in-None-clause-value g c).After-checked_sub) c.requires.shows.laid.strip c.requires.above in
    greater-found c.suiting-in-None.result m (g.B.BlockSource.meaning c.suiting.new.source) win c.args.far (c.home-home.result + c.args.far) c.in_ok-start.field-0 c.checked_sub.result
    c.suiting.ensures.stays above c.in_ok-start.ensures.value c.in-None.is (ap (λ n. n + c.args.far) c.home-home.ensures) c.suiting-in-None.ensures.value
