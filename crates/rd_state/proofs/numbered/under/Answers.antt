use Rattle.std.proofs.Common.{◌==◌, sym}
use Rattle.rd_state.proofs.ByNumber.{found-under, nowhere}
use Rattle.rd_state.proofs.Options.{position-is}
use Rattle.rd_state.proofs.numbered.under.Goals as goal

pub returns-in_err-i : goal.returns-in_err-i
returns-in_err-i g c = rw c.from_residual.ensures (sym (nowhere c.args.number c.args.things.now (sym c.in_err-i.ensures)))

pub returns : goal.returns
returns g c =
    let place = position-is (λ e. e.0 == c.args.number) c.args.things.now c.in_ok-i.i (sym c.in_ok-i.ensures) in
    let there = found-under c.args.number c.in_ok-i.i c.args.things.now c.index-things-i.result place.0 place.1 c.index-things-i.is in
    rw (sym c.index-things-i.is) (sym there.stands)
