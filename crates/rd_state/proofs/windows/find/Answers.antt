use Rattle.std.proofs.Common.{◌==◌, sym, ◌∙◌}
use Rattle.rd_state.specs.declared.refused.Refused.TheVariants.{NoWindow}
use Rattle.rd_state.proofs.ByNumber.{nowhere}
use Rattle.rd_state.proofs.Options.{position-is, finds}
use Rattle.rd_state.proofs.windows.find.Goals as goal

pub returns : goal.returns
returns c =
    let number = c.args.number in
    let ws = c.args.windows.now in
    let at_place = sym c.place_of.ensures in
    rw c.ok_or.ensures.value (finds c.place_of.result NoWindow _ _ (λ i at. position-is (λ e. e.0 == number) ws i (at_place ∙ at)) (λ none. nowhere number ws (at_place ∙ none)))
