use Rattle.std.proofs.Common.{sym, ◌∙◌}
use Rattle.rd_state.specs.declared.refused.Refused.TheVariants.{NoBuffer}
use Rattle.rd_state.proofs.ByName.{number_of-found, number_of-missed}
use Rattle.rd_state.proofs.Options.{finds}
use Rattle.rd_state.proofs.buffers.find.Goals as goal

pub returns : goal.returns
returns c =
    let name = c.args.name.now in
    let es = c.args.buffers.now.entries in
    let index = sym c.get_index_of.ensures.index in
    rw c.ok_or.ensures.value (finds c.get_index_of.result NoBuffer _ _ (λ i at. number_of-found name es i (index ∙ at)) (λ none. number_of-missed name es (index ∙ none)))
