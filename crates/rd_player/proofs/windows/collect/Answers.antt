use Rattle.std.proofs.Common.{◌≡◌, ◌∙◌, ◌∷◌, ◌++◌, [], ap, sym, None, Some, slice_get, arith, ◌<◌, length}
use Rattle.std.proofs.lemmas.List.{take_all}
use Rattle.std.proofs.lemmas.Option.{slice_get_within}
use Rattle.rd_base.proofs.Lists.{ended, take-at}
use Rattle.rd_layout.specs.Facts.{facts_of}
use Rattle.rd_player.proofs.windows.collect.Goals as goal

pub each_window-preserved : goal.each_window-preserved
each_window-preserved c =
    let facts = facts_of c.args.session.now in
    let at : slice_get facts c.each_window.i ≡ Some c.in-Some.facts = sym c.facts.ensures.facts ∙ c.in-Some.is in
    let within : c.each_window.i < length facts = slice_get_within facts c.each_window.i c.in-Some.facts at in
    record {
      facts = c.push_reserved.ensures.items ∙ ap (λ fs. fs ++ c.in-Some.facts ∷ []) c.each_window.invariant.facts ∙ sym (take-at facts c.each_window.i c.in-Some.facts at);
      upto = omega (arith, within);
      room = omega (arith, c.push_reserved.ensures.capacity, c.each_window.invariant.room);
    }

pub returns-clause-facts : goal.returns-clause-facts
returns-clause-facts c =
    let facts = facts_of c.args.session.now in
    let none : slice_get facts c.each_window.i ≡ None = cc in
    c.each_window.invariant.facts ∙ take_all c.each_window.i facts (ended facts c.each_window.i none)
