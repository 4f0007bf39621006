use Rattle.std.proofs.Common.{◌+◌, ◌-◌, List, ℕ, length, sym, ap, subst, ◌∙◌}
use Rattle.std.specs.List.{CopiedTo, SameBelow, SameFrom}
use Rattle.std.specs.Vec.{with_items}
use Rattle.std.proofs.lemmas.List.{with_items_is}
use Rattle.rd_text.specs.Gaps.{IsCopied, IsRecounted}
use Rattle.rd_text.specs.declared.stretch.Stretch.{Stretch}
use Rattle.rd_text.proofs.gap.GapText.copy.Goals as goal

pub returns-clause-copied : goal.returns-clause-copied
returns-clause-copied c =
    let g = c.args.self.now in
    let new = c.copy_within.new.self in
    let n : ℕ = c.args.to - c.args.from in
    let place = c.args.place in
    let here = c.as_mut_slice.ensures.value in
    let copy = subst (λ (xs : List ℕ). CopiedTo xs new c.args.from place n × SameBelow xs new place × SameFrom xs new (place + n)) here c.copy_within.ensures.by_index in
    subst (λ (xs : List ℕ). IsCopied g.codes.items xs c.args.from place n) (sym (with_items_is g.codes new (c.copy_within.ensures.len ∙ c.as_mut_slice.ensures.len)))
    (record { size = c.copy_within.ensures.len ∙ ap length here; copied = copy.0; below = copy.1; from = copy.2 })

pub returns-clause-recounted : goal.returns-clause-recounted
returns-clause-recounted c =
    let g = c.args.self.now in
    let news = c.recount.new.stretches in
    let codes = c.as_slice-codes.ensures.value in
    subst (λ (xs : List Stretch). IsRecounted (with_items g.codes c.copy_within.new.self).items g.stretches.items xs c.args.first c.args.last) (sym (with_items_is g.stretches news (c.recount.ensures.size ∙ c.as_mut_slice-2.ensures.len)))
    (subst (λ (xs : List ℕ). IsRecounted xs g.stretches.items news c.args.first c.args.last) codes
    (subst (λ (xs : List Stretch). IsRecounted c.as_slice-codes.result.now xs news c.args.first c.args.last) c.as_mut_slice-2.ensures.value c.recount.ensures))
