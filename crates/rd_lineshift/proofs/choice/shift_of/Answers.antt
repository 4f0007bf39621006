use Rattle.std.proofs.Common.{◌∙◌, ap, ap₂, map, subst}
use Rattle.std.specs.List.{flat_map}
use Rattle.rd_term.specs.Pictures.{IsGrid, width_of}
use Rattle.rd_update.specs.Updates.{differing}
use Rattle.rd_lineshift.specs.Choices.{cost, shifts_of}
use Rattle.rd_lineshift.specs.Numbers.{gained, number_cost, number_in}
use Rattle.rd_lineshift.specs.declared.band.Shift.{Shift}
use Rattle.rd_lineshift.proofs.Moving.{cost-told}
use Rattle.rd_lineshift.proofs.Pricing.{taken-is}
use Rattle.rd_lineshift.proofs.choice.shift_of.Goals as goal

pub returns : goal.returns
returns c =
    let current = c.args.current.now in
    let target = c.args.target.now in
    let n = c.number_rows.result in
    let by = c.number_rows.ensures in
    let f = number_cost n.old.items n.new.items n.blank in
    let of = number_in target.rows in
    let wide = subst (λ k. IsGrid k current.rows) c.requires.size.1 c.width-old_width.ensures.screen.size.each in
    let same = λ (s : Shift).
    ap (λ xs. number_cost xs n.new.items n.blank s) by.old
    ∙ ap (λ xs. number_cost (map of current.rows) xs n.blank s) by.new
    ∙ ap (λ k. number_cost (map of current.rows) (map of target.rows) k s) by.blank
    ∙ cost-told current target (width_of target.rows) s wide c.width-new_width.ensures.screen.size.each c.requires.size.1 in
    c.gaining.ensures
    ∙ ap₂ gained c.differing-rows.ensures c.cheapest_of.ensures.value
    ∙ taken-is f (cost current target) (differing current.rows target.rows) (flat_map shifts_of c.args.bands.now) same
