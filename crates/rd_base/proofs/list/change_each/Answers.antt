use Rattle.std.proofs.Common.{◌<◌, length, get_or, set, sym, ap, ◌∙◌, arith}
use Rattle.std.specs.Prelude.{slice_get}
use Rattle.std.proofs.lemmas.List.{length-set}
use Rattle.std.proofs.lemmas.List.Edits.{map_over_more}
use Rattle.std.proofs.lemmas.Option.{slice_get-get_or}
use Rattle.rd_base.proofs.Lists.{drop-next, get-drop}
use Rattle.rd_base.proofs.list.change_each.Goals as goal

pub change-requires : goal.change-requires
change-requires g c =
    let now = c.loop-i.list in
    let i = c.loop-i.i in
    let less : i < length now = omega arith in
    let stood = sym (get-drop i c.args.list.now i 0 (omega arith)) ∙ ap (λ ys. slice_get ys 0) (sym c.loop-i.invariant.back) ∙ get-drop i now i 0 (omega arith) in
    c.requires i _ (stood ∙ slice_get-get_or now i c.index-list-i.result less)

pub loop-i-preserved : goal.loop-i-preserved
loop-i-preserved g c =
    let old = c.args.list.now in
    let now = c.loop-i.list in
    let i = c.loop-i.i in
    let x = get_or now i c.index-list-i.result in
    let y = c.change.new.arg2 in
    let inv = c.loop-i.invariant in
    let less : i < length old = omega arith in
    record {
      size = length-set now i y ∙ inv.size;
      back = drop-next now old i y inv.back;
      whole = λ f told. ap (set now i) (told _ _ c.change.ensures) ∙ map_over_more f old now i x less (inv.whole f told) (ap (get_or now i) c.index-list-i.is);
    }
