use Rattle.std.proofs.Common.{◌≡◌, ◌<◌, ◌+◌, if◌then◌else◌, length, drop, set, refl, ap, ◌∙◌, arith}
use Rattle.rd_base.proofs.Lists.{drop-next}
use Rattle.rd_base.specs.Classes.{x9_is_removed}
use Rattle.rd_resolve.specs.Implicit.{i1_i2_level}
use Rattle.rd_resolve.proofs.Raising.{bounded, raise-step}
use Rattle.rd_resolve.proofs.raise.i1_i2_levels.Goals as goal

pub i1_i2_level-own-requires : goal.i1_i2_level-own-requires
i1_i2_level-own-requires c =
    let line = c.loop-i.line in
    let old = c.args.line.now in
    bounded line.levels old.levels c.loop-i.i c.at.result c.requires c.loop-i.invariant.left c.at.ensures

pub loop-i-preserved : goal.loop-i-preserved
loop-i-preserved c =
    let line = c.loop-i.line in
    let old = c.args.line.now in
    let i = c.loop-i.i in
    let v = c.level_behind-before.result in
    let inv = c.loop-i.invariant in
    let new = c.set_level.ensures in
    let within : i < length line.classes = omega (arith, c.loop-i-test.true, c.len-i-end.ensures, ap length inv.keeps.classes) in
    let given : v ≡ (if x9_is_removed c.at-in-loop-i-2.result then c.loop-i.before else i1_i2_level c.at.result c.at-in-loop-i.result) =
    c.level_behind-before.ensures ∙ ap (λ own. if x9_is_removed c.at-in-loop-i-2.result then c.loop-i.before else own) c.i1_i2_level-own.ensures in
    let left : drop (i + 1) (set line.levels i v) ≡ drop (i + 1) old.levels = drop-next line.levels old.levels i v inv.left in
    let behind : drop (i + 1) (set line.levels i v) ≡ drop (i + 1) line.levels = drop-next line.levels line.levels i v refl in
    let step = raise-step c.loop-i.before v i line.classes line.types line.levels _ c.at-in-loop-i-2.result c.at-in-loop-i.result c.at.result
    within line.same_types line.same_levels c.at-in-loop-i-2.ensures c.at-in-loop-i.ensures c.at.ensures given inv.levels in
    record {
      levels = rw (new.levels, new.rest.classes, new.types, behind) step;
      left = ap (drop (i + 1)) new.levels ∙ left;
      types = new.types ∙ inv.types;
      keeps = record { classes = new.rest.classes ∙ inv.keeps.classes; base = new.rest.base ∙ inv.keeps.base };
    }
