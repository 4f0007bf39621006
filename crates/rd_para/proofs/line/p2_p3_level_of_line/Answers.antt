use Rattle.std.proofs.Common.{Some, None, refl, arith}
use Rattle.rd_base.specs.Classes.{p2_depth_after}
use Rattle.rd_para.specs.Paragraphs.{p2_p3_level_of_line}
use Rattle.rd_text.specs.Texts.{between}
use Rattle.rd_para.proofs.Chars.{level-step}
use Rattle.rd_para.proofs.line.p2_p3_level_of_line.Goals as goal

pub returns-in-Some : goal.returns-in-Some
returns-in-Some c =
    let from = c.loop-pos.invariant.from in
    let first = c.requires.first in
    level-step c.args.classes.now c.args.text.now.text c.loop-pos.pos c.args.to c.char_at.result c.loop-pos.depth
    (p2_depth_after c.loop-pos.depth c.class-class.result) c.class-class.result (Some c.in-Some.level)
    (p2_p3_level_of_line c.args.classes.now (between c.args.text.now c.args.from c.args.to)) (omega arith) c.loop-pos-test.true
    c.requires.last c.char_at.ensures c.class-class.ensures c.in-Some.ensures refl c.loop-pos.invariant.rest

pub loop-pos-preserved : goal.loop-pos-preserved
loop-pos-preserved c =
    let inv = c.loop-pos.invariant in
    let from = inv.from in
    let depth = inv.depth in
    let deep = c.p2_depth_after-depth.ensures.bound in
    let first = c.requires.first in
    let less = c.loop-pos-test.true in
    record {
      from = omega arith;
      to = omega arith;
      depth = omega arith;
      rest = level-step c.args.classes.now c.args.text.now.text c.loop-pos.pos c.args.to c.char_at.result c.loop-pos.depth c.p2_depth_after-depth.result c.class-class.result None
          (p2_p3_level_of_line c.args.classes.now (between c.args.text.now c.args.from c.args.to)) (omega arith) c.loop-pos-test.true
          c.requires.last c.char_at.ensures c.class-class.ensures c.in_default.ensures c.p2_depth_after-depth.ensures.value inv.rest;
    }
