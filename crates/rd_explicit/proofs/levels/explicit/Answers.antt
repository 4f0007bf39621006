use Rattle.std.proofs.Common.{◌≡◌, ◌<◌, ◌+◌, length, drop, ap, ◌∙◌, arith}
use Rattle.rd_explicit.specs.Explicit.{given, after}
use Rattle.rd_explicit.proofs.Steps.{column-step, low-step}
use Rattle.rd_explicit.proofs.levels.explicit.Goals as goal

pub loop-i-preserved : goal.loop-i-preserved
loop-i-preserved c =
    let line = c.loop-i.line in
    let i = c.loop-i.i in
    let base = c.args.line.now.base in
    let lengths_levels : length line.levels ≡ length line.classes = line.same_levels in
    let lengths_types : length line.types ≡ length line.classes = line.same_types in
    let within : i < length line.classes = omega (arith, ap length c.loop-i.invariant.classes, c.loop-i.auto.i-end) in
    let rest : c.split_at.result.1.now ≡ drop (i + 1) line.classes = c.split_at.ensures.back ∙ ap (drop (i + 1)) c.as_slice.ensures in
    let gives : c.step-given.result ≡ given base c.loop-i.state c.at-class.result (drop (i + 1) line.classes) =
    c.step-given.ensures.given ∙ ap (given base c.loop-i.state c.at-class.result) rest in
    let goes : c.step-given.new.self ≡ after c.loop-i.state c.at-class.result (drop (i + 1) line.classes) =
    c.step-given.ensures.state ∙ ap (after c.loop-i.state c.at-class.result) rest in
    let classes : c.set_type.new.self.classes ≡ line.classes = c.set_type.ensures.rest.classes ∙ c.set_level.ensures.rest.classes in
    record {
      classes = classes ∙ c.loop-i.invariant.classes;
      base = c.set_type.ensures.rest.base ∙ c.set_level.ensures.rest.base ∙ c.loop-i.invariant.base;
      levels = rw (classes, c.set_type.ensures.levels, c.set_level.ensures.levels) (column-step base c.loop-i.state _ line.classes i c.at-class.result c.step-given.result
          within c.at-class.ensures gives goes (λ x. x.level) line.levels _ lengths_levels c.loop-i.invariant.levels);
      types = rw (classes, c.set_type.ensures.types, c.set_level.ensures.types) (column-step base c.loop-i.state _ line.classes i c.at-class.result c.step-given.result
          within c.at-class.ensures gives goes (λ x. x.class) line.types _ lengths_types c.loop-i.invariant.types);
      ready = record {
        rises = c.step-given.ensures.leaves.rises;
        some = c.step-given.ensures.leaves.some;
        counted = record {
          overflow_isolates = omega (arith, c.step-given.ensures.leaves.counts.overflow_isolates);
          overflow_embeddings = omega (arith, c.step-given.ensures.leaves.counts.overflow_embeddings);
          valid_isolates = omega (arith, c.step-given.ensures.leaves.counts.valid_isolates);
        };
      };
      low = rw (c.set_type.ensures.levels, c.set_level.ensures.levels) (low-step line.levels i c.step-given.result.level (omega arith) c.loop-i.invariant.low (c.step-given.ensures.low c.args.line.now.base_is_level));
    }
