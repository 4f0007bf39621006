use Rattle.std.proofs.Common.{◌≡◌, ◌≤◌, ◌-◌, length, map, drop, arith}
use Rattle.std.proofs.lemmas.List.{length-map, length-take}
use Rattle.rd_text.specs.Texts.{between}
use Rattle.rd_embed.specs.Spelling.{character_bytes}
use Rattle.rd_embed.proofs.Filling.{fitting-few}
use Rattle.rd_embed.proofs.texts.give_range.Goals as goal

pub overflow_cast-result : goal.overflow_cast-result
overflow_cast-result c =
    omega (
      arith,
      c.fill_whole-filled.ensures.texts,
      fitting-few (length c.args.out.now) (map character_bytes (between c.args.text.now c.args.from c.args.to)),
      length-map (between c.args.text.now c.args.from c.args.to) character_bytes,
      length-take ((c.args.to - 1) - (c.args.from - 1)) (drop (c.args.from - 1) c.args.text.now.text),
    )

pub overflow_add-result : goal.overflow_add-result
overflow_add-result c =
    omega (
      arith,
      c.fill_whole-filled.ensures.texts,
      fitting-few (length c.args.out.now) (map character_bytes (between c.args.text.now c.args.from c.args.to)),
      length-map (between c.args.text.now c.args.from c.args.to) character_bytes,
      length-take ((c.args.to - 1) - (c.args.from - 1)) (drop (c.args.from - 1) c.args.text.now.text),
    )
