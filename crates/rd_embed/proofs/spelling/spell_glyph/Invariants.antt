use Rattle.std.proofs.Common.{◌≡◌, ◌≤◌, ◌+◌, ◌*◌, ◌++◌, take}
use Rattle.std.specs.List.{flat_map}
use Rattle.rd_base.specs.Chars.{encoded}
use Rattle.rd_embed.proofs.spelling.spell_glyph.Given as goal

abbrev pub invariant-loop-mark : goal.invariant-loop-mark
invariant-loop-mark l = record {
  spelt : take l.at l.room ≡ encoded l.glyph.base ++ flat_map encoded (take l.mark-index (take l.glyph.count l.glyph.marks));
  within : l.at ≤ 4 + 4 * l.mark-index;
}
