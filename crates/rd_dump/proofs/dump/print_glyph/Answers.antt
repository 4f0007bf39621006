use Rattle.std.proofs.Common.{ap, rules}
use Rattle.std.specs.List.{flat_map}
use Rattle.rd_base.specs.Chars.{encoded}
use Rattle.rd_dump.proofs.Writing.{prints-then, prints-as}
use Rattle.rd_dump.proofs.dump.print_glyph.Goals as goal

pub returns : goal.returns
returns g c = prints-then _ _ _ _ _ _ _ _ _ _ c.in_ok-write_character.ensures (prints-as _ _ _ _ _ _ _ (ap (flat_map encoded) c.joining.ensures) (c.print_each.ensures encoded (λ sink left mark result printed. search rules)))
