use Rattle.std.proofs.Common.{◌≡◌, ◌++◌, drop}
use Rattle.rd_props.specs.Strings.{strings_of}
use Rattle.rd_props.proofs.strings.add_each.Given as goal

abbrev pub invariant-loop-number : goal.invariant-loop-number
invariant-loop-number l = l.strings ++ strings_of l.place l.overlays (drop l.number-index l.numbers) ≡ l.initial.strings ++ strings_of l.place l.overlays l.numbers
