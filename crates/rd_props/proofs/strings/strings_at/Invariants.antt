use Rattle.std.proofs.Common.{◌≡◌, ◌≤◌, ◌++◌, length, take, reverse}
use Rattle.rd_props.specs.Strings.{strings_of}
use Rattle.rd_props.specs.declared.strings.StringPlace.TheVariants.{Closing}
use Rattle.rd_props.proofs.strings.strings_at.Given as goal

abbrev pub invariant-loop-i : goal.invariant-loop-i
invariant-loop-i l = record {
  within : l.i ≤ length l.ending;
  strings : l.strings ++ strings_of Closing l.overlays (reverse (take l.i l.ending)) ≡ strings_of Closing l.overlays (reverse l.ending);
}

abbrev pub decreases-loop-i : goal.decreases-loop-i
decreases-loop-i l = l.i
