-- The three data files together, as the layers above read them.
use Rattle.std.specs.Prelude.{List}
use Rattle.rd_ucd.specs.declared.spans.Span.{Span}
use Rattle.rd_ucd.specs.declared.spans.Pair.{Pair}
use Rattle.rd_ucd.specs.declared.spans.BracketEntry.{BracketEntry}

-- what the class file, the mirror file and the bracket file stand for
pub record Data : Type 0 where
  pub classes : List Span
  pub mirrors : List Pair
  pub brackets : List BracketEntry
