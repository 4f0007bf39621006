-- Lines of bidirectional classes.
use Rattle.std.specs.Prelude.{◌≡◌, ℕ, List, length, replicate}
use Rattle.rd_base.specs.declared.class.Class.{Class}
use Rattle.rd_base.specs.declared.line.Line.{Line}

-- a line as the rules of explicit levels begin with it: each type is the class, each level the base
pub record Starts (line : Line) (cs : List Class) (level : ℕ) : Type 0 where
  pub classes : line.classes ≡ cs
  pub types : line.types ≡ cs
  pub levels : line.levels ≡ replicate (length cs) level
  pub base : line.base ≡ level

-- the classes and the base are as they were
pub record KeepsClasses (old new : Line) : Type 0 where
  pub classes : new.classes ≡ old.classes
  pub base : new.base ≡ old.base
