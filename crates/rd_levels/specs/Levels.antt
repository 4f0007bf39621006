-- The embedding levels of a line (UAX 9, rules X1 to L1 in turn).
use Rattle.std.specs.Prelude.{◌≡◌, ℕ, ◌<◌, ◌≤◌, ◌^◌, Bool, true, false, List, [], ◌∷◌, length}
use Rattle.std.specs.List.{list_all}
use Rattle.rd_base.specs.declared.class.Class.{Class}
use Rattle.rd_base.specs.declared.class.Class.TheVariants.{L, EN, ES, ET, CS, NSM, BN, B, S, WS, ON}
use Rattle.rd_base.specs.declared.line.Seq.{Seq}
use Rattle.rd_ucd.specs.declared.spans.BracketEntry.{BracketEntry}
use Rattle.rd_explicit.specs.Explicit.{explicit, levels_of, types_of}
use Rattle.rd_explicit.specs.Sequences.{sequences_of}
use Rattle.rd_resolve.specs.Places.{types_at, levels_at, put_at}
use Rattle.rd_resolve.specs.Weak.{weak_types}
use Rattle.rd_resolve.specs.Neutral.{neutral_types}
use Rattle.rd_resolve.specs.Implicit.{implicit_levels}
use Rattle.rd_brackets.specs.Sides.{n0_brackets_in}

-- W1 to W7: the types of a line once they are applied to a sequence
abbrev pub weak_in : Seq → List Class → List Class
weak_in s ts = put_at s.indexes (weak_types s.sos (types_at s.indexes ts)) ts

-- N1 and N2: the types of a line once they are applied to a sequence
abbrev pub neutral_in : List ℕ → Seq → List Class → List Class
neutral_in levels s ts = put_at s.indexes (neutral_types s.sos s.eos (types_at s.indexes ts) (levels_at s.indexes levels)) ts

-- the types of a line once W1 to W7, N0, N1 and N2 are applied to a sequence, by the brackets and the line's classes, codes and levels
abbrev pub resolved_in : List BracketEntry → List Class → List ℕ → List ℕ → Seq → List Class → List Class
resolved_in entries cs codes levels s ts = neutral_in levels s (n0_brackets_in entries cs codes levels s (weak_in s ts))

-- X10: the types of a line once these rules are applied to each of its sequences, one after another
abbrev pub x10_resolved : List BracketEntry → List Class → List ℕ → List ℕ → List Seq → List Class → List Class
x10_resolved entries cs codes levels [] ts = ts
x10_resolved entries cs codes levels (s ∷ ss) ts = x10_resolved entries cs codes levels ss (resolved_in entries cs codes levels s ts)

-- I1, I2 and L1 after those, where the explicit levels are known
abbrev pub levels_from : List BracketEntry → ℕ → List Class → List ℕ → List Class → List ℕ → List ℕ
levels_from entries base cs codes ts levels =
    implicit_levels base cs (x10_resolved entries cs codes levels (sequences_of base cs levels) ts) levels

-- the level of each character of a line with a base level, by the brackets and the classes and codes of the characters
abbrev pub line_levels : List BracketEntry → ℕ → List Class → List ℕ → List ℕ
line_levels entries base cs codes = levels_from entries base cs codes (types_of (explicit base cs)) (levels_of (explicit base cs))

-- the classes and codes of a line and its base level: fewer than 2^32 characters, a code for each, and a base of 0 or 1
pub record IsLine (classes : List Class) (characters : List ℕ) (level : ℕ) : Type 0 where
  pub short : length classes < 2 ^ 32
  pub codes : length characters ≡ length classes
  pub base : level ≤ 1

-- whether a class can't bring about a level above the base 0: it is no letter or number that is read from the right, and opens and closes
-- no embedding, override or isolate
abbrev pub is_leveled : Class → Bool
is_leveled L = true
is_leveled EN = true
is_leveled ES = true
is_leveled ET = true
is_leveled CS = true
is_leveled NSM = true
is_leveled BN = true
is_leveled B = true
is_leveled S = true
is_leveled WS = true
is_leveled ON = true
is_leveled c = false

abbrev pub are_leveled : List Class → Bool
are_leveled cs = list_all is_leveled cs
