-- The columns of looks that are put together.
use Rattle.std.proofs.Common.{◌≡◌, ◌+◌, ◌≤◌, min, List, ◌∷◌, Option, true, ℕ, arith}
use Rattle.rd_base.proofs.Lists.{total-append}
use Rattle.rd_base.specs.declared.cell.Glyph.{Glyph}
use Rattle.rd_ucd.specs.declared.spans.Span.{Span}
use Rattle.rd_ucd.specs.Lookup.{class_of}
use Rattle.rd_glyphs.specs.declared.shown.Shown.{Shown}
use Rattle.rd_glyphs.specs.Characters.{look_columns, shown_as}
use Rattle.rd_glyphs.specs.Held.{given, held_after, looks_from}
use Rattle.rd_glyphs.specs.Lines.{columns_of_looks}

moved : (classes : List Span) (held : Option Glyph) (s : Shown) (c : ℕ) (cs : List ℕ) (before total : ℕ) →
    s ≡ shown_as true (class_of classes c) c →
    before + columns_of_looks (looks_from classes held (c ∷ cs)) ≡ total →
    before + columns_of_looks (given held s) + columns_of_looks (looks_from classes (held_after held s) cs) ≡ total
moved classes held s c cs before total look whole =
    let s0 = shown_as true (class_of classes c) c in
    let sum = total-append look_columns (given held s0) (looks_from classes (held_after held s0) cs) in
    rw look (omega arith)

-- one character moves its columns from what is left to what was counted
pub counted : (classes : List Span) (held next : Option Glyph) (s : Shown) (c code : ℕ) (left cs : List ℕ) (before more total : ℕ) →
    left ≡ c ∷ cs → code ≡ c → s ≡ shown_as true (class_of classes c) code → more ≡ columns_of_looks (given held s) → next ≡ held_after held s →
    before + columns_of_looks (looks_from classes held left) ≡ total →
    before + more + columns_of_looks (looks_from classes next cs) ≡ total
counted classes held next s c code left cs before more total split same look m n whole =
    rw m (rw n (moved classes held s c cs before total (rw same at look) (rw split at whole)))

-- what was counted is no more than the whole
pub reached : (before rest total most : ℕ) → before + rest ≡ total → most ≤ before → most ≡ min total most
reached before rest total most whole far = grind arith
