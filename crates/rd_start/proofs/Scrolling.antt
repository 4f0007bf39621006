-- A start that is scrolled.
use Rattle.std.proofs.Common.{◌≡◌, ℕ, ◌+◌, ◌-◌, ◌<◌, inl, inr, Bool, true, false, min, max, length, ℤ, pos, negsuc, refl, sym, ap, arith}
use Rattle.std.specs.Prelude.{int_lt, unsigned_abs}
use Rattle.std.proofs.lemmas.Bool.{ltb-true, false≢true}
use Rattle.rd_base.specs.Lists.{moved}
use Rattle.rd_matrix.specs.Sources.{SourceValues}
use Rattle.rd_start.specs.Strips.{IsStrip, AsksAt, Between, ReachesAt, first_row, home_row, moved_row}
use Rattle.rd_start.specs.declared.strip.Edge.{Edge}
use Rattle.rd_start.specs.declared.strip.Edge.TheVariants.{Bottom, Top}
use Rattle.rd_start.specs.declared.strip.Strip.{Strip}
use Rattle.rd_start.specs.declared.strip.Sweep.{Sweep}
use Rattle.rd_start.proofs.Rows.{all-inside}

moved-up : (z : ℤ) (row : ℕ) → int_lt z (pos 0) ≡ true → moved z row ≡ row - unsigned_abs z
moved-up (pos n) row e = absurd (omega (arith, ltb-true n 0 e))
moved-up (negsuc n) row e = omega arith

moved-down : (z : ℤ) (row : ℕ) → int_lt z (pos 0) ≡ false → moved z row ≡ row + unsigned_abs z
moved-down (pos n) row e = refl
moved-down (negsuc n) row e = absurd (false≢true (sym e))

-- the row that a start is scrolled to is at this place of a strip that reaches so many rows, and those between are what it asks for
abbrev pub Scrolls : Edge → SourceValues → Strip → ℤ → ℕ → ℕ → Type 0
Scrolls edge m s z count place =
    ((old : Sweep) (start : ℕ) → ReachesAt edge m s count → s.sweep ≡ old → start ≡ place → (start < length s.strip_rows.items) × (first_row m s + start ≡ moved_row m old z))
    × ((kind : ℕ → Bool) → Between kind (min (home_row m s.sweep) (moved_row m s.sweep z)) (max (home_row m s.sweep) (moved_row m s.sweep z) + 1) → AsksAt edge kind m s count)

pub scrolled-up : (m : SourceValues) (s : Strip) (z : ℤ) (rows : ℕ) → IsStrip m s → int_lt z (pos 0) ≡ true → rows ≡ unsigned_abs z → Scrolls Top m s z rows (s.home - rows)
scrolled-up m s z rows h low is =
    let row = moved-up z (home_row m s.sweep) low in
    let inside = h.inside in
    let home = h.home in
    let all = all-inside m s h in
    (λ old start begins same there. let to = ap (λ (x : Sweep). moved_row m x z) same in (omega arith, elim begins [ inl far ↦ omega arith | inr text ↦ omega arith ]), λ kind asks k from to. asks k (omega arith) (omega arith))

pub scrolled-down : (m : SourceValues) (s : Strip) (z : ℤ) (rows place : ℕ) → IsStrip m s → int_lt z (pos 0) ≡ false → rows ≡ unsigned_abs z → place ≡ s.home + rows
    → Scrolls Bottom m s z (place + 1) (min place (length s.strip_rows.items - 1))
scrolled-down m s z rows place h low is at =
    let row = moved-down z (home_row m s.sweep) low in
    let inside = h.inside in
    let home = h.home in
    let all = all-inside m s h in
    (λ old start reached same there. let to = ap (λ (x : Sweep). moved_row m x z) same in (omega arith, elim reached [ inl far ↦ omega arith | inr text ↦ omega arith ]), λ kind asks k from to. asks k (omega arith) (omega arith))
