-- A line has as many levels as places, and a separator at its end has at most the level of the base.
use Rattle.std.proofs.Common.{◌≡◌, ℕ, suc, ◌≤◌, Bool, true, false, List, [], ◌∷◌, ◌++◌, length, refl, sym, ap, ◌∙◌, length-append, arith}
use Rattle.std.specs.Prelude.{slice_index, slice_set}
use Rattle.std.proofs.lemmas.Bool.{cond_both}
use Rattle.std.proofs.lemmas.List.{length-map, length-set, length-replicate}
use Rattle.rd_base.specs.Classes.{x9_is_removed}
use Rattle.rd_base.specs.declared.class.Class.{Class}
use Rattle.rd_base.specs.declared.class.Class.TheVariants.{B}
use Rattle.rd_base.specs.declared.line.Seq.{Seq}
use Rattle.rd_explicit.specs.Explicit.{explicit_from, explicit, levels_of, types_of, after, x1_start}
use Rattle.rd_explicit.specs.declared.state.State.{State}
use Rattle.rd_explicit.specs.declared.state.Given.{Given}
use Rattle.rd_explicit.specs.Sequences.{sequences_of}
use Rattle.rd_resolve.specs.Places.{put_at}
use Rattle.rd_resolve.specs.Implicit.{i1_i2, kept, l1}
use Rattle.rd_ucd.specs.declared.spans.BracketEntry.{BracketEntry}
use Rattle.rd_brackets.specs.Sides.{n0_brackets_in}
use Rattle.rd_levels.specs.Levels.{weak_in, resolved_in, x10_resolved, line_levels}
use Rattle.rd_levels.specs.Turns.{levels_with}
use Rattle.rd_levels.proofs.FromLeft.{zero-at}

explicit-length : (base : ℕ) (s : State) (cs : List Class) → length (explicit_from base s cs) ≡ length cs
explicit-length base s [] = refl
explicit-length base s (c ∷ cs) = ap (λ n. suc n) (explicit-length base (after s c cs) cs)

put_at-length : (is : List ℕ) (cs ts : List Class) → length (put_at is cs ts) ≡ length ts
put_at-length [] cs ts = refl
put_at-length (i ∷ is) [] ts = refl
put_at-length (i ∷ is) (c ∷ cs) ts = put_at-length is cs (slice_set ts i c) ∙ length-set ts i c

x10_resolved-length : (entries : List BracketEntry) (cs : List Class) (codes levels : List ℕ) (ss : List Seq) (ts : List Class) → length (x10_resolved entries cs codes levels ss ts) ≡ length ts
x10_resolved-length entries cs codes levels [] ts = refl
x10_resolved-length entries cs codes levels (s ∷ ss) ts =
    x10_resolved-length entries cs codes levels ss (resolved_in entries cs codes levels s ts)
    ∙ put_at-length s.indexes _ (n0_brackets_in entries cs codes levels s (weak_in s ts))
    ∙ put_at-length s.indexes _ (weak_in s ts)
    ∙ put_at-length s.indexes _ ts

raised-length : (ts : List Class) (ls : List ℕ) → length ts ≡ length ls → length (i1_i2 ts ls) ≡ length ls
raised-length [] ls size = refl
raised-length (t ∷ ts) [] size = refl
raised-length (t ∷ ts) (l ∷ ls) size = ap (λ n. suc n) (raised-length ts ls (omega arith))

kept-length : (before : ℕ) (cs : List Class) (ls : List ℕ) → length cs ≡ length ls → length (kept before cs ls) ≡ length ls
kept-length before [] ls size = refl
kept-length before (c ∷ cs) [] size = refl
kept-length before (c ∷ cs) (l ∷ ls) size =
    cond_both (x9_is_removed c) (before ∷ kept before cs ls) (l ∷ kept l cs ls) (λ xs. length xs ≡ suc (length ls))
    (λ _. ap (λ n. suc n) (kept-length before cs ls (omega arith))) (λ _. ap (λ n. suc n) (kept-length l cs ls (omega arith)))

l1-length : (base : ℕ) (cs : List Class) (ls : List ℕ) → length cs ≡ length ls → length (l1 base cs ls) ≡ length ls
l1-length base [] ls size = refl
l1-length base (c ∷ cs) [] size = refl
l1-length base (c ∷ cs) (l ∷ ls) size = ap (λ n. suc n) (l1-length base cs ls (omega arith))

l1-last : (base : ℕ) (cs : List Class) (ls : List ℕ) → length ls ≡ suc (length cs) → slice_index (l1 base (cs ++ B ∷ []) ls) (length cs) ≡ base
l1-last base [] [] size = absurd (omega arith)
l1-last base [] (l ∷ ls) size = refl
l1-last base (c ∷ cs) [] size = absurd (omega arith)
l1-last base (c ∷ cs) (l ∷ ls) size = l1-last base cs ls (omega arith)

ended-length : (cs : List Class) → length (cs ++ B ∷ []) ≡ suc (length cs)
ended-length cs = length-append cs (B ∷ []) ∙ omega arith

module _ (entries : List BracketEntry) (base : ℕ) where
  abbrev levels-before : List Class → List ℕ → List ℕ
  levels-before cs codes =
      let ts = types_of (explicit base cs) in
      let ls = levels_of (explicit base cs) in
      kept base cs (i1_i2 (x10_resolved entries cs codes ls (sequences_of base cs ls) ts) ls)

  before-length : (cs : List Class) (codes : List ℕ) → length (levels-before cs codes) ≡ length cs
  before-length cs codes =
      let gs = explicit base cs in
      let ts = types_of gs in
      let ls = levels_of gs in
      let found = sequences_of base cs ls in
      let us = x10_resolved entries cs codes ls found ts in
      let all : length gs ≡ length cs = explicit-length base (x1_start base) cs in
      let types : length ts ≡ length gs = length-map gs (λ (g : Given). g.class) in
      let levels : length ls ≡ length gs = length-map gs (λ (g : Given). g.level) in
      let more : length us ≡ length ts = x10_resolved-length entries cs codes ls found ts in
      let raise : length (i1_i2 us ls) ≡ length ls = raised-length us ls (omega arith) in
      let keep : length (kept base cs (i1_i2 us ls)) ≡ length (i1_i2 us ls) = kept-length base cs (i1_i2 us ls) (omega arith) in
      keep ∙ raise ∙ levels ∙ all

  pub line-length : (cs : List Class) (codes : List ℕ) → length (line_levels entries base cs codes) ≡ length cs
  line-length cs codes = l1-length base cs (levels-before cs codes) (sym (before-length cs codes)) ∙ before-length cs codes

  line-last : (cs : List Class) (codes : List ℕ) → slice_index (line_levels entries base (cs ++ B ∷ []) codes) (length cs) ≡ base
  line-last cs codes = l1-last base cs (levels-before (cs ++ B ∷ []) codes) (before-length (cs ++ B ∷ []) codes ∙ ended-length cs)

  pub with-length : (reorder : Bool) (cs : List Class) (codes : List ℕ) → length (levels_with entries reorder base (cs ++ B ∷ []) codes) ≡ suc (length cs)
  with-length true cs codes = line-length (cs ++ B ∷ []) codes ∙ ended-length cs
  with-length false cs codes = length-replicate (length (cs ++ B ∷ [])) 0 ∙ ended-length cs

  pub with-last : (reorder : Bool) (cs : List Class) (codes : List ℕ) → slice_index (levels_with entries reorder base (cs ++ B ∷ []) codes) (length cs) ≤ base
  with-last true cs codes =
      let same = line-last cs codes in
      omega arith
  with-last false cs codes =
      let same = zero-at (length (cs ++ B ∷ [])) (length cs) in
      omega arith
