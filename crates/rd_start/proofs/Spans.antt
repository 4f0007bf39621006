-- Spans of positions, joined from the left.
use Rattle.std.proofs.Common.{◌≡◌, ℕ, min, max, List, [], ◌∷◌, ◌++◌, map, Option, None, Some, refl, sym, ap, ◌∙◌, arith}
use Rattle.std.proofs.lemmas.List.{append-nil}
use Rattle.std.proofs.lemmas.List.Sums.{fold-append}
use Rattle.std.specs.List.{fold}
use Rattle.rd_matrix.specs.Entries.{EntryMeaning}
use Rattle.rd_start.specs.Chosen.{first_positions, positions_of}
use Rattle.rd_start.specs.Strips.{span_of_both, strip_row_of, span_of}
use Rattle.rd_start.specs.declared.span.Span.{Span}
use Rattle.rd_start.specs.declared.strip.StripRow.{StripRow}

pub span_of_both-none : (a : Option Span) → span_of_both a None ≡ a
span_of_both-none None = refl
span_of_both-none (Some a) = refl

pub span_of_both-assoc : (a b c : Option Span) → span_of_both (span_of_both a b) c ≡ span_of_both a (span_of_both b c)
span_of_both-assoc None b c = refl
span_of_both-assoc (Some a) None c = refl
span_of_both-assoc (Some a) (Some b) None = refl
span_of_both-assoc (Some a) (Some b) (Some c) =
    let least : min (min a.first b.first) c.first ≡ min a.first (min b.first c.first) = omega arith in
    let greatest : max (max a.last b.last) c.last ≡ max a.last (max b.last c.last) = omega arith in
    cc

-- what is joined with the first of some numbers is joined with all
fold-first : (f : ℕ → ℕ → ℕ) → ((a y z : ℕ) → f (f a y) z ≡ f a (f y z)) → (a y : ℕ) (ys : List ℕ) → fold f (f a y) ys ≡ f a (fold f y ys)
fold-first f joins a y [] = refl
fold-first f joins a y (z ∷ ys) = ap (λ n. fold f n ys) (joins a y z) ∙ fold-first f joins a (f y z) ys

pub span_of-append : (xs ys : List ℕ) → span_of (xs ++ ys) ≡ span_of_both (span_of xs) (span_of ys)
span_of-append [] ys = refl
span_of-append (x ∷ xs) [] = ap (λ zs. span_of (x ∷ zs)) (append-nil xs)
span_of-append (x ∷ xs) (y ∷ ys) =
    let least : fold min x (xs ++ (y ∷ ys)) ≡ min (fold min x xs) (fold min y ys) = fold-append min x xs (y ∷ ys) ∙ fold-first min (λ a b c. omega arith) (fold min x xs) y ys in
    let greatest : fold max x (xs ++ (y ∷ ys)) ≡ max (fold max x xs) (fold max y ys) = fold-append max x xs (y ∷ ys) ∙ fold-first max (λ a b c. omega arith) (fold max x xs) y ys in
    cc

abbrev pub spans : Option Span → List StripRow → Option Span
spans a ls = fold (λ b l. span_of_both b l.span) a ls

pub spans-strip_rows : (point : ℕ) (a : Option Span) (es : List EntryMeaning) → spans a (map (strip_row_of point) es) ≡ span_of_both a (span_of (first_positions es))
spans-strip_rows point a [] = sym (span_of_both-none a)
spans-strip_rows point a (e ∷ es) =
    spans-strip_rows point (span_of_both a (span_of (positions_of e))) es
    ∙ (span_of_both-assoc a (span_of (positions_of e)) (span_of (first_positions es))
    ∙ ap (span_of_both a) (sym (span_of-append (positions_of e) (first_positions es))))
