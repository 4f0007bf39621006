-- What holds of all that a position can give holds of the items of what is read, and these are few.
use Rattle.std.proofs.Common.{ℕ, zero, suc, ◌+◌, ◌≤◌, List, [], ◌∷◌, ◌++◌, length, Option, None, Some, IfSome, length-append, subst, arith}
use Rattle.std.specs.List.{AllByRecursion}
use Rattle.std.proofs.lemmas.List.{length-map}
use Rattle.rd_base.proofs.Choices.{if-value}
use Rattle.rd_objects.specs.declared.run.Spec.{Spec}
use Rattle.rd_glyphs.specs.Marks.{marks_joined}
use Rattle.rd_props.specs.Seen.{Seen}
use Rattle.rd_items.specs.Readings.{showing_of}
use Rattle.rd_items.specs.Pieces.{Scene, spec_in, string_piece, string_pieces, piece_at, run_in, pieces_from}
use Rattle.rd_items.specs.Items.{piece_joins, items_by, covered_to, covering, items_of}
use Rattle.rd_items.specs.declared.item.Item.{Item}
use Rattle.rd_items.specs.declared.item.ItemKind.{ItemKind}
use Rattle.rd_items.specs.declared.piece.Piece.{Piece}
use Rattle.rd_stack.specs.Limits.{strings_in}
use Rattle.rd_stack.specs.Lines.{IsKind}
use Rattle.rd_items.proofs.EachItem.{kinds-each}
use Rattle.rd_stack.proofs.Joined.{marks_joined-few}

-- items are of these kinds where all that is read has one of the characters, and all specs are among those
pub items-hold : (C : ℕ → Type 0) (S : Spec → Type 0) (s : Scene) → ((number : ℕ) → S (spec_in s.objects number)) → (es : List Seen)
    → AllByRecursion (λ (e : Seen). IfSome e.character C) es → AllByRecursion (λ (i : Item). IsKind C S i.kind) (items_of s es)
items-hold C S s specs =
    kinds-each s (IsKind C S) (λ (e : Seen). IfSome e.character C) (λ e code i d inside. tt) (λ e code m n shown is. tt)
    (λ m spec is. subst S is (specs m)) (λ e code c is. subst (λ (ch : Option ℕ). IfSome ch C) is code) (λ g. tt) tt tt

-- nothing is asked of what is read
pub all-read : (es : List Seen) → AllByRecursion (λ (e : Seen). IfSome e.character (λ c. Unit {0})) es
all-read [] = tt
all-read (e ∷ es) = (if-value (λ c. Unit {0}) e.character (λ c is. tt), all-read es)

-- ---- how many there are

pieces-few : (s : Scene) (due k : ℕ) (es : List Seen) → length (pieces_from s due k es) ≤ length es + strings_in es
pieces-few s due k [] = omega arith
pieces-few s (suc due) k (e ∷ es) = let rest = pieces-few s due (suc k) es in omega (arith, rest)
pieces-few s zero k (e ∷ es) =
    let showing = showing_of s.parts.settings.invisible e in
    let x = piece_at s showing e.character k (suc k + run_in s e es) in
    let behind = pieces_from s (run_in s e es) (suc k) es in
    let rest = pieces-few s (run_in s e es) (suc k) es in
    let sum = length-append (string_pieces k e.appearance.face e.strings) (x ∷ behind) in
    let strings = length-map e.strings (string_piece k e.appearance.face) in
    omega (arith, rest, sum, strings)

by-few : (since : ℕ) (x : Piece) (k : Option ItemKind) (xs : List Item) (n : ℕ) → length xs ≤ n → length (items_by k since x ++ xs) ≤ suc n
by-few since x None xs n less = omega (arith, less)
by-few since x (Some k) xs n less = omega (arith, less)

covering-few : (since : ℕ) (xs : List Piece) → length (covering since xs) ≤ length xs
covering-few since [] = omega arith
covering-few since (x ∷ xs) = by-few since x x.kind (covering (covered_to since x) xs) (length xs) (covering-few (covered_to since x) xs)

pub items-few : (s : Scene) (es : List Seen) → length (items_of s es) ≤ length es + strings_in es
items-few s es =
    let pieces = pieces-few s 0 0 es in
    let joins = marks_joined-few piece_joins (pieces_from s 0 0 es) in
    let covers = covering-few 0 (marks_joined piece_joins (pieces_from s 0 0 es)) in
    omega (arith, pieces, joins, covers)
