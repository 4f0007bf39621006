-- Elements that are sound and measured, of so many columns at most.
use Rattle.std.proofs.Common.{ℕ, suc, ◌+◌, ◌*◌, ◌≤◌, List, [], ◌∷◌, ◌++◌, length, All, IfSome, arith}
use Rattle.std.specs.Prelude.{slice_get, zero}
use Rattle.std.specs.List.{flat_map, AllByRecursion}
use Rattle.std.proofs.Math.Nat.{suc-mul}
use Rattle.std.proofs.lemmas.List.Elements.{All-nil, All-append, recursion_from_All}
use Rattle.rd_base.proofs.Lists.{all-one}
use Rattle.rd_base.proofs.Rows.{columns-append}
use Rattle.rd_base.specs.Elements.{IsSound, AreSound, width_at_most}
use Rattle.rd_base.specs.Glyphs.{IsMeasuredLook, AreMeasured}
use Rattle.rd_base.specs.declared.element.Element.{Element}
use Rattle.rd_stack.specs.Shown.{IsRight, AreRight}
use Rattle.rd_stack.specs.Limits.{AreRightWithin}

pub both-right : (es : List Element) → AreSound es → AreMeasured es → AreRight es
both-right es sound measured = λ k d inside. record { sound = sound k d inside; measured = measured k d inside }

pub good-nil : (most : ℕ) → AreRightWithin most []
good-nil most = record { right = All-nil IsRight; few = omega arith }

pub good-one : (most : ℕ) (e : Element) → IsSound e → IsMeasuredLook e.look → width_at_most e.extent ≤ most → AreRightWithin most (e ∷ [])
good-one most e sound measured few =
    record { right = all-one IsRight e (record { sound = sound; measured = measured }); few = omega (arith, few) }

pub good-more : (few most : ℕ) (es : List Element) → few ≤ most → AreRightWithin few es → AreRightWithin most es
good-more few most es less good = let own = good.few in record { right = good.right; few = omega (arith, less, own) }

good-append : (m n : ℕ) (xs ys : List Element) → AreRightWithin m xs → AreRightWithin n ys → AreRightWithin (m + n) (xs ++ ys)
good-append m n xs ys these those =
    let sum = columns-append xs ys in
    let first = these.few in
    let second = those.few in
    record { right = All-append IsRight xs ys these.right those.right; few = omega (arith, sum, first, second) }

-- what is put for each of a list, of so many columns each
pub good-each : {X : Type 0} (f : X → List Element) (P : X → Type 0) (most : ℕ) → ((x : X) → P x → AreRightWithin most (f x)) → (xs : List X) → AllByRecursion P xs → AreRightWithin (length xs * most) (flat_map f xs)
good-each f P most each [] all = good-nil (0 * most)
good-each f P most each (x ∷ xs) all =
    let product = suc-mul (length xs) most in
    good-more (most + length xs * most) (suc (length xs) * most) (f x ++ flat_map f xs) (omega (arith, product))
    (good-append most (length xs * most) (f x) (flat_map f xs) (each x all.0) (good-each f P most each xs all.1))

-- what holds of each of a list holds of the one at a place
pub found-by : {X : Type 0} (P : X → Type 0) (xs : List X) (i : ℕ) → AllByRecursion P xs → IfSome (slice_get xs i) P
found-by P [] i all = tt
found-by P (x ∷ xs) zero all = all.0
found-by P (x ∷ xs) (suc i) all = found-by P xs i all.1

pub found : {X : Type 0} (P : X → Type 0) (xs : List X) (i : ℕ) → All P xs → IfSome (slice_get xs i) P
found P xs i all = found-by P xs i (recursion_from_All P xs all)
