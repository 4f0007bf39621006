-- What the windows show, one behind the other.
use Rattle.std.proofs.Common.{◌≡◌, ℕ, zero, suc, ◌≤◌, Some, List, [], ◌∷◌, length, take, arith}
use Rattle.std.proofs.lemmas.List.{take_all}
use Rattle.std.specs.Prelude.{slice_get}
use Rattle.rd_layout.specs.Sessions.{layout_of}
use Rattle.rd_layout.proofs.Known.{Last}
use Rattle.rd_views.specs.Layings.{layout_taken, shown_by, views_taken}
use Rattle.rd_views.specs.declared.desired.LaidWindow.{LaidWindow}

pub view-at : (lasts : List Last) (xs : List LaidWindow) (es : List Last) (i : ℕ) (x : LaidWindow) (e : Last) → slice_get xs i ≡ Some x → slice_get es i ≡ Some e
    → slice_get (views_taken lasts xs es) i ≡ Some (shown_by x (layout_taken (layout_of e.0 lasts) x e.1))
view-at lasts [] es i x e here there = absurd (cc)
view-at lasts (y ∷ ys) [] i x e here there = absurd (cc)
view-at lasts (y ∷ ys) (f ∷ fs) zero x e here there =
    let one : y ≡ x = cc here in
    let other : f ≡ e = cc there in
    λ k. Some (shown_by (one k) (layout_taken (layout_of (other k).0 lasts) (one k) (other k).1))
view-at lasts (y ∷ ys) (f ∷ fs) (suc i) x e here there = view-at lasts ys fs i x e here there

few-views : (lasts : List Last) (xs : List LaidWindow) (es : List Last) → length (views_taken lasts xs es) ≤ length xs
few-views lasts [] es = omega arith
few-views lasts (x ∷ xs) [] = omega arith
few-views lasts (x ∷ xs) (e ∷ es) = let rest = few-views lasts xs es in omega (arith, rest)

pub all-views : (lasts : List Last) (xs : List LaidWindow) (es : List Last) (n : ℕ) → length xs ≤ n → take n (views_taken lasts xs es) ≡ views_taken lasts xs es
all-views lasts xs es n less = let few = few-views lasts xs es in take_all n (views_taken lasts xs es) (omega (arith, few, less))
