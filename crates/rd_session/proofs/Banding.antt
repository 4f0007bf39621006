-- What is made of each window in leaf order.
use Rattle.std.proofs.Common.{◌≡◌, ℕ, ◌+◌, None, Some, List, ◌++◌, drop, sym, ap, ◌∙◌, append_assoc, append-nil}
use Rattle.std.specs.List.{flat_map}
use Rattle.std.specs.Prelude.{slice_get}
use Rattle.rd_base.proofs.Lists.{drop-at, none-left}

-- one more element, and the end
pub next-made : {A B : Type 0} (f : A → List B) (xs : List A) (i : ℕ) (x : A) (made whole : List B) → slice_get xs i ≡ Some x → made ++ flat_map f (drop i xs) ≡ whole
    → (made ++ f x) ++ flat_map f (drop (i + 1) xs) ≡ whole
next-made f xs i x made whole at h =
    append_assoc made (f x) (flat_map f (drop (i + 1) xs)) ∙ sym (ap (λ ys. made ++ flat_map f ys) (drop-at xs i x at)) ∙ h

pub all-made : {A B : Type 0} (f : A → List B) (xs : List A) (i : ℕ) (made whole : List B) → slice_get xs i ≡ None → made ++ flat_map f (drop i xs) ≡ whole → made ≡ whole
all-made f xs i made whole at h = sym (append-nil made) ∙ sym (ap (λ ys. made ++ flat_map f ys) (none-left xs i at)) ∙ h
