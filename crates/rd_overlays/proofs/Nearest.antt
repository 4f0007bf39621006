-- The nearest edge from a position, over batches that are passed over.
use Rattle.std.proofs.Common.{◌≡◌, ℕ, ◌+◌, ◌<◌, ◌≤◌, List, [], ◌∷◌, length, get_or, drop, Option, None, Some, refl, sym, ap, ◌∙◌, arith}
use Rattle.std.specs.Prelude.{slice_get}
use Rattle.std.specs.List.{All}
use Rattle.std.specs.List.Sorted.{IsPermutation}
use Rattle.std.proofs.lemmas.List.Elements.{All-nil, All-cons, All-head, All-tail, All-weaker}
use Rattle.std.proofs.lemmas.List.Sorted.{All-permutation, IsPermutation-sym}
use Rattle.std.proofs.lemmas.Option.{slice_get-get_or}
use Rattle.rd_base.proofs.Lists.{drop-at}
use Rattle.rd_overlays.specs.declared.overlay.Overlay.{Overlay}
use Rattle.rd_overlays.specs.declared.way.Way.{Way}
use Rattle.rd_overlays.specs.declared.way.Way.TheVariants.{Next, Last}
use Rattle.rd_overlays.specs.Overlays.{overlay_at, closer, nearer, slot_edge, nearest_edge}
use Rattle.rd_overlays.specs.Listings.{edge_in}
use Rattle.rd_overlays.proofs.Skipping.{unchanged}

pub nearer-none : (way : Way) (a : Option ℕ) → nearer way a None ≡ a
nearer-none way None = refl
nearer-none way (Some x) = refl

closer-assoc : (way : Way) (x y z : ℕ) → closer way (closer way x y) z ≡ closer way x (closer way y z)
closer-assoc Next x y z = omega arith
closer-assoc Last x y z = omega arith

closer-comm : (way : Way) (x y : ℕ) → closer way x y ≡ closer way y x
closer-comm Next x y = omega arith
closer-comm Last x y = omega arith

closer-same : (way : Way) (x : ℕ) → closer way x x ≡ x
closer-same Next x = omega arith
closer-same Last x = omega arith

nearer-assoc : (way : Way) (a b c : Option ℕ) → nearer way (nearer way a b) c ≡ nearer way a (nearer way b c)
nearer-assoc way None b c = refl
nearer-assoc way (Some x) None c = refl
nearer-assoc way (Some x) (Some y) None = refl
nearer-assoc way (Some x) (Some y) (Some z) = ap Some (closer-assoc way x y z)

nearer-comm : (way : Way) (a b : Option ℕ) → nearer way a b ≡ nearer way b a
nearer-comm way None b = sym (nearer-none way b)
nearer-comm way (Some x) None = refl
nearer-comm way (Some x) (Some y) = ap Some (closer-comm way x y)

nearer-same : (way : Way) (a : Option ℕ) → nearer way a a ≡ a
nearer-same way None = refl
nearer-same way (Some x) = ap Some (closer-same way x)

-- ---- the order of the overlays says nothing for their nearest edge

-- no edge of these is nearer than the first
abbrev NoneNearer : Way → ℕ → Option ℕ → Option Overlay → Type 0
NoneNearer way pos nearest slot = nearer way nearest (slot_edge way pos slot) ≡ nearest

module _ (way : Way) (pos : ℕ) where
  still-none : (a f : Option ℕ) (slot : Option Overlay) → NoneNearer way pos f slot → NoneNearer way pos (nearer way a f) slot
  still-none a f slot e = nearer-assoc way a f (slot_edge way pos slot) ∙ ap (nearer way a) e

  none-first : (a f : Option ℕ) → nearer way (nearer way a f) a ≡ nearer way a f
  none-first a f =
      nearer-assoc way a f a
      ∙ (ap (nearer way a) (nearer-comm way f a) ∙ (sym (nearer-assoc way a a f) ∙ ap (λ (e : Option ℕ). nearer way e f) (nearer-same way a)))

  nearest-of : (slots : List (Option Overlay)) → All (NoneNearer way pos (nearest_edge way pos slots)) slots
  nearest-of [] = All-nil (NoneNearer way pos None)
  nearest-of (s ∷ ss) =
      let whole = nearer way (slot_edge way pos s) (nearest_edge way pos ss) in
      All-cons (NoneNearer way pos whole) s ss (none-first (slot_edge way pos s) (nearest_edge way pos ss))
      (All-weaker (NoneNearer way pos (nearest_edge way pos ss)) (NoneNearer way pos whole) (still-none (slot_edge way pos s) (nearest_edge way pos ss)) ss (nearest-of ss))

  past-nearest : (nearest : Option ℕ) (slots : List (Option Overlay)) → All (NoneNearer way pos nearest) slots → nearer way nearest (nearest_edge way pos slots) ≡ nearest
  past-nearest nearest [] h = nearer-none way nearest
  past-nearest nearest (s ∷ ss) h =
      sym (nearer-assoc way nearest (slot_edge way pos s) (nearest_edge way pos ss))
      ∙ (ap (λ (e : Option ℕ). nearer way e (nearest_edge way pos ss)) (All-head (NoneNearer way pos nearest) s ss h)
      ∙ past-nearest nearest ss (All-tail (NoneNearer way pos nearest) s ss h))

  pub same-edge : (xs ys : List (Option Overlay)) → IsPermutation xs ys → nearest_edge way pos ys ≡ nearest_edge way pos xs
  same-edge xs ys h =
      let a = nearest_edge way pos xs in
      let b = nearest_edge way pos ys in
      let ab = past-nearest a ys (All-permutation (NoneNearer way pos a) xs ys h (nearest-of xs)) in
      let ba = past-nearest b xs (All-permutation (NoneNearer way pos b) ys xs (IsPermutation-sym xs ys h) (nearest-of ys)) in
      sym ba ∙ (nearer-comm way b a ∙ ab)

  -- ---- a search along an order of the overlays

  pub one_more : (n : ℕ) (s : List (Option Overlay)) (numbers : List ℕ) (k : ℕ) (nearest new : Option ℕ) → slice_get numbers n ≡ Some k
      → new ≡ nearer way nearest (slot_edge way pos (overlay_at s k)) → nearer way new (edge_in way pos s (drop (n + 1) numbers)) ≡ nearer way nearest (edge_in way pos s (drop n numbers))
  one_more n s numbers k nearest new at is =
      let rest = edge_in way pos s (drop (n + 1) numbers) in
      ap (λ (e : Option ℕ). nearer way e rest) is
      ∙ (nearer-assoc way nearest (slot_edge way pos (overlay_at s k)) rest
      ∙ ap (nearer way nearest) (sym (ap (edge_in way pos s) (drop-at numbers n k at))))

  pub skipped : (s : List (Option Overlay)) (numbers : List ℕ) (nearest : Option ℕ) (n i : ℕ) → n ≤ i → i ≤ length numbers
      → ((j k : ℕ) → n ≤ j → j < i → slice_get numbers j ≡ Some k → NoneNearer way pos nearest (overlay_at s k))
      → nearer way nearest (edge_in way pos s (drop i numbers)) ≡ nearer way nearest (edge_in way pos s (drop n numbers))
  skipped s numbers nearest n i p within idle =
      unchanged (λ (j : ℕ). nearer way nearest (edge_in way pos s (drop j numbers))) n i p
      (λ j low high.
      let at = slice_get-get_or numbers j 0 (omega arith) in
      one_more j s numbers (get_or numbers j 0) nearest nearest at (sym (idle j (get_or numbers j 0) low high at)))
