-- The first edge of an overlay behind a position, and the last up to it.
use Rattle.std.proofs.Common.{◌≡◌, ◌⊎◌, inl, inr, ℕ, zero, suc, ◌<◌, ◌≤◌, min, max, Bool, true, false, if◌then◌else◌, List, [], ◌∷◌, Option, None, Some, unwrap_or, refl, sym, subst, arith}
use Rattle.std.proofs.lemmas.Bool.{cases_lt}
use Rattle.std.proofs.lemmas.Bool.Decides.{nat_tests}
use Rattle.rd_overlays.specs.declared.overlay.Overlay.{Overlay}
use Rattle.rd_overlays.specs.declared.way.Way.{Way}
use Rattle.rd_overlays.specs.declared.way.Way.TheVariants.{Next, Last}
use Rattle.rd_overlays.specs.Overlays.{closer, nearer, is_on, reached, slot_edge, nearest_edge, next_edge, last_edge}
use Rattle.rd_props.specs.Buffers.{values_of}
use Rattle.rd_props.specs.Stops.{HasEdge, IsFirstChange, IsLastChange}

-- a place stands on the way from a position
abbrev IsOn : Way → ℕ → ℕ → Type 0
IsOn Next pos p = pos < p
IsOn Last pos p = p ≤ pos

-- a place is met before another on the way
abbrev IsCloser : Way → ℕ → ℕ → Type 0
IsCloser Next p q = p < q
IsCloser Last p q = q < p

-- the nearest place on the way from a position that has a property, where there is one
abbrev IsNearest : Way → (ℕ → Type 0) → ℕ → Option ℕ → Type 0
IsNearest way Has pos None = (p : ℕ) → IsOn way pos p → Has p → ⊥
IsNearest way Has pos (Some q) = IsOn way pos q × Has q × ((p : ℕ) → IsOn way pos p → IsCloser way p q → Has p → ⊥)

nearest-same : (way : Way) (Has Other : ℕ → Type 0) (pos : ℕ) (o : Option ℕ) → ((p : ℕ) → Has p → Other p) → ((p : ℕ) → Other p → Has p) → IsNearest way Has pos o → IsNearest way Other pos o
nearest-same way Has Other pos None to from nearest = λ p l h. nearest p l (from p h)
nearest-same way Has Other pos (Some q) to from nearest = (nearest.0, to q nearest.1, λ p l m h. nearest.2 p l m (from p h))

abbrev Either : (ℕ → Type 0) → (ℕ → Type 0) → ℕ → Type 0
Either Has Other p = Has p ⊎ Other p

closer-one : (way : Way) (x y : ℕ) → (x ≡ closer way x y) ⊎ (y ≡ closer way x y)
closer-one Next x y = elim (cases_lt x y) [ inl less ↦ inl (omega arith) | inr more ↦ inr (omega arith) ]
closer-one Last x y = elim (cases_lt x y) [ inl less ↦ inr (omega arith) | inr more ↦ inl (omega arith) ]

closer-on : (way : Way) (pos x y : ℕ) → IsOn way pos x → IsOn way pos y → IsOn way pos (closer way x y)
closer-on Next pos x y f g = omega arith
closer-on Last pos x y f g = omega arith

closer-than : (way : Way) (p x y : ℕ) → IsCloser way p (closer way x y) → IsCloser way p x × IsCloser way p y
closer-than Next p x y less = (omega arith, omega arith)
closer-than Last p x y less = (omega arith, omega arith)

nearer-nearest : (way : Way) (Has Other : ℕ → Type 0) (pos : ℕ) (a b : Option ℕ) → IsNearest way Has pos a → IsNearest way Other pos b → IsNearest way (Either Has Other) pos (nearer way a b)
nearer-nearest way Has Other pos None None f g = λ p l h. elim h [ inl x ↦ f p l x | inr y ↦ g p l y ]
nearer-nearest way Has Other pos None (Some y) f g = (g.0, inr g.1, λ p l m h. elim h [ inl u ↦ f p l u | inr v ↦ g.2 p l m v ])
nearer-nearest way Has Other pos (Some x) None f g = (f.0, inl f.1, λ p l m h. elim h [ inl u ↦ f.2 p l m u | inr v ↦ g p l v ])
nearer-nearest way Has Other pos (Some x) (Some y) f g =
    let Goal : ℕ → Type 0 = Either Has Other in (
      closer-on way pos x y f.0 g.0,
      elim (closer-one way x y) [ inl e ↦ subst Goal e (inl f.1) | inr e ↦ subst Goal e (inr g.1) ],
      λ p l m h. let less = closer-than way p x y m in elim h [ inl u ↦ f.2 p l less.0 u | inr v ↦ g.2 p l less.1 v ],
    )

on-way : (way : Way) (pos place : ℕ) → is_on way pos place ≡ true → IsOn way pos place
on-way Next pos place e = grind (arith, nat_tests)
on-way Last pos place e = grind (arith, nat_tests)

off-way : (way : Way) (pos place p : ℕ) → is_on way pos place ≡ false → place ≡ p → IsOn way pos p → ⊥
off-way Next pos place p e same on = let q : place ≤ pos = grind (arith, nat_tests) in omega arith
off-way Last pos place p e same on = let q : pos < place = grind (arith, nat_tests) in omega arith

not-closer : (way : Way) (p q : ℕ) → q ≡ p → IsCloser way p q → ⊥
not-closer Next p q same less = omega arith
not-closer Last p q same less = omega arith

reached-by : (way : Way) (pos place : ℕ) (t : Bool) → is_on way pos place ≡ t → IsNearest way (λ p. place ≡ p) pos (if t then Some place else None)
reached-by way pos place true e = (on-way way pos place e, refl, λ p l m h. not-closer way p place h m)
reached-by way pos place false e = λ p l h. off-way way pos place p e h l

reached-nearest : (way : Way) (pos place : ℕ) → IsNearest way (λ p. place ≡ p) pos (reached way pos place)
reached-nearest way pos place = reached-by way pos place (is_on way pos place) refl

abbrev SlotHasEdge : Option Overlay → ℕ → Type 0
SlotHasEdge None p = ⊥
SlotHasEdge (Some o) p = (o.from ≡ p) ⊎ (o.to ≡ p)

slot-nearest : (way : Way) (pos : ℕ) (slot : Option Overlay) → IsNearest way (SlotHasEdge slot) pos (slot_edge way pos slot)
slot-nearest way pos None = λ p l h. h
slot-nearest way pos (Some o) =
    nearer-nearest way (λ p. o.from ≡ p) (λ p. o.to ≡ p) pos (reached way pos o.from) (reached way pos o.to) (reached-nearest way pos o.from) (reached-nearest way pos o.to)

slot-first : (slot : Option Overlay) (slots : List (Option Overlay)) (p : ℕ) → SlotHasEdge slot p → HasEdge (slot ∷ slots) p
slot-first None slots p h = absurd h
slot-first (Some o) slots p h = (0, o, refl, h)

edge-cons : (slot : Option Overlay) (slots : List (Option Overlay)) (p : ℕ) → Either (SlotHasEdge slot) (HasEdge slots) p → HasEdge (slot ∷ slots) p
edge-cons slot slots p (inl h) = slot-first slot slots p h
edge-cons slot slots p (inr (number, o, at, h)) = (suc number, o, at, h)

edge-first : (slot : Option Overlay) (o : Overlay) (p : ℕ) → slot ≡ Some o → (o.from ≡ p) ⊎ (o.to ≡ p) → SlotHasEdge slot p
edge-first slot o p e h = let P : Option Overlay → Type 0 = λ s. SlotHasEdge s p in subst P (sym e) h

edge-uncons : (slot : Option Overlay) (slots : List (Option Overlay)) (p : ℕ) → HasEdge (slot ∷ slots) p → Either (SlotHasEdge slot) (HasEdge slots) p
edge-uncons slot slots p (zero, o, at, h) = inl (edge-first slot o p at h)
edge-uncons slot slots p (suc number, o, at, h) = inr (number, o, at, h)

no-edge : (p : ℕ) → HasEdge [] p → ⊥
no-edge p (number, o, at, h) = absurd (cc)

list-nearest : (way : Way) (pos : ℕ) (slots : List (Option Overlay)) → IsNearest way (HasEdge slots) pos (nearest_edge way pos slots)
list-nearest way pos [] = λ p l h. no-edge p h
list-nearest way pos (slot ∷ slots) =
    nearest-same way (Either (SlotHasEdge slot) (HasEdge slots)) (HasEdge (slot ∷ slots)) pos (nearest_edge way pos (slot ∷ slots)) (edge-cons slot slots) (edge-uncons slot slots)
    (nearer-nearest way (SlotHasEdge slot) (HasEdge slots) pos (slot_edge way pos slot) (nearest_edge way pos slots) (slot-nearest way pos slot) (list-nearest way pos slots))

-- the nearest edge on the way from a position, and a limit where there is none before it
record IsEdge (way : Way) (slots : List (Option Overlay)) (limit pos stop : ℕ) : Type 0 where
  on : IsOn way pos stop
  no_edge : (p : ℕ) → IsOn way pos p → IsCloser way p stop → HasEdge slots p → ⊥
  reason : IsCloser way stop limit → HasEdge slots stop

closer-past : (way : Way) (x y : ℕ) → IsCloser way (closer way x y) x → closer way x y ≡ y
closer-past Next x y less = omega arith
closer-past Last x y less = omega arith

edge-by : (way : Way) (slots : List (Option Overlay)) (limit pos : ℕ) (o : Option ℕ) → IsOn way pos limit → IsNearest way (HasEdge slots) pos o → IsEdge way slots limit pos (closer way limit (unwrap_or o limit))
edge-by way slots limit pos None on nearest = record {
  on = closer-on way pos limit limit on on;
  no_edge = λ p l m h. nearest p l h;
  reason = λ l. absurd (not-closer way (closer way limit limit) limit (sym (closer-past way limit limit l)) l);
}
edge-by way slots limit pos (Some q) on nearest = record {
  on = closer-on way pos limit q on nearest.0;
  no_edge = λ p l m h. nearest.2 p l (closer-than way p limit q m).1 h;
  reason = λ l. let P : ℕ → Type 0 = HasEdge slots in subst P (sym (closer-past way limit q l)) nearest.1;
}

edge-at : (way : Way) (slots : List (Option Overlay)) (limit pos stop : ℕ) (o : Option ℕ) → IsOn way pos limit → o ≡ nearest_edge way pos slots → stop ≡ closer way limit (unwrap_or o limit) → IsEdge way slots limit pos stop
edge-at way slots limit pos stop o on e is =
    let P : ℕ → Type 0 = IsEdge way slots limit pos in
    let Q : Option ℕ → Type 0 = λ x. IsEdge way slots limit pos (closer way limit (unwrap_or x limit)) in
    subst P (sym is) (subst Q (sym e) (edge-by way slots limit pos (nearest_edge way pos slots) on (list-nearest way pos slots)))

pub first-edge : (slots : List (Option Overlay)) (end pos stop : ℕ) (o : Option ℕ) → pos < end → o ≡ next_edge pos slots → stop ≡ min end (unwrap_or o end) → IsFirstChange (values_of []) slots end pos stop
first-edge slots end pos stop o p e is =
    let edge = edge-at Next slots end pos stop o p e is in
    record { later = edge.on; within = omega arith; same = λ q l m kind. refl; no_edge = edge.no_edge; reason = λ l. inr (edge.reason l) }

pub last-edge : (slots : List (Option Overlay)) (begin pos stop : ℕ) (o : Option ℕ) → begin ≤ pos → o ≡ last_edge pos slots → stop ≡ max begin (unwrap_or o begin) → IsLastChange (values_of []) slots begin pos stop
last-edge slots begin pos stop o p e is =
    let edge = edge-at Last slots begin pos stop o p e is in
    record { within = omega arith; before = edge.on; same = λ q l m kind. refl; no_edge = λ q l m h. edge.no_edge q m l h; reason = λ l. inr (edge.reason l) }
