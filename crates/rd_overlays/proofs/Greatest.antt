-- The last overlay of a listing that has a value.
use Rattle.std.proofs.Common.{◌≡◌, ℕ, zero, suc, ◌<◌, true, List, [], ◌∷◌, length, get_or, Option, None, Some, inl, inr, refl, sym, ap, subst, ◌∙◌, arith, true≢false}
use Rattle.std.specs.Prelude.{◌⊎◌}
use Rattle.std.specs.Ordering.{nat_cmp}
use Rattle.std.specs.declared.cmp.Ordering.{Ordering}
use Rattle.std.specs.declared.cmp.Ordering.TheVariants.{Less, Equal, Greater}
use Rattle.std.proofs.lemmas.Cmp.{ranked}
use Rattle.std.specs.List.{Contains}
use Rattle.std.specs.Option.{option_or}
use Rattle.std.proofs.lemmas.List.{get_or_default}
use Rattle.std.proofs.lemmas.List.Elements.{Contains-get_or}
use Rattle.std.proofs.lemmas.Option.{none-some}
use Rattle.rd_base.proofs.Choices.{none-both}
use Rattle.rd_overlays.specs.declared.overlay.Overlay.{Overlay}
use Rattle.rd_overlays.specs.Listings.{Ascends, HoldsExactly, Passes, rank_of}
use Rattle.rd_overlays.specs.Overlays.{covers, overlay_at, precedes}
use Rattle.rd_overlays.specs.Values.{Gives, IsGreatest, last_given}
use Rattle.rd_overlays.proofs.Listed.{weak}

-- where these numbers have no last value, none of them has a value
none-has : (value : ℕ → Option ℕ) (ns : List ℕ) (j : ℕ) → last_given value ns ≡ None → j < length ns → value (get_or ns j 0) ≡ None
none-has value [] j e inside = absurd (omega arith)
none-has value (n ∷ ns) zero e inside = (none-both (last_given value ns) (value n) e).1
none-has value (n ∷ ns) (suc j) e inside = none-has value ns j (none-both (last_given value ns) (value n) e).0 (omega arith)

-- the place of the last of these numbers that has a value
record LastAt (value : ℕ → Option ℕ) (ns : List ℕ) (given : ℕ) : Type 0 where
  place : ℕ
  inside : place < length ns
  has : value (get_or ns place 0) ≡ Some given
  last : (j : ℕ) → place < j → j < length ns → value (get_or ns j 0) ≡ None

first-last : (value : ℕ → Option ℕ) (n : ℕ) (ns : List ℕ) (j : ℕ) → last_given value ns ≡ None → 0 < j → j < suc (length ns) → value (get_or (n ∷ ns) j 0) ≡ None
first-last value n ns zero none behind inside = absurd (omega arith)
first-last value n ns (suc j) none behind inside = none-has value ns j none (omega arith)

later-last : (value : ℕ → Option ℕ) (n : ℕ) (ns : List ℕ) (given j : ℕ) → (rest : LastAt value ns given) → suc rest.place < j → j < suc (length ns) → value (get_or (n ∷ ns) j 0) ≡ None
later-last value n ns given zero rest behind inside = absurd (omega arith)
later-last value n ns given (suc j) rest behind inside = rest.last j (omega arith) (omega arith)

last-at : (value : ℕ → Option ℕ) (ns : List ℕ) (given : ℕ) → last_given value ns ≡ Some given → LastAt value ns given
last-at value [] given e = absurd (none-some given e)
last-at value (n ∷ ns) given e = by-rest (last_given value ns) refl (last-at value ns given) where
  by-rest : (rest : Option ℕ) → last_given value ns ≡ rest → (last_given value ns ≡ Some given → LastAt value ns given) → LastAt value (n ∷ ns) given
  by-rest None is again = record {
    place = 0;
    inside = omega arith;
    has = sym (ap (λ (o : Option ℕ). option_or o (value n)) is) ∙ e;
    last = λ j. first-last value n ns j is;
  }
  by-rest (Some s) is again =
      let same : Some s ≡ Some given = sym (ap (λ (o : Option ℕ). option_or o (value n)) is) ∙ e in
      let rest = again (is ∙ same) in
      record { place = suc rest.place; inside = omega (arith, rest.inside); has = rest.has; last = λ j. later-last value n ns given j rest }

module _ (value : ℕ → Option ℕ) (slots : List (Option Overlay)) (pos : ℕ) (ns : List ℕ) (holds : HoldsExactly (covers pos) slots ns) where
  -- an overlay that covers the position stands in the listing
  place-of : (number : ℕ) (overlay : Overlay) → overlay_at slots number ≡ Some overlay → covers pos overlay ≡ true → (k : ℕ) × (k < length ns) × (get_or ns k 0 ≡ number)
  place-of number overlay lives covers-it =
      let (k, inside, found) = (holds number).1 (subst (Passes (covers pos)) (sym lives) covers-it) in
      (k, inside, get_or_default ns k 0 number inside ∙ found)

  pub no-value : (number given : ℕ) (overlay : Overlay) → last_given value ns ≡ None → Gives value slots pos number overlay given → ⊥
  no-value number given overlay none gives =
      let (k, inside, here) = place-of number overlay gives.lives gives.covers in
      let e : None ≡ Some given = sym (none-has value ns k none inside) ∙ ap value here ∙ gives.has in
      none-some given e

  -- the overlay of a number in the listing
  lives-at : (number : ℕ) → Contains ns number → (slot : Option Overlay) → overlay_at slots number ≡ slot → (overlay : Overlay) × (overlay_at slots number ≡ Some overlay) × (covers pos overlay ≡ true)
  lives-at number member None is = absurd (subst (Passes (covers pos)) is ((holds number).0 member))
  lives-at number member (Some overlay) is = (overlay, is, subst (Passes (covers pos)) is ((holds number).0 member))

  by-place : Ascends slots ns → (given : ℕ) → (found : LastAt value ns given) (overlay : Overlay) → overlay_at slots (get_or ns found.place 0) ≡ Some overlay → (other : ℕ) (o : Overlay) (s : ℕ) → Gives value slots pos other o s
      → (j : ℕ) → j < length ns → get_or ns j 0 ≡ other → (order : Ordering) → nat_cmp j found.place ≡ order
      → (other ≡ get_or ns found.place 0) ⊎ (precedes (rank_of other o) (rank_of (get_or ns found.place 0) overlay) ≡ true)
  by-place ascends given found overlay lives other o s gives j inside here Less is =
      inr (ap (λ (x : ℕ). precedes (rank_of x o) (rank_of (get_or ns found.place 0) overlay)) (sym here)
      ∙ ascends j found.place o overlay (ranked j found.place Less (sym is)) found.inside (ap (overlay_at slots) here ∙ gives.lives) lives)
  by-place ascends given found overlay lives other o s gives j inside here Equal is = inl (sym here ∙ ap (λ (k : ℕ). get_or ns k 0) (ranked j found.place Equal (sym is)))
  by-place ascends given found overlay lives other o s gives j inside here Greater is =
      let e : None ≡ Some s = sym (found.last j (ranked j found.place Greater (sym is)) inside) ∙ ap value here ∙ gives.has in
      absurd (none-some s e)

  pub last-is-greatest : (given : ℕ) → Ascends slots ns → last_given value ns ≡ Some given → (number : ℕ) × (overlay : Overlay) × IsGreatest value slots pos number overlay given
  last-is-greatest given ascends e =
      let found = last-at value ns given e in
      let number = get_or ns found.place 0 in
      let (overlay, lives, covers-it) = lives-at number (Contains-get_or ns found.place 0 found.inside) (overlay_at slots number) refl in (
        number,
        overlay,
        record {
          gives = record { lives = lives; covers = covers-it; has = found.has };
          last = λ other o s gives.
              let (j, inside, here) = place-of other o gives.lives gives.covers in
              by-place ascends given found overlay lives other o s gives j inside here (nat_cmp j found.place) refl;
        },
      )

  -- two of which none is behind the other have one value
  one-value : (given v n m : ℕ) (o b : Overlay) → IsGreatest value slots pos n o given → IsGreatest value slots pos m b v → Some v ≡ Some given
  one-value given v n m o b most other =
      elim (most.last m b v other.gives) [
        | inl same ↦ sym other.gives.has ∙ ap value same ∙ most.gives.has
        | inr less ↦
            elim (other.last n o given most.gives) [
              | inl same ↦ sym other.gives.has ∙ ap value (sym same) ∙ most.gives.has
              | inr more ↦ absurd (true≢false (sym more ∙ weak.one_way (rank_of m b) (rank_of n o) less))
            ]
      ]

  pub greatest-is-last : (number given : ℕ) (overlay : Overlay) → Ascends slots ns → IsGreatest value slots pos number overlay given → last_given value ns ≡ Some given
  greatest-is-last number given overlay ascends most = by-last (last_given value ns) refl where
    by-last : (last : Option ℕ) → last_given value ns ≡ last → last_given value ns ≡ Some given
    by-last None is = absurd (no-value number given overlay is most.gives)
    by-last (Some v) is =
        let (m, b, other) = last-is-greatest v ascends is in
        is ∙ one-value given v number m overlay b most other
