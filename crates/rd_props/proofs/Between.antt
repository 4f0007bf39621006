-- Between a position and its next stop nothing changes, nor from the last stop up to a position.
use Rattle.std.proofs.Common.{◌≡◌, ◌⊎◌, inl, inr, ℕ, ◌+◌, ◌<◌, ◌≤◌, Bool, true, false, nat_lt, if◌then◌else◌, List, [], Option, None, Some, refl, sym, ap, ◌∙◌, arith}
use Rattle.std.proofs.lemmas.Bool.Decides.{nat_tests}
use Rattle.std.proofs.lemmas.Bool.{lt-ltb}
use Rattle.rd_overlays.specs.declared.overlay.Overlay.{Overlay}
use Rattle.rd_overlays.specs.Overlays.{overlay_at, covers, starts, ends, numbers_of, covering}
use Rattle.rd_overlays.proofs.Alike.{listing-same}
use Rattle.rd_overlays.specs.Listings.{listed_priority}
use Rattle.rd_overlays.specs.Values.{last_given}
use Rattle.rd_objects.specs.Things.{ObjectLists}
use Rattle.rd_props.specs.Buffers.{BufferValue}
use Rattle.rd_props.specs.Stops.{AreSame, HasEdge, IsNextStop, IsLastStop, LookAlike}
use Rattle.rd_props.specs.Values.{overlay_value}
use Rattle.rd_props.specs.Faces.{laid_over}
use Rattle.rd_props.specs.Strings.{strings_at}
use Rattle.rd_props.specs.Appearance.{appearance_at}
use Rattle.rd_props.proofs.Alike.{appearance-by}

slot-same : (f g : Overlay → Bool) (slot : Option Overlay) → ((o : Overlay) → slot ≡ Some o → f o ≡ g o) → listed_priority f slot ≡ listed_priority g slot
slot-same f g None same = refl
slot-same f g (Some o) same = ap (λ (t : Bool). if t then Some o.priority else None) (same o refl)

slot-none : (f : Overlay → Bool) (slot : Option Overlay) → ((o : Overlay) → slot ≡ Some o → f o ≡ false) → listed_priority f slot ≡ None
slot-none f None none = refl
slot-none f (Some o) none = ap (λ (t : Bool). if t then Some o.priority else None) (none o refl)

covers-by : (p q : ℕ) (o : Overlay) → p < q → (o.from ≤ p) ⊎ (q < o.from) → (o.to ≤ p) ⊎ (q < o.to) → covers q o ≡ covers p o
covers-by p q o later from to = grind (arith, nat_tests)

starts-not : (q : ℕ) (o : Overlay) → (o.from ≡ q → ⊥) → starts q o ≡ false
starts-not q o differs = grind (arith, nat_tests)

ends-not : (q : ℕ) (o : Overlay) → (o.to ≡ q → ⊥) → ends q o ≡ false
ends-not q o differs = grind (arith, nat_tests)

-- behind a position and before another no text property has another value than there, and no overlay starts or ends; none of these
-- is the end of the accessible text
record IsQuiet (s : BufferValue) (p stop : ℕ) : Type 0 where
  within : stop ≤ s.text.end
  same : (q : ℕ) → p < q → q < stop → AreSame s.properties q p
  no_edge : (q : ℕ) → p < q → q < stop → HasEdge s.overlays q → ⊥

module _ (s : BufferValue) (p stop q : ℕ) (next : IsQuiet s p stop) (later : p < q) (before : q < stop) where
  -- the edges of an overlay that lives don't stand between the two positions
  outside : (k : ℕ) (o : Overlay) → overlay_at s.overlays k ≡ Some o → ((o.from ≤ p) ⊎ (q < o.from)) × ((o.to ≤ p) ⊎ (q < o.to))
  outside k o lives =
      let from : p < o.from → o.from ≤ q → ⊥ = λ a b. next.no_edge o.from a (omega arith) (k, o, lives, inl refl) in
      let to : p < o.to → o.to ≤ q → ⊥ = λ a b. next.no_edge o.to a (omega arith) (k, o, lives, inr refl) in
      (grind arith, grind arith)

  covering-same : covering q s.overlays ≡ covering p s.overlays
  covering-same =
      listing-same (covers q) (covers p) s.overlays s.overlays (λ k.
      slot-same (covers q) (covers p) (overlay_at s.overlays k) (λ o lives.
      let parts = outside k o lives in
      covers-by p q o later parts.0 parts.1))

  here : nat_lt q s.text.end ≡ true
  here = let within = next.within in lt-ltb q s.text.end (omega arith)

  first : nat_lt p s.text.end ≡ true
  first = let within = next.within in lt-ltb p s.text.end (omega arith)

  appearance-same : (objects : ObjectLists) → appearance_at s objects q ≡ appearance_at s objects p
  appearance-same objects =
      appearance-by s s q p objects (here ∙ sym first) (next.same q later before)
      (λ kind. ap (last_given (overlay_value s.overlays kind)) covering-same)
      (λ face. ap (λ (ns : List ℕ). laid_over objects s.overlays ns face) covering-same)

  none-start : numbers_of (starts q) s.overlays ≡ []
  none-start =
      listing-same (starts q) (starts q) s.overlays [] (λ k.
      slot-none (starts q) (overlay_at s.overlays k) (λ o lives. starts-not q o (λ e. next.no_edge q later before (k, o, lives, inl e))))

  none-end : numbers_of (ends q) s.overlays ≡ []
  none-end =
      listing-same (ends q) (ends q) s.overlays [] (λ k.
      slot-none (ends q) (overlay_at s.overlays k) (λ o lives. ends-not q o (λ e. next.no_edge q later before (k, o, lives, inr e))))

  strings-none : strings_at s q ≡ []
  strings-none = let first = none-start in let last = none-end in rw (first, last)

quiet-alike : (s : BufferValue) (objects : ObjectLists) (p stop : ℕ) → IsQuiet s p stop → LookAlike s objects p stop
quiet-alike s objects p stop next = record {
  appearance = λ q later before. appearance-same s p stop q next later before objects;
  strings = λ q later before. strings-none s p stop q next later before;
}

pub look-alike : (s : BufferValue) (objects : ObjectLists) (p stop : ℕ) → IsNextStop s p stop → LookAlike s objects p stop
look-alike s objects p stop next =
    quiet-alike s objects p stop (record { within = next.within; same = next.same; no_edge = next.no_edge })

pub look-alike-back : (s : BufferValue) (objects : ObjectLists) (p stop : ℕ) → p < s.text.end → IsLastStop s p stop → LookAlike s objects stop (p + 1)
look-alike-back s objects p stop inside last =
    let before = last.before in
    quiet-alike s objects stop (p + 1) (record {
      within = omega arith;
      same = λ q later up kind. last.same q (omega arith) (omega arith) kind ∙ sym (last.same stop (omega arith) before kind);
      no_edge = λ q later up. last.no_edge q later (omega arith);
    })
