-- Two positions of two buffers at which the same is seen.
use Rattle.std.proofs.Common.{◌≡◌, ℕ, ℤ, Bool, true, false, if◌then◌else◌, List, [], ◌∷◌, ◌++◌, reverse, get_or, Option, None, Some, refl, sym, ap, ◌∙◌, arith}
use Rattle.std.specs.Prelude.{nat_lt}
use Rattle.std.specs.List.{Contains}
use Rattle.std.specs.Option.{option_or, option_to_list}
use Rattle.std.proofs.lemmas.List.Elements.{Contains-append_right}
use Rattle.std.proofs.lemmas.List.Sorted.{Contains-permutation, IsPermutation-reverse, IsPermutation-sym}
use Rattle.std.proofs.lemmas.Option.{same_Some}
use Rattle.rd_base.proofs.Choices.{of-choice}
use Rattle.rd_base.specs.Faces.{Attributes, over}
use Rattle.rd_overlays.proofs.Alike as listings
use Rattle.rd_overlays.proofs.Exact.{exact}
use Rattle.rd_overlays.specs.declared.overlay.Overlay.{Overlay}
use Rattle.rd_overlays.specs.declared.overlay.Kind.{Kind}
use Rattle.rd_overlays.specs.declared.overlay.Kind.TheVariants.{Face, Display, Invisible, LinePrefix, WrapPrefix, Before, After}
use Rattle.rd_overlays.specs.Overlays.{overlay_at, place_of, covers, starts, ends, numbers_of, covering, starting, ending}
use Rattle.rd_overlays.specs.Listings.{Passes, listed_priority}
use Rattle.rd_objects.specs.Things.{ObjectLists}
use Rattle.rd_overlays.specs.Values.{last_given}
use Rattle.rd_props.specs.Buffers.{BufferValue}
use Rattle.rd_props.specs.Values.{value_of, overlay_value, effective}
use Rattle.rd_props.specs.Faces.{face_of, laid_over, face_at}
use Rattle.rd_props.specs.Appearance.{appearance_at}
use Rattle.rd_props.specs.Strings.{is_empty, strings_put, strings_put_in, strings_of}
use Rattle.rd_props.specs.declared.strings.StringPlace.{StringPlace}
use Rattle.rd_props.specs.declared.strings.StringPlace.TheVariants.{Closing, Between, Opening}
use Rattle.rd_props.specs.Seen.{accessible_char, Agree}

-- what a position sees of an overlay, wherever it stands
pub record Mark : Type 0 where
  pub priority : ℤ
  pub values : List (Option ℕ)
  pub empty : Bool

abbrev pub mark_of : Overlay → Mark
mark_of o = record { priority = o.priority; values = o.values; empty = is_empty o }

-- what a position sees of an overlay that passes a test
abbrev pub picked : (Overlay → Bool) → Option Overlay → Option Mark
picked test None = None
picked test (Some o) = if test o then Some (mark_of o) else None

-- at each number the same is seen of the overlays of two lists that pass two tests
abbrev pub AreAlike : (Overlay → Bool) → (Overlay → Bool) → List (Option Overlay) → List (Option Overlay) → Type 0
AreAlike f g a b = (number : ℕ) → picked f (overlay_at a number) ≡ picked g (overlay_at b number)

abbrev priority_of : Option Mark → Option ℤ
priority_of None = None
priority_of (Some m) = Some m.priority

priority-picked : (test : Overlay → Bool) (slot : Option Overlay) → listed_priority test slot ≡ priority_of (picked test slot)
priority-picked test None = refl
priority-picked test (Some o) = sym (of-choice priority_of (test o) (Some (mark_of o)) None)

listing-same : (f g : Overlay → Bool) (a b : List (Option Overlay)) → AreAlike f g a b → numbers_of f a ≡ numbers_of g b
listing-same f g a b alike =
    listings.listing-same f g a b (λ n.
    priority-picked f (overlay_at a n) ∙ (ap priority_of (alike n) ∙ sym (priority-picked g (overlay_at b n))))

-- ---- what the overlays of a listing give

abbrev value_by : Kind → Mark → Option ℕ
value_by kind m = get_or m.values (place_of kind) None

abbrev part_by : StringPlace → Mark → List ℕ
part_by Closing m = if m.empty then [] else option_to_list (value_by After m)
part_by Between m = if m.empty then option_to_list (value_by Before m) ++ option_to_list (value_by After m) else []
part_by Opening m = if m.empty then [] else option_to_list (value_by Before m)

part-by : (part : StringPlace) (o : Overlay) → strings_put part o ≡ part_by part (mark_of o)
part-by Closing o = refl
part-by Between o = refl
part-by Opening o = refl

marks-same : (o p : Overlay) (x y : Bool) → x ≡ true → (if x then Some (mark_of o) else None) ≡ (if y then Some (mark_of p) else None) → mark_of o ≡ mark_of p
marks-same o p true true e same = same_Some (mark_of o) (mark_of p) same
marks-same o p true false e same = absurd (cc)
marks-same o p false y e same = absurd (cc)

no-mark : (o : Overlay) (x : Bool) → x ≡ true → (if x then Some (mark_of o) else None) ≡ None → ⊥
no-mark o true e same = absurd (cc)
no-mark o false e same = absurd (cc)

-- an overlay that is listed, and the one that stands at its number in another list
record GivesSame (s t : Option Overlay) : Type 0 where
  value : (kind : Kind) → value_of kind s ≡ value_of kind t
  part : (part : StringPlace) → strings_put_in part s ≡ strings_put_in part t

slots-give : (f g : Overlay → Bool) (s t : Option Overlay) → Passes f s → picked f s ≡ picked g t → GivesSame s t
slots-give f g None t pass same = absurd pass
slots-give f g (Some o) None pass same = absurd (no-mark o (f o) pass same)
slots-give f g (Some o) (Some p) pass same =
    let e : mark_of o ≡ mark_of p = marks-same o p (f o) (g p) pass same in
    record {
      value = λ kind. ap (value_by kind) e;
      part = λ part. part-by part o ∙ (ap (part_by part) e ∙ sym (part-by part p));
    }

-- each overlay of these numbers gives the same in two lists
abbrev GiveSame : List (Option Overlay) → List (Option Overlay) → List ℕ → Type 0
GiveSame a b numbers = (n : ℕ) → Contains numbers n → GivesSame (overlay_at a n) (overlay_at b n)

listing-gives : (f g : Overlay → Bool) (a b : List (Option Overlay)) → AreAlike f g a b → GiveSame a b (numbers_of f a)
listing-gives f g a b alike n member = slots-give f g (overlay_at a n) (overlay_at b n) ((exact f a n).0 member) (alike n)

first-contained : (n : ℕ) (ns : List ℕ) → Contains (n ∷ ns) n
first-contained n ns = (0, omega arith, refl)

-- ---- values, faces and strings

-- what is made of a listing from the front or the back is the same where what each of its numbers gives is
each-same : {X : Type 0} (P : ℕ → Type 0) (f g : List ℕ → X) → f [] ≡ g [] → ((n : ℕ) (ns : List ℕ) → P n → f ns ≡ g ns → f (n ∷ ns) ≡ g (n ∷ ns))
    → (ns : List ℕ) → ((n : ℕ) → Contains ns n → P n) → f ns ≡ g ns
each-same P f g none more [] same = none
each-same P f g none more (n ∷ ns) same = more n ns (same n (first-contained n ns)) (each-same P f g none more ns (λ m h. same m (Contains-append_right (n ∷ []) ns m h)))

pub laid-by : (o p : ObjectLists) (a b : List (Option Overlay)) (ns : List ℕ) (face : Attributes)
    → ((n : ℕ) → Contains ns n → face_of o (value_of Face (overlay_at a n)) ≡ face_of p (value_of Face (overlay_at b n)))
    → laid_over o a ns face ≡ laid_over p b ns face
laid-by o p a b ns face same =
    let P : ℕ → Type 0 = λ n. face_of o (value_of Face (overlay_at a n)) ≡ face_of p (value_of Face (overlay_at b n)) in
    ap (λ (laid : Attributes → Attributes). laid face) (each-same P (laid_over o a) (laid_over p b) refl (λ n ns here rest i face. rest i (over (here i) face)) ns same)

module _ (a b : List (Option Overlay)) where
  abbrev GivesSameAt : ℕ → Type 0
  GivesSameAt n = GivesSame (overlay_at a n) (overlay_at b n)

  last-same : (kind : Kind) (ns : List ℕ) → GiveSame a b ns → last_given (overlay_value a kind) ns ≡ last_given (overlay_value b kind) ns
  last-same kind =
      each-same GivesSameAt (last_given (overlay_value a kind)) (last_given (overlay_value b kind)) refl (λ n ns here rest i. option_or (rest i) (here.value kind i))

  strings-same : (part : StringPlace) (ns : List ℕ) → GiveSame a b ns → strings_of part a ns ≡ strings_of part b ns
  strings-same part = each-same GivesSameAt (strings_of part a) (strings_of part b) refl (λ n ns here rest i. here.part part i ++ rest i)

-- what two positions of two lists of overlays see of them is the same
pub record SeeSame (x y : ℕ) (a b : List (Option Overlay)) : Type 0 where
  pub covers : AreAlike (covers x) (covers y) a b
  pub starts : AreAlike (starts x) (starts y) a b
  pub ends : AreAlike (ends x) (ends y) a b

module _ (x y : ℕ) (a b : List (Option Overlay)) (see : SeeSame x y a b) where
  covering-same : covering x a ≡ covering y b
  covering-same = listing-same (covers x) (covers y) a b see.covers

  covering-gives : GiveSame a b (covering x a)
  covering-gives = listing-gives (covers x) (covers y) a b see.covers

  pub lasts-agree : (kind : Kind) → last_given (overlay_value a kind) (covering x a) ≡ last_given (overlay_value b kind) (covering y b)
  lasts-agree kind = last-same a b kind (covering x a) covering-gives ∙ ap (last_given (overlay_value b kind)) covering-same

  pub faces-agree : (objects : ObjectLists) (face : Attributes) → laid_over objects a (covering x a) face ≡ laid_over objects b (covering y b) face
  faces-agree objects face =
      laid-by objects objects a b (covering x a) face (λ n h. ap (face_of objects) ((covering-gives n h).value Face)) ∙ ap (λ (ns : List ℕ). laid_over objects b ns face) covering-same

  starts-agree : (part : StringPlace) → strings_of part a (starting x a) ≡ strings_of part b (starting y b)
  starts-agree part =
      strings-same a b part (starting x a) (listing-gives (starts x) (starts y) a b see.starts)
      ∙ ap (strings_of part b) (listing-same (starts x) (starts y) a b see.starts)

  ends-agree : (part : StringPlace) → strings_of part a (reverse (ending x a)) ≡ strings_of part b (reverse (ending y b))
  ends-agree part =
      let ns = ending x a in
      let turned = IsPermutation-sym ns (reverse ns) (IsPermutation-reverse ns) in
      let gives = listing-gives (ends x) (ends y) a b see.ends in
      strings-same a b part (reverse ns) (λ n h. gives n (Contains-permutation (reverse ns) ns n turned h))
      ∙ ap (λ (ns : List ℕ). strings_of part b (reverse ns)) (listing-same (ends x) (ends y) a b see.ends)

  pub strings-agree : (closing between opening : List ℕ)
      → closing ≡ strings_of Closing a (reverse (ending x a)) → between ≡ strings_of Between a (starting x a) → opening ≡ strings_of Opening a (starting x a)
      → closing ++ between ++ opening ≡ strings_of Closing b (reverse (ending y b)) ++ strings_of Between b (starting y b) ++ strings_of Opening b (starting y b)
  strings-agree closing between opening c m o =
      let first = c ∙ ends-agree Closing in
      let second = m ∙ starts-agree Between in
      let third = o ∙ starts-agree Opening in
      rw (first, second, third)

-- ---- all that is seen

-- the text and the text properties are the same at two positions
pub record ReadSame (s : BufferValue) (x : ℕ) (t : BufferValue) (y : ℕ) : Type 0 where
  pub character : accessible_char s.text x ≡ accessible_char t.text y
  pub inside : nat_lt x s.text.end ≡ nat_lt y t.text.end
  pub properties : (kind : ℕ) → s.properties kind x ≡ t.properties kind y

-- two positions look alike at which the text properties are the same, and what the covering overlays give
pub appearance-by : (s t : BufferValue) (x y : ℕ) (objects : ObjectLists) → nat_lt x s.text.end ≡ nat_lt y t.text.end
    → ((kind : ℕ) → s.properties kind x ≡ t.properties kind y)
    → ((kind : Kind) → last_given (overlay_value s.overlays kind) (covering x s.overlays)
    ≡ last_given (overlay_value t.overlays kind) (covering y t.overlays))
    → ((face : Attributes) → laid_over objects s.overlays (covering x s.overlays) face
    ≡ laid_over objects t.overlays (covering y t.overlays) face)
    → appearance_at s objects x ≡ appearance_at t objects y
appearance-by s t x y objects inside own last laid =
    let value : (kind : Kind) → effective s x kind ≡ effective t y kind = λ kind.
    let here = own (place_of kind) in let given = last kind in rw (inside, here, given) in
    let face : face_at s objects x ≡ face_at t objects y =
    let here = own (place_of Face) in let given = laid (face_of objects (t.properties (place_of Face) y)) in rw (inside, here, given) in
    λ i. record {
      display = value Display i;
      invisible = value Invisible i;
      line_prefix = value LinePrefix i;
      wrap_prefix = value WrapPrefix i;
      face = face i;
    }

module _ (s t : BufferValue) (x y : ℕ) (read : ReadSame s x t y) (see : SeeSame x y s.overlays t.overlays) where
  pub seen-agrees : (objects : ObjectLists) → Agree s objects x t objects y
  seen-agrees objects =
      let strings = strings-agree x y s.overlays t.overlays see (strings_of Closing s.overlays (reverse (ending x s.overlays)))
      (strings_of Between s.overlays (starting x s.overlays)) (strings_of Opening s.overlays (starting x s.overlays)) refl refl refl in
      let appearance = appearance-by s t x y objects read.inside read.properties (lasts-agree x y s.overlays t.overlays see)
      (faces-agree x y s.overlays t.overlays see objects) in
      λ i. record { character = read.character i; appearance = appearance i; strings = strings i }
