-- What follows from a test, from an option, from a result, of the one of two that is chosen, and from where a number stands to a range.
use Rattle.std.proofs.Common.{◌≡◌, ◌≢◌, ℕ, ◌<◌, ◌≤◌, ◌⊎◌, inl, inr, Bool, true, false, not, ◌||◌, if◌then◌else◌, Option, None, Some, option_and_then, Result, Ok, Err, IfSome, is_some, refl, sym, subst, ap, ◌∙◌, arith}
use Rattle.std.specs.Option.{option_map, option_or, unwrap_or}
use Rattle.std.proofs.Math.Bool.{not-not}
use Rattle.std.proofs.lemmas.Bool.{cases_lt}
use Rattle.std.proofs.lemmas.Option.{none-some, cond_some}

-- ---- tests

pub opposite : (a b : Bool) → a ≡ not b → b ≡ not a
opposite a b e = sym (ap not e ∙ not-not b)

-- of two tests of which one holds, the second does where the first does not
pub second-holds : (a b : Bool) → a ≡ false → (a || b) ≡ true → b ≡ true
second-holds a b fails holds = sym (ap (λ t. t || b) fails) ∙ holds

-- a test as a number
pub one-at-most : (b : Bool) → (if b then 1 else 0) ≤ 1
one-at-most true = omega arith
one-at-most false = omega arith

-- ---- choices

-- what holds of two things holds of the one that is chosen
pub either : {X : Type 0} (P : X → Type 0) (b : Bool) (x y : X) → P x → P y → P (if b then x else y)
either P true x y h k = h
either P false x y h k = k

-- what a function makes of a choice
pub of-choice : {X Y : Type 0} (f : X → Y) (b : Bool) (x y : X) → f (if b then x else y) ≡ (if b then f x else f y)
of-choice f true x y = refl
of-choice f false x y = refl

-- where nothing was chosen, the test failed and nothing was left
pub none-chosen : {X : Type 0} (b : Bool) (x : X) (rest : Option X) → (if b then Some x else rest) ≡ None → (b ≡ false) × (rest ≡ None)
none-chosen true x rest none = absurd (none-some x (sym none))
none-chosen false x rest none = (refl, none)

-- a number stands before a range, in it or behind it
pub by-range : {P : Type 0} (from to p : ℕ) → (p < from → P) → (from ≤ p → p < to → P) → (from ≤ p → to ≤ p → P) → P
by-range from to p low here high = elim (cases_lt p from) [
  | inl l ↦ low l
  | inr l ↦ elim (cases_lt p to) [ inl m ↦ here l m | inr m ↦ high l m ]
]

-- ---- options

pub some-of : {X : Type 0} (o : Option X) → is_some o ≡ true → (x : X) × (o ≡ Some x)
some-of None e = absurd (cc)
some-of (Some x) e = (x, refl)

pub if-value : {X : Type 0} (P : X → Type 0) (o : Option X) → ((x : X) → o ≡ Some x → P x) → IfSome o P
if-value P None all = tt
if-value P (Some x) all = all x refl

-- what holds of what stands there holds of the first of two, and of that or what is taken where there is none
pub if-or : {X : Type 0} (P : X → Type 0) (o p : Option X) → IfSome o P → IfSome p P → IfSome (option_or o p) P
if-or P None p these those = those
if-or P (Some x) p these those = these

pub if-else : {X : Type 0} (P : X → Type 0) (o : Option X) (d : X) → IfSome o P → P d → P (unwrap_or o d)
if-else P None d these that = that
if-else P (Some x) d these that = these

pub or-some : {X : Type 0} (o p : Option X) (x : X) → option_or o p ≡ Some x → (o ≡ Some x) ⊎ ((o ≡ None) × (p ≡ Some x))
or-some None p x e = inr (refl, e)
or-some (Some y) p x e = inl e

pub map-some : {X Y : Type 0} (f : X → Y) (o : Option X) (y : Y) → option_map f o ≡ Some y → (x : X) × (o ≡ Some x) × (f x ≡ y)
map-some f None y e = absurd (none-some y e)
map-some f (Some x) y e = (x, refl, cc)

-- an option that has nothing is None
pub none-of : {X : Type 0} (o : Option X) → is_some o ≡ false → o ≡ None
none-of None e = refl
none-of (Some x) e = absurd (cc)

pub none-both : {X : Type 0} (o p : Option X) → option_or o p ≡ None → (o ≡ None) × (p ≡ None)
none-both None p e = (refl, e)
none-both (Some x) p e = absurd (none-some x (sym e))

-- the first of two options, where it has something
pub or-first : {X : Type 0} (o p : Option X) → is_some o ≡ true → option_or o p ≡ o
or-first None p e = absurd (cc)
or-first (Some x) p e = refl

-- an option of an option that is read, with none where there is none, has the value of both
pub read-some : {X : Type 0} (o : Option (Option X)) (x : X) → unwrap_or o None ≡ Some x → o ≡ Some (Some x)
read-some None x h = absurd (none-some x h)
read-some (Some o) x h = ap Some h

-- what a function makes of an option, which has a value where the option has one
pub some-mapped : {X Y : Type 0} (f : X → Y) (o : Option X) → is_some (option_map f o) ≡ is_some o
some-mapped f None = refl
some-mapped f (Some x) = refl

pub map-or : {X Y : Type 0} (f : X → Y) (o p : Option X) → option_map f (option_or o p) ≡ option_or (option_map f o) (option_map f p)
map-or f None p = refl
map-or f (Some x) p = refl

-- a value that is kept where it passes a test has passed it
pub kept-some : {X : Type 0} (test : X → Bool) (o : Option X) (x : X) → option_and_then (λ y. if test y then Some y else None) o ≡ Some x → test x ≡ true
kept-some test None x e = absurd (none-some x e)
kept-some test (Some y) x e = let h = cond_some (test y) y x e in subst (λ z. test z ≡ true) h.1 h.0

-- ---- results

-- a test that refuses what fails
pub if-ok : {A E : Type 0} (t : Bool) (r : Result A E) (e : E) (x : A) → (if t then r else Err e) ≡ Ok x → (t ≡ true) × (r ≡ Ok x)
if-ok true r e x h = (refl, h)
if-ok false r e x h = absurd (cc)

-- a test, and one that refuses what passes, before something is made
pub ok-unless : {A E : Type 0} (t u : Bool) (made : A) (e f : E) (x : A) → (if t then (if u then Err e else Ok made) else Err f) ≡ Ok x → (t ≡ true) × (u ≡ false) × (made ≡ x)
ok-unless true false made e f x h = (refl, refl, cc)
ok-unless true true made e f x h = absurd (cc)
ok-unless false u made e f x h = absurd (cc)

-- tests before something is made
pub made-ok : {A E : Type 0} (t : Bool) (made : A) (e : E) (x : A) → (if t then Ok made else Err e) ≡ Ok x → (t ≡ true) × (made ≡ x)
made-ok true made e x h = (refl, cc)
made-ok false made e x h = absurd (cc)

pub both-ok : {A E : Type 0} (t u : Bool) (made : A) (e f : E) (x : A) → (if t then (if u then Ok made else Err e) else Err f) ≡ Ok x → (t ≡ true) × (u ≡ true) × (made ≡ x)
both-ok t u made e f x h =
    let first = if-ok t (if u then Ok made else Err e) f x h in
    let second = made-ok u made e x first.1 in
    (first.0, second.0, second.1)

-- what is said is not this fault, as neither a value nor another fault is
abbrev pub IsFreeOf : {T F : Type 0} → F → Result T F → Type 0
IsFreeOf fault r = r ≢ Err fault

pub ok-free : {T F : Type 0} {fault : F} (x : T) → IsFreeOf fault (Ok x)
ok-free x = λ e. cc

pub no-free : {T F : Type 0} {fault : F} (other : F) → other ≢ fault → IsFreeOf {T = T} fault (Err other)
no-free other h = λ e. h (cc)

-- a part that goes on from an answer, and hands faults on
pub goes-on-free : {A B F : Type 0} {fault : F} (part : Result A F → Result B F) (r : Result A F)
    → ((e : F) → part (Err e) ≡ Err e) → ((a : A) → r ≡ Ok a → IsFreeOf fault (part (Ok a))) → IsFreeOf fault r → IsFreeOf fault (part r)
goes-on-free part (Err other) same made h = let on = same other in λ e. h (cc)
goes-on-free part (Ok a) same made h = made a refl
