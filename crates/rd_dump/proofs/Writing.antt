-- Texts that are written piece by piece.
use Rattle.std.proofs.Common.{◌≡◌, ℕ, ◌+◌, ◌≤◌, ◌<◌, List, [], ◌++◌, length, Option, Result, Ok, Err, true≢false, refl, sym, ap, ◌∙◌, subst, arith, drop, get_or}
use Rattle.std.specs.Result.{IsErr}
use Rattle.std.proofs.KnownBytes.{Appends-nil}
use Rattle.std.proofs.lemmas.List.{drop_all, drop_more}
use Rattle.std.specs.List.{flat_map}
use Rattle.rd_io.specs.Devices.{Prints}
use Rattle.rd_io.proofs.Bytes.{Going, front-before, going-by, rose-after, writes-then}

-- a writer that failed, as the answer of the one that called it
pub prints-fail : {T E U F : Type 0} (a b : Option (List ℕ)) (f g : ℕ) (xs : List ℕ) (e : E) (s : Result U F) → Prints {T = T} {E = E} a b f g xs (Err e) → IsErr s → Prints a b f g xs s
prints-fail a b f g xs e (Ok u) p bad = absurd (true≢false (sym bad))
prints-fail a b f g xs e (Err d) p bad = record { bytes = record { whole = tt; front = p.bytes.front }; never_falls = p.never_falls; kept = tt; failed = p.failed }

-- what was to come behind it
pub prints-stop : {U F : Type 0} (a b : Option (List ℕ)) (f g : ℕ) (xs ys : List ℕ) (s : Result U F) → Prints a b f g xs s → IsErr s → Prints a b f g (xs ++ ys) s
prints-stop a b f g xs ys (Ok u) p bad = absurd (true≢false (sym bad))
prints-stop a b f g xs ys (Err d) p bad = record { bytes = record { whole = tt; front = front-before a b xs ys p.bytes.front }; never_falls = p.never_falls; kept = tt; failed = p.failed }

-- a writer that failed, with what was to come behind it, as the answer of the one that called it
pub prints-failed : {T E U F : Type 0} (a b : Option (List ℕ)) (f g : ℕ) (xs ys : List ℕ) (e : E) (s : Result U F) → Prints {T = T} {E = E} a b f g xs (Err e) → IsErr s
    → Prints a b f g (xs ++ ys) s
prints-failed a b f g xs ys e s p bad = prints-stop a b f g xs ys s (prints-fail a b f g xs e s p bad) bad

-- one writer and then another
pub prints-then : {T E U F : Type 0} (a b c : Option (List ℕ)) (f g h : ℕ) (xs ys : List ℕ) (t : T) (s : Result U F)
    → Prints {T = T} {E = E} a b f g xs (Ok t) → Prints b c g h ys s → Prints a c f h (xs ++ ys) s
prints-then a b c f g h xs ys t (Ok u) p q =
    record { bytes = writes-then (Ok u) a b c xs ys p.bytes.whole q.bytes; never_falls = omega (arith, p.never_falls, q.never_falls); kept = q.kept ∙ p.kept; failed = tt }
prints-then a b c f g h xs ys t (Err d) p q =
    record {
      bytes = writes-then (Err d) a b c xs ys p.bytes.whole q.bytes;
      never_falls = omega (arith, p.never_falls, q.never_falls);
      kept = tt;
      failed = rose-after f g h p.never_falls q.failed;
    }

-- the next piece of a text was written
pub going-on : {T E : Type 0} (a b c : Option (List ℕ)) (f g h : ℕ) (all rest piece more : List ℕ) (t : T)
    → Going a b f g all rest → rest ≡ piece ++ more → Prints {T = T} {E = E} b c g h piece (Ok t) → Going a c f h all more
going-on a b c f g h all rest piece more t going e p = going-by a b c f g h all rest piece more going e p.bytes.whole p.kept

-- what is left of a text is written by another call
pub going-last : {U F : Type 0} (a b c : Option (List ℕ)) (f g h : ℕ) (all rest : List ℕ) (s : Result U F)
    → Going a b f g all rest → Prints b c g h rest s → Prints a c f h all s
going-last {U} {F} a b c f g h all rest s going p =
    subst (λ l. Prints a c f h l s) (sym going.split)
    (prints-then {T = Unit {0}} {E = F} a b c f g h going.done rest tt s (record { bytes = record { whole = going.printed; front = tt }; never_falls = omega (arith, going.kept); kept = going.kept; failed = tt }) p)

-- the next piece of a text was not written, so neither is the whole
pub going-stop : {U F : Type 0} (a b c : Option (List ℕ)) (f g h : ℕ) (all rest piece more : List ℕ) (s : Result U F)
    → Going a b f g all rest → rest ≡ piece ++ more → Prints b c g h piece s → IsErr s → Prints a c f h all s
going-stop a b c f g h all rest piece more s going e p bad =
    going-last a b c f g h all rest s going (subst (λ l. Prints b c g h l s) (sym e) (prints-stop b c g h piece more s p bad))

-- the text of what is left of a list, by its next element
pub flat-step : {A : Type 0} (f : A → List ℕ) (xs : List A) (i : ℕ) (d : A) → i < length xs → flat_map f (drop i xs) ≡ f (get_or xs i d) ++ flat_map f (drop (i + 1) xs)
flat-step f xs i d less = ap (flat_map f) (drop_more xs i d less)

-- an element's text was written in a loop over a list
pub going-each : {A T E : Type 0} (f : A → List ℕ) (xs : List A) (i : ℕ) (d x : A) (a b c : Option (List ℕ)) (k l m : ℕ) (all : List ℕ) (t : T)
    → i < length xs → Going a b k l all (flat_map f (drop i xs)) → Prints {T = T} {E = E} b c l m (f x) (Ok t) → x ≡ get_or xs i d → Going a c k m all (flat_map f (drop (i + 1) xs))
going-each {A} {T} {E} f xs i d x a b c k l m all t less going p is =
    going-on a b c k l m all _ (f (get_or xs i d)) _ t going (flat-step f xs i d less) (subst (λ y. Prints {T = T} {E = E} b c l m (f y) (Ok t)) is p)

-- an element's text was not written in a loop over a list, so neither is the whole
pub going-failed : {A T E U F : Type 0} (f : A → List ℕ) (xs : List A) (i : ℕ) (d x : A) (a b c : Option (List ℕ)) (k l m : ℕ) (all : List ℕ) (e : E) (s : Result U F)
    → i < length xs → Going a b k l all (flat_map f (drop i xs)) → Prints {T = T} {E = E} b c l m (f x) (Err e) → IsErr s → x ≡ get_or xs i d → Prints a c k m all s
going-failed f xs i d x a b c k l m all e s less going p bad is =
    going-stop a b c k l m all _ (f (get_or xs i d)) (flat_map f (drop (i + 1) xs)) s going (flat-step f xs i d less)
    (subst (λ y. Prints b c l m (f y) s) is (prints-fail b c l m (f x) e s p bad)) bad

-- the texts of all elements were written in a loop over a list
pub going-done : {A T E : Type 0} (f : A → List ℕ) (xs : List A) (i : ℕ) (a b : Option (List ℕ)) (k l : ℕ) (all : List ℕ) (t : T)
    → length xs ≤ i → Going a b k l all (flat_map f (drop i xs)) → Prints {T = T} {E = E} a b k l all (Ok t)
going-done {A} {T} {E} f xs i a b k l all t past going =
    let rest : flat_map f (drop i xs) ≡ [] = ap (flat_map f) (drop_all i xs past) in
    going-last a b b k l l all _ (Ok t) going
    (subst (λ ys. Prints {T = T} {E = E} b b l l ys (Ok t)) (sym rest) (record { bytes = record { whole = Appends-nil b; front = tt }; never_falls = omega arith; kept = refl; failed = tt }))

-- what is printed may be said in other words
pub prints-as : {T E : Type 0} (a b : Option (List ℕ)) (f g : ℕ) (xs ys : List ℕ) (s : Result T E) → xs ≡ ys → Prints a b f g xs s → Prints a b f g ys s
prints-as a b f g xs ys s e p = subst (λ l. Prints a b f g l s) e p

pub going-start-as : (a : Option (List ℕ)) (f : ℕ) (all rest : List ℕ) → all ≡ rest → Going a a f f all rest
going-start-as a f all rest e = record { done = []; split = e; printed = Appends-nil a; kept = refl }
