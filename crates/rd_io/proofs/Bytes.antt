-- Counts and known bytes of sources, sinks and files.
use Rattle.std.proofs.Common.{◌≡◌, ℕ, ◌+◌, ◌-◌, ◌<◌, ◌≤◌, inl, inr, List, [], ◌++◌, length, take, drop, Option, None, Some, sym, ap, ◌∙◌, subst, append_assoc, arith, length-append}
use Rattle.std.specs.Io.KnownBytes.{Appends, Keeps}
use Rattle.std.proofs.KnownBytes.{Appends-trans, Appends-kept}
use Rattle.std.specs.Prelude.{slice_range}
use Rattle.std.proofs.lemmas.List.{length-take, take-append-le}
use Rattle.std.proofs.Common.{IfSome, Result, Ok, Err, take-append-drop}
use Rattle.std.proofs.Math.Seq.{take-append_seam, take-append-add, drop-append_seam}
use Rattle.rd_base.proofs.Lists.{range-from}
use Rattle.rd_base.specs.declared.limits.TheConstants.{FILE_BYTES}
use Rattle.rd_io.specs.Devices.{Rose, AppendsFront, Fetches, Writes}

-- a call that failed after others did so for the whole
pub rose-after : (a b c : ℕ) → a ≤ b → Rose b c → Rose a c
rose-after a b c p (inl q) = inl (omega arith)
rose-after a b c p (inr q) = inr q

-- what is left of a range when its first n elements are used up
pub range-skipped : (xs : List ℕ) (from to n : ℕ) (ys : List ℕ) → to ≤ length xs → slice_range xs from to ≡ ys → n ≤ length ys → slice_range xs (from + n) to ≡ drop n ys
range-skipped xs from to n ys bound is p =
    let size : length ys ≤ to - from = rw (← is) (omega (arith, length-take {A = ℕ})) in
    range-from xs from n to (omega (arith, size, p)) ∙ ap (drop n) is

-- a write that failed leaves a front
pub front-stopped : (a b c : Option (List ℕ)) (bytes front rest : List ℕ) → bytes ≡ front ++ rest → 0 < length rest → Appends a b front → Keeps b c → AppendsFront a c bytes
front-stopped a b c bytes front rest e some p q =
    let here : take (length front) bytes ≡ front = ap (take (length front)) e ∙ take-append_seam front rest in
    (length front, omega (arith, ap length e, length-append front rest), subst (Appends a c) (sym here) (Appends-kept a b c front p q))

-- a front of some bytes is one of more
pub front-before : (a b : Option (List ℕ)) (xs ys : List ℕ) → AppendsFront a b xs → AppendsFront a b (xs ++ ys)
front-before a b xs ys front =
    let n = front.0 in
    let within : n ≤ length xs = omega (arith, front.1) in
    (n, omega (arith, front.1, length-append xs ys), subst (Appends a b) (sym (take-append-le n xs ys within)) front.2)

-- bytes were written, and then a front of others
front-after : (a b c : Option (List ℕ)) (xs ys : List ℕ) → Appends a b xs → AppendsFront b c ys → AppendsFront a c (xs ++ ys)
front-after a b c xs ys p front =
    let n = front.0 in
    (length xs + n, omega (arith, front.1, length-append xs ys), subst (Appends a c) (sym (take-append-add xs ys n)) (Appends-trans a b c xs (take n ys) p front.2))

-- bytes were written, and then others, whole or in front
pub writes-then : {T E : Type 0} (r : Result T E) (a b c : Option (List ℕ)) (front back : List ℕ) → Appends a b front → Writes b c back r → Writes a c (front ++ back) r
writes-then (Ok x) a b c front back p q = record { whole = Appends-trans a b c front back p q.whole; front = tt }
writes-then (Err x) a b c front back p q = record { whole = tt; front = front-after a b c front back p q.front }

-- a text of which a front was written, and what is left
pub record Going (a b : Option (List ℕ)) (f g : ℕ) (all rest : List ℕ) : Type 0 where
  pub done : List ℕ
  pub split : all ≡ done ++ rest
  pub printed : Appends a b done
  pub kept : g ≡ f

-- the next piece was written
pub going-by : (a b c : Option (List ℕ)) (f g h : ℕ) (all rest piece more : List ℕ) → Going a b f g all rest → rest ≡ piece ++ more → Appends b c piece → h ≡ g
    → Going a c f h all more
going-by a b c f g h all rest piece more going e p same = record {
  done = going.done ++ piece;
  split = going.split ∙ ap (λ l. going.done ++ l) e ∙ sym (append_assoc going.done piece more);
  printed = Appends-trans a b c going.done piece going.printed p;
  kept = same ∙ going.kept;
}

-- these bytes are a front of the file, where its bytes are known
abbrev pub IsFront : List ℕ → Option (List ℕ) → Type 0
IsFront bytes told = IfSome told (λ file. (rest : List ℕ) × (file ≡ bytes ++ rest))

-- a front of a file grows by what is fetched behind it
pub front-grows : (told : Option (List ℕ)) (bytes new buffer : List ℕ) (from n : ℕ) → from ≡ length bytes → IfSome told (λ file. take n buffer ≡ take n (drop from file))
    → new ≡ bytes ++ take n buffer → IsFront bytes told → IsFront new told
front-grows None bytes new buffer from n at fetched put front = tt
front-grows (Some file) bytes new buffer from n at fetched put front =
    let rest = front.0 in
    let behind : drop from file ≡ rest = ap (λ k. drop k file) at ∙ ap (drop (length bytes)) front.1 ∙ drop-append_seam bytes rest in
    let added : take n buffer ≡ take n rest = fetched ∙ ap (take n) behind in
    let whole : bytes ++ rest ≡ new ++ drop n rest =
    ap (λ l. bytes ++ l) (sym (take-append-drop n rest) ∙ ap (λ l. l ++ drop n rest) (sym added)) ∙ sym (append_assoc bytes (take n buffer) (drop n rest)) ∙ ap (λ l. l ++ drop n rest) (sym put) in
    (drop n rest, front.1 ∙ whole)

-- what a fetch from a file of known bytes gave
pub fetched-told : (E : Type 0) (told : Option (List ℕ)) (from n : ℕ) (buffer : List ℕ) → Fetches {E = E} told from (Ok n) buffer → IfSome told (λ file. take n buffer ≡ take n (drop from file))
fetched-told E None from n buffer h = tt
fetched-told E (Some file) from n buffer h = h.0

-- no byte is a front of each file
pub front-begins : (told : Option (List ℕ)) (bytes : List ℕ) → bytes ≡ [] → IsFront bytes told
front-begins None bytes e = tt
front-begins (Some file) bytes e = (file, ap (λ l. l ++ file) (sym e))

pub none-fits : (bytes : List ℕ) → bytes ≡ [] → length bytes ≤ FILE_BYTES
none-fits bytes e = omega (arith, ap length e)
