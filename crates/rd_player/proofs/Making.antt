-- A run over the lines of a generated script.
use Rattle.std.proofs.Common.{◌≡◌, ℕ, ◌+◌, ◌<◌, ◌≤◌, false, List, [], ◌∷◌, ◌++◌, get_or, length, take, Option, Some, Ok, Err, refl, sym, ap, ◌∙◌, subst, arith}
use Rattle.std.proofs.Math.Seq.{take-length}
use Rattle.std.proofs.lemmas.List.{length-take-le, take_more}
use Rattle.rd_generate.specs.Generated.{hundreds, script, shown}
use Rattle.rd_run.specs.Ends.{AreAll, AreFirstOf, AreScript, Drawn, IsGivenUp, Sunk, drawn, lines_in, summary, sunk}
use Rattle.rd_run.specs.Given.{Given, IsMode, NoneFailed}
use Rattle.rd_run.specs.Runs.{Input, Mode, Standing, effect, opened, input_of}
use Rattle.rd_run.specs.declared.status.Status.TheVariants as statuses
use Rattle.rd_run.proofs.Inputs.{lines-length, lines-push}
use Rattle.rd_player.specs.Acts.{Acts, Places, halted_by, summary_of}
use Rattle.rd_player.specs.declared.halt.Halt.{Halt}
use Rattle.rd_player.specs.declared.halt.Ending.{Ending}
use Rattle.rd_player.specs.declared.halt.Ending.TheVariants as endings
use Rattle.rd_player.specs.declared.halt.Summary.{Summary}
use Rattle.rd_player.proofs.Running.{HasRun, Halts, all-ran, halts-at, has-begun, has-run, took-none}

-- so many lines of the script were run
pub record IsMaking (mode : Mode) (inputs : List Input) (lines : List (List ℕ)) (i : ℕ) (place : Standing) (screen report : Sunk) (c0 c1 : ℕ) : Type 0 where
  pub made : lines_in inputs ≡ take i lines
  pub ran : HasRun mode inputs place screen report c0 c1

abbrev pub Making : Mode → List (List ℕ) → ℕ → Standing → Sunk → Sunk → ℕ → ℕ → Type 0
Making mode lines i place screen report c0 c1 = (inputs : List Input) × IsMaking mode inputs lines i place screen report c0 c1

-- the script is short
pub script-length : (number : ℕ) → length (script number) ≡ 605
unfolding shown hundreds
script-length number = refl

-- the run begins
pub begun : (mode : Mode) (lines : List (List ℕ)) (place : Standing) (s p : Option (List ℕ)) (m n c : ℕ) → place ≡ (opened mode).now → Making mode lines 0 place (sunk s s m m) (sunk p p n n) c c
begun mode lines place s p m n c e = ([], record { made = refl; ran = has-begun mode place s p m n c e })

-- the line in hand is the next one
next-line : (lines : List (List ℕ)) (i : ℕ) (line other : List ℕ) (front : List (List ℕ)) → i < length lines → front ≡ take i lines → line ≡ get_or lines i other → front ++ line ∷ [] ≡ take (i + 1) lines
next-line lines i line other front within e at = ap (λ f. f ++ line ∷ []) e ∙ ap (λ x. take i lines ++ x ∷ []) at ∙ sym (take_more lines i other within)

-- one more line was run
pub made-line : (mode : Mode) (lines : List (List ℕ)) (i : ℕ) (line other : List ℕ) (place next : Standing) (s0 s1 s2 p0 p1 p2 : Option (List ℕ)) (m0 m1 m2 n0 n1 n2 c0 c1 c2 : ℕ)
    → i < length lines → line ≡ get_or lines i other → Making mode lines i place (sunk s0 s1 m0 m1) (sunk p0 p1 n0 n1) c0 c1
    → Acts (Ok tt) (λ starved. effect place (input_of line starved)) next (sunk s1 s2 m1 m2) (sunk p1 p2 n1 n2) → Places (Ok tt) (effect place (input_of line false)) c1 c2
    → Making mode lines (i + 1) next (sunk s0 s2 m0 m2) (sunk p0 p2 n0 n2) c0 c2
made-line mode lines i line other place next s0 s1 s2 p0 p1 p2 m0 m1 m2 n0 n1 n2 c0 c1 c2 within at h a places =
    let t = input_of line a.0 in (
      h.0 ++ t ∷ [],
      record {
        made = lines-push h.0 t ∙ next-line lines i line other (lines_in h.0) within h.1.made at;
        ran = has-run mode h.0 line place next s0 s1 s2 p0 p1 p2 m0 m1 m2 n0 n1 n2 c0 c1 c2 h.1.ran a places;
      },
    )

front-of : (lines front : List (List ℕ)) (i : ℕ) → i ≤ length lines → front ≡ take i lines → front ≡ take (length front) lines
front-of lines front i within e = e ∙ ap (λ k. take k lines) (sym (ap length e ∙ length-take-le i lines within))

-- the lines in hand are the first ones
first-of : (number : ℕ) (lines front : List (List ℕ)) (i : ℕ) → lines ≡ script number → i ≤ length lines → front ≡ take i lines → AreFirstOf number front []
first-of number lines front i is within h = (front-of lines front i within h ∙ ap (λ ls. take (length front) ls) is, refl)

are-first : (o : Option ℕ) (number : ℕ) (lines front : List (List ℕ)) (i : ℕ) (left : Option (List ℕ)) → o ≡ Some number → lines ≡ script number → i ≤ length lines → front ≡ take i lines → AreScript o front [] left
are-first o number lines front i left e is within h = subst (λ x. AreScript x front [] left) (sym e) (first-of number lines front i is within h)

is-given-up : (o : Option ℕ) (number : ℕ) (lines : List (List ℕ)) (inputs : List Input) (i : ℕ) → o ≡ Some number → lines ≡ script number → i < length lines → lines_in inputs ≡ take i lines → IsGivenUp o inputs []
is-given-up o number lines inputs i e is within h =
    let count : length (lines_in inputs) ≡ i = ap length h ∙ length-take-le i lines (omega arith) in
    let less : length inputs < length (script number) = omega (arith, count, within, lines-length inputs, ap length is) in
    subst (λ x. IsGivenUp x inputs []) (sym e) (first-of number lines (lines_in inputs) i is (omega arith) h, less)

-- the run halts at a line
pub makes-halt : (given : Given) (mode : Mode) (number : ℕ) (lines : List (List ℕ)) (i : ℕ) (line other : List ℕ) (left : Option (List ℕ)) (q : ℕ) (halt : Halt) (place next : Standing) (s0 s1 s2 p0 p1 p2 : Option (List ℕ))
    (m0 m1 m2 n0 n1 n2 c0 c1 c2 : ℕ) → IsMode given mode → NoneFailed given → mode.generated ≡ Some number → lines ≡ script number → i < length lines → line ≡ get_or lines i other
    → Making mode lines i place (sunk s0 s1 m0 m1) (sunk p0 p1 n0 n1) c0 c1
    → Acts (Err halt) (λ starved. effect place (input_of line starved)) next (sunk s1 s2 m1 m2) (sunk p1 p2 n1 n2) → Places (Err halt) (effect place (input_of line false)) c1 c2
    → Halts (halted_by halt place.lines) given mode [] (drawn left q q) (sunk s0 s2 m0 m2) (sunk p0 p2 n0 n2) c0 c2
makes-halt given mode number lines i line other left q halt place next s0 s1 s2 p0 p1 p2 m0 m1 m2 n0 n1 n2 c0 c1 c2 begun none made is within at h a places =
    let next_within : i + 1 ≤ length lines = omega arith in
    halts-at given mode h.0 line [] left q q halt place next s0 s1 s2 p0 p1 p2 m0 m1 m2 n0 n1 n2 c0 c1 c2 begun (none, refl) h.1.ran
    (are-first mode.generated number lines (lines_in h.0 ++ line ∷ []) (i + 1) left made is next_within (next-line lines i line other (lines_in h.0) within h.1.made at))
    (is-given-up mode.generated number lines h.0 i made is within h.1.made) a places

pub halts-as : (s t : Ending) (given : Given) (mode : Mode) (source : Drawn) (screen report : Sunk) (c0 c1 : ℕ) → s ≡ t → Halts t given mode [] source screen report c0 c1
    → Halts s given mode [] source screen report c0 c1
halts-as s t given mode source screen report c0 c1 e h = subst (λ x. Halts x given mode [] source screen report c0 c1) (sym e) h

-- no memory for the script
pub no-memory : (given : Given) (mode : Mode) (number : ℕ) (left s p : Option (List ℕ)) (q m n c : ℕ) → IsMode given mode → NoneFailed given → mode.generated ≡ Some number
    → Halts (endings.Ends statuses.NoMemory 0) given mode [] (drawn left q q) (sunk s s m m) (sunk p p n n) c c
no-memory given mode number left s p q m n c begun none made =
    let same : c ≤ c + 0 = omega arith in
    let some : 0 < length (script number) = omega (arith, script-length number) in
    let taken : IsGivenUp mode.generated [] [] = subst (λ x. IsGivenUp x [] []) (sym made) ((refl, refl), some) in
    ([], record { comes = (begun, (refl, taken)); calm = (none, refl); line = refl; sent = took-none s m; told = took-none p n; spent = same })

-- all lines were run
pub makes-done : (given : Given) (mode : Mode) (number : ℕ) (lines : List (List ℕ)) (i : ℕ) (left : Option (List ℕ)) (q : ℕ) (s : Summary) (place : Standing) (screen report : Sunk) (c0 c1 : ℕ)
    → IsMode given mode → NoneFailed given → mode.generated ≡ Some number → lines ≡ script number → i ≡ length lines → Making mode lines i place screen report c0 c1 → summary_of s ≡ summary place
    → Halts (endings.Sums s) given mode [] (drawn left q q) screen report c0 c1
makes-done given mode number lines i left q s place screen report c0 c1 begun none made is over h told =
    let all : AreAll (Some number) h.0 [] left = (h.1.made ∙ ap (λ n. take n lines) over ∙ take-length lines ∙ is, refl) in
    (h.0, all-ran given mode (Some number) h.0 [] (drawn left q q) place screen report c0 c1 (summary_of s) begun (none, refl) made h.1.ran all (sym told))
