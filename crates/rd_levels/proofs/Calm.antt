-- The weak rules (W1 to W7), N0, and the neutral rules (N1, N2) over a sequence at level 0 without anything that is read from the right.
use Rattle.std.proofs.Common.{◌≡◌, ℕ, zero, suc, ◌-◌, Bool, true, false, ◌||◌, List, [], ◌∷◌, length, take, drop, set, replicate, Option, None, Some, IfSome, refl, sym, ap, ap₂, subst, ◌∙◌}
use Rattle.std.specs.List.{AllByRecursion as Each}
use Rattle.std.specs.Prelude.{slice_range, if◌then◌else◌}
use Rattle.std.proofs.lemmas.List.{length-set}
use Rattle.rd_base.proofs.Choices.{either, if-else}
use Rattle.rd_base.proofs.Lists.{each-take, each-drop}
use Rattle.rd_base.specs.declared.class.Class.{Class}
use Rattle.rd_base.specs.declared.class.Class.TheVariants.{L, R, AL, BN, EN, ES, ET, AN, CS, NSM, B, S, WS, ON, LRI, RLI, FSI, PDI}
use Rattle.rd_ucd.specs.declared.spans.BracketEntry.{BracketEntry}
use Rattle.rd_resolve.specs.Weak.{w1_nonspacing_marks, w1, strong_after, w2, w3_arabic_letters, w3, w4_separators, w4_first_type, w4, w5_is_en, w5_comes_en, w5_terminators, w5, w6_remaining_separators, w6, w7_latin_numbers, w7, weak_types}
use Rattle.rd_resolve.specs.Neutral.{n1_following, n1_surrounding_direction, n1, n2, neutral_types}
use Rattle.rd_brackets.specs.Pairs.{roles, bd16_pairs_of, closings}
use Rattle.rd_brackets.specs.Sides as sides
use Rattle.rd_levels.specs.Levels.{is_leveled}

-- what such a sequence begins with: X9 took out what has no place in a sequence
abbrev pub is_item : Class → Bool
is_item BN = false
is_item c = is_leveled c

-- the classes that such a sequence can have after W1
abbrev pub is_plain : Class → Bool
is_plain NSM = false
is_plain c = is_item c

-- the classes that it can have after W6
abbrev pub is_few : Class → Bool
is_few ES = false
is_few ET = false
is_few CS = false
is_few c = is_plain c

-- the classes that it can have after W7
abbrev pub is_calm : Class → Bool
is_calm EN = false
is_calm c = is_few c

abbrev pub IsItem : Class → Type 0
IsItem c = is_item c ≡ true

abbrev pub IsPlain : Class → Type 0
IsPlain c = is_plain c ≡ true

abbrev pub IsFew : Class → Type 0
IsFew c = is_few c ≡ true

abbrev pub IsCalm : Class → Type 0
IsCalm c = is_calm c ≡ true

-- as many types as there were, each of which has a property
abbrev pub Stay : (Class → Type 0) → List Class → List Class → Type 0
Stay P old new = (length new ≡ length old) × Each P new

w1_nonspacing_marks-plain : (before c : Class) → IsPlain before → IsItem c → IsPlain (w1_nonspacing_marks before c)
w1_nonspacing_marks-plain LRI NSM p q = absurd (cc)
w1_nonspacing_marks-plain RLI NSM p q = absurd (cc)
w1_nonspacing_marks-plain FSI NSM p q = absurd (cc)
w1_nonspacing_marks-plain PDI NSM p q = absurd (cc)
w1_nonspacing_marks-plain before NSM p q = p
w1_nonspacing_marks-plain before c p q = q

w1-plain : (before : Class) (cs : List Class) → IsPlain before → Each IsItem cs → Stay IsPlain cs (w1 before cs)
w1-plain before [] p qs = (refl, tt)
w1-plain before (c ∷ cs) p qs =
    let m = w1_nonspacing_marks-plain before c p qs.0 in
    let rest = w1-plain (w1_nonspacing_marks before c) cs m qs.1 in
    (ap (λ n. suc n) rest.0, (m, rest.1))

strong-plain : (c : Class) → IsPlain c → strong_after L c ≡ L
strong-plain R p = absurd (cc)
strong-plain AL p = absurd (cc)
strong-plain c p = refl

w2-same : (cs : List Class) → Each IsPlain cs → w2 L cs ≡ cs
w2-same [] ps = refl
w2-same (c ∷ cs) ps = ap (λ s. c ∷ w2 s cs) (strong-plain c ps.0) ∙ ap (λ l. c ∷ l) (w2-same cs ps.1)

w3_arabic_letters-plain : (c : Class) → IsPlain c → w3_arabic_letters c ≡ c
w3_arabic_letters-plain AL p = absurd (cc)
w3_arabic_letters-plain c p = refl

w3-same : (cs : List Class) → Each IsPlain cs → w3 cs ≡ cs
w3-same [] ps = refl
w3-same (c ∷ cs) ps = ap₂ (λ (t : Class) (l : List Class). t ∷ l) (w3_arabic_letters-plain c ps.0) (w3-same cs ps.1)

w4_separators-plain : (before c next : Class) → IsPlain before → IsPlain c → IsPlain (w4_separators before c next)
w4_separators-plain EN ES EN p q = refl
w4_separators-plain EN CS EN p q = refl
w4_separators-plain AN CS AN p q = absurd (cc)
w4_separators-plain before c next p q = q

w4-plain : (before : Class) (cs : List Class) → IsPlain before → Each IsPlain cs → Stay IsPlain cs (w4 before cs)
w4-plain before [] p qs = (refl, tt)
w4-plain before (c ∷ cs) p qs =
    let rest = w4-plain c cs qs.0 qs.1 in
    (ap (λ n. suc n) rest.0, (w4_separators-plain before c (w4_first_type cs) p qs.0, rest.1))

w5_terminators-plain : (b : Bool) (c : Class) → IsPlain c → IsPlain (w5_terminators b c)
w5_terminators-plain true ET p = refl
w5_terminators-plain b c p = p

w5-plain : (en : Bool) (cs : List Class) → Each IsPlain cs → Stay IsPlain cs (w5 en cs)
w5-plain en [] ps = (refl, tt)
w5-plain en (c ∷ cs) ps =
    let rest = w5-plain (w5_is_en (w5_terminators (en || w5_comes_en cs) c)) cs ps.1 in
    (ap (λ n. suc n) rest.0, (w5_terminators-plain (en || w5_comes_en cs) c ps.0, rest.1))

w6_remaining_separators-few : (c : Class) → IsPlain c → IsFew (w6_remaining_separators c)
w6_remaining_separators-few ES p = refl
w6_remaining_separators-few ET p = refl
w6_remaining_separators-few CS p = refl
w6_remaining_separators-few c p = p

w6-few : (cs : List Class) → Each IsPlain cs → Stay IsFew cs (w6 cs)
w6-few [] ps = (refl, tt)
w6-few (c ∷ cs) ps = let rest = w6-few cs ps.1 in (ap (λ n. suc n) rest.0, (w6_remaining_separators-few c ps.0, rest.1))

w7_latin_numbers-calm : (c : Class) → IsFew c → IsCalm (w7_latin_numbers L c)
w7_latin_numbers-calm EN p = refl
w7_latin_numbers-calm c p = p

strong-few : (c : Class) → IsFew c → strong_after L c ≡ L
strong-few R p = absurd (cc)
strong-few AL p = absurd (cc)
strong-few c p = refl

w7-calm : (strong : Class) (cs : List Class) → strong ≡ L → Each IsFew cs → Stay IsCalm cs (w7 strong cs)
w7-calm strong [] is ps = (refl, tt)
w7-calm strong (c ∷ cs) is ps =
    let rest = w7-calm (strong_after strong c) cs (ap (λ s. strong_after s c) is ∙ strong-few c ps.0) ps.1 in
    (ap (λ n. suc n) rest.0, (subst (λ s. IsCalm (w7_latin_numbers s c)) (sym is) (w7_latin_numbers-calm c ps.0), rest.1))

-- the types after the weak rules
pub weak-calm : (cs : List Class) → Each IsItem cs → Stay IsCalm cs (weak_types L cs)
weak-calm cs qs =
    let one = w1-plain L cs refl qs in
    let same : w3 (w2 L (w1 L cs)) ≡ w1 L cs = ap w3 (w2-same (w1 L cs) one.1) ∙ w3-same (w1 L cs) one.1 in
    let four = w4-plain ON (w1 L cs) refl one.1 in
    let five = w5-plain false (w4 ON (w1 L cs)) four.1 in
    let six = w6-few (w5 false (w4 ON (w1 L cs))) five.1 in
    let seven = w7-calm L (w6 (w5 false (w4 ON (w1 L cs)))) refl six.1 in
    subst (λ l. Stay IsCalm cs (w7 L (w6 (w5 false (w4 ON l))))) (sym same) (seven.0 ∙ six.0 ∙ five.0 ∙ four.0 ∙ one.0, seven.1)

right-absent : (t : Class) → IsCalm t → sides.counts_as R t ≡ false
right-absent R p = absurd (cc)
right-absent EN p = absurd (cc)
right-absent AN p = absurd (cc)
right-absent t p = refl

holds-absent : (ts : List Class) → Each IsCalm ts → sides.holds R ts ≡ false
holds-absent [] ps = refl
holds-absent (t ∷ ts) ps = ap (λ b. b || sides.holds R ts) (right-absent t ps.0) ∙ holds-absent ts ps.1

set-calm : (n : ℕ) (ts : List Class) (t : Class) → IsCalm t → Each IsCalm ts → Each IsCalm (set ts n t)
set-calm n [] t p ps = tt
set-calm zero (u ∷ ts) t p ps = (p, ps.1)
set-calm (suc n) (u ∷ ts) t p ps = (ps.0, set-calm n ts t p ps.1)

abbrev IsCalmSide : Option Class → Type 0
IsCalmSide side = IfSome side IsCalm

n0_pair_side-calm : (before : Class) (ts : List Class) → Each IsCalm ts → IsCalmSide (sides.n0_pair_side L before ts)
n0_pair_side-calm before ts ps =
    let S : Option Class = Some (if sides.counts_as R before then R else L) in
    either IsCalmSide (sides.holds L ts) (Some L) (if sides.holds R ts then S else None) refl
    (subst (λ b. IsCalmSide (if b then S else None)) (sym (holds-absent ts ps)) tt)

both-calm : (side : Option Class) (a b : ℕ) (ts : List Class) → IsCalmSide side → Each IsCalm ts → Stay IsCalm ts (sides.put_both side a b ts)
both-calm None a b ts p ps = (refl, ps)
both-calm (Some t) a b ts p ps = (length-set (set ts a t) b t ∙ length-set ts a t, set-calm b (set ts a t) t p (set-calm a ts t p ps))

n0_with_pairs-calm : (sos : Class) (place : ℕ) (cs : List (Option ℕ)) (ts : List Class) → Each IsCalm ts → Stay IsCalm ts (sides.n0_with_pairs L sos place cs ts)
n0_with_pairs-calm sos place [] ts ps = (refl, ps)
n0_with_pairs-calm sos place (None ∷ cs) ts ps = n0_with_pairs-calm sos (suc place) cs ts ps
n0_with_pairs-calm sos place (Some closing ∷ cs) ts ps =
    let within = each-take IsCalm (closing - suc place) (drop (suc place) ts) (each-drop IsCalm (suc place) ts ps) in
    let side = n0_pair_side-calm (sides.last_side sos (take place ts)) (slice_range ts (suc place) closing) within in
    let both = both-calm (sides.n0_pair_side L (sides.last_side sos (take place ts)) (slice_range ts (suc place) closing)) place closing ts side ps in
    let rest = n0_with_pairs-calm sos (suc place) cs (sides.n0_with_pair L sos place closing ts) both.1 in
    (rest.0 ∙ both.0, rest.1)

followed-calm : (side : Option Class) (c t : Class) → IsCalmSide side → IsCalmSide (sides.followed side c t)
followed-calm side NSM ON p = p
followed-calm side c t p = tt

n0_with_marks-calm : (side : Option Class) (cs bs ts : List Class) → IsCalmSide side → Each IsCalm ts → Stay IsCalm ts (sides.n0_with_marks side cs bs ts)
n0_with_marks-calm side [] bs ts p ps = (refl, ps)
n0_with_marks-calm side (c ∷ cs) [] ts p ps = (refl, ps)
n0_with_marks-calm side (c ∷ cs) (b ∷ bs) [] p ps = (refl, tt)
n0_with_marks-calm side (c ∷ cs) (b ∷ bs) (t ∷ ts) p ps =
    let next = either IsCalmSide (sides.became b t) (Some t) (sides.followed side c t) ps.0 (followed-calm side c t p) in
    let rest = n0_with_marks-calm (sides.side_taken side c b t) cs bs ts next ps.1 in
    (ap (λ n. suc n) rest.0, (if-else IsCalm (sides.side_taken side c b t) t next ps.0, rest.1))

-- the types after the paired brackets
pub n0_bracket_types-calm : (entries : List BracketEntry) (sos : Class) (cs : List Class) (codes : List ℕ) (ts : List Class) → Each IsCalm ts → Stay IsCalm ts (sides.n0_bracket_types entries L sos cs codes ts)
n0_bracket_types-calm entries sos cs codes ts ps =
    let places = closings (bd16_pairs_of (roles entries ts codes)) (length ts) in
    let pairs = n0_with_pairs-calm sos 0 places ts ps in
    let marks = n0_with_marks-calm None cs ts (sides.n0_with_pairs L sos 0 places ts) tt pairs.1 in
    (marks.0 ∙ pairs.0, marks.1)

-- every neutral stands between L and L
n1-left : (cs : List Class) → Each IsCalm cs → (n1_following L cs ≡ L) × (n1 L L cs ≡ replicate (length cs) L)
n1-left [] ps = (refl, refl)
n1-left (L ∷ cs) ps = (refl, ap (λ l. L ∷ l) (n1-left cs ps.1).1)
n1-left (B ∷ cs) ps = let both = n1-left cs ps.1 in (both.0, ap₂ (λ d l. n1_surrounding_direction L d B ∷ l) both.0 both.1)
n1-left (S ∷ cs) ps = let both = n1-left cs ps.1 in (both.0, ap₂ (λ d l. n1_surrounding_direction L d S ∷ l) both.0 both.1)
n1-left (WS ∷ cs) ps = let both = n1-left cs ps.1 in (both.0, ap₂ (λ d l. n1_surrounding_direction L d WS ∷ l) both.0 both.1)
n1-left (ON ∷ cs) ps = let both = n1-left cs ps.1 in (both.0, ap₂ (λ d l. n1_surrounding_direction L d ON ∷ l) both.0 both.1)
n1-left (c ∷ cs) ps = absurd (let p = ps.0 in cc)

n2-left : (n : ℕ) (ls : List ℕ) → n2 (replicate n L) ls ≡ replicate n L
n2-left zero ls = refl
n2-left (suc n) [] = refl
n2-left (suc n) (l ∷ ls) = ap (λ t. L ∷ t) (n2-left n ls)

-- the types after the neutral rules
pub neutral-left : (cs : List Class) (ls : List ℕ) → Each IsCalm cs → neutral_types L L cs ls ≡ replicate (length cs) L
neutral-left cs ls ps = ap (λ l. n2 l ls) (n1-left cs ps).1 ∙ n2-left (length cs) ls
