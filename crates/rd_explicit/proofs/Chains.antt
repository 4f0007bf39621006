-- The links from an index on, against the isolating run sequences of the items there (BD13, X10).
use Rattle.std.proofs.Common.{◌≡◌, ℕ, zero, suc, ◌+◌, ◌-◌, ◌<◌, ◌≤◌, ◌==◌, nat_lt, max, Bool, true, false, ◌&&◌, if◌then◌else◌, List, [], ◌∷◌, length, map, drop, set, get_or, Option, None, Some, All, is_none, refl, ap, ap₂, subst, sym, ◌∙◌, inl, inr, arith}
use Rattle.std.proofs.lemmas.List.{get_or-drop, drop-set-add, set-get_or, drop-drop, length-drop}
use Rattle.std.proofs.lemmas.List.Elements.{All-cons, All-nil}
use Rattle.std.proofs.lemmas.List.Kept.{AllPairs-cons}
use Rattle.std.proofs.lemmas.Bool.{cases_Bool, eq-eqb, ne_eqb, ltb-true}
use Rattle.rd_base.proofs.Choices.{either}
use Rattle.rd_base.specs.Classes.{direction_of, is_initiator, x9_is_removed}
use Rattle.rd_base.specs.declared.class.Class.{Class}
use Rattle.rd_base.specs.declared.line.Seq.{Seq}
use Rattle.rd_explicit.specs.declared.links.Link.{Link}
use Rattle.rd_explicit.specs.declared.links.First.{First}
use Rattle.rd_explicit.specs.Follow.{bd13_follower, x10_level_behind}
use Rattle.rd_explicit.specs.Isolates.{content}
use Rattle.rd_explicit.specs.Links.{link_at, chain, chain_end, chained, gathered, sequences_from, first_of, beginning, without_beginning}
use Rattle.rd_explicit.specs.Sequences.{Item, item_at, first_level, bd9_partner, x9_items, bd7_level_runs, begins, continued, others, bd13_joined_runs, x10_eos, sequence}
use Rattle.rd_explicit.proofs.Groups.{bd13_joined_runs-step}

abbrev pub starts : ℕ → List ℕ → Bool
starts p [] = false
starts p (y ∷ ys) = p == y

abbrev pub begins_seq : Option ℕ → Seq → Bool
begins_seq None s = false
begins_seq (Some p) s = starts p s.indexes

abbrev pub others_seq : Option ℕ → List Seq → List Seq
others_seq p [] = []
others_seq p (s ∷ ss) = if begins_seq p s then ss else s ∷ others_seq p ss

abbrev pub rest_indexes : Option ℕ → List Seq → List ℕ
rest_indexes p [] = []
rest_indexes p (s ∷ ss) = if begins_seq p s then s.indexes else rest_indexes p ss

abbrev pub rest_end : Class → Option ℕ → List Seq → Class
rest_end e p [] = e
rest_end e p (s ∷ ss) = if begins_seq p s then s.eos else rest_end e p ss

-- what is chosen by whether items begin at an index is chosen so by their sequence
by-begins : {X Y : Type 0} (h : X → Y) (p : Option ℕ) (g : List Item) (x y : X) (u v : Y) → h x ≡ u → h y ≡ v
    → h (if begins p g then x else y) ≡ (if begins_seq p (sequence g) then u else v)
by-begins h None g x y u v chosen left = left
by-begins h (Some p) [] x y u v chosen left = left
by-begins h (Some p) (z ∷ zs) x y u v chosen left =
    elim (p == z.index) as (λ b. h (if b then x else y) ≡ (if b then u else v)) [ true ↦ chosen | false ↦ left ]

others-map : (p : Option ℕ) (gs : List (List Item)) → map sequence (others p gs) ≡ others_seq p (map sequence gs)
others-map p [] = refl
others-map p (g ∷ gs) = by-begins (map sequence) p g gs (g ∷ others p gs) _ _ refl (ap (λ ss. sequence g ∷ ss) (others-map p gs))

continued-indexes : (p : Option ℕ) (gs : List (List Item)) → map (λ (x : Item). x.index) (continued p gs) ≡ rest_indexes p (map sequence gs)
continued-indexes p [] = refl
continued-indexes p (g ∷ gs) = by-begins (map (λ (x : Item). x.index)) p g g (continued p gs) _ _ refl (continued-indexes p gs)

continued-end : (x : Item) (p : Option ℕ) (gs : List (List Item)) → x10_eos (x ∷ continued p gs) ≡ rest_end (x10_eos (x ∷ [])) p (map sequence gs)
continued-end x p [] = refl
continued-end x None (g ∷ gs) = continued-end x None gs
continued-end x (Some p) ([] ∷ gs) = continued-end x (Some p) gs
continued-end x (Some p) ((y ∷ ys) ∷ gs) =
    by-begins (λ zs. x10_eos (x ∷ zs)) (Some p) (y ∷ ys) (y ∷ ys) (continued (Some p) gs) _ _ refl (continued-end x (Some p) gs)

-- no sequence begins at an index
record Absent (p : Option ℕ) (ss : List Seq) : Type 0 where
  others : others_seq p ss ≡ ss
  indexes : rest_indexes p ss ≡ []
  ends : (e : Class) → rest_end e p ss ≡ e

absent-cons : (p : Option ℕ) (s : Seq) (ss : List Seq) → begins_seq p s ≡ false → Absent p ss → Absent p (s ∷ ss)
absent-cons p s ss e a = record {
  others = rw e (ap (λ rest. s ∷ rest) a.others);
  indexes = rw e a.indexes;
  ends = λ t. rw e (a.ends t);
}

absent-none : (ss : List Seq) → Absent None ss
absent-none [] = record { others = refl; indexes = refl; ends = λ e. refl }
absent-none (s ∷ ss) = absent-cons None s ss refl (absent-none ss)

absent-from : (cs : List Class) (ls : List ℕ) (ks : List Link) (bs : List Bool) (b i p : ℕ) → ((j : ℕ) → p ≡ i + j → get_or bs j false ≡ false)
    → Absent (Some p) (gathered b i cs ls ks bs)
absent-from [] ls ks bs b i p h = record { others = refl; indexes = refl; ends = λ e. refl }
absent-from (c ∷ cs) [] ks bs b i p h = record { others = refl; indexes = refl; ends = λ e. refl }
absent-from (c ∷ cs) (l ∷ ls) [] bs b i p h = record { others = refl; indexes = refl; ends = λ e. refl }
absent-from (c ∷ cs) (l ∷ ls) (k ∷ ks) [] b i p h = record { others = refl; indexes = refl; ends = λ e. refl }
absent-from (c ∷ cs) (l ∷ ls) (k ∷ ks) (true ∷ bs) b i p h =
    absent-cons (Some p) (chained i (direction_of (max l b)) k ks) _ (ne_eqb p i (λ e. let f : true ≡ false = h 0 (omega (arith, e)) in absurd cc))
    (absent-from cs ls ks bs (if x9_is_removed c then b else l) (i + 1) p (λ j e. h (suc j) (omega (arith, e))))
absent-from (c ∷ cs) (l ∷ ls) (k ∷ ks) (false ∷ bs) b i p h = absent-from cs ls ks bs (if x9_is_removed c then b else l) (i + 1) p (λ j e. h (suc j) (omega (arith, e)))

absent-at : (cs : List Class) (ls : List ℕ) (ks : List Link) (bs : List Bool) (b i j p : ℕ) → p ≡ i + j → get_or bs j false ≡ false
    → Absent (Some p) (gathered b i cs ls ks bs)
absent-at cs ls ks bs b i j p at h = absent-from cs ls ks bs b i p (λ k e. let same : k ≡ j = omega (arith, at, e) in ap (λ n. get_or bs n false) same ∙ h)

-- what follows an item goes on from it
record Goes (b i : ℕ) (f next : Option ℕ) (cs : List Class) (ls : List ℕ) (ks : List Link) (bs after : List Bool) : Type 0 where
  others : gathered b i cs ls ks after ≡ others_seq f (gathered b i cs ls ks bs)
  indexes : rest_indexes f (gathered b i cs ls ks bs) ≡ chain i next ks
  ends : (e : Class) → rest_end e f (gathered b i cs ls ks bs) ≡ chain_end e i next ks

-- the sequence that begins at an item is what goes on from it, and the others stay
present : (cs : List Class) (ls : List ℕ) (ks : List Link) (bs : List Bool) (b i j p : ℕ) → p ≡ i + j
    → length ls ≡ length cs → length ks ≡ length cs → j < length cs → get_or bs j false ≡ true
    → Goes b i (Some p) (Some p) cs ls ks bs (set bs j false)
present [] ls ks bs b i j p at same_ls same_ks within h = absurd (omega arith)
present (c ∷ cs) [] ks bs b i j p at same_ls same_ks within h = absurd (omega arith)
present (c ∷ cs) (l ∷ ls) [] bs b i j p at same_ls same_ks within h = absurd (omega arith)
present (c ∷ cs) (l ∷ ls) (k ∷ ks) [] b i j p at same_ls same_ks within h = cc
present (c ∷ cs) (l ∷ ls) (k ∷ ks) (false ∷ bs) b i zero p at same_ls same_ks within h = cc
present (c ∷ cs) (l ∷ ls) (k ∷ ks) (true ∷ bs) b i zero p at same_ls same_ks within h =
    let e : (p == i) ≡ true = eq-eqb p i (omega arith) in
    record { others = rw e refl; indexes = rw e refl; ends = λ t. rw e refl }
present (c ∷ cs) (l ∷ ls) (k ∷ ks) (true ∷ bs) b i (suc j) p at same_ls same_ks within h =
    let e : (p == i) ≡ false = ne_eqb p i (λ q. omega arith) in
    let r = present cs ls ks bs (if x9_is_removed c then b else l) (i + 1) j p (omega arith) (omega arith) (omega arith) (omega arith) h in
    record { others = rw e (ap (λ ss. chained i (direction_of (max l b)) k ks ∷ ss) r.others); indexes = rw e r.indexes; ends = λ t. rw e (r.ends t) }
present (c ∷ cs) (l ∷ ls) (k ∷ ks) (false ∷ bs) b i (suc j) p at same_ls same_ks within h =
    let e : (p == i) ≡ false = ne_eqb p i (λ q. omega arith) in
    let r = present cs ls ks bs (if x9_is_removed c then b else l) (i + 1) j p (omega arith) (omega arith) (omega arith) (omega arith) h in
    record { others = r.others; indexes = rw e r.indexes; ends = λ t. rw e (r.ends t) }

abbrev pub Within : ℕ → ℕ → Option ℕ → Type 0
Within i n None = Unit {0}
Within i n (Some p) = (i ≤ p) × (p < i + n)

goes : (cs : List Class) (ls : List ℕ) (ks : List Link) (all : List Bool) (b i : ℕ) (f : Option ℕ)
    → length ls ≡ length cs → length ks ≡ length cs → Within i (length cs) f
    → Goes b i f (beginning f all) cs ls ks (drop i all) (drop i (without_beginning f all))
goes cs ls ks all b i None same_ls same_ks within =
    let a = absent-none (gathered b i cs ls ks (drop i all)) in
    record { others = sym a.others; indexes = a.indexes; ends = a.ends }
goes cs ls ks all b i (Some p) same_ls same_ks within =
    let j = p - i in
    let at : p ≡ i + j = omega arith in
    let read : get_or (drop i all) j false ≡ get_or all p false = get_or-drop i all j false ∙ ap (λ q. get_or all q false) (sym at) in
    elim (cases_Bool (get_or all p false)) [
      | inl t ↦
          let after : drop i (set all p false) ≡ set (drop i all) j false = ap (λ q. drop i (set all q false)) at ∙ drop-set-add i all j false in
          let r = present cs ls ks (drop i all) b i j p at same_ls same_ks (omega arith) (read ∙ t) in
          record {
            others = ap (gathered b i cs ls ks) after ∙ r.others;
            indexes = rw t r.indexes;
            ends = λ e. rw t (r.ends e);
          }
      | inr n ↦
          let after : set all p false ≡ all = ap (set all p) (sym n) ∙ set-get_or all p false in
          let a = absent-at cs ls ks (drop i all) b i j p at (read ∙ n) in
          record {
            others = ap (λ bs. gathered b i cs ls ks (drop i bs)) after ∙ sym a.others;
            indexes = rw n a.indexes;
            ends = λ e. rw n (a.ends e);
          }
    ]

-- what follows an item lies behind it
abbrev pub FirstWithin : ℕ → ℕ → Option First → Type 0
FirstWithin i n None = Unit {0}
FirstWithin i n (Some y) = (i ≤ y.index) × (y.index < i + n)

one_more : (i n : ℕ) (o : Option First) → FirstWithin (i + 1) n o → FirstWithin i (suc n) o
one_more i n None h = tt
one_more i n (Some y) h = (omega arith, omega arith)

first-within : (base : ℕ) (cs : List Class) (ls : List ℕ) (b i : ℕ) → FirstWithin i (length cs) (first_of (x9_items base b i cs ls))
first-within base [] ls b i = tt
first-within base (c ∷ cs) [] b i = tt
first-within base (c ∷ cs) (l ∷ ls) b i =
    either (λ xs. FirstWithin i (suc (length cs)) (first_of xs)) (x9_is_removed c) _ _ (one_more i (length cs) _ (first-within base cs ls b (i + 1))) (omega arith, omega arith)

bd9_matching_pdi-within : (i a n : ℕ) → Within i n (if nat_lt a n then Some (i + a) else None)
bd9_matching_pdi-within i a n = elim (cases_Bool (nat_lt a n)) [
  | inl t ↦ let less : a < n = ltb-true a n t in rw t (omega arith, omega arith)
  | inr f ↦ rw f tt
]

partner-within : (i : ℕ) (c : Class) (cs : List Class) → Within (i + 1) (length cs) (bd9_partner i c cs)
partner-within i c cs = either (Within (i + 1) (length cs)) (is_initiator c) _ None (bd9_matching_pdi-within (i + 1) (length (content cs)) (length cs)) tt

bd13_follower-in : (i n l : ℕ) (o : Option First) (partner : Option ℕ) → FirstWithin i n o → Within i n partner → Within i n (bd13_follower o l partner)
bd13_follower-in i n l None partner first within = within
bd13_follower-in i n l (Some y) partner first within = either (Within i n) (l == y.level) (Some y.index) partner first within

pub bd13_follower-within : (base : ℕ) (c : Class) (cs : List Class) (ls : List ℕ) (b i l : ℕ)
    → Within (i + 1) (length cs) (bd13_follower (first_of (x9_items base b (i + 1) cs ls)) l (bd9_partner i c cs))
bd13_follower-within base c cs ls b i l =
    bd13_follower-in (i + 1) (length cs) l _ _ (first-within base cs ls b (i + 1)) (partner-within i c cs)

x10_level_behind-is : (xs : List Item) (base : ℕ) (u : Bool) → x10_level_behind (first_of xs) base u ≡ (if u then base else first_level base xs)
x10_level_behind-is [] base true = refl
x10_level_behind-is [] base false = refl
x10_level_behind-is (x ∷ xs) base u = refl

same_seq : (is js : List ℕ) (sos e f : Class) → is ≡ js → e ≡ f
    → (let a : Seq = record { indexes = is; sos = sos; eos = e } in let b : Seq = record { indexes = js; sos = sos; eos = f } in a ≡ b)
same_seq is js sos e f p q = cc

-- one class more, which stays in the line
pub gathered-step : (base before i : ℕ) (c : Class) (cs : List Class) (l : ℕ) (ls : List ℕ) (k : Link) (ks : List Link) (all : List Bool) (f : Option ℕ)
    → length ls ≡ length cs → length ks ≡ length cs
    → gathered l (i + 1) cs ls ks (drop (i + 1) all) ≡ sequences_from base l (i + 1) cs ls
    → x9_is_removed c ≡ false
    → f ≡ bd13_follower (first_of (x9_items base l (i + 1) cs ls)) l (bd9_partner i c cs)
    → k.next ≡ beginning f all
    → k.eos ≡ direction_of (max l (x10_level_behind (first_of (x9_items base l (i + 1) cs ls)) base (is_initiator c && is_none (bd9_partner i c cs))))
    → gathered before i (c ∷ cs) (l ∷ ls) (k ∷ ks) (true ∷ drop (i + 1) (without_beginning f all)) ≡ sequences_from base before i (c ∷ cs) (l ∷ ls)
gathered-step base before i c cs l ls k ks all f same_ls same_ks ih stays follows next eos =
    let xs = x9_items base l (i + 1) cs ls in
    let x = item_at base before i c cs l xs in
    let G = bd13_joined_runs (bd7_level_runs xs) in
    let within : Within (i + 1) (length cs) f = rw follows (bd13_follower-within base c cs ls l i l) in
    let g = goes cs ls ks all l (i + 1) f same_ls same_ks within in
    let one : direction_of (max x.level x.after) ≡ k.eos = sym (eos ∙ ap (λ a. direction_of (max l a)) (x10_level_behind-is xs base (is_initiator c && is_none (bd9_partner i c cs)))) in
    let indexes : map (λ (y : Item). y.index) (continued f G) ≡ chain (i + 1) k.next ks =
    continued-indexes f G ∙ ap (rest_indexes f) (sym ih) ∙ g.indexes ∙ ap (λ n. chain (i + 1) n ks) (sym next) in
    let ends : x10_eos (x ∷ continued f G) ≡ chain_end k.eos (i + 1) k.next ks =
    continued-end x f G ∙ ap (rest_end (x10_eos (x ∷ [])) f) (sym ih) ∙ g.ends (x10_eos (x ∷ [])) ∙ ap (λ n. chain_end (x10_eos (x ∷ [])) (i + 1) n ks) (sym next)
    ∙ ap (λ e. chain_end e (i + 1) k.next ks) one in
    let head : sequence (x ∷ continued f G) ≡ chained i (direction_of (max l before)) k ks = same_seq _ _ (direction_of (max l before)) _ _ (ap (λ is. i ∷ is) indexes) ends in
    let tail : map sequence (others f G) ≡ gathered l (i + 1) cs ls ks (drop (i + 1) (without_beginning f all)) =
    others-map f G ∙ ap (others_seq f) (sym ih) ∙ sym g.others in
    let whole : map sequence (bd13_joined_runs (bd7_level_runs (x ∷ xs))) ≡ chained i (direction_of (max l before)) k ks ∷ gathered l (i + 1) cs ls ks (drop (i + 1) (without_beginning f all)) =
    ap (map sequence) (bd13_joined_runs-step x xs) ∙ ap (λ q. map sequence ((x ∷ continued q G) ∷ others q G)) (sym follows) ∙ ap₂ ◌∷◌ head tail in
    rw stays (sym whole)

-- links are followed from an index on past what lies between, to the one at w and what is behind it
pub record Jumps (from behind : List Link) (i w : ℕ) (k : Link) : Type 0 where
  pub indexes : chain i (Some w) from ≡ w ∷ chain (w + 1) k.next behind
  pub ends : (e : Class) → chain_end e i (Some w) from ≡ chain_end k.eos (w + 1) k.next behind

jumps : (d : ℕ) (ks : List Link) (i w : ℕ) → w ≡ i + d → d < length ks → Jumps ks (drop (suc d) ks) i w (link_at ks d)
jumps zero [] i w at h = absurd (omega arith)
jumps (suc d) [] i w at h = absurd (omega arith)
jumps zero (k ∷ ks) i w at h =
    let same : w ≡ i = omega arith in
    record { indexes = rw (same, eq-eqb i i refl) refl; ends = λ e. rw (same, eq-eqb i i refl) refl }
jumps (suc d) (k ∷ ks) i w at h =
    let further = jumps d ks (i + 1) w (omega arith) (omega arith) in
    let other = ne_eqb w i (λ e. omega arith) in
    record { indexes = rw other further.indexes; ends = λ e. rw other (further.ends e) }

-- links of a whole list are followed from behind an index on, past what lies between, to the one at w and what is behind it
pub jumps-on : (ks : List Link) (i w : ℕ) → i < w → w < length ks → Jumps (drop (i + 1) ks) (drop (w + 1) ks) (i + 1) w (link_at ks w)
jumps-on ks i w behind within =
    let d = w - (i + 1) in
    let read : link_at (drop (i + 1) ks) d ≡ link_at ks w = get_or-drop (i + 1) ks d _ ∙ ap (link_at ks) (omega arith) in
    let left : drop (suc d) (drop (i + 1) ks) ≡ drop (w + 1) ks = drop-drop (suc d) (i + 1) ks ∙ ap (λ n. drop n ks) (omega arith) in
    subst (λ k. Jumps (drop (i + 1) ks) (drop (w + 1) ks) (i + 1) w k) read
    (subst (λ rest. Jumps (drop (i + 1) ks) rest (i + 1) w (link_at (drop (i + 1) ks) d)) left
    (jumps d (drop (i + 1) ks) (i + 1) w (omega arith) (omega (arith, length-drop (i + 1) ks))))

-- indexes that ascend from one on, below an end
abbrev pub Ascends : ℕ → ℕ → List ℕ → Type 0
Ascends i n [] = Unit {0}
Ascends i n (x ∷ xs) = (i ≤ x) × (x < n) × Ascends (x + 1) n xs

ascends_from : (i j n : ℕ) (xs : List ℕ) → i ≤ j → Ascends j n xs → Ascends i n xs
ascends_from i j n [] h a = tt
ascends_from i j n (x ∷ xs) h a = (omega arith, a.1, a.2)

chain-ascends : (ks : List Link) (i n : ℕ) (next : Option ℕ) → i + length ks ≤ n → Ascends i n (chain i next ks)
chain-ascends [] i n None h = tt
chain-ascends [] i n (Some w) h = tt
chain-ascends (k ∷ ks) i n None h = tt
chain-ascends (k ∷ ks) i n (Some w) h =
    either (Ascends i n) (w == i) _ _ (omega arith, omega arith, chain-ascends ks (i + 1) n k.next (omega arith))
    (ascends_from i (i + 1) n _ (omega arith) (chain-ascends ks (i + 1) n (Some w) (omega arith)))

pub gathered-ascends : (cs : List Class) (ls : List ℕ) (ks : List Link) (bs : List Bool) (b i n : ℕ) → i + length ks ≤ n
    → (j : ℕ) (d : Seq) → j < length (gathered b i cs ls ks bs) → Ascends 0 n (get_or (gathered b i cs ls ks bs) j d).indexes
gathered-ascends [] ls ks bs b i n h j d within = absurd (omega arith)
gathered-ascends (c ∷ cs) [] ks bs b i n h j d within = absurd (omega arith)
gathered-ascends (c ∷ cs) (l ∷ ls) [] bs b i n h j d within = absurd (omega arith)
gathered-ascends (c ∷ cs) (l ∷ ls) (k ∷ ks) [] b i n h j d within = absurd (omega arith)
gathered-ascends (c ∷ cs) (l ∷ ls) (k ∷ ks) (true ∷ bs) b i n h zero d within = (omega arith, omega arith, chain-ascends ks (i + 1) n k.next (omega arith))
gathered-ascends (c ∷ cs) (l ∷ ls) (k ∷ ks) (true ∷ bs) b i n h (suc j) d within = gathered-ascends cs ls ks bs (if x9_is_removed c then b else l) (i + 1) n (omega arith) j d (omega arith)
gathered-ascends (c ∷ cs) (l ∷ ls) (k ∷ ks) (false ∷ bs) b i n h j d within = gathered-ascends cs ls ks bs (if x9_is_removed c then b else l) (i + 1) n (omega arith) j d within

-- indexes that ascend from one on, below an end, all lie between these two
pub ascends-within : (i n : ℕ) (xs : List ℕ) → Ascends i n xs → All (λ x. (i ≤ x) × (x < n)) xs
ascends-within i n [] a = All-nil (λ x. (i ≤ x) × (x < n))
ascends-within i n (x ∷ xs) a =
    let rest = ascends-within (x + 1) n xs a.2 in All-cons (λ y. (i ≤ y) × (y < n)) x xs (a.0, a.1) (λ k d h. let y = rest k d h in (omega arith, y.1))

pub ascends-pairs : (i n : ℕ) (xs : List ℕ) → Ascends i n xs → (k j d : ℕ) → k < j → j < length xs → get_or xs k d < get_or xs j d
ascends-pairs i n [] a = λ k j d h within. absurd (omega arith)
ascends-pairs i n (x ∷ xs) a =
    AllPairs-cons (λ k j. k < j) x xs (λ k d h. let y = ascends-within (x + 1) n xs a.2 k d h in omega arith) (ascends-pairs (x + 1) n xs a.2)
