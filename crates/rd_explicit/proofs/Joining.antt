-- One step of the walk from a line's end, which links the items that X9 leaves (BD13, X10).
use Rattle.std.proofs.Common.{◌≡◌, ℕ, ◌+◌, ◌<◌, ◌≤◌, max, Bool, true, false, ◌&&◌, List, [], ◌∷◌, ◌++◌, length, drop, set, get_or, reverse, slice_get, Option, None, Some, IfSome, is_none, if◌then◌else◌, refl, ap, ap₂, sym, ◌∙◌, inl, inr, arith}
use Rattle.std.proofs.lemmas.List.{drop-set, drop_more, append-nil, append_assoc, length-drop, length-set, get_or-set_same, get_or-set_other, set-get_or}
use Rattle.std.proofs.lemmas.Option.{get_or_from_slice_get}
use Rattle.std.proofs.lemmas.Bool.{cases_eq}
use Rattle.rd_base.specs.Classes.{direction_of, is_initiator, x9_is_removed}
use Rattle.rd_base.specs.declared.class.Class.{Class}
use Rattle.rd_base.specs.declared.class.Class.TheVariants.{L}
use Rattle.rd_base.specs.declared.line.Seq.{Seq}
use Rattle.rd_explicit.specs.declared.links.Link.{Link}
use Rattle.rd_explicit.specs.declared.links.First.{First}
use Rattle.rd_explicit.specs.declared.links.Links.{Links}
use Rattle.rd_explicit.specs.Follow.{bd13_follower, x10_level_behind}
use Rattle.rd_explicit.specs.Links.{link_at, chain, chain_end, gathered, seq_at, IsLinkedFrom, LeadsOn, unmatched, first_of, beginning, without_beginning}
use Rattle.rd_explicit.specs.Sequences.{bd9_partner, x9_items}
use Rattle.rd_explicit.proofs.Chains.{gathered-step, bd13_follower-within, Within, jumps-on}
use Rattle.rd_base.proofs.Choices.{either, of-choice}
use Rattle.rd_base.proofs.Lists.{drop-at}

length-without : (f : Option ℕ) (bs : List Bool) → length (without_beginning f bs) ≡ length bs
length-without None bs = refl
length-without (Some f) bs = length-set bs f false

-- the walk comes to index i, which has class c and level l, and all behind it is linked
module _ (base i : ℕ) (classes : List Class) (levels : List ℕ) (c : Class) (l : ℕ) (old new : Links)
    (within : i < length classes) (same_levels : length levels ≡ length classes)
    (read_class : slice_get classes i ≡ Some c) (read_level : slice_get levels i ≡ Some l)
    (same_links : length old.links ≡ length classes) (same_begins : length old.begins ≡ length classes)
    (joins : IsLinkedFrom base (i + 1) (drop (i + 1) classes) (drop (i + 1) levels) old)
    (pdis : new.pdis ≡ reverse (unmatched i (c ∷ drop (i + 1) classes))) where
  pub joins-removed : x9_is_removed c ≡ true → new.links ≡ old.links → new.begins ≡ set old.begins i false → new.first ≡ old.first
      → IsLinkedFrom base i (drop i classes) (drop i levels) new
  joins-removed removed links begins first =
      let at_class = drop-at classes i c read_class in
      let at_level = drop-at levels i l read_level in
      let at_links : drop i new.links ≡ link_at old.links i ∷ drop (i + 1) old.links = ap (drop i) links ∙ drop_more old.links i _ (omega arith) in
      let at_begins : drop i new.begins ≡ false ∷ drop (i + 1) old.begins = ap (drop i) begins ∙ drop-set old.begins i false (omega arith) in
      record {
        sequences = λ before. rw (at_class, at_level, at_links, at_begins, removed) (joins.sequences before);
        first = λ before. rw (at_class, at_level, removed) (joins.first before ∙ sym first);
        pdis = pdis ∙ ap (λ cs. reverse (unmatched i cs)) (sym at_class);
      }

  pub joins-item : (partner f : Option ℕ) (k : Link) → x9_is_removed c ≡ false → partner ≡ bd9_partner i c (drop (i + 1) classes)
      → f ≡ bd13_follower old.first l partner → k.next ≡ beginning f old.begins
      → k.eos ≡ direction_of (max l (x10_level_behind old.first base (is_initiator c && is_none partner)))
      → new.links ≡ set old.links i k → new.begins ≡ set (without_beginning f old.begins) i true
      → (let item : First = record { index = i; level = l } in new.first ≡ Some item)
      → IsLinkedFrom base i (drop i classes) (drop i levels) new
  joins-item partner f k stays matches follows next eos links begins first =
      let cs = drop (i + 1) classes in
      let ls = drop (i + 1) levels in
      let at_class = drop-at classes i c read_class in
      let at_level = drop-at levels i l read_level in
      let at_links : drop i new.links ≡ k ∷ drop (i + 1) old.links = ap (drop i) links ∙ drop-set old.links i k (omega arith) in
      let at_begins : drop i new.begins ≡ true ∷ drop (i + 1) (without_beginning f old.begins) =
      ap (drop i) begins ∙ drop-set (without_beginning f old.begins) i true (omega (arith, length-without f old.begins)) in
      let behind : f ≡ bd13_follower (first_of (x9_items base l (i + 1) cs ls)) l (bd9_partner i c cs) =
      follows ∙ ap₂ (λ o p. bd13_follower o l p) (sym (joins.first l)) matches in
      let ends : k.eos ≡ direction_of (max l (x10_level_behind (first_of (x9_items base l (i + 1) cs ls)) base (is_initiator c && is_none (bd9_partner i c cs)))) =
      eos ∙ ap₂ (λ o p. direction_of (max l (x10_level_behind o base (is_initiator c && is_none p)))) (sym (joins.first l)) matches in
      record {
        sequences = λ before. rw (at_class, at_level, at_links, at_begins)
            (gathered-step base before i c cs l ls k (drop (i + 1) old.links) old.begins f
            (omega (arith, length-drop (i + 1) levels, length-drop (i + 1) classes)) (omega (arith, length-drop (i + 1) old.links, length-drop (i + 1) classes))
            (joins.sequences l) stays behind next ends);
        first = λ before. rw (at_class, at_level, stays) (sym first);
        pdis = pdis ∙ ap (λ v. reverse (unmatched i v)) (sym at_class);
      }

placed : (i n m : ℕ) (f : Option ℕ) → Within (i + 1) m f → i + 1 + m ≤ n → IfSome f (λ w. (i < w) × (w < n))
placed i n m None h fits = tt
placed i n m (Some w) h fits = (omega arith, omega arith)

-- where the next item of a sequence may lie
pub follows-within : (base i l : ℕ) (c : Class) (classes : List Class) (levels : List ℕ) (old : Links) (partner f : Option ℕ)
    → i < length classes → IsLinkedFrom base (i + 1) (drop (i + 1) classes) (drop (i + 1) levels) old
    → partner ≡ bd9_partner i c (drop (i + 1) classes) → f ≡ bd13_follower old.first l partner
    → IfSome f (λ w. (i < w) × (w < length classes))
follows-within base i l c classes levels old partner f within joins matches follows =
    let cs = drop (i + 1) classes in
    let behind : f ≡ bd13_follower (first_of (x9_items base l (i + 1) cs (drop (i + 1) levels))) l (bd9_partner i c cs) =
    follows ∙ ap₂ (λ o p. bd13_follower o l p) (sym (joins.first l)) matches in
    let w : Within (i + 1) (length cs) f = rw behind (bd13_follower-within base c cs (drop (i + 1) levels) l i l) in
    placed i (length classes) (length cs) f w (omega (arith, length-drop (i + 1) classes))

pub beginning-within : (i n : ℕ) (f : Option ℕ) (bs : List Bool) → IfSome f (λ w. (i < w) × (w < n)) → IfSome (beginning f bs) (λ w. (i < w) × (w < n))
beginning-within i n None bs h = tt
beginning-within i n (Some f) bs h = either (λ o. IfSome o (λ w. (i < w) × (w < n))) (get_or bs f false) (Some f) None h tt

pub leads-on : (n : ℕ) (ks : List Link) (i : ℕ) (k : Link) → LeadsOn n ks → i < length ks → IfSome k.next (λ w. (i < w) × (w < n)) → LeadsOn n (set ks i k)
leads-on n ks i k leads within next = λ j d h.
    let h₁ : j < length ks = omega (arith, length-set ks i k) in
    elim (cases_eq j i) [
      | inl e ↦ rw e (rw (get_or-set_same ks i k d within) next)
      | inr ne ↦ rw (get_or-set_other ks i j k d ne) (leads j d h₁)
    ]

-- writing false at a place that has it changes nothing
pub unset-same : (bs : List Bool) (i : ℕ) (b : Bool) → slice_get bs i ≡ Some b → b ≡ false → bs ≡ set bs i false
unset-same bs i b read is = sym (ap (set bs i) (sym is ∙ sym (get_or_from_slice_get bs i b false read)) ∙ set-get_or bs i false)

-- a link that was read
module _ (ks : List Link) (at : ℕ) (k : Link) (read : slice_get ks at ≡ Some k) (leads : LeadsOn (length ks) ks) (within : at < length ks) where
  read-is : link_at ks at ≡ k
  read-is = get_or_from_slice_get ks at k _ read

  pub link-leads : (next : ℕ) → k.next ≡ Some next → (at < next) × (next < length ks)
  link-leads next e =
      let h : IfSome (get_or ks at k).next (λ w. (at < w) × (w < length ks)) = leads at k within in
      let r : (get_or ks at k).next ≡ Some next = ap (λ (q : Link). q.next) (get_or_from_slice_get ks at k k read) ∙ e in
      rw r at h

  pub chain-step : (next : ℕ) (is all : List ℕ) → k.next ≡ Some next
      → is ++ chain (at + 1) (link_at ks at).next (drop (at + 1) ks) ≡ all
      → (is ++ next ∷ []) ++ chain (next + 1) (link_at ks next).next (drop (next + 1) ks) ≡ all
  chain-step next is all e before =
      let l = link-leads next e in
      let n : (link_at ks at).next ≡ Some next = ap (λ (q : Link). q.next) read-is ∙ e in
      append_assoc is (next ∷ []) _ ∙ ap (λ rest. is ++ rest) (sym (ap (λ o. chain (at + 1) o (drop (at + 1) ks)) n ∙ (jumps-on ks at next l.0 l.1).indexes)) ∙ before

  pub end-step : (next : ℕ) (eos : Class) → k.next ≡ Some next
      → chain_end (link_at ks at).eos (at + 1) (link_at ks at).next (drop (at + 1) ks) ≡ eos
      → chain_end (link_at ks next).eos (next + 1) (link_at ks next).next (drop (next + 1) ks) ≡ eos
  end-step next eos e before =
      let l = link-leads next e in
      let n : (link_at ks at).next ≡ Some next = ap (λ (q : Link). q.next) read-is ∙ e in
      sym (ap (λ o. chain_end (link_at ks at).eos (at + 1) o (drop (at + 1) ks)) n ∙ (jumps-on ks at next l.0 l.1).ends (link_at ks at).eos) ∙ before

  pub chain-stop : (is all : List ℕ) → k.next ≡ None → is ++ chain (at + 1) (link_at ks at).next (drop (at + 1) ks) ≡ all → is ≡ all
  chain-stop is all e before =
      let n : (link_at ks at).next ≡ None = ap (λ (q : Link). q.next) read-is ∙ e in
      sym (ap (λ o. is ++ chain (at + 1) o (drop (at + 1) ks)) n ∙ append-nil is) ∙ before

  pub end-stop : (eos : Class) → k.next ≡ None → chain_end (link_at ks at).eos (at + 1) (link_at ks at).next (drop (at + 1) ks) ≡ eos → k.eos ≡ eos
  end-stop eos e before =
      let n : (link_at ks at).next ≡ None = ap (λ (q : Link). q.next) read-is ∙ e in
      ap (λ (q : Link). q.eos) (sym read-is) ∙ sym (ap (λ o. chain_end (link_at ks at).eos (at + 1) o (drop (at + 1) ks)) n) ∙ before

-- one step of the walk that follows the links
pub gathered-next : (before i : ℕ) (classes : List Class) (levels : List ℕ) (links : List Link) (begins : List Bool) (c : Class) (l : ℕ)
    → i < length classes → length levels ≡ length classes → length links ≡ length classes → length begins ≡ length classes
    → slice_get classes i ≡ Some c → slice_get levels i ≡ Some l
    → gathered before i (drop i classes) (drop i levels) (drop i links) (drop i begins)
    ≡ (if get_or begins i false then seq_at links i (direction_of (max l before)) ∷ [] else [])
    ++ gathered (if x9_is_removed c then before else l) (i + 1) (drop (i + 1) classes) (drop (i + 1) levels) (drop (i + 1) links) (drop (i + 1) begins)
gathered-next before i classes levels links begins c l within same_levels same_links same_begins read_class read_level =
    let within_links : i < length links = omega arith in
    let within_begins : i < length begins = omega arith in
    let none : Link = record { next = None; eos = L } in
    rw (drop-at classes i c read_class, drop-at levels i l read_level, drop_more links i none within_links, drop_more begins i false within_begins)
    (sym (of-choice (λ (s : List Seq). s ++ gathered (if x9_is_removed c then before else l) (i + 1) (drop (i + 1) classes) (drop (i + 1) levels) (drop (i + 1) links) (drop (i + 1) begins))
    (get_or begins i false) (seq_at links i (direction_of (max l before)) ∷ []) []))

-- nothing is added where no sequence begins
pub none-added : {X : Type 0} (xs : List X) (x : X) (bs : List Bool) (i : ℕ) (b : Bool) → slice_get bs i ≡ Some b → b ≡ false
    → xs ≡ xs ++ (if get_or bs i false then x ∷ [] else [])
none-added xs x bs i b read is = rw (get_or_from_slice_get bs i b false read ∙ is) (sym (append-nil xs))
