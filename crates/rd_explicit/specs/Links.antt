-- How the walk from a line's end keeps the isolating run sequences (BD13, X10): for each index whether a sequence begins there, and the
-- next index of the sequence that it is in.
use Rattle.std.specs.Prelude.{◌≡◌, ℕ, ◌+◌, ◌<◌, ◌==◌, max, Bool, false, if◌then◌else◌, List, [], ◌∷◌, length, map, drop, reverse, Option, None, Some, IfSome, slice_index_or, slice_set}
use Rattle.rd_base.specs.Classes.{is_initiator, x9_is_removed, direction_of}
use Rattle.rd_base.specs.declared.class.Class.{Class}
use Rattle.rd_base.specs.declared.class.Class.TheVariants.{L, PDI}
use Rattle.rd_base.specs.declared.line.Seq.{Seq}
use Rattle.rd_explicit.specs.Sequences.{Item, x9_items, bd7_level_runs, bd13_joined_runs, sequence}
use Rattle.rd_explicit.specs.declared.links.Link.{Link}
use Rattle.rd_explicit.specs.declared.links.First.{First}
use Rattle.rd_explicit.specs.declared.links.Links.{Links}

-- for BD13, the indexes from one on, along the links of the indexes from i on
abbrev pub chain : ℕ → Option ℕ → List Link → List ℕ
chain i None ks = []
chain i (Some w) [] = []
chain i (Some w) (k ∷ ks) = if w == i then i ∷ chain (i + 1) k.next ks else chain (i + 1) (Some w) ks

-- for X10, the type at the end of a sequence that goes on so, eos being the type if it doesn't go on
abbrev pub chain_end : Class → ℕ → Option ℕ → List Link → Class
chain_end eos i None ks = eos
chain_end eos i (Some w) [] = eos
chain_end eos i (Some w) (k ∷ ks) = if w == i then chain_end k.eos (i + 1) k.next ks else chain_end eos (i + 1) (Some w) ks

-- for BD13, the sequence that begins at index i with a type at its start and goes on by this link, along those behind it
abbrev pub chained : ℕ → Class → Link → List Link → Seq
chained i sos k ks = record {
  indexes = i ∷ chain (i + 1) k.next ks;
  sos = sos;
  eos = chain_end k.eos (i + 1) k.next ks;
}

-- for BD13, the sequences that begin from index i on
abbrev pub gathered : ℕ → ℕ → List Class → List ℕ → List Link → List Bool → List Seq
gathered before i [] ls ks bs = []
gathered before i (c ∷ cs) [] ks bs = []
gathered before i (c ∷ cs) (l ∷ ls) [] bs = []
gathered before i (c ∷ cs) (l ∷ ls) (k ∷ ks) [] = []
gathered before i (c ∷ cs) (l ∷ ls) (k ∷ ks) (b ∷ bs) =
    if b then chained i (direction_of (max l before)) k ks ∷ gathered (if x9_is_removed c then before else l) (i + 1) cs ls ks bs
    else gathered (if x9_is_removed c then before else l) (i + 1) cs ls ks bs

-- for BD13, the sequences of the items from index i on
abbrev pub sequences_from : ℕ → ℕ → ℕ → List Class → List ℕ → List Seq
sequences_from base before i cs ls = map sequence (bd13_joined_runs (bd7_level_runs (x9_items base before i cs ls)))

-- for BD9, the indexes of the PDIs that no initiator of these classes matches, the first one first
abbrev pub unmatched : ℕ → List Class → List ℕ
unmatched i [] = []
unmatched i (PDI ∷ cs) = i ∷ unmatched (i + 1) cs
unmatched i (c ∷ cs) = if is_initiator c then drop 1 (unmatched (i + 1) cs) else unmatched (i + 1) cs

-- for BD13, the first of the items that are done, with its level
abbrev pub first_of : List Item → Option First
first_of [] = None
first_of (x ∷ xs) = Some (record { index = x.index; level = x.level })

-- for BD13, each link leads on, and not beyond the line
abbrev pub LeadsOn : ℕ → List Link → Type 0
LeadsOn n ks = (i : ℕ) (d : Link) → i < length ks → IfSome (slice_index_or ks i d).next (λ w. (i < w) × (w < n))

-- for BD13, the link of an index
abbrev pub link_at : List Link → ℕ → Link
link_at ks i = slice_index_or ks i (record { next = None; eos = L })

-- for BD13, the sequence that begins at index i with a type at its start, along the links of a line
abbrev pub seq_at : List Link → ℕ → Class → Seq
seq_at ks i sos = chained i sos (link_at ks i) (drop (i + 1) ks)

-- for BD13, an index, if a sequence begins there
abbrev pub beginning : Option ℕ → List Bool → Option ℕ
beginning None bs = None
beginning (Some f) bs = if slice_index_or bs f false then Some f else None

-- for BD13, no sequence begins at an index any more
abbrev pub without_beginning : Option ℕ → List Bool → List Bool
without_beginning None bs = bs
without_beginning (Some f) bs = slice_set bs f false

-- all but the PDIs that wait is as it was
pub record KeepsLinks (old new : Links) : Type 0 where
  pub begins : new.begins ≡ old.begins
  pub links : new.links ≡ old.links
  pub first : new.first ≡ old.first

-- what is kept once the classes from index i on are done
pub record IsLinkedFrom (base i : ℕ) (cs : List Class) (ls : List ℕ) (s : Links) : Type 0 where
  pub sequences : (before : ℕ) → gathered before i cs ls (drop i s.links) (drop i s.begins) ≡ sequences_from base before i cs ls
  pub first : (before : ℕ) → first_of (x9_items base before i cs ls) ≡ s.first
  pub pdis : s.pdis ≡ reverse (unmatched i cs)
