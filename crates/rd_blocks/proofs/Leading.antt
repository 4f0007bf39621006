-- Changes of edits, and changes that are combined, lead from one state to a later one.
use Rattle.std.proofs.Common.{◌≡◌, inl, inr, ℕ, ◌+◌, ◌≤◌, min, max, nat_le, ◌&&◌, ◌||◌, refl, ap, ◌∙◌, arith}
use Rattle.std.specs.Prelude.{ℤ, pos, negsuc, ◌+ℤ◌, ◌-ℤ◌, ◌≤ℤ◌}
use Rattle.std.proofs.lemmas.Int.{ints}
use Rattle.rd_base.proofs.Choices.{either}
use Rattle.rd_objects.proofs.Soundness.{extends_further, extends_itself}
use Rattle.rd_objects.specs.Sound.{IsClosed, Extends}
use Rattle.rd_objects.specs.Things.{ObjectLists}
use Rattle.rd_props.specs.Agreement.{Unchanged, IsEdited}
use Rattle.rd_props.specs.Buffers.{BufferValue}
use Rattle.rd_props.specs.Made.{AreMade}
use Rattle.rd_base.specs.Lists.{moved}
use Rattle.rd_base.specs.Settings.{without_flags}
use Rattle.rd_reuse.specs.Changes.{change_of, edit, is_all, is_small, join, none}
use Rattle.rd_reuse.specs.declared.change.Change.{Change}
use Rattle.rd_reuse.proofs.Combining.{all-last}
use Rattle.rd_blocks.specs.Leads.{Leads, LeadsTo}

-- what is known of changes
abbrev pub ChangeLaw : Type 0
ChangeLaw = (old between new : BufferValue) (a b c : ObjectLists) (head later_head tail later_tail both_tail : ℕ) (added later_added : ℤ) → Unchanged old a between b head tail added → Unchanged between b new c later_head later_tail later_added
    → (pos between.text.begin +ℤ later_added) ≤ℤ pos (max between.text.begin later_tail) → (pos tail +ℤ later_added) ≤ℤ pos both_tail → later_tail ≤ both_tail → Unchanged old a new c (min head later_head) both_tail (added +ℤ later_added)

-- a change of a range, or of all where it is none
pub leads-ranged : (old new : BufferValue) (made objects : ObjectLists) (head tail : ℕ) (added : ℤ) → IsClosed made → AreMade old made → without_flags new.settings ≡ without_flags old.settings → Extends made objects
    → Unchanged old made new objects head tail added → (pos old.text.begin +ℤ added) ≤ℤ pos (max old.text.begin tail) → LeadsTo old made new objects (change_of head tail added)
leads-ranged old new made objects head tail added closed named settings extends same inside =
    either (LeadsTo old made new objects) (nat_le tail 4294967295 && is_small added) _ _
    (inr (record {
      follows = record { settings = settings; closed = closed; named = named; extends = extends; unchanged = same };
      inside = inside;
    }))
    (inl refl)

-- where nothing changed
pub leads-none : (old new : BufferValue) (made objects : ObjectLists) → IsClosed made → AreMade old made → without_flags new.settings ≡ without_flags old.settings → Extends made objects
    → Unchanged old made new objects 4294967295 0 (pos 0) → LeadsTo old made new objects none
leads-none old new made objects closed named settings extends same =
    leads-ranged old new made objects 4294967295 0 (pos 0) closed named settings extends same (omega (arith, ints))

pub leads-edited : (old new : BufferValue) (objects : ObjectLists) (from removed added : ℕ) → old.text.begin ≤ from → IsClosed objects → AreMade old objects → without_flags new.settings ≡ without_flags old.settings
    → IsEdited old objects new objects from removed added → LeadsTo old objects new objects (edit from removed added)
leads-edited old new objects from removed added low closed named settings edited =
    leads-ranged old new objects objects from (from + added + 1) (pos added -ℤ pos removed) closed named settings (extends_itself objects) edited (omega (arith, ints))

moved-least : (d : ℤ) (tail : ℕ) → (pos tail +ℤ d) ≤ℤ pos (moved d tail)
moved-least (pos n) tail = omega (arith, ints)
moved-least (negsuc n) tail = omega (arith, ints)

both-inside : (begin next : ℕ) (tail later_tail moved_tail : ℕ) (d e : ℤ) → next ≡ begin → (pos begin +ℤ d) ≤ℤ pos (max begin tail) → (pos next +ℤ e) ≤ℤ pos (max next later_tail) → (pos tail +ℤ e) ≤ℤ pos moved_tail
    → (pos begin +ℤ (d +ℤ e)) ≤ℤ pos (max begin (max moved_tail later_tail))
both-inside begin next tail later_tail moved_tail d e same first last least = omega (arith, ints)

module _ (joins : ChangeLaw) (first second third : BufferValue) (a b c : ObjectLists) (change later : Change) where
  both-lead : Leads first a second b change → Leads second b third c later → LeadsTo first a third c (join change later)
  both-lead one two =
      let least = moved-least later.added change.tail in
      let last = two.inside in
      either (LeadsTo first a third c) (is_all change || is_all later) _ _ (inl refl)
      (leads-ranged first third a c (min change.head later.head) (max (moved later.added change.tail) later.tail) (change.added +ℤ later.added) one.follows.closed one.follows.named
      (two.follows.settings ∙ one.follows.settings) (extends_further a b c one.follows.extends two.follows.extends)
      (joins first second third a b c change.head later.head change.tail later.tail (max (moved later.added change.tail) later.tail) change.added later.added one.follows.unchanged two.follows.unchanged last
      (omega (arith, ints, least)) (omega arith))
      (both-inside first.text.begin second.text.begin change.tail later.tail (moved later.added change.tail) change.added later.added one.follows.unchanged.begin one.inside last least))

  pub leads-combined : LeadsTo first a second b change → LeadsTo second b third c later → LeadsTo first a third c (join change later)
  leads-combined (inl any) two = inl (ap (λ (x : Change). join x later) any)
  leads-combined (inr one) (inl any) = inl (ap (λ (x : Change). join change x) any ∙ all-last change)
  leads-combined (inr one) (inr two) = both-lead one two
