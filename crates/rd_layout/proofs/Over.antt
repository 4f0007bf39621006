-- A last layout stands over a later state in which nothing changed of what its window shows.
use Rattle.std.proofs.Common.{◌≡◌, ◌⊎◌, inl, inr, ℕ, ◌^◌, ◌<◌, ◌==◌, ◌&&◌, ◌||◌, min, max, nat_le, true, ◌+ℤ◌, ap, refl, subst, ◌∙◌, arith}
use Rattle.rd_base.specs.Lists.{moved}
use Rattle.rd_base.proofs.Choices.{either}
use Rattle.rd_base.specs.declared.settings.Anchor.{Anchor}
use Rattle.rd_base.specs.Settings.{without_flags}
use Rattle.rd_blocks.proofs.Listed.{among-block, among-small}
use Rattle.rd_blocks.proofs.SameReading.{reads-before}
use Rattle.rd_blocks.specs.Bases.{blocks_in}
use Rattle.rd_blocks.specs.Leads.{LeadsTo}
use Rattle.rd_blocks.specs.Sources.{rows_in, text_source}
use Rattle.rd_items.specs.Blocks.{IsBlock}
use Rattle.rd_items.specs.Readings.{reading}
use Rattle.rd_matrix.specs.Blocks.{IsAmong}
use Rattle.rd_matrix.specs.declared.block.Block.{Block}
use Rattle.rd_objects.specs.Sound.{IsClosed, Extends}
use Rattle.rd_objects.specs.Things.{ObjectLists}
use Rattle.rd_props.specs.Buffers.{BufferValue}
use Rattle.rd_props.specs.Made.{AreMade}
use Rattle.rd_reuse.proofs.Changes.{all-is-change, change-by}
use Rattle.rd_reuse.proofs.Combining.{none-last}
use Rattle.rd_reuse.specs.Changes.{IsChange, all, edit, is_all, is_none, is_small, join, none}
use Rattle.rd_reuse.specs.declared.change.Change.{Change}
use Rattle.rd_rows.specs.Laws.{seen_rows}
use Rattle.rd_rows.specs.Shapes.{ShapeValues}
use Rattle.rd_state.specs.declared.effect.Effect.{Effect}
use Rattle.rd_state.specs.declared.effect.Effect.TheVariants.{Nothing, Edit, Moved, All, Window}
use Rattle.rd_text.specs.Texts.{IsText}
use Rattle.rd_ucd.specs.Data.{Data}
use Rattle.rd_window.proofs.Standing.{stands-on}
use Rattle.rd_window.specs.Layouts.{Stands}
use Rattle.rd_window.specs.declared.layout.Layout.{Layout}
use Rattle.rd_layout.specs.Changes.{change_by, if_shown, restyled}
use Rattle.rd_layout.specs.Laws.{ViewLaws}
use Rattle.rd_layout.proofs.Calm.{combined-tail, edit-tail, moved-tail, tail-told}

-- what the layers below say
pub record OverLaws : Type 0 where
  pub grown : (s : BufferValue) (made objects : ObjectLists) → IsClosed made → AreMade s made → Extends made objects → LeadsTo s made s objects none
  pub local : (old new : BufferValue) (made objects : ObjectLists) (files : Data) (a b : Block) (shape : ShapeValues) → without_flags new.settings ≡ without_flags old.settings → IsClosed made → AreMade old made → Extends made objects
      → a.base ≡ b.base → reading old made a.start ≡ reading new objects b.start → rows_in new objects files b shape ≡ rows_in old made files a shape

-- ---- changes

shown-tail : (i k : ℕ) (change : Change) → 0 < change.tail → (if_shown i k change ≡ none) ⊎ (0 < (if_shown i k change).tail)
shown-tail i k change some = either (λ (c : Change). (c ≡ none) ⊎ (0 < c.tail)) (i == k) _ _ (inr some) (inl refl)

-- what an effect is for a window is none, or has a tail
none-or-tail : (effect : Effect) (number k : ℕ) → (change_by effect number k ≡ none) ⊎ (0 < (change_by effect number k).tail)
none-or-tail Nothing number k = inl refl
none-or-tail (Edit i from removed added) number k = shown-tail i k (edit from removed added) (edit-tail from removed added)
none-or-tail (Moved i before after) number k = shown-tail i k (join (restyled before) (restyled after)) (moved-tail before after)
none-or-tail (All i) number k = shown-tail i k all (omega arith)
none-or-tail (Window n) number k = shown-tail n number all (omega arith)

-- where nothing changed after a change was combined with that of an effect, the effect tells none
pub combined-none : (x : Change) (effect : Effect) (number k : ℕ) → is_none (join x (change_by effect number k)) ≡ true → change_by effect number k ≡ none
combined-none x effect number k h = elim (none-or-tail effect number k) [
  | inl is ↦ is
  | inr some ↦ absurd (tail-told (join x (change_by effect number k)) (combined-tail x (change_by effect number k) some) h)
]

pub new-change : IsChange none
new-change = record { head = omega arith; tail = omega arith; added = refl }

pub combined-change : (x y : Change) → IsChange x → IsChange (join x y)
combined-change x y is =
    let tail = max (moved y.added x.tail) y.tail in
    let added = x.added +ℤ y.added in
    let head = is.head in
    either IsChange (is_all x || is_all y) _ _ all-is-change (change-by (nat_le tail 4294967295 && is_small added) (min x.head y.head) tail added refl (omega (arith, head)))

pub first-none : (x y : Change) → IsChange x → y ≡ none → is_none (join x y) ≡ true → is_none x ≡ true
first-none x y is same h = subst (λ (c : Change). is_none c ≡ true) (ap (join x) same ∙ none-last x is) h

-- ---- objects that were made since

module _ (laws : OverLaws) (s : BufferValue) (made objects : ObjectLists) (closed : IsClosed made) (named : AreMade s made) (extends : Extends made objects) (text : IsText s.text) where
  same-reading : (b : Block) → IsBlock s b.start b.end → b.end < 2 ^ 32 → reading s made b.start ≡ reading s objects b.start
  same-reading b block small = elim (laws.grown s made objects closed named extends) [
    | inl same ↦ absurd (none-not-all same)
    | inr leads ↦ reads-before s made s objects refl none leads.follows.unchanged b.start b.end block (omega arith)
  ] where
    none-not-all : none ≡ all → ⊥
    none-not-all h = let heads : 4294967295 ≡ 0 = ap (λ (c : Change). c.head) h in absurd (omega (arith, heads))

  block-rows : (views : ViewLaws) (files : Data) (shape : ShapeValues) (b : Block) → IsAmong (blocks_in files.classes s) b → seen_rows (rows_in s objects files b shape) ≡ seen_rows (rows_in s made files b shape)
  block-rows views files shape b among =
      let blocks = views.listed s text.ordered in
      let reads = same-reading b (among-block files.classes s blocks b among) (among-small files.classes s blocks text b among) in
      ap seen_rows (laws.local s s made objects files b b shape refl closed named extends refl reads)

  pub objects-over : (views : ViewLaws) (files : Data) (anchor : Anchor) (l : Layout) → Stands (text_source s made files) anchor l → Stands (text_source s objects files) anchor l
  objects-over views files anchor l stands =
      stands-on (text_source s made files) (text_source s objects files) anchor l refl (block-rows views files l.shape) stands
