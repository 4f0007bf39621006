-- The rows of a block depend on what is read of it alone.
use Rattle.std.proofs.Common.{◌≡◌, ℕ, ◌<◌, List, [], ◌∷◌, length, Option, None, Some, IfSome, refl, sym, ap, ◌∙◌}
use Rattle.std.proofs.lemmas.List.Elements.{All-head}
use Rattle.rd_base.proofs.Choices.{if-or}
use Rattle.rd_base.specs.Settings.{SettingValues, without_flags}
use Rattle.rd_ucd.specs.Data.{Data}
use Rattle.rd_objects.specs.Sound.{IsClosed, Extends}
use Rattle.rd_objects.specs.Things.{ObjectLists}
use Rattle.rd_props.specs.Buffers.{BufferValue}
use Rattle.rd_props.specs.Made.{AreMade, SettingsMade, SeesMade}
use Rattle.rd_props.specs.Seen.{Seen}
use Rattle.rd_items.proofs.Growing.{scenes-go-on}
use Rattle.rd_items.specs.Growing.{ReadsMade, GoesOnFrom}
use Rattle.rd_items.specs.Pieces.{Scene, scene_in}
use Rattle.rd_items.specs.Readings.{reading}
use Rattle.rd_matrix.specs.declared.block.Block.{Block}
use Rattle.rd_rows.specs.Rows.{cutting_of, rows_of}
use Rattle.rd_rows.specs.Shapes.{ShapeValues}
use Rattle.rd_stack.proofs.Stays.{line-stays, prefix-stays}
use Rattle.rd_blocks.specs.Rows.{prefix_of, prefix_elements, truncation_mark, continuation_mark, block_cutting, block_rows}
use Rattle.rd_blocks.specs.Sources.{rows_in}

-- what is read of a buffer that names made objects alone
abbrev pub ReadLaw : Type 0
ReadLaw = (s : BufferValue) (objects : ObjectLists) (p : ℕ) → AreMade s objects → ReadsMade objects (reading s objects p)

module _ (old new : Scene) (goes : GoesOnFrom old new) (closed : IsClosed old.objects) (settings : SettingsMade old.objects old.parts.settings) where
  abbrev IsString : ℕ → Type 0
  IsString n = n < length old.objects.strings

  prefix-made : (own : Seen → Option ℕ) (setting : Option ℕ) (es : List Seen) → ((e : Seen) → SeesMade old.objects e → IfSome (own e) IsString) → IfSome setting IsString
      → ReadsMade old.objects es → IfSome (prefix_of own setting es) IsString
  prefix-made own setting [] each set made = set
  prefix-made own setting (e ∷ es) each set made = if-or IsString (own e) setting (each e (All-head (SeesMade old.objects) e es made)) set

  same-prefix : (base : ℕ) (number : Option ℕ) → IfSome number IsString → prefix_elements new base number ≡ prefix_elements old base number
  same-prefix base None made = refl
  same-prefix base (Some n) made = prefix-stays old new goes closed base n made

  same-prefix-of : (own : Seen → Option ℕ) (base : ℕ) (es : List Seen) (now setting : Option ℕ) → now ≡ setting → ((e : Seen) → SeesMade old.objects e → IfSome (own e) IsString) → IfSome setting IsString
      → ReadsMade old.objects es → prefix_elements new base (prefix_of own now es) ≡ prefix_elements old base (prefix_of own setting es)
  same-prefix-of own base es now setting same each set made =
      ap (λ n. prefix_elements new base (prefix_of own n es)) same ∙ same-prefix base (prefix_of own setting es) (prefix-made own setting es each set made)

  same-truncation : truncation_mark new ≡ truncation_mark old
  same-truncation = rw goes.table

  same-continuation : (base : ℕ) → continuation_mark new base ≡ continuation_mark old base
  same-continuation base = rw goes.table

  same-cutting : (base : ℕ) (shape : ShapeValues) (es : List Seen) → ReadsMade old.objects es → block_cutting new base shape es ≡ block_cutting old base shape es
  same-cutting base shape es made =
      let line = same-prefix-of (λ e. e.appearance.line_prefix) base es _ _ (ap (λ (s : SettingValues). s.line_prefix) goes.settings) (λ e sees. sees.line_prefix) settings.line_prefix made in
      let wrap = same-prefix-of (λ e. e.appearance.wrap_prefix) base es _ _ (ap (λ (s : SettingValues). s.wrap_prefix) goes.settings) (λ e sees. sees.wrap_prefix) settings.wrap_prefix made in
      λ i. cutting_of shape base (line i) (wrap i) (same-truncation i) (same-continuation base i)

  pub same-rows : (base : ℕ) (shape : ShapeValues) (es : List Seen) → ReadsMade old.objects es → block_rows new base shape es ≡ block_rows old base shape es
  same-rows base shape es made = λ i. rows_of (same-cutting base shape es made i) (line-stays old new goes closed base es made i)

pub rows-local : ReadLaw → (old new : BufferValue) (made objects : ObjectLists) (files : Data) (a b : Block) (shape : ShapeValues) → without_flags new.settings ≡ without_flags old.settings → IsClosed made → AreMade old made → Extends made objects
    → a.base ≡ b.base → reading old made a.start ≡ reading new objects b.start → rows_in new objects files b shape ≡ rows_in old made files a shape
rows-local read old new made objects files a b shape settings closed named extends bases reads =
    let goes = scenes-go-on made objects old.settings new.settings files extends named.settings settings in
    let old_scene = scene_in old.settings made files in
    let new_scene = scene_in new.settings objects files in
    ap (λ (es : List Seen). block_rows new_scene b.base shape es) (sym reads)
    ∙ ap (λ (base : ℕ). block_rows new_scene base shape (reading old made a.start)) (sym bases)
    ∙ same-rows old_scene new_scene goes closed named.settings a.base shape (reading old made a.start) (read old made a.start named)
