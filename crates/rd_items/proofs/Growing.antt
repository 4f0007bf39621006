-- Objects that are made change no item of what names none of them.
use Rattle.std.proofs.Common.{◌≡◌, ℕ, ◌+◌, ◌<◌, List, [], ◌∷◌, ◌++◌, length, Option, Some, None, IfSome, refl, ap, ◌∙◌}
use Rattle.std.specs.Prelude.{zero, suc, slice_get}
use Rattle.std.specs.Option.{unwrap_or, option_and_then}
use Rattle.std.proofs.lemmas.List.Elements.{All-head, All-tail, All-get_or}
use Rattle.std.proofs.lemmas.Option.{unwrap_or-slice_get}
use Rattle.rd_objects.proofs.Soundness.{goes_kept}
use Rattle.rd_base.specs.Faces.{Attributes}
use Rattle.rd_base.specs.Settings.{SettingValues, without_flags}
use Rattle.rd_base.specs.declared.settings.Invisible.{Invisible}
use Rattle.rd_ucd.specs.Data.{Data}
use Rattle.rd_objects.specs.declared.run.Spec.{Spec}
use Rattle.rd_objects.specs.declared.run.Spec.TheVariants.{Text, Width, Align}
use Rattle.rd_objects.specs.Sound.{NamesMade, IsClosed, GoesOn, Extends}
use Rattle.rd_objects.specs.Things.{ObjectLists}
use Rattle.rd_glyphs.specs.Marks.{marks_joined}
use Rattle.rd_props.specs.Made.{SettingsMade, SeesMade}
use Rattle.rd_props.specs.Seen.{Seen}
use Rattle.rd_props.specs.declared.hiding.Hidden.{Hidden}
use Rattle.rd_props.specs.declared.hiding.Hidden.TheVariants.{No, Plain, Ellipsis}
use Rattle.rd_items.specs.declared.piece.Piece.{Piece}
use Rattle.rd_items.specs.Readings.{showing_of}
use Rattle.rd_items.specs.Pieces.{Scene, table_in, scene_in, string_pieces, spec_in, spec_piece, open_piece, char_piece, piece_by, piece_at, run_in, pieces_from}
use Rattle.rd_items.specs.Items.{piece_joins, covering, items_of}
use Rattle.rd_items.specs.Growing.{ReadsMade, GoesOnFrom}

-- ---- lists that go on

same-option : {X : Type 0} (old new : List X) (number : Option ℕ) → GoesOn old new → IfSome number (λ n. n < length old) → option_and_then (λ n. slice_get new n) number ≡ option_and_then (λ n. slice_get old n) number
same-option old new None goes made = refl
same-option old new (Some n) goes made = goes_kept old new n goes made

-- the table of settings
pub same-table : (o n : ObjectLists) (settings : SettingValues) → Extends o n → SettingsMade o settings → table_in n settings.table ≡ table_in o settings.table
same-table o n settings extends made = same-option o.tables n.tables settings.table extends.tables made.table

same-number : (a b : SettingValues) → without_flags b ≡ without_flags a → b.table ≡ a.table
same-number a b same = ap (λ (s : SettingValues). s.table) same

pub scenes-go-on : (o n : ObjectLists) (a b : SettingValues) (files : Data) → Extends o n → SettingsMade o a → without_flags b ≡ without_flags a → GoesOnFrom (scene_in a o files) (scene_in b n files)
scenes-go-on o n a b files extends made same = record {
  objects = extends;
  table = ap (table_in n) (same-number a b same) ∙ same-table o n a extends made;
  settings = same;
  classes = refl;
  mirrors = refl;
  brackets = refl;
}

-- control characters are shown with an arrow in both scenes, or in neither
pub same-arrow : (old new : Scene) → GoesOnFrom old new → new.parts.settings.ctl_arrow ≡ old.parts.settings.ctl_arrow
same-arrow old new goes = ap (λ (s : SettingValues). s.ctl_arrow) goes.settings

-- ---- pieces

pub spec-named : (o : ObjectLists) (n : ℕ) → IsClosed o → n < length o.specs → NamesMade (length o.strings) (spec_in o n)
spec-named o n closed made = rw (unwrap_or-slice_get o.specs n (Width 0)) (All-get_or (NamesMade (length o.strings)) o.specs n (Width 0) made closed.specs)

module _ (old new : Scene) (goes : GoesOnFrom old new) (closed : IsClosed old.objects) where
  setting : new.parts.settings.invisible ≡ old.parts.settings.invisible
  setting = ap (λ (s : SettingValues). s.invisible) goes.settings

  same-spec : (spec : Spec) (face : Attributes) (p to : ℕ) → NamesMade (length old.objects.strings) spec → spec_piece new spec face p to ≡ spec_piece old spec face p to
  same-spec (Text n) face p to made = rw (goes.table, goes_kept old.objects.strings new.objects.strings n goes.objects.strings made)
  same-spec (Width n) face p to made = refl
  same-spec (Align n) face p to made = refl

  same-char : (face : Attributes) (c p : ℕ) → char_piece new face c p ≡ char_piece old face c p
  same-char face c p = rw (goes.table, same-arrow old new goes, goes.classes)

  same-open : (face : Attributes) (ch : Option ℕ) (p : ℕ) → open_piece new face ch p ≡ open_piece old face ch p
  same-open face None p = refl
  same-open face (Some c) p = rw (same-char face c p)

  same-by : (display : Option ℕ) (hidden : Hidden) (face : Attributes) (ch : Option ℕ) (p to : ℕ) → IfSome display (λ n. n < length old.objects.specs) → piece_by new display hidden face ch p to ≡ piece_by old display hidden face ch p to
  same-by (Some n) hidden face ch p to made =
      let number : spec_in new.objects n ≡ spec_in old.objects n = ap (λ (x : Option Spec). unwrap_or x (Width 0)) (goes_kept old.objects.specs new.objects.specs n goes.objects.specs made) in
      ap (λ (x : Spec). spec_piece new x face p to) number ∙ same-spec (spec_in old.objects n) face p to (spec-named old.objects n closed made)
  same-by None No face ch p to made = same-open face ch p
  same-by None Plain face ch p to made = refl
  same-by None Ellipsis face ch p to made = rw goes.table

  same-run : (e : Seen) (es : List Seen) → run_in new e es ≡ run_in old e es
  same-run e es = rw setting

  same-at : (e : Seen) (es : List Seen) (p : ℕ) → SeesMade old.objects e → piece_at new (showing_of new.parts.settings.invisible e) e.character p (suc p + run_in new e es) ≡ piece_at old (showing_of old.parts.settings.invisible e) e.character p (suc p + run_in old e es)
  same-at e es p made =
      ap (λ (n : ℕ). piece_at new (showing_of new.parts.settings.invisible e) e.character p (suc p + n)) (same-run e es)
      ∙ ap (λ (i : Invisible). piece_at new (showing_of i e) e.character p (suc p + run_in old e es)) setting
      ∙ (same-by e.appearance.display (showing_of old.parts.settings.invisible e).hidden e.appearance.face e.character p (suc p + run_in old e es) made.display)

  same-pieces : (due p : ℕ) (es : List Seen) → ReadsMade old.objects es → pieces_from new due p es ≡ pieces_from old due p es
  same-pieces due p [] made = refl
  same-pieces (suc due) p (e ∷ es) made = same-pieces due (suc p) es (All-tail (SeesMade old.objects) e es made)
  same-pieces zero p (e ∷ es) made =
      let rest = same-pieces (run_in old e es) (suc p) es (All-tail (SeesMade old.objects) e es made) in
      let first = same-at e es p (All-head (SeesMade old.objects) e es made) in
      ap (λ (xs : List Piece). string_pieces p e.appearance.face e.strings ++ xs)
      (ap (λ (x : Piece). x ∷ pieces_from new (run_in new e es) (suc p) es) first
      ∙ ap (λ (xs : List Piece). piece_at old (showing_of old.parts.settings.invisible e) e.character p (suc p + run_in old e es) ∷ xs)
      (ap (λ (due : ℕ). pieces_from new due (suc p) es) (same-run e es) ∙ rest))

-- the items of what is read
pub same-items : (old new : Scene) (es : List Seen) → GoesOnFrom old new → IsClosed old.objects → ReadsMade old.objects es → items_of new es ≡ items_of old es
same-items old new es goes closed made = ap (λ (xs : List Piece). covering 0 (marks_joined piece_joins xs)) (same-pieces old new goes closed 0 0 es made)
