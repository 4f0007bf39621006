-- The objects that an op makes: strings, display specs, faces and display tables.
use Rattle.std.specs.Prelude.{ℕ, ◌-◌, Bool, false, List, [], ◌∷◌, Option, None, Some, option_and_then, option_map, codes}
use Rattle.std.specs.Str.{chars}
use Rattle.serde_json.specs.Data.{Data}
use Rattle.serde_json.specs.Find.{as_bool, as_str}
use Rattle.rd_base.specs.Faces.{Attributes}
use Rattle.rd_base.specs.declared.limits.TheConstants.{CODE_POINTS, COLOURS, SPACE_COLUMNS}
use Rattle.rd_objects.specs.declared.run.RunKind.{RunKind}
use Rattle.rd_objects.specs.declared.run.RunKind.TheVariants as kinds
use Rattle.rd_script.specs.declared.object.OpEntry.{OpEntry}
use Rattle.rd_script.specs.declared.object.OpRun.{OpRun}
use Rattle.rd_script.specs.declared.object.OpSpec.{OpSpec}
use Rattle.rd_script.specs.declared.object.OpSpec.TheVariants as specs
use Rattle.rd_script.specs.declared.object.SpecName.{SpecName}
use Rattle.rd_script.specs.declared.object.SpecName.TheVariants as names
use Rattle.rd_script.specs.Fields.{Fields, kept_if, whole, within, word, two_items, four_items, required, optional, defaulted, both, made, kind_key, then_value}
use Rattle.rd_script.specs.Forms.{is_glyph_text, is_slot}

-- ---- strings

abbrev pub run_kinds : List (List ℕ × RunKind)
run_kinds = (codes "face", kinds.Face) ∷ (codes "display", kinds.Display) ∷ []

abbrev pub op_run : ℕ × (ℕ × (RunKind × ℕ)) → OpRun
op_run parts = record { from = parts.0; to = parts.1.0; kind = parts.1.1.0; value = parts.1.1.1 }

-- where a run begins and ends, its kind, and the number of its face or display spec
abbrev pub run_form : Data → Option OpRun
run_form d = option_map op_run (four_items whole whole (word run_kinds) whole d)

-- ---- display specs

abbrev pub spec_names : List (List ℕ × SpecName)
spec_names = (codes "string", names.Text) ∷ (codes "width", names.Width) ∷ (codes "align", names.Align) ∷ []

-- the string or the columns of a spec, at a key
abbrev pub spec_value : SpecName → List ℕ → Fields OpSpec
spec_value names.Text key = made specs.Text (required key whole)
spec_value names.Width key = made specs.Width (required key (within 0 SPACE_COLUMNS))
spec_value names.Align key = made specs.Align (required key (within 0 SPACE_COLUMNS))

-- what a spec is, and then its string or its columns
abbrev pub spec : Fields OpSpec
spec = then_value (required kind_key (word spec_names)) spec_value

-- ---- faces

abbrev pub face_of : ℕ × (ℕ × (Bool × (Bool × Bool))) → Attributes
face_of f = record { fg = f.0; bg = f.1.0; bold = f.1.1.0; underline = f.1.1.1.0; inverse = f.1.1.1.1 }

-- colours, which are none where they are not said, and flags
abbrev pub face : Fields Attributes
face = made face_of (both (defaulted COLOURS (codes "fg") (within 0 (COLOURS - 1))) (both (defaulted COLOURS (codes "bg") (within 0 (COLOURS - 1)))
    (both (defaulted false (codes "bold") as_bool) (both (defaulted false (codes "underline") as_bool) (defaulted false (codes "inverse") as_bool)))))

-- ---- display tables

-- so many glyph characters as an entry may show
abbrev pub glyph_text : Data → Option (List ℕ)
glyph_text d = option_and_then (kept_if is_glyph_text) (option_map chars (as_str d))

abbrev pub only : List ℕ → Option ℕ
only [] = None
only (c ∷ []) = Some c
only (c ∷ d ∷ cs) = None

-- a text of one glyph character of one column
abbrev pub slot : Data → Option ℕ
slot d = option_and_then (kept_if is_slot) (option_and_then only (option_map chars (as_str d)))

abbrev pub op_entry : ℕ × List ℕ → OpEntry
op_entry parts = record { code = parts.0; text = parts.1 }

-- a code and what is shown in its place
abbrev pub entry_form : Data → Option OpEntry
entry_form d = option_map op_entry (two_items (within 0 (CODE_POINTS - 1)) glyph_text d)

abbrev pub slot_field : List ℕ → Fields (Option ℕ)
slot_field key = optional key slot
