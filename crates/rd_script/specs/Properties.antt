-- The properties of text and of overlays, as an op says them.
use Rattle.std.specs.Prelude.{ℕ, List, [], ◌∷◌, Option, option_and_then, codes}
use Rattle.serde_json.specs.Data.{Data}
use Rattle.rd_base.specs.declared.limits.TheConstants.{ATOMS}
use Rattle.rd_overlays.specs.declared.overlay.Kind.{Kind}
use Rattle.rd_overlays.specs.declared.overlay.Kind.TheVariants as kinds
use Rattle.rd_script.specs.Fields.{Fields, kept_if, within, word, required, optional, made, kind_key, then_value}
use Rattle.rd_script.specs.Forms.{is_text_kind}

abbrev pub kind_names : List (List ℕ × Kind)
kind_names = (codes "face", kinds.Face) ∷ (codes "display", kinds.Display) ∷ (codes "invisible", kinds.Invisible)
    ∷ (codes "line_prefix", kinds.LinePrefix) ∷ (codes "wrap_prefix", kinds.WrapPrefix)
    ∷ (codes "before", kinds.Before) ∷ (codes "after", kinds.After) ∷ []

-- a kind of properties that overlays have
abbrev pub overlay_kind : Data → Option Kind
overlay_kind = word kind_names

-- a kind of properties that text has
abbrev pub text_kind : Data → Option Kind
text_kind d = option_and_then (kept_if is_text_kind) (overlay_kind d)

-- the greatest value of a kind: an atom, or a number of 64 bits by which an object is named
abbrev pub greatest_value : Kind → ℕ
greatest_value kinds.Invisible = ATOMS
greatest_value kind = 18446744073709551615

-- a kind with its value at a key, which is none where it is absent or null
abbrev pub property_value : Kind → List ℕ → Fields (Kind × Option ℕ)
property_value kind key = made (λ value. (kind, value)) (optional key (within 0 (greatest_value kind)))

-- a kind and its value
abbrev pub property : (Data → Option Kind) → Fields (Kind × Option ℕ)
property of = then_value (required kind_key of) property_value
