-- The parts of a string, in the order in which they are shown.
use Rattle.std.specs.Prelude.{ℕ, ◌+◌, ◌-◌, nat_lt, Bool, false, not, ◌&&◌, is_some, if◌then◌else◌, List, [], ◌∷◌, ◌++◌, length, map, get_or, slice_get, Option, None, Some, option_map}
use Rattle.std.specs.List.{flat_map, range_with_len}
use Rattle.rd_base.specs.Faces.{Attributes, over}
use Rattle.rd_base.specs.declared.class.Class.{Class}
use Rattle.rd_base.specs.declared.class.Class.TheVariants.{S, ON}
use Rattle.rd_text.specs.Texts.{is_newline}
use Rattle.rd_ucd.specs.Lookup.{class_of}
use Rattle.rd_objects.specs.Texts.{TextValue, face_of, spec_of}
use Rattle.rd_objects.specs.declared.run.Spec.{Spec}
use Rattle.rd_objects.specs.declared.run.Spec.TheVariants.{Text}
use Rattle.rd_glyphs.specs.MarkRoles.{mark_role_of, base_of, mark_of}
use Rattle.rd_glyphs.specs.Marks.{Joins, marks_joined}
use Rattle.rd_glyphs.specs.declared.mark_role.MarkRole.TheVariants as role
use Rattle.rd_items.specs.Pieces.{Scene, spec_in, class_in_line, same_spec}
use Rattle.rd_items.specs.Items.{bracket_code}
use Rattle.rd_items.specs.declared.item.ItemKind.{ItemKind}
use Rattle.rd_items.specs.declared.item.ItemKind.TheVariants as kind
use Rattle.rd_levels.specs.Turns.{turns_of}
use Rattle.rd_levels.specs.declared.turn.Turn.{Turn}
use Rattle.rd_stack.specs.declared.part.Place.{Place}
use Rattle.rd_stack.specs.declared.part.Part.{Part}
use Rattle.rd_stack.specs.declared.part.Shown.{Shown}

-- a place of a string over a face: its own run's face over that one, and the display spec that replaces it where the string's
-- display runs are used
abbrev pub place_of : Bool → TextValue → Attributes → ℕ → Place
place_of replaced text under i = record {
  ch = get_or text.chars i 0;
  face = over (face_of text i) under;
  spec = if replaced then spec_of text i else None;
}

-- the places of a string from one on
abbrev pub places_from : Bool → TextValue → Attributes → ℕ → List Place
places_from replaced text under i = map (place_of replaced text under) (range_with_len i (length text.chars - i))

-- places without those that go on the run of the place before them, which has this spec: a run of places with one spec stands as
-- its first
abbrev pub run_heads : Option ℕ → List Place → List Place
run_heads before [] = []
run_heads before (p ∷ ps) = (if same_spec before p.spec then [] else p ∷ []) ++ run_heads p.spec ps

-- a newline that no spec replaces
abbrev pub ends_row : Place → Bool
ends_row p = not (is_some p.spec) && is_newline p.ch

-- in the order of a row a spec's string counts as ON, and its space as a separator of segments
abbrev pub spec_class : Spec → Class
spec_class (Text n) = ON
spec_class space = S

-- what a spec puts: its string, or its space
abbrev pub spec_kind : Spec → ItemKind
spec_kind (Text n) = kind.Text n
spec_kind space = kind.Space space

abbrev pub part_by : Scene → Option Spec → Place → Part
part_by s (Some spec) p = record { class = spec_class spec; kind = spec_kind spec; face = p.face; role = role.Alone }
part_by s None p = record {
  class = class_in_line (class_of s.parts.classes p.ch);
  kind = kind.Char p.ch;
  face = p.face;
  role = mark_role_of s.parts p.ch;
}

abbrev pub part_of : Scene → Place → Part
part_of s p = part_by s (option_map (spec_in s.objects) p.spec) p

-- how the parts of a row join marks
abbrev pub part_joins : Joins Part
part_joins = record {
  base = λ x. base_of x.role;
  mark = λ x. mark_of x.role;
  grown = λ held glyph next. record held { kind = kind.Marked glyph; role = role.Base glyph };
}

-- the part at a place in its turn, if there is one
abbrev pub shown_by : Bool → Option Part → List Shown
shown_by odd None = []
shown_by odd (Some x) = record { kind = x.kind; face = x.face; odd = odd } ∷ []

abbrev pub shown_at : List Part → Turn → List Shown
shown_at xs turn = shown_by turn.odd (slice_get xs turn.index)

abbrev pub part_class : Part → Class
part_class x = x.class

abbrev pub part_code : Part → ℕ
part_code x = bracket_code x.kind

-- parts in visual order, in a line of this base
abbrev pub in_order : Scene → ℕ → List Part → List Shown
in_order s base xs =
    flat_map (shown_at xs) (turns_of s.brackets s.parts.settings.reorder base (map part_class xs) (map part_code xs))

-- a row of a string: its marks join, and its parts are put in order
abbrev pub row : Scene → ℕ → List Part → List Shown
row s base xs = in_order s base (marks_joined part_joins xs)

-- the newline that ends a row of a string, as an ender
abbrev pub row_end : Attributes → Shown
row_end face = record { kind = kind.Ender; face = face; odd = false }

-- the rows of a string that are left, where these parts of the first of them were read: each newline ends one
abbrev pub rows_from : Scene → ℕ → List Part → List Place → List Shown
rows_from s base xs [] = row s base xs
rows_from s base xs (p ∷ ps) =
    if ends_row p then row s base xs ++ row_end p.face ∷ rows_from s base [] ps else rows_from s base (xs ++ part_of s p ∷ []) ps

-- the parts of the rows of a string from a place on, where a row begins
abbrev pub shown_from : Scene → ℕ → Bool → TextValue → Attributes → ℕ → List Shown
shown_from s base replaced text under i = rows_from s base [] (run_heads None (places_from replaced text under i))

-- the parts of a string behind a row that ends at a place, with the row's end, where it is not the string's
abbrev pub behind_row : Scene → ℕ → Bool → TextValue → Attributes → ℕ → List Shown
behind_row s base replaced text under i =
    if nat_lt i (length text.chars) then row_end (place_of replaced text under i).face ∷ shown_from s base replaced text under (i + 1) else []

-- the parts of a string over a face in the order in which they are shown, with the ends of its rows; its display runs are used or
-- not
abbrev pub string_parts : Scene → ℕ → Bool → TextValue → Attributes → List Shown
string_parts s base replaced text under = shown_from s base replaced text under 0
