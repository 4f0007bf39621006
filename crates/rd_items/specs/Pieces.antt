-- The pieces of a block: what its positions give, before marks join and ranges are handed on. Places are offsets in what is read.
use Rattle.std.specs.Prelude.{ℕ, zero, suc, ◌+◌, ◌==◌, Bool, true, false, not, ◌||◌, ◌&&◌, if◌then◌else◌, List, [], ◌∷◌, ◌++◌, slice_get, map, Option, None, Some}
use Rattle.std.specs.Option.{unwrap_or, option_and_then}
use Rattle.std.specs.List.{list_any, prefix_len}
use Rattle.rd_base.specs.declared.class.Class.{Class}
use Rattle.rd_base.specs.declared.class.Class.TheVariants.{B, S, ON}
use Rattle.rd_base.specs.Faces.{Attributes}
use Rattle.rd_base.specs.Settings.{SettingValues}
use Rattle.rd_base.specs.declared.settings.Invisible.{Invisible}
use Rattle.rd_base.specs.Glyphs.{IsMeasured}
use Rattle.rd_text.specs.Texts.{is_newline}
use Rattle.rd_ucd.specs.declared.spans.BracketEntry.{BracketEntry}
use Rattle.rd_ucd.specs.Data.{Data}
use Rattle.rd_ucd.specs.Lookup.{class_of}
use Rattle.rd_objects.specs.declared.run.Spec.{Spec}
use Rattle.rd_objects.specs.declared.run.Spec.TheVariants.{Text, Width, Align}
use Rattle.rd_objects.specs.Tables.{TableValue}
use Rattle.rd_objects.specs.Texts.{TextValue}
use Rattle.rd_objects.specs.Things.{ObjectLists}
use Rattle.rd_glyphs.specs.Characters.{PartValues, glyphs_for}
use Rattle.rd_glyphs.specs.MarkRoles.{is_empty_entry, mark_role_of, base_of, mark_of}
use Rattle.rd_glyphs.specs.declared.mark_role.MarkRole.{MarkRole}
use Rattle.rd_glyphs.specs.declared.mark_role.MarkRole.TheVariants as role
use Rattle.rd_props.specs.Buffers.{files_of, meaning}
use Rattle.rd_props.specs.Seen.{Seen}
use Rattle.rd_props.specs.declared.state.View.{View}
use Rattle.rd_props.specs.declared.hiding.Hidden.{Hidden}
use Rattle.rd_props.specs.declared.hiding.Hidden.TheVariants.{No, Plain, Ellipsis}
use Rattle.rd_items.specs.Readings.{is_hidden, showing_of}
use Rattle.rd_items.specs.declared.showing.Showing.{Showing}
use Rattle.rd_items.specs.declared.item.ItemKind.{ItemKind}
use Rattle.rd_items.specs.declared.item.ItemKind.TheVariants as kind
use Rattle.rd_items.specs.declared.piece.Piece.{Piece}

-- what the items of a block depend on, besides what is read of it; the brackets count in the order of its line alone
pub record Scene : Type 0 where
  pub objects : ObjectLists
  pub parts : PartValues
  pub brackets : List BracketEntry

-- the table of a number, where one was made with it
abbrev pub table_in : ObjectLists → Option ℕ → Option TableValue
table_in objects number = option_and_then (λ n. slice_get objects.tables n) number

-- the scene of a buffer with these settings
abbrev pub scene_in : SettingValues → ObjectLists → Data → Scene
scene_in settings objects files = record {
  objects = objects;
  parts =
      record { table = table_in objects settings.table; settings = settings; classes = files.classes; mirrors = files.mirrors };
  brackets = files.brackets;
}

abbrev pub scene_of : View → Scene
scene_of view = scene_in (meaning view.state.now).settings view.objects.now (files_of view)

-- the display spec of a number: no columns where none was made with it
abbrev pub spec_in : ObjectLists → ℕ → Spec
spec_in objects number = unwrap_or (slice_get objects.specs number) (Width 0)

-- a character of a string that gives an element: a newline ends a row, and any other has those of its entry in the table
abbrev pub gives_element : Option TableValue → ℕ → Bool
gives_element table c = is_newline c || not (is_empty_entry (glyphs_for table c))

-- whether characters give any element
abbrev pub give_elements : Option TableValue → List ℕ → Bool
give_elements table = list_any (gives_element table)

-- whether a display string gives any element
abbrev pub string_gives : Option TableValue → Option TextValue → Bool
string_gives table None = false
string_gives table (Some text) = give_elements table text.chars

-- whether the ellipsis gives any element: none where the table has an empty one
abbrev pub ellipsis_gives : Option TableValue → Bool
ellipsis_gives None = true
ellipsis_gives (Some table) = not (is_empty_entry table.ellipsis)

-- a piece that marks don't join and that is no overlay's string
abbrev pub piece : Class → Option ItemKind → Attributes → Bool → ℕ → ℕ → Piece
piece class kind face covers at to = record {
  class = class;
  kind = kind;
  face = face;
  overlay = false;
  covers = covers;
  at = at;
  to = to;
  base = None;
  mark = None;
}

-- the strings of overlays at a position cover nothing
abbrev pub string_piece : ℕ → Attributes → ℕ → Piece
string_piece p face number = record (piece ON (Some (kind.Text number)) face false p p) { overlay = true }

abbrev pub string_pieces : ℕ → Attributes → List ℕ → List Piece
string_pieces p face numbers = map (string_piece p face) numbers

-- text that a display spec replaces: the spec's string, or its space, which counts as a separator
abbrev pub spec_piece : Scene → Spec → Attributes → ℕ → ℕ → Piece
spec_piece s (Text n) face p to = piece ON (Some (kind.Text n)) face (string_gives s.parts.table (slice_get s.objects.strings n)) p to
spec_piece s (Width n) face p to = piece S (Some (kind.Space (Width n))) face true p to
spec_piece s (Align n) face p to = piece S (Some (kind.Space (Align n))) face true p to

-- a separator of paragraphs inside a block counts as one of segments
abbrev pub class_in_line : Class → Class
class_in_line B = S
class_in_line c = c

abbrev pub has_element : MarkRole → Bool
has_element role.Empty = false
has_element j = true

abbrev pub char_by : MarkRole → Class → Attributes → ℕ → ℕ → Piece
char_by j class face c p = record (piece (class_in_line class) (Some (kind.Char c)) face (has_element j) p (p + 1)) { base = base_of j; mark = mark_of j }

abbrev pub char_piece : Scene → Attributes → ℕ → ℕ → Piece
char_piece s face c p = char_by (mark_role_of s.parts c) (class_of s.parts.classes c) face c p

abbrev pub ender_piece : Attributes → ℕ → Piece
ender_piece face p = piece B (Some kind.Ender) face true p (p + 1)

-- text that is neither replaced nor hidden, and the end
abbrev pub open_piece : Scene → Attributes → Option ℕ → ℕ → Piece
open_piece s face None p = ender_piece face p
open_piece s face (Some c) p = if is_newline c then ender_piece face p else char_piece s face c p

-- text that is not replaced: hidden text gives an ellipsis, or nothing
abbrev pub unreplaced_piece : Scene → Hidden → Attributes → Option ℕ → ℕ → ℕ → Piece
unreplaced_piece s No face ch p to = open_piece s face ch p
unreplaced_piece s Plain face ch p to = piece ON None face false p to
unreplaced_piece s Ellipsis face ch p to = piece ON (Some kind.Ellipsis) face (ellipsis_gives s.parts.table) p to

abbrev pub piece_by : Scene → Option ℕ → Hidden → Attributes → Option ℕ → ℕ → ℕ → Piece
piece_by s (Some n) hidden face ch p to = spec_piece s (spec_in s.objects n) face p to
piece_by s None hidden face ch p to = unreplaced_piece s hidden face ch p to

-- what a position gives as the first of its run, which ends before another
abbrev pub piece_at : Scene → Showing → Option ℕ → ℕ → ℕ → Piece
piece_at s showing ch p to = piece_by s showing.display showing.hidden showing.face ch p to

abbrev pub same_spec : Option ℕ → Option ℕ → Bool
same_spec (Some a) (Some b) = a == b
same_spec a b = false

-- a position belongs to the run of another: both are replaced by one spec, or both are hidden
abbrev pub goes_on : Showing → Showing → Bool
goes_on first next = same_spec first.display next.display || (is_hidden first.hidden && is_hidden next.hidden)

-- how many of the positions behind one belong to its run
abbrev pub run_length : Invisible → Showing → List Seen → ℕ
run_length setting first es = prefix_len (λ e. goes_on first (showing_of setting e)) es

-- how many characters go on with the first one, by the setting of a scene
abbrev pub run_in : Scene → Seen → List Seen → ℕ
run_in s first es = run_length s.parts.settings.invisible (showing_of s.parts.settings.invisible first) es

-- the pieces of what is read at an offset and after it, of which so many belong to an earlier run and give nothing: of each other
-- first the strings before it, and then its own with its run
abbrev pub pieces_from : Scene → ℕ → ℕ → List Seen → List Piece
pieces_from s due k [] = []
pieces_from s (suc due) k (e ∷ es) = pieces_from s due (suc k) es
pieces_from s zero k (e ∷ es) =
    string_pieces k e.appearance.face e.strings
    ++ piece_at s (showing_of s.parts.settings.invisible e) e.character k (suc k + run_in s e es) ∷ pieces_from s (run_in s e es) (suc k) es

-- what a kind shows has the columns that Unicode gives it
abbrev pub IsMeasuredKind : ItemKind → Type 0
IsMeasuredKind (kind.Marked g) = IsMeasured g
IsMeasuredKind kind = Unit {0}
