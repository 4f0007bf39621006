-- Paragraphs of a text and their base levels. P2 and P3 of UAX 9 find the level of a line. What a paragraph is, P1 leaves open; that
-- it has several lines, and what separates it from the next, are choices of this project.
use Rattle.std.specs.Prelude.{ℕ, ◌+◌, ◌-◌, Bool, false, not, ◌||◌, max, if◌then◌else◌, List, [], ◌∷◌, ◌++◌, length, map, replicate, slice_index, Option, None, Some, unwrap_or}
use Rattle.std.specs.List.{slice_split}
use Rattle.std.specs.Option.{option_or}
use Rattle.rd_base.specs.Classes.{p2_p3_first_strong}
use Rattle.rd_base.specs.declared.settings.Direction.{Direction}
use Rattle.rd_base.specs.declared.settings.Direction.TheVariants.{Auto, Left, Right}
use Rattle.rd_text.specs.Texts.{TextValue, between, is_newline, is_separator, next_newline, prev_ink}
use Rattle.rd_ucd.specs.declared.spans.Span.{Span}
use Rattle.rd_ucd.specs.Lookup.{class_of}

-- the level that rules P2 and P3 find in a line
abbrev pub p2_p3_level_of_line : List Span → List ℕ → Option ℕ
p2_p3_level_of_line classes line = p2_p3_first_strong 0 (map (class_of classes) line)

-- for P2 and P3, the level that the first deciding line of a paragraph gives, from its first line on
abbrev pub decided : List Span → List (List ℕ) → Option ℕ
decided classes [] = None
decided classes (line ∷ lines) = if is_separator line then None else option_or (p2_p3_level_of_line classes line) (decided classes lines)

-- for P2 and P3, the base level of a line, by that of the line before, whether that is one of a paragraph, and the lines from here on: a
-- separator and a later line of a paragraph have that of the line before, and the first line of a paragraph has the
-- paragraph's, 0 where no line decides
abbrev pub level_by : List Span → ℕ → Bool → List ℕ → List (List ℕ) → ℕ
level_by classes last inside line lines =
    if is_separator line || inside then last else unwrap_or (decided classes (line ∷ lines)) 0

-- for P2 and P3, the base level at each place of lines, their ends included
abbrev pub levels_of : List Span → ℕ → Bool → List (List ℕ) → List ℕ
levels_of classes last inside [] = []
levels_of classes last inside (line ∷ lines) =
    replicate (length line + 1) (level_by classes last inside line lines)
    ++ levels_of classes (level_by classes last inside line lines) (not (is_separator line)) lines

-- for P2 and P3, the base level at a position, where the text decides: its accessible part is cut at its newlines
abbrev pub text_level : List Span → TextValue → ℕ → ℕ
text_level classes t pos = slice_index (levels_of classes 0 false (slice_split is_newline (between t t.begin t.end))) (pos - t.begin)

-- the place of a text by which the paragraph of a position is found: its last character up to the end of the position's line
-- that is neither newline nor blank, and the beginning where there is none
abbrev pub paragraph_place : TextValue → ℕ → ℕ
paragraph_place t pos = max t.begin (prev_ink t (next_newline t pos) - 1)

-- the base level that a direction gives by itself; none where the text decides
abbrev pub own_level : Direction → Option ℕ
own_level Auto = None
own_level Left = Some 0
own_level Right = Some 1

-- the base level at a position: the direction's own, else by P2 and P3
abbrev pub base_at : List Span → TextValue → Direction → ℕ → ℕ
base_at classes t direction pos = unwrap_or (own_level direction) (text_level classes t pos)
