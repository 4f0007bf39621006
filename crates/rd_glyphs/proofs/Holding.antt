-- Reading a plain line with one glyph held gives what its parts give where marks have joined.
use Rattle.std.proofs.Common.{◌≡◌, ℕ, ◌++◌, Bool, true, false, List, [], ◌∷◌, map, Option, Some, None, option_map, refl, ap, ◌∙◌, unwrap_or}
use Rattle.std.specs.Prelude.{nat_lt, is_some, if◌then◌else◌}
use Rattle.rd_base.specs.Cells.{with_mark}
use Rattle.rd_base.specs.declared.cell.Glyph.{Glyph}
use Rattle.rd_base.specs.declared.element.Look.{Look}
use Rattle.rd_base.specs.declared.element.Look.TheVariants as look
use Rattle.rd_ucd.specs.declared.spans.Span.{Span}
use Rattle.rd_ucd.specs.Lookup.{class_of}
use Rattle.rd_glyphs.specs.declared.mark_role.MarkRole.TheVariants.{Base}
use Rattle.rd_glyphs.specs.declared.shown.Shown.{Shown}
use Rattle.rd_glyphs.specs.declared.shown.Shown.TheVariants.{Caret, Octal, Space, Mark, Itself}
use Rattle.rd_glyphs.specs.Characters.{shown_as, on_blank}
use Rattle.rd_glyphs.specs.MarkRoles.{base_of, mark_of}
use Rattle.rd_glyphs.specs.Marks.{marked_glyph, marks_joined_from, marks_joined, with_held}
use Rattle.rd_glyphs.specs.Lines.{PlainPart, shown_part, plain_part, plain_joins, looks_of_parts, plain_looks}
use Rattle.rd_glyphs.specs.Held.{given, held_after, looks_from}

-- a glyph that is held, as a part
abbrev pub held_part : Glyph → PlainPart
held_part g = record { looks = look.Glyph g ∷ []; role = Base g }

-- the parts behind a glyph that is held
abbrev pub parts_behind : Option Glyph → List PlainPart → List PlainPart
parts_behind held xs = with_held plain_joins (option_map held_part held) xs

same-by : (a b x : PlainPart) (xs : List PlainPart) (m : Option Glyph) → a.looks ≡ b.looks →
    looks_of_parts ((if is_some (option_map held_part m) then [] else a ∷ []) ++ marks_joined_from plain_joins (unwrap_or (option_map held_part m) x) xs)
    ≡ looks_of_parts ((if is_some (option_map held_part m) then [] else b ∷ []) ++ marks_joined_from plain_joins (unwrap_or (option_map held_part m) x) xs)
same-by a b x xs None looks = ap (λ (ls : List Look). ls ++ looks_of_parts (marks_joined_from plain_joins x xs)) looks
same-by a b x xs (Some g) looks = refl

-- of two parts with the same looks and the same glyph for marks the same comes out
same-behind : (a b : PlainPart) (xs : List PlainPart) → a.looks ≡ b.looks → base_of a.role ≡ base_of b.role →
    looks_of_parts (marks_joined_from plain_joins a xs) ≡ looks_of_parts (marks_joined_from plain_joins b xs)
same-behind a b [] looks base = ap (λ (ls : List Look). ls ++ []) looks
same-behind a b (x ∷ xs) looks base = rw base (same-by a b x xs (marked_glyph (base_of b.role) (mark_of x.role)) looks)

-- a part that no mark joins comes out by itself
alone : (a : PlainPart) (xs : List PlainPart) → base_of a.role ≡ None →
    looks_of_parts (marks_joined_from plain_joins a xs) ≡ a.looks ++ looks_of_parts (marks_joined plain_joins xs)
alone a [] none = refl
alone a (x ∷ xs) none = rw none refl

mark-read : (g : Glyph) (code : ℕ) (room : Bool) (xs : List PlainPart) (rest : List Look) →
    rest ≡ looks_of_parts (marks_joined_from plain_joins
    (held_part (unwrap_or (if room then Some (with_mark g code) else None) (on_blank code))) xs) →
    (if room then [] else look.Glyph g ∷ []) ++ rest
    ≡ looks_of_parts ((if is_some (option_map held_part (if room then Some (with_mark g code) else None)) then [] else held_part g ∷ [])
    ++ marks_joined_from plain_joins (unwrap_or (option_map held_part (if room then Some (with_mark g code) else None)) (shown_part (Mark code))) xs)
mark-read g code true xs rest e = e
mark-read g code false xs rest e =
    ap (λ (ls : List Look). look.Glyph g ∷ ls) (e ∙ same-behind (held_part (on_blank code)) (shown_part (Mark code)) xs refl refl)

-- what comes out when a character is read is what its part adds
read-one : (held : Option Glyph) (s : Shown) (xs : List PlainPart) (rest : List Look) →
    rest ≡ looks_of_parts (parts_behind (held_after held s) xs) → given held s ++ rest ≡ looks_of_parts (parts_behind held (shown_part s ∷ xs))
read-one None (Mark code) xs rest e = e ∙ same-behind (held_part (on_blank code)) (shown_part (Mark code)) xs refl refl
read-one (Some g) (Mark code) xs rest e = mark-read g code (nat_lt g.count 6) xs rest e
read-one None (Itself code width) xs rest e = e
read-one (Some g) (Itself code width) xs rest e = ap (λ (ls : List Look). look.Glyph g ∷ ls) e
read-one None (Caret letter) xs rest e = rw e (rw (alone (shown_part (Caret letter)) xs refl) refl)
read-one None (Octal byte) xs rest e = rw e (rw (alone (shown_part (Octal byte)) xs refl) refl)
read-one None Space xs rest e = rw e (rw (alone (shown_part Space) xs refl) refl)
read-one (Some g) (Caret letter) xs rest e = rw e (rw (alone (shown_part (Caret letter)) xs refl) refl)
read-one (Some g) (Octal byte) xs rest e = rw e (rw (alone (shown_part (Octal byte)) xs refl) refl)
read-one (Some g) Space xs rest e = rw e (rw (alone (shown_part Space) xs refl) refl)

read-behind : (classes : List Span) (held : Option Glyph) (text : List ℕ) →
    looks_from classes held text ≡ looks_of_parts (parts_behind held (map (plain_part classes) text))
read-behind classes None [] = refl
read-behind classes (Some g) [] = refl
read-behind classes held (c ∷ cs) =
    let s = shown_as true (class_of classes c) c in
    read-one held s (map (plain_part classes) cs) (looks_from classes (held_after held s) cs) (read-behind classes (held_after held s) cs)

-- a text that is read from its start with nothing held
pub read_whole : (classes : List Span) (text : List ℕ) → looks_from classes None text ≡ plain_looks classes text
read_whole classes text = read-behind classes None text
