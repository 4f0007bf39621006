-- The pieces of what is read of a block, which stand one behind the other.
use Rattle.std.proofs.Common.{◌≡◌, ℕ, ◌+◌, ◌<◌, ◌≤◌, Bool, true, false, List, [], ◌∷◌, ◌++◌, length, Option, Some, None, refl, sym, ap, arith}
use Rattle.std.specs.Prelude.{zero, suc, not, ◌&&◌, is_some}
use Rattle.std.proofs.lemmas.Bool.{and_parts, cond-true}
use Rattle.rd_base.specs.Faces.{Attributes}
use Rattle.rd_base.specs.declared.cell.Glyph.{Glyph}
use Rattle.rd_base.specs.declared.class.Class.TheVariants.{B}
use Rattle.rd_base.specs.declared.settings.Invisible.{Invisible}
use Rattle.rd_text.specs.Texts.{is_newline}
use Rattle.rd_objects.specs.declared.run.Spec.{Spec}
use Rattle.rd_objects.specs.declared.run.Spec.TheVariants.{Text, Width, Align}
use Rattle.rd_glyphs.specs.Characters.{glyphs_for, shown_as}
use Rattle.rd_glyphs.specs.MarkRoles.{mark_role_by, mark_role_of, base_of, is_empty_entry}
use Rattle.rd_glyphs.specs.Marks.{marked_glyph, marks_joined_from, marks_joined}
use Rattle.rd_glyphs.specs.declared.mark_role.MarkRole.{MarkRole}
use Rattle.rd_glyphs.specs.declared.mark_role.MarkRole.TheVariants as role
use Rattle.rd_glyphs.specs.declared.shown.Shown.{Shown}
use Rattle.rd_glyphs.specs.declared.shown.Shown.TheVariants as shown
use Rattle.rd_ucd.specs.Lookup.{class_of}
use Rattle.rd_props.specs.Seen.{Seen}
use Rattle.rd_props.specs.declared.hiding.Hidden.{Hidden}
use Rattle.rd_props.specs.declared.hiding.Hidden.TheVariants.{No, Plain, Ellipsis}
use Rattle.rd_items.specs.declared.showing.Showing.{Showing}
use Rattle.rd_items.specs.declared.piece.Piece.{Piece}
use Rattle.rd_items.specs.declared.item.ItemKind.{ItemKind}
use Rattle.rd_items.specs.declared.item.ItemKind.TheVariants as kind
use Rattle.rd_items.specs.Readings.{showing_of, is_hidden, is_open, ends_line, is_ender, IsReading}
use Rattle.rd_items.specs.Pieces.{Scene, string_pieces, string_piece, spec_in, spec_piece, open_piece, char_piece, has_element, piece_by, piece_at, ender_piece, goes_on, run_length, run_in, pieces_from}
use Rattle.rd_items.specs.Items.{piece_joins, kind_gives}
use Rattle.rd_items.specs.Covers.{shows_ender}
use Rattle.rd_items.proofs.Runs.{open-stops, open-alone}

-- ---- pieces that stand one behind the other

-- whether what a piece shows, if anything, gives an element
abbrev pub option_gives : Scene → Option ItemKind → Bool
option_gives s None = false
option_gives s (Some k) = kind_gives s k

-- a piece that stands at an offset: it covers what it stands for exactly where it is no overlay's string and gives an element,
-- and where marks may join it, it does
pub record IsLink (s : Scene) (p : ℕ) (x : Piece) : Type 0 where
  pub at : x.at ≡ p
  pub ordered : p ≤ x.to
  pub some : x.covers ≡ true → p < x.to
  pub gives : x.covers ≡ (not x.overlay && option_gives s x.kind)
  pub based : is_some x.base ≡ true → (x.covers ≡ true) × (x.overlay ≡ false)

-- a piece that is not the last is no ender
pub record IsNoEnder (s : Scene) (p : ℕ) (x : Piece) : Type 0 where
  pub link : IsLink s p x
  pub no_ender : shows_ender x.kind ≡ false

-- the last piece is an ender, and no mark
pub record IsLast (s : Scene) (p to : ℕ) (x : Piece) : Type 0 where
  pub link : IsLink s p x
  pub kind : x.kind ≡ Some kind.Ender
  pub class : x.class ≡ B
  pub covers : x.covers ≡ true
  pub alone : x.mark ≡ None
  pub ends : x.to ≡ to

abbrev pub Chain : Scene → ℕ → ℕ → List Piece → Type 0
Chain s p to [] = ⊥
Chain s p to (x ∷ []) = IsLast s p to x
Chain s p to (x ∷ y ∷ xs) = IsNoEnder s p x × Chain s x.to to (y ∷ xs)

chain-cons : (s : Scene) (p to : ℕ) (x : Piece) (xs : List Piece) → IsNoEnder s p x → Chain s x.to to xs → Chain s p to (x ∷ xs)
chain-cons s p to x [] link rest = absurd rest
chain-cons s p to x (y ∷ xs) link rest = (link, rest)

chain-moved : (s : Scene) (p q to : ℕ) (xs : List Piece) → p ≡ q → Chain s p to xs → Chain s q to xs
chain-moved s p q to xs e chain = rw (sym e) chain

-- ---- marks that join

no-mark : (base : Option Glyph) → marked_glyph base None ≡ None
no-mark None = refl
no-mark (Some g) = refl

some-base : (base : Option Glyph) (mark : Option ℕ) (g : Glyph) → marked_glyph base mark ≡ Some g → is_some base ≡ true
some-base None mark g e = cc
some-base (Some b) mark g e = refl

marks_joined-by : (s : Scene) (p to : ℕ) (h x : Piece) (xs : List Piece) → Chain s p to (h ∷ x ∷ xs) → (glyph : Option Glyph) → marked_glyph h.base x.mark ≡ glyph → ((k : Piece) → Chain s p to (k ∷ xs) → Chain s p to (marks_joined_from piece_joins k xs)) → ((q : ℕ) → Chain s q to (x ∷ xs) → Chain s q to (marks_joined_from piece_joins x xs)) → Chain s p to (marks_joined_from piece_joins h (x ∷ xs))
marks_joined-by s p to h x xs chain None e longer next = rw e (chain-cons s p to h (marks_joined_from piece_joins x xs) chain.0 (next h.to chain.1))
marks_joined-by s p to h x [] chain (Some g) e longer next = absurd (cc (ap (marked_glyph h.base) chain.1.alone, no-mark h.base))
marks_joined-by s p to h x (y ∷ xs) chain (Some g) e longer next = rw e (longer _ (no_ender, chain.1.1)) where
  may : (h.covers ≡ true) × (h.overlay ≡ false)
  may = chain.0.link.based (some-base h.base x.mark g e)

  no_ender : IsNoEnder s p (record h { kind = Some (kind.Marked g); base = Some g; to = x.to })
  no_ender = record {
    link = record {
      at = chain.0.link.at;
      ordered = omega (arith, chain.0.link.ordered, chain.1.0.link.ordered);
      some = λ covers. omega (arith, chain.0.link.some covers, chain.1.0.link.ordered);
      gives = rw (may.0, may.1);
      based = λ e. may;
    };
    no_ender = refl;
  }

join : (s : Scene) (p to : ℕ) (h : Piece) (xs : List Piece) → Chain s p to (h ∷ xs) → Chain s p to (marks_joined_from piece_joins h xs)
join s p to h [] chain = chain
join s p to h (x ∷ xs) chain =
    marks_joined-by s p to h x xs chain (marked_glyph h.base x.mark) refl (λ k c. join s p to k xs c) (λ q c. join s q to x xs c)

marks_joined-chain : (s : Scene) (p to : ℕ) (xs : List Piece) → Chain s p to xs → Chain s p to (marks_joined piece_joins xs)
marks_joined-chain s p to [] chain = absurd chain
marks_joined-chain s p to (x ∷ xs) chain = join s p to x xs chain

-- ---- the pieces of what is read

strings-before : (s : Scene) (p to : ℕ) (face : Attributes) (numbers : List ℕ) (xs : List Piece) → Chain s p to xs → Chain s p to (string_pieces p face numbers ++ xs)
strings-before s p to face [] xs chain = chain
strings-before s p to face (n ∷ ns) xs chain =
    chain-cons s p to (string_piece p face n) (string_pieces p face ns ++ xs)
    (record { link = record { at = refl; ordered = omega arith; some = λ e. cc; gives = refl; based = λ e. cc }; no_ender = refl })
    (strings-before s p to face ns xs chain)

-- a piece that stands for the offsets from one to another
record IsOwn (s : Scene) (p to : ℕ) (x : Piece) : Type 0 where
  own : IsNoEnder s p x
  ends : x.to ≡ to

own-spec : (s : Scene) (spec : Spec) (face : Attributes) (p to : ℕ) → p < to → IsOwn s p to (spec_piece s spec face p to)
own-spec s (Text n) face p to some = record { own = record { link = record { at = refl; ordered = omega arith; some = λ e. some; gives = refl; based = λ e. cc }; no_ender = refl }; ends = refl }
own-spec s (Width n) face p to some = record { own = record { link = record { at = refl; ordered = omega arith; some = λ e. some; gives = refl; based = λ e. cc }; no_ender = refl }; ends = refl }
own-spec s (Align n) face p to some = record { own = record { link = record { at = refl; ordered = omega arith; some = λ e. some; gives = refl; based = λ e. cc }; no_ender = refl }; ends = refl }

-- a character has an element exactly where its entry in the table is not empty
element-by : (entry : Option (List Glyph)) (look : Shown) → has_element (mark_role_by entry look) ≡ not (is_empty_entry entry)
element-by (Some []) look = refl
element-by (Some (g ∷ gs)) look = refl
element-by None (shown.Caret n) = refl
element-by None (shown.Octal n) = refl
element-by None shown.Space = refl
element-by None (shown.Mark n) = refl
element-by None (shown.Itself n w) = refl

base-element : (j : MarkRole) → is_some (base_of j) ≡ true → has_element j ≡ true
base-element (role.Base g) some = refl
base-element (role.Mark n) some = refl
base-element role.Empty some = cc
base-element role.Alone some = cc

own-char : (s : Scene) (face : Attributes) (c p : ℕ) → IsOwn s p (p + 1) (char_piece s face c p)
own-char s face c p = record {
  own = record {
    link = record {
      at = refl;
      ordered = omega arith;
      some = λ e. omega arith;
      gives = element-by (glyphs_for s.parts.table c) (shown_as s.parts.settings.ctl_arrow (class_of s.parts.classes c) c);
      based = λ some. (base-element (mark_role_of s.parts c) some, refl);
    };
    no_ender = refl;
  };
  ends = refl;
}

own-open : (s : Scene) (face : Attributes) (ch : Option ℕ) (p : ℕ) → ends_line ch ≡ false → IsOwn s p (p + 1) (open_piece s face ch p)
own-open s face None p none = cc
own-open s face (Some c) p none = rw none (own-char s face c p)

own-by : (s : Scene) (display : Option ℕ) (hidden : Hidden) (face : Attributes) (ch : Option ℕ) (p to : ℕ) → p < to → ((not (is_some display) && not (is_hidden hidden)) ≡ true → to ≡ p + 1) → ((not (is_some display) && not (is_hidden hidden)) && ends_line ch) ≡ false → IsOwn s p to (piece_by s display hidden face ch p to)
own-by s (Some n) hidden face ch p to some alone none = own-spec s (spec_in s.objects n) face p to some
own-by s None No face ch p to some alone none = rw (alone refl) (own-open s face ch p none)
own-by s None Plain face ch p to some alone none = record { own = record { link = record { at = refl; ordered = omega arith; some = λ e. some; gives = refl; based = λ e. cc }; no_ender = refl }; ends = refl }
own-by s None Ellipsis face ch p to some alone none = record { own = record { link = record { at = refl; ordered = omega arith; some = λ e. some; gives = refl; based = λ e. cc }; no_ender = refl }; ends = refl }

abbrev shown_in : Scene → Seen → Showing
shown_in s e = showing_of s.parts.settings.invisible e

own : (s : Scene) (e : Seen) (es : List Seen) (p : ℕ) → is_ender s.parts.settings.invisible e ≡ false → IsOwn s p (suc p + run_in s e es) (piece_at s (shown_in s e) e.character p (suc p + run_in s e es))
own s e es p none =
    own-by s (shown_in s e).display (shown_in s e).hidden e.appearance.face e.character p (suc p + run_in s e es) (omega arith)
    (λ shown. omega (arith, open-alone s.parts.settings.invisible (shown_in s e) es shown)) none

open-ender : (s : Scene) (display : Option ℕ) (hidden : Hidden) (face : Attributes) (ch : Option ℕ) (p to : ℕ) → ((not (is_some display) && not (is_hidden hidden)) && ends_line ch) ≡ true → piece_by s display hidden face ch p to ≡ ender_piece face p
open-ender s (Some n) hidden face ch p to ends = cc
open-ender s None Plain face ch p to ends = cc
open-ender s None Ellipsis face ch p to ends = cc
open-ender s None No face None p to ends = refl
open-ender s None No face (Some c) p to ends = cond-true (is_newline c) (ender_piece face p) (char_piece s face c p) ends

-- the piece of what is seen is an ender exactly where this ends a block
pub ends-where : (s : Scene) (e : Seen) (es : List Seen) (p : ℕ) → shows_ender (piece_at s (shown_in s e) e.character p (suc p + run_in s e es)).kind ≡ is_ender s.parts.settings.invisible e
ends-where s e es p = by-end (is_ender s.parts.settings.invisible e) refl where
  by-end : (ends : Bool) → is_ender s.parts.settings.invisible e ≡ ends → shows_ender (piece_at s (shown_in s e) e.character p (suc p + run_in s e es)).kind ≡ ends
  by-end true ends =
      ap (λ (x : Piece). shows_ender x.kind) (open-ender s (shown_in s e).display (shown_in s e).hidden e.appearance.face e.character p (suc p + run_in s e es) ends)
  by-end false none = (own s e es p none).own.no_ender

last-ender : (s : Scene) (face : Attributes) (p : ℕ) → IsLast s p (p + 1) (ender_piece face p)
last-ender s face p = record {
  link = record { at = refl; ordered = omega arith; some = λ e. omega arith; gives = refl; based = λ e. cc };
  kind = refl;
  class = refl;
  covers = refl;
  alone = refl;
  ends = refl;
}

run-by : (setting : Invisible) (first : Showing) (e : Seen) (es : List Seen) → run_length setting first es < length es → (more : Bool) → goes_on first (showing_of setting e) ≡ more → run_length setting first (e ∷ es) < suc (length es)
run-by setting first e es less true more = rw more (omega arith)
run-by setting first e es less false none = rw none (omega arith)

-- a run ends before the ender
run-short : (setting : Invisible) (first : Showing) (es : List Seen) → IsReading setting es → run_length setting first es < length es
run-short setting first [] well = absurd well
run-short setting first (e ∷ []) well = rw (open-stops first (showing_of setting e) (and_parts (is_open (showing_of setting e)) (ends_line e.character) well).0) (omega arith)
run-short setting first (e ∷ f ∷ es) well = run-by setting first e (f ∷ es) (run-short setting first (f ∷ es) well.1) (goes_on first (showing_of setting e)) refl

pieces-chain : (s : Scene) (due p to : ℕ) (es : List Seen) → IsReading s.parts.settings.invisible es → due < length es → p + length es ≡ to → Chain s (p + due) to (pieces_from s due p es)
pieces-chain s due p to [] well inside far = absurd well
pieces-chain s (suc due) p to (e ∷ []) well inside far = absurd (omega arith)
pieces-chain s (suc due) p to (e ∷ f ∷ es) well inside far =
    chain-moved s (suc p + due) (p + suc due) to (pieces_from s due (suc p) (f ∷ es)) (omega arith) (pieces-chain s due (suc p) to (f ∷ es) well.1 (omega arith) (omega arith))
pieces-chain s zero p to (e ∷ []) well inside far =
    let last = open-ender s (shown_in s e).display (shown_in s e).hidden e.appearance.face e.character p (suc p + 0) well in
    let there : to ≡ p + 1 = omega arith in
    chain-moved s p (p + 0) to (string_pieces p e.appearance.face e.strings ++ piece_at s (shown_in s e) e.character p (suc p + 0) ∷ []) (omega arith)
    (strings-before s p to e.appearance.face e.strings (piece_at s (shown_in s e) e.character p (suc p + 0) ∷ []) (rw (last, there) (last-ender s e.appearance.face p)))
pieces-chain s zero p to (e ∷ f ∷ es) well inside far =
    let m = run_in s e (f ∷ es) in
    let x = piece_at s (shown_in s e) e.character p (suc p + m) in
    let mine = own s e (f ∷ es) p well.0 in
    let rest = pieces_from s m (suc p) (f ∷ es) in
    let chain = pieces-chain s m (suc p) to (f ∷ es) well.1 (run-short s.parts.settings.invisible (shown_in s e) (f ∷ es) well.1) (omega arith) in
    chain-moved s p (p + 0) to (string_pieces p e.appearance.face e.strings ++ x ∷ rest) (omega arith)
    (strings-before s p to e.appearance.face e.strings (x ∷ rest) (chain-cons s p to x rest mine.own (chain-moved s (suc p + m) x.to to rest (sym mine.ends) chain)))

-- the pieces of what is read of a block, in which marks have joined, stand one behind the other
pub reading-chain : (s : Scene) (es : List Seen) → IsReading s.parts.settings.invisible es → Chain s 0 (length es) (marks_joined piece_joins (pieces_from s 0 0 es))
reading-chain s es well = marks_joined-chain s 0 (length es) (pieces_from s 0 0 es) (pieces-chain s 0 0 (length es) es well (some es well) (omega arith)) where
  some : (es : List Seen) → IsReading s.parts.settings.invisible es → 0 < length es
  some [] well = absurd well
  some (e ∷ es) well = omega arith
