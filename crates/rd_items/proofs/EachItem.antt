-- What holds of each piece of what is read, however marks join them, holds of each item.
use Rattle.std.proofs.Common.{◌≡◌, ℕ, zero, suc, ◌+◌, Bool, true, false, List, [], ◌∷◌, All, Option, None, Some, IfSome, refl}
use Rattle.std.specs.List.{AllByRecursion}
use Rattle.std.proofs.lemmas.Bool.{cond_both}
use Rattle.std.proofs.lemmas.List.Elements.{All-map, recursion_from_All}
use Rattle.rd_base.proofs.Lists.{each-append}
use Rattle.rd_base.specs.declared.cell.Glyph.{Glyph}
use Rattle.rd_base.specs.declared.class.Class.TheVariants.{S, ON}
use Rattle.rd_text.specs.Texts.{is_newline}
use Rattle.rd_objects.specs.declared.run.Spec.{Spec}
use Rattle.rd_objects.specs.declared.run.Spec.TheVariants.{Text, Width, Align}
use Rattle.rd_glyphs.specs.Marks.{marks_joined}
use Rattle.rd_glyphs.proofs.Joined.{Grows, marks_joined-all}
use Rattle.rd_props.specs.Seen.{Seen}
use Rattle.rd_props.specs.declared.hiding.Hidden.{Hidden}
use Rattle.rd_props.specs.declared.hiding.Hidden.TheVariants.{No, Plain, Ellipsis}
use Rattle.rd_items.specs.Readings.{showing_of}
use Rattle.rd_items.specs.Pieces.{Scene, piece, string_piece, string_pieces, spec_in, spec_piece, char_piece, ender_piece, open_piece, piece_by, piece_at, run_in, pieces_from}
use Rattle.rd_items.specs.Items.{piece_joins, item_of, items_by, covered_to, covering, items_of}
use Rattle.rd_items.specs.declared.item.Item.{Item}
use Rattle.rd_items.specs.declared.item.ItemKind.{ItemKind}
use Rattle.rd_items.specs.declared.item.ItemKind.TheVariants as kind
use Rattle.rd_items.specs.declared.piece.Piece.{Piece}

-- P holds of each piece that a position at an offset may give where this is seen, with a run up to another offset
pub record GivesOnly (s : Scene) (P : Piece → Type 0) (k to : ℕ) (e : Seen) : Type 0 where
  pub string : All (λ n. P (string_piece k e.appearance.face n)) e.strings
  pub text : (covers : Bool) (m n : ℕ) → e.appearance.display ≡ Some m → spec_in s.objects m ≡ Text n → P (piece ON (Some (kind.Text n)) e.appearance.face covers k to)
  pub space : (m : ℕ) (spec : Spec) → e.appearance.display ≡ Some m → spec_in s.objects m ≡ spec → P (piece S (Some (kind.Space spec)) e.appearance.face true k to)
  pub char : (c : ℕ) → e.character ≡ Some c → P (char_piece s e.appearance.face c k)
  pub nothing : P (piece ON None e.appearance.face false k to)
  pub ellipsis : (covers : Bool) → P (piece ON (Some kind.Ellipsis) e.appearance.face covers k to)
  pub ender : P (ender_piece e.appearance.face k)

module _ (s : Scene) (P : Piece → Type 0) (k to : ℕ) (e : Seen) (gives : GivesOnly s P k to e) where
  of-strings : AllByRecursion P (string_pieces k e.appearance.face e.strings)
  of-strings = recursion_from_All P (string_pieces k e.appearance.face e.strings) (All-map P (string_piece k e.appearance.face) e.strings gives.string)

  of-spec : (m : ℕ) (spec : Spec) → e.appearance.display ≡ Some m → spec_in s.objects m ≡ spec → P (spec_piece s spec e.appearance.face k to)
  of-spec m (Text n) shown is = gives.text _ m n shown is
  of-spec m (Width n) shown is = gives.space m (Width n) shown is
  of-spec m (Align n) shown is = gives.space m (Align n) shown is

  of-open : (ch : Option ℕ) → e.character ≡ ch → P (open_piece s e.appearance.face ch k)
  of-open None is = gives.ender
  of-open (Some c) is = cond_both (is_newline c) (ender_piece e.appearance.face k) (char_piece s e.appearance.face c k) P (λ ends. gives.ender) (λ shown. gives.char c is)

  of-position : (display : Option ℕ) (hidden : Hidden) → e.appearance.display ≡ display → P (piece_by s display hidden e.appearance.face e.character k to)
  of-position (Some m) hidden shown = of-spec m (spec_in s.objects m) shown refl
  of-position None No shown = of-open e.character refl
  of-position None Plain shown = gives.nothing
  of-position None Ellipsis shown = gives.ellipsis _

-- A holds of what is read at each offset, P of each piece that it gives, and I of the item of such a piece
module _ (s : Scene) (P : Piece → Type 0) (I : Item → Type 0) (A : ℕ → List Seen → Type 0)
    (next : (k : ℕ) (e : Seen) (es : List Seen) → A k (e ∷ es) → A (suc k) es)
    (gives : (k : ℕ) (e : Seen) (es : List Seen) → A k (e ∷ es) → GivesOnly s P k (suc k + run_in s e es) e)
    (grows : Grows piece_joins P)
    (item : (since : ℕ) (x : Piece) → P x → IfSome x.kind (λ kind. I (item_of since x kind))) where
  pieces-each : (due k : ℕ) (es : List Seen) → A k es → AllByRecursion P (pieces_from s due k es)
  pieces-each due k [] all = tt
  pieces-each (suc due) k (e ∷ es) all = pieces-each due (suc k) es (next k e es all)
  pieces-each zero k (e ∷ es) all =
      let showing = showing_of s.parts.settings.invisible e in
      let to = suc k + run_in s e es in
      let each = gives k e es all in
      each-append P (string_pieces k e.appearance.face e.strings) (piece_at s showing e.character k to ∷ pieces_from s (run_in s e es) (suc k) es)
      (of-strings s P k to e each) (of-position s P k to e each showing.display showing.hidden refl, pieces-each (run_in s e es) (suc k) es (next k e es all))

  item-each : (since : ℕ) (x : Piece) (kind : Option ItemKind) → IfSome kind (λ k. I (item_of since x k)) → AllByRecursion I (items_by kind since x)
  item-each since x None holds = tt
  item-each since x (Some kind) holds = (holds, tt)

  covering-each : (since : ℕ) (xs : List Piece) → AllByRecursion P xs → AllByRecursion I (covering since xs)
  covering-each since [] all = tt
  covering-each since (x ∷ xs) all =
      each-append I (items_by x.kind since x) (covering (covered_to since x) xs) (item-each since x x.kind (item since x all.0)) (covering-each (covered_to since x) xs all.1)

  pub items-from : (es : List Seen) → A 0 es → AllByRecursion I (items_of s es)
  items-from es all =
      covering-each 0 (marks_joined piece_joins (pieces_from s 0 0 es)) (marks_joined-all piece_joins P grows (pieces_from s 0 0 es) (pieces-each 0 0 es all))

-- P holds of each piece that a position gives where Q holds of what is seen there, and I of the item of such a piece
pub items-each : (s : Scene) (P : Piece → Type 0) (I : Item → Type 0) (Q : Seen → Type 0) → ((k to : ℕ) (e : Seen) → Q e → GivesOnly s P k to e) → Grows piece_joins P
    → ((since : ℕ) (x : Piece) → P x → IfSome x.kind (λ kind. I (item_of since x kind))) → (es : List Seen) → AllByRecursion Q es → AllByRecursion I (items_of s es)
items-each s P I Q gives = items-from s P I (λ k es. AllByRecursion Q es) (λ k e es all. all.1) (λ k e es all. gives k (suc k + run_in s e es) e all.0)

-- K holds of what each item shows, where it holds of all that a position can show at which Q holds
pub kinds-each : (s : Scene) (K : ItemKind → Type 0) (Q : Seen → Type 0) → ((e : Seen) → Q e → All (λ n. K (kind.Text n)) e.strings)
    → ((e : Seen) → Q e → (m n : ℕ) → e.appearance.display ≡ Some m → spec_in s.objects m ≡ Text n → K (kind.Text n))
    → ((m : ℕ) (spec : Spec) → spec_in s.objects m ≡ spec → K (kind.Space spec))
    → ((e : Seen) → Q e → (c : ℕ) → e.character ≡ Some c → K (kind.Char c)) → ((g : Glyph) → K (kind.Marked g)) → K kind.Ellipsis
    → K kind.Ender → (es : List Seen) → AllByRecursion Q es → AllByRecursion (λ (i : Item). K i.kind) (items_of s es)
kinds-each s K Q strings text space char marked ellipsis ender =
    items-each s (λ (x : Piece). IfSome x.kind K) (λ (i : Item). K i.kind) Q
    (λ k to e q. record {
      string = strings e q;
      text = λ covers. text e q;
      space = λ m spec shown. space m spec;
      char = char e q;
      nothing = tt;
      ellipsis = λ covers. ellipsis;
      ender = ender;
    })
    (λ held next glyph these those e. marked glyph) (λ since x holds. holds)
