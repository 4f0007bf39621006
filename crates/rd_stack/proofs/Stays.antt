-- Objects that are made later change no element of a line that names none of them.
use Rattle.std.proofs.Common.{◌≡◌, ℕ, ◌<◌, Bool, true, false, if◌then◌else◌, List, [], ◌∷◌, ◌++◌, length, Option, None, Some, IfSome, refl, ap, ◌∙◌, subst}
use Rattle.std.specs.Prelude.{slice_get, option_map, unwrap_or}
use Rattle.std.specs.List.{flat_map, AllByRecursion}
use Rattle.rd_base.proofs.Choices.{if-value}
use Rattle.rd_base.specs.Faces.{Attributes, plain}
use Rattle.rd_base.specs.Settings.{SettingValues}
use Rattle.rd_base.specs.declared.cell.Glyph.{Glyph}
use Rattle.rd_base.specs.declared.element.Element.{Element}
use Rattle.rd_base.specs.declared.element.Look.{Look}
use Rattle.rd_base.specs.declared.element.Look.TheVariants as look
use Rattle.rd_base.specs.declared.element.Origin.{Origin}
use Rattle.rd_objects.specs.declared.run.Spec.{Spec}
use Rattle.rd_objects.specs.declared.run.Spec.TheVariants.{Text, Width, Align}
use Rattle.rd_objects.specs.Sound.{IsClosed}
use Rattle.rd_objects.specs.Tables.{TableValue}
use Rattle.rd_objects.specs.Texts.{TextValue, spec_of}
use Rattle.rd_objects.proofs.Soundness.{goes_kept, named_specs, named_strings}
use Rattle.rd_glyphs.specs.Characters.{glyphs_for, elements_by, elements_of}
use Rattle.rd_glyphs.proofs.Joined.{Grows}
use Rattle.rd_props.specs.Seen.{Seen}
use Rattle.rd_items.proofs.Growing.{same-arrow, same-items}
use Rattle.rd_items.proofs.Naming.{items-made}
use Rattle.rd_items.specs.Growing.{ShowsMade, ShowMade, ReadsMade, GoesOnFrom}
use Rattle.rd_items.specs.Items.{items_of}
use Rattle.rd_items.specs.Pieces.{Scene, spec_in}
use Rattle.rd_items.specs.declared.item.Item.{Item}
use Rattle.rd_items.specs.declared.item.ItemKind.{ItemKind}
use Rattle.rd_items.specs.declared.item.ItemKind.TheVariants as item
use Rattle.rd_levels.specs.declared.turn.Turn.{Turn}
use Rattle.rd_stack.specs.Lines.{item_turns, line_of_items, line_elements, origin_of, put_turn, put_item}
use Rattle.rd_stack.specs.Shown.{kind_elements, put_part, put_string, put_text, display_elements, before_row_end, outside, prefix}
use Rattle.rd_stack.specs.Strings.{places_from, run_heads, ends_row, spec_kind, part_by, part_of, part_joins, row, row_end, rows_from, string_parts}
use Rattle.rd_stack.specs.declared.part.Part.{Part}
use Rattle.rd_stack.specs.declared.part.Place.{Place}
use Rattle.rd_stack.specs.declared.part.Shown.{Shown}
use Rattle.rd_stack.proofs.EachPart.{places-each, string-each}
use Rattle.rd_stack.proofs.Good.{found}

-- ---- lists

-- two functions that give the same of each element of which something holds
flat-same : {X A : Type 0} (P : X → Type 0) (f g : X → List A) (xs : List X) → ((x : X) → P x → f x ≡ g x) → AllByRecursion P xs → flat_map f xs ≡ flat_map g xs
flat-same P f g [] same all = refl
flat-same {X} {A} P f g (x ∷ xs) same all =
    ap (λ (ys : List A). ys ++ flat_map f xs) (same x all.0) ∙ ap (λ (ys : List A). g x ++ ys) (flat-same P f g xs same all.1)

-- ---- what the parts of strings name

module _ (s : Scene) (closed : IsClosed s.objects) where
  abbrev IsFine : Part → Type 0
  IsFine x = ShowsMade s.objects x.kind

  abbrev IsFineShown : Shown → Type 0
  IsFineShown x = ShowsMade s.objects x.kind

  spec-fine : (n : ℕ) (found : Option Spec) → slice_get s.objects.specs n ≡ found → ShowsMade s.objects (spec_kind (unwrap_or found (Width 0)))
  spec-fine n None e = tt
  spec-fine n (Some (Text m)) e = named_strings s.objects n m closed e
  spec-fine n (Some (Width m)) e = tt
  spec-fine n (Some (Align m)) e = tt

  by-fine : (o : Option ℕ) (p : Place) → IsFine (part_by s (option_map (spec_in s.objects) o) p)
  by-fine None p = tt
  by-fine (Some n) p = spec-fine n (slice_get s.objects.specs n) refl

  grows : Grows part_joins IsFine
  grows held next glyph these those e = tt

  string-fine : (base : ℕ) (replaced : Bool) (text : TextValue) (under : Attributes) → AllByRecursion IsFineShown (string_parts s base replaced text under)
  string-fine base replaced text under =
      string-each s base (λ (p : Place). Unit {0}) IsFine IsFineShown (λ p any. by-fine p.spec p) grows (λ odd x fine. fine) (λ p any ends. tt) replaced text under (λ i less. tt)

-- ---- what stays

module _ (old new : Scene) (goes : GoesOnFrom old new) (closed : IsClosed old.objects) where
  tab : new.parts.settings.tab_width ≡ old.parts.settings.tab_width
  tab = ap (λ (s : SettingValues). s.tab_width) goes.settings

  reorder : new.parts.settings.reorder ≡ old.parts.settings.reorder
  reorder = ap (λ (s : SettingValues). s.reorder) goes.settings

  elements-by : (entry : Option (List Glyph)) (c : ℕ) (odd : Bool) (face : Attributes) (origin : Origin) → elements_by entry new.parts c odd face origin ≡ elements_by entry old.parts c odd face origin
  elements-by (Some text) c odd face origin = refl
  elements-by None c odd face origin = rw (goes.table, same-arrow old new goes, tab, goes.classes, goes.mirrors)

  same-elements : (c : ℕ) (odd : Bool) (face : Attributes) (origin : Origin) → elements_of new.parts c odd face origin ≡ elements_of old.parts c odd face origin
  same-elements c odd face origin =
      ap (λ (t : Option TableValue). elements_by (glyphs_for t c) new.parts c odd face origin) goes.table ∙ elements-by (glyphs_for old.parts.table c) c odd face origin

  -- what is shown stays, where a string that it shows does
  same-kind : (end : Look) (f g : Option TextValue → List Element) (k : ItemKind) (odd : Bool) (face : Attributes) (origin : Origin)
      → ((n : ℕ) → k ≡ item.Text n → f (slice_get new.objects.strings n) ≡ g (slice_get old.objects.strings n)) → kind_elements end f new k odd face origin ≡ kind_elements end g old k odd face origin
  same-kind end f g (item.Char c) odd face origin string = same-elements c odd face origin
  same-kind end f g (item.Marked glyph) odd face origin string = refl
  same-kind end f g (item.Text n) odd face origin string = string n refl
  same-kind end f g (item.Space spec) odd face origin string = refl
  same-kind end f g item.Ellipsis odd face origin string = rw goes.table
  same-kind end f g item.Ender odd face origin string = refl

  -- ---- the parts of strings

  -- the spec of a place was made
  abbrev IsMade : Place → Type 0
  IsMade p = IfSome p.spec (λ n. n < length old.objects.specs)

  same-named : (o : Option ℕ) → IfSome o (λ n. n < length old.objects.specs) → option_map (spec_in new.objects) o ≡ option_map (spec_in old.objects) o
  same-named None made = refl
  same-named (Some n) made = ap (λ (x : Option Spec). Some (unwrap_or x (Width 0))) (goes_kept old.objects.specs new.objects.specs n goes.objects.specs made)

  same-by : (spec : Option Spec) (p : Place) → part_by new spec p ≡ part_by old spec p
  same-by None p = rw (goes.table, same-arrow old new goes, goes.classes)
  same-by (Some spec) p = refl

  same-part : (p : Place) → IsMade p → part_of new p ≡ part_of old p
  same-part p made = ap (λ (o : Option Spec). part_by new o p) (same-named p.spec made) ∙ same-by (option_map (spec_in old.objects) p.spec) p

  same-row : (base : ℕ) (xs : List Part) → row new base xs ≡ row old base xs
  same-row base xs = rw (goes.brackets, reorder)

  rows-by : (ends : Bool) (base : ℕ) (xs : List Part) (p : Place) (ps : List Place) → IsMade p → ((ys : List Part) → rows_from new base ys ps ≡ rows_from old base ys ps)
      → (if ends then row new base xs ++ row_end p.face ∷ rows_from new base [] ps else rows_from new base (xs ++ part_of new p ∷ []) ps)
      ≡ (if ends then row old base xs ++ row_end p.face ∷ rows_from old base [] ps else rows_from old base (xs ++ part_of old p ∷ []) ps)
  rows-by true base xs p ps made rest =
      ap (λ (ys : List Shown). ys ++ row_end p.face ∷ rows_from new base [] ps) (same-row base xs)
      ∙ ap (λ (ys : List Shown). row old base xs ++ row_end p.face ∷ ys) (rest [])
  rows-by false base xs p ps made rest =
      ap (λ (x : Part). rows_from new base (xs ++ x ∷ []) ps) (same-part p made) ∙ rest (xs ++ part_of old p ∷ [])

  same-rows : (base : ℕ) (xs : List Part) (ps : List Place) → AllByRecursion IsMade ps → rows_from new base xs ps ≡ rows_from old base xs ps
  same-rows base xs [] made = same-row base xs
  same-rows base xs (p ∷ ps) made = rows-by (ends_row p) base xs p ps made.0 (λ ys. same-rows base ys ps made.1)

  -- a string that was made
  module _ (number : ℕ) (text : TextValue) (found : slice_get old.objects.strings number ≡ Some text) where
    spec-made : (replaced : Bool) (i : ℕ) → IfSome (if replaced then spec_of text i else None) (λ n. n < length old.objects.specs)
    spec-made true i = if-value (λ n. n < length old.objects.specs) (spec_of text i) (λ v h. named_specs old.objects number i v text closed found h)
    spec-made false i = tt

    same-string : (base : ℕ) (replaced : Bool) (under : Attributes) → string_parts new base replaced text under ≡ string_parts old base replaced text under
    same-string base replaced under = same-rows base [] (run_heads None (places_from replaced text under 0)) (places-each IsMade replaced text under (λ i less. spec-made replaced i))

  -- what the string of a number gives, where what it gives if it was made stays
  found-stays : (f g : Option TextValue → List Element) (found : Option TextValue) → f None ≡ g None → ((text : TextValue) → found ≡ Some text → f (Some text) ≡ g (Some text))
      → f found ≡ g found
  found-stays f g None none some = none
  found-stays f g (Some text) none some = some text refl

  string-stays : (f g : Option TextValue → List Element) (number : ℕ) → number < length old.objects.strings → f None ≡ g None
      → ((text : TextValue) → slice_get old.objects.strings number ≡ Some text → f (Some text) ≡ g (Some text))
      → f (slice_get new.objects.strings number) ≡ g (slice_get old.objects.strings number)
  string-stays f g number made none some =
      ap f (goes_kept old.objects.strings new.objects.strings number goes.objects.strings made) ∙ found-stays f g (slice_get old.objects.strings number) none some

  -- the elements of a string that was made, where those of strings in it stay
  same-put : (f g : Attributes → Option TextValue → List Element) → ((n : ℕ) (face : Attributes) → n < length old.objects.strings → f face (slice_get new.objects.strings n) ≡ g face (slice_get old.objects.strings n))
      → (replaced : Bool) (number base : ℕ) (origin : Origin) (under : Attributes) → number < length old.objects.strings
      → put_string kind_elements f new base replaced origin under (slice_get new.objects.strings number) ≡ put_string kind_elements g old base replaced origin under (slice_get old.objects.strings number)
  same-put f g stays replaced number base origin under made =
      string-stays (put_string kind_elements f new base replaced origin under) (put_string kind_elements g old base replaced origin under) number made refl (λ text found.
      ap (λ (xs : List Shown). flat_map (put_part kind_elements f new origin) xs) (same-string number text found base replaced under)
      ∙ flat-same (IsFineShown old closed) (put_part kind_elements f new origin) (put_part kind_elements g old origin) (string_parts old base replaced text under)
      (λ x made. same-kind look.RowEnd (f x.face) (g x.face) x.kind x.odd x.face origin (λ n is. stays n x.face (subst (ShowsMade old.objects) is made)))
      (string-fine old closed base replaced text under))

  same-display : (number base : ℕ) (origin : Origin) (under : Attributes) → number < length old.objects.strings
      → display_elements new base origin under (slice_get new.objects.strings number) ≡ display_elements old base origin under (slice_get old.objects.strings number)
  same-display = same-put (λ face text. []) (λ face text. []) (λ n face made. refl) false

  -- ---- the items of a line

  same-text : (overlay : Bool) (number base : ℕ) (origin : Origin) (face : Attributes) → number < length old.objects.strings
      → put_text kind_elements new base overlay origin face (slice_get new.objects.strings number) ≡ put_text kind_elements old base overlay origin face (slice_get old.objects.strings number)
  same-text true number base origin face made =
      same-put (display_elements new base origin) (display_elements old base origin) (λ n over. same-display n base origin over) true number base origin face made
  same-text false number base origin face made = same-display number base origin face made

  same-item : (base : ℕ) (turn : Turn) (found : Option Item) → IfSome found (λ i. ShowsMade old.objects i.kind) → put_turn kind_elements new base turn found ≡ put_turn kind_elements old base turn found
  same-item base turn None made = refl
  same-item base turn (Some i) made =
      let origin = origin_of turn.index i in
      same-kind look.LineEnd (put_text kind_elements new base i.overlay origin i.face) (put_text kind_elements old base i.overlay origin i.face) i.kind turn.odd i.face origin
      (λ n is. same-text i.overlay n base origin i.face (subst (ShowsMade old.objects) is made))

  same-turns : (base : ℕ) (items : List Item) → item_turns new base items ≡ item_turns old base items
  same-turns base items = rw (goes.brackets, reorder)

  same-line : (base : ℕ) (items : List Item) → ShowMade old.objects items → line_of_items new base items ≡ line_of_items old base items
  same-line base items made =
      ap (λ (turns : List Turn). flat_map (put_item kind_elements new base items) turns) (same-turns base items)
      ∙ (λ k. flat_map (λ turn. same-item base turn (slice_get items turn.index) (found (λ (i : Item). ShowsMade old.objects i.kind) items turn.index made) k) (item_turns old base items))

  -- the line of what names made objects alone
  pub line-stays : (base : ℕ) (es : List Seen) → ReadsMade old.objects es → line_elements new base es ≡ line_elements old base es
  line-stays base es made =
      ap (λ (items : List Item). line_of_items new base items) (same-items old new es goes closed made) ∙ same-line base (items_of old es) (items-made old closed es made)

  -- the prefix that is a string which was made
  pub prefix-stays : (base number : ℕ) → number < length old.objects.strings → prefix new base number ≡ prefix old base number
  prefix-stays base number made = ap (λ (es : List Element). before_row_end es) (same-display number base outside plain made)
