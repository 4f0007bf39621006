-- What an item shows has elements exactly where it is said to give one.
use Rattle.std.proofs.Common.{◌≡◌, ◌⊎◌, ℕ, ◌+◌, ◌-◌, ◌≤◌, Bool, true, false, cond, not, ◌||◌, List, [], ◌∷◌, ◌++◌, length, map, get_or, inl, inr, Option, None, Some, refl, ap, ap₂, sym, ◌∙◌, subst, arith, nat_eq, length-append}
use Rattle.std.specs.Prelude.{is_some, slice_get}
use Rattle.std.specs.Option.{unwrap_or}
use Rattle.std.specs.List.{AllByRecursion, flat_map, list_any, position_or_len, range_with_len}
use Rattle.std.proofs.lemmas.Bool.{and_parts, both_ways, cond_both, eqb-true, false_from_ne_true, not-true, or_cases, or_left, or_parts, or_right}
use Rattle.std.proofs.lemmas.List.{append_assoc, length-map, length_push}
use Rattle.std.proofs.Math.Seq.{get_or-append_seam}
use Rattle.std.proofs.lemmas.Grind.{flat_map-append}
use Rattle.std.proofs.lemmas.List.Folds.{list_any-append, list_any_at}
use Rattle.rd_base.proofs.Choices.{second-holds}
use Rattle.rd_base.specs.Faces.{Attributes}
use Rattle.rd_base.specs.declared.cell.Glyph.{Glyph}
use Rattle.rd_base.specs.declared.element.Element.{Element}
use Rattle.rd_base.specs.declared.element.Origin.{Origin}
use Rattle.rd_ucd.specs.Lookup.{class_of}
use Rattle.rd_objects.specs.Tables.{TableValue}
use Rattle.rd_objects.specs.Texts.{TextValue}
use Rattle.rd_objects.specs.declared.run.Spec.TheVariants.{Text}
use Rattle.rd_text.specs.Texts.{is_newline}
use Rattle.rd_glyphs.specs.Characters.{PartValues, glyph_elements, glyphs_for, elements_by, elements_of, shown_as}
use Rattle.rd_glyphs.specs.MarkRoles.{is_empty_entry, base_of, mark_of, mark_role_by}
use Rattle.rd_glyphs.proofs.Joined.{Grows, joined-by}
use Rattle.rd_glyphs.specs.Marks.{marked_glyph, marks_joined}
use Rattle.rd_items.specs.Pieces.{Scene, gives_element, give_elements, string_gives, ellipsis_gives}
use Rattle.rd_items.specs.Items.{kind_gives}
use Rattle.rd_items.specs.declared.item.ItemKind.{ItemKind}
use Rattle.rd_items.specs.declared.item.ItemKind.TheVariants as item
use Rattle.rd_levels.proofs.Turns.{total_in, each-turn}
use Rattle.rd_levels.specs.Turns.{turns_of}
use Rattle.rd_levels.specs.declared.turn.Turn.{Turn}
use Rattle.rd_matrix.proofs.Passing.{at-position, first-inside}
use Rattle.rd_order.proofs.Once.{is_place, once-at-least}
use Rattle.rd_stack.proofs.EachPart.{string-each}
use Rattle.rd_stack.specs.Strings.{place_of, run_heads, ends_row, part_by, part_of, part_joins, part_class, part_code, shown_by, shown_at, in_order, row, row_end, rows_from, string_parts}
use Rattle.rd_stack.specs.Shown.{ellipsis_glyphs, display_part_elements, display_elements, kind_elements}
use Rattle.rd_stack.specs.Lines.{put_kind}
use Rattle.rd_stack.specs.declared.part.Place.{Place}
use Rattle.rd_stack.specs.declared.part.Part.{Part}
use Rattle.rd_stack.specs.declared.part.Shown.{Shown}

-- the law of characters that give an element
abbrev CharactersGive : Type 0
CharactersGive = (parts : PartValues) (ch : ℕ) (odd : Bool) (face : Attributes) (origin : Origin) → is_empty_entry (glyphs_for parts.table ch) ≡ false → 1 ≤ length (elements_of parts ch odd face origin)

-- what a part shows gives an element: a character, with marks or without
abbrev part_gives : Scene → ItemKind → Bool
part_gives s (item.Char c) = not (is_empty_entry (glyphs_for s.parts.table c))
part_gives s (item.Marked g) = true
part_gives s k = false

abbrev some_gives : Scene → List Part → Bool
some_gives s xs = list_any (λ (x : Part). part_gives s x.kind) xs

part-some : CharactersGive → (s : Scene) (origin : Origin) (k : ItemKind) (face : Attributes) (odd : Bool) → part_gives s k ≡ true
    → 1 ≤ length (display_part_elements s origin (record { kind = k; face = face; odd = odd }))
part-some law s origin (item.Char c) face odd h = law s.parts c odd face origin (not-true (is_empty_entry (glyphs_for s.parts.table c)) h)
part-some law s origin (item.Marked g) face odd h = omega arith
part-some law s origin (item.Text n) face odd h = absurd (let q : false ≡ true = h in cc)
part-some law s origin (item.Space spec) face odd h = absurd (let q : false ≡ true = h in cc)
part-some law s origin item.Ellipsis face odd h = absurd (let q : false ≡ true = h in cc)
part-some law s origin item.Ender face odd h = absurd (let q : false ≡ true = h in cc)

-- how many elements two lists have, one behind the other
flat-length : {X : Type 0} (f : X → List Element) (xs ys : List X) → length (flat_map f (xs ++ ys)) ≡ length (flat_map f xs) + length (flat_map f ys)
flat-length f xs ys = ap length (flat_map-append f xs ys) ∙ length-append (flat_map f xs) (flat_map f ys)

-- a part of a row in its turn

turn-by : {X : Type 0} (b : Bool) (f : X → List Element) (g : Turn → List X) (k : ℕ) (t : Turn) (ts : List Turn) → nat_eq k t.index ≡ b → 1 ≤ cond b 1 0 + total_in (is_place k) ts
    → ((t : Turn) → t.index ≡ k → 1 ≤ length (flat_map f (g t))) → (1 ≤ total_in (is_place k) ts → 1 ≤ length (flat_map f (flat_map g ts))) → 1 ≤ length (flat_map f (g t ++ flat_map g ts))
turn-by true f g k t ts h there some later = let sum = flat-length f (g t) (flat_map g ts) in let own = some t (sym (eqb-true k t.index h)) in omega (arith, sum, own)
turn-by false f g k t ts h there some later = let sum = flat-length f (g t) (flat_map g ts) in let rest = later (omega (arith, there)) in omega (arith, sum, rest)

turn-some : {X : Type 0} (f : X → List Element) (g : Turn → List X) (k : ℕ) (ts : List Turn) → 1 ≤ total_in (is_place k) ts
    → ((t : Turn) → t.index ≡ k → 1 ≤ length (flat_map f (g t))) → 1 ≤ length (flat_map f (flat_map g ts))
turn-some f g k [] there some = absurd (omega (arith, there))
turn-some f g k (t ∷ ts) there some = turn-by (nat_eq k t.index) f g k t ts refl there some (λ h. turn-some f g k ts h some)

part-at : CharactersGive → (s : Scene) (origin : Origin) (xs : List Part) (x : Part) (t : Turn) → slice_get xs t.index ≡ Some x → part_gives s x.kind ≡ true
    → 1 ≤ length (flat_map (display_part_elements s origin) (shown_at xs t))
part-at law s origin xs x t at gives =
    let own = part-some law s origin x.kind x.face t.odd gives in
    let sum = length-append (display_part_elements s origin (record { kind = x.kind; face = x.face; odd = t.odd })) [] in
    subst (λ (o : Option Part). 1 ≤ length (flat_map (display_part_elements s origin) (shown_by t.odd o))) (sym at) (omega (arith, own, sum))

order-some : CharactersGive → (s : Scene) (base : ℕ) (origin : Origin) (xs : List Part) → some_gives s xs ≡ true → 1 ≤ length (flat_map (display_part_elements s origin) (in_order s base xs))
order-some law s base origin xs h =
    let gives : Part → Bool = λ x. part_gives s x.kind in
    let place = position_or_len gives xs in
    let found = at-position gives xs h in
    let within = first-inside gives xs h in
    let turns = turns_of s.brackets s.parts.settings.reorder base (map part_class xs) (map part_code xs) in
    let size : length (map part_class xs) ≡ length xs = length-map xs part_class in
    let there : 1 ≤ total_in (is_place place) turns =
    let each = each-turn s.brackets s.parts.settings.reorder base (map part_class xs) (map part_code xs) (is_place place) in
    let once = once-at-least place 0 (length (map part_class xs)) (omega arith) (omega (arith, size, within)) in
    omega (arith, each, once) in
    turn-some (display_part_elements s origin) (shown_at xs) place turns there
    (λ t same. part-at law s origin xs found.0 t (ap (slice_get xs) same ∙ found.1) found.2)

-- marks that join take no part away without another that gives an element

abbrev StillGives : Scene → Part → List Part → List Part → Type 0
StillGives s held xs ys = (part_gives s held.kind ≡ true) ⊎ (some_gives s xs ≡ true) → some_gives s ys ≡ true

alone-gives : (s : Scene) (held : Part) → StillGives s held [] (held ∷ [])
alone-gives s held (inl h) = or_left (part_gives s held.kind) false h
alone-gives s held (inr h) = absurd (let q : false ≡ true = h in cc)

apart-gives : (s : Scene) (held next : Part) (xs ys : List Part) → StillGives s next xs ys → StillGives s held (next ∷ xs) (held ∷ ys)
apart-gives s held next xs ys rest (inl h) = or_left (part_gives s held.kind) (some_gives s ys) h
apart-gives s held next xs ys rest (inr h) = or_right (part_gives s held.kind) (some_gives s ys) (rest (or_cases (part_gives s next.kind) (some_gives s xs) h))

marks_joined-gives : (s : Scene) (xs : List Part) → some_gives s xs ≡ true → some_gives s (marks_joined part_joins xs) ≡ true
marks_joined-gives s [] h = h
marks_joined-gives s (x ∷ xs) h =
    joined-by part_joins (StillGives s) (alone-gives s) (apart-gives s) (λ held next glyph ys zs e rest some. rest (inl refl)) x xs (or_cases (part_gives s x.kind) (some_gives s xs) h)

gives-append : (s : Scene) (xs ys : List Part) → (some_gives s xs ≡ true) ⊎ (some_gives s ys ≡ true) → some_gives s (xs ++ ys) ≡ true
gives-append s xs ys (inl h) = list_any-append (λ (x : Part). part_gives s x.kind) xs ys ∙ or_left (some_gives s xs) (some_gives s ys) h
gives-append s xs ys (inr h) = list_any-append (λ (x : Part). part_gives s x.kind) xs ys ∙ or_right (some_gives s xs) (some_gives s ys) h

-- the rows of a string whose display runs are not used

abbrev bare_place : TextValue → Attributes → ℕ → Place
bare_place text under i = place_of false text under i

bare-heads : (text : TextValue) (under : Attributes) (is : List ℕ) → run_heads None (map (bare_place text under) is) ≡ map (bare_place text under) is
bare-heads text under [] = refl
bare-heads text under (i ∷ is) = ap (λ (ps : List Place). bare_place text under i ∷ ps) (bare-heads text under is)

-- characters from a place on
abbrev char_gives : Scene → TextValue → List ℕ → Bool
char_gives s text is = list_any (λ (i : ℕ). gives_element s.parts.table (get_or text.chars i 0)) is

go-by : (s : Scene) (xs : List Part) (text : TextValue) (under : Attributes) (i : ℕ) (is : List ℕ) → ends_row (bare_place text under i) ≡ false
    → (gives_element s.parts.table (get_or text.chars i 0) ≡ true) ⊎ (char_gives s text is ≡ true) → (some_gives s (xs ++ part_of s (bare_place text under i) ∷ []) ≡ true) ⊎ (char_gives s text is ≡ true)
go-by s xs text under i is e (inr h) = inr h
go-by s xs text under i is e (inl h) =
    inl (gives-append s xs (part_of s (bare_place text under i) ∷ []) (inr (or_left (not (is_empty_entry (glyphs_for s.parts.table (get_or text.chars i 0)))) false
    (second-holds (is_newline (get_or text.chars i 0)) (not (is_empty_entry (glyphs_for s.parts.table (get_or text.chars i 0)))) e h))))

-- a place that ends no row goes to the parts
go-on : (s : Scene) (xs : List Part) (text : TextValue) (under : Attributes) (i : ℕ) (is : List ℕ) → ends_row (bare_place text under i) ≡ false
    → (some_gives s xs ≡ true) ⊎ (char_gives s text (i ∷ is) ≡ true) → (some_gives s (xs ++ part_of s (bare_place text under i) ∷ []) ≡ true) ⊎ (char_gives s text is ≡ true)
go-on s xs text under i is e (inl h) = inl (gives-append s xs (part_of s (bare_place text under i) ∷ []) (inl h))
go-on s xs text under i is e (inr h) = go-by s xs text under i is e (or_cases (gives_element s.parts.table (get_or text.chars i 0)) (char_gives s text is) h)

rows-some : CharactersGive → (s : Scene) (base : ℕ) (origin : Origin) (text : TextValue) (under : Attributes) (xs : List Part) (is : List ℕ)
    → (some_gives s xs ≡ true) ⊎ (char_gives s text is ≡ true) → 1 ≤ length (flat_map (display_part_elements s origin) (rows_from s base xs (map (bare_place text under) is)))
rows-some law s base origin text under xs [] (inl h) = order-some law s base origin (marks_joined part_joins xs) (marks_joined-gives s xs h)
rows-some law s base origin text under xs [] (inr h) = absurd (let q : false ≡ true = h in cc)
rows-some law s base origin text under xs (i ∷ is) h =
    let p = bare_place text under i in
    cond_both (ends_row p) (row s base xs ++ row_end p.face ∷ rows_from s base [] (map (bare_place text under) is)) (rows_from s base (xs ++ part_of s p ∷ []) (map (bare_place text under) is))
    (λ (ys : List Shown). 1 ≤ length (flat_map (display_part_elements s origin) ys))
    (λ e. let sum = flat-length (display_part_elements s origin) (row s base xs) (row_end p.face ∷ rows_from s base [] (map (bare_place text under) is)) in omega (arith, sum))
    (λ e. rows-some law s base origin text under (xs ++ part_of s p ∷ []) is (go-on s xs text under i is e h))

-- the characters of a string by their places
chars-are : (s : Scene) (text : TextValue) (chars front : List ℕ) → text.chars ≡ front ++ chars → char_gives s text (range_with_len (length front) (length chars)) ≡ give_elements s.parts.table chars
chars-are s text [] front is = refl
chars-are s text (c ∷ cs) front is =
    ap₂ ◌||◌ (ap (gives_element s.parts.table) (ap (λ xs. get_or xs (length front) 0) is ∙ get_or-append_seam front c cs 0))
    (subst (λ n. char_gives s text (range_with_len n (length cs)) ≡ give_elements s.parts.table cs) (length_push front c) (chars-are s text cs (front ++ c ∷ []) (is ∙ sym (append_assoc front (c ∷ []) cs))))

parts-are : (s : Scene) (base : ℕ) (text : TextValue) (under : Attributes) → string_parts s base false text under ≡ rows_from s base [] (map (bare_place text under) (range_with_len 0 (length text.chars)))
parts-are s base text under =
    let size : length text.chars - 0 ≡ length text.chars = omega arith in
    ap (rows_from s base []) (bare-heads text under (range_with_len 0 (length text.chars - 0)) ∙ ap (λ n. map (bare_place text under) (range_with_len 0 n)) size)

string-some : CharactersGive → (s : Scene) (base : ℕ) (origin : Origin) (under : Attributes) (text : Option TextValue) → string_gives s.parts.table text ≡ true → 1 ≤ length (display_elements s base origin under text)
string-some law s base origin under None h = absurd (let q : false ≡ true = h in cc)
string-some law s base origin under (Some text) h =
    subst (λ (xs : List Shown). 1 ≤ length (flat_map (display_part_elements s origin) xs)) (sym (parts-are s base text under))
    (rows-some law s base origin text under [] (range_with_len 0 (length text.chars)) (inr (chars-are s text text.chars [] refl ∙ h)))

-- what an item shows

glyphs-some : (ellipsis : Option (List Glyph)) (face : Attributes) (origin : Origin) → not (is_empty_entry ellipsis) ≡ true → 1 ≤ length (glyph_elements face origin (unwrap_or ellipsis (ellipsis_glyphs None)))
glyphs-some None face origin h = let e : 1 ≤ 3 = omega arith in e
glyphs-some (Some []) face origin h = absurd (let q : false ≡ true = h in cc)
glyphs-some (Some (g ∷ gs)) face origin h = omega arith

ellipsis-some : (table : Option TableValue) (face : Attributes) (origin : Origin) → ellipsis_gives table ≡ true → 1 ≤ length (glyph_elements face origin (ellipsis_glyphs table))
ellipsis-some None face origin h = let e : 1 ≤ 3 = omega arith in e
ellipsis-some (Some table) face origin h = glyphs-some table.ellipsis face origin h

-- the law of items that give an element
abbrev pub ItemsGive : Type 0
ItemsGive = (s : Scene) (base : ℕ) (k : ItemKind) (odd : Bool) (face : Attributes) (origin : Origin) → kind_gives s k ≡ true → 1 ≤ length (put_kind kind_elements s base k false odd face origin)

-- what gives no element has none

empty-entry : (entry : Option (List Glyph)) → not (is_empty_entry entry) ≡ false → entry ≡ Some []
empty-entry None h = absurd (let q : true ≡ false = h in cc)
empty-entry (Some []) h = refl
empty-entry (Some (g ∷ gs)) h = absurd (let q : true ≡ false = h in cc)

character-none : (parts : PartValues) (ch : ℕ) (odd : Bool) (face : Attributes) (origin : Origin) → not (is_empty_entry (glyphs_for parts.table ch)) ≡ false → elements_of parts ch odd face origin ≡ []
character-none parts ch odd face origin h = ap (λ entry. elements_by entry parts ch odd face origin) (empty-entry (glyphs_for parts.table ch) h)

-- a part without elements that no mark joins
record IsEmptyPart (s : Scene) (x : Part) : Type 0 where
  none : (face : Attributes) (odd : Bool) (origin : Origin) → display_part_elements s origin (record { kind = x.kind; face = face; odd = odd }) ≡ []
  alone : base_of x.role ≡ None

char-empty : (s : Scene) (p : Place) → not (is_empty_entry (glyphs_for s.parts.table p.ch)) ≡ false → IsEmptyPart s (part_by s None p)
char-empty s p h = record {
  none = λ face odd origin. character-none s.parts p.ch odd face origin h;
  alone = ap (λ entry. base_of (mark_role_by entry (shown_as s.parts.settings.ctl_arrow (class_of s.parts.classes p.ch) p.ch))) (empty-entry (glyphs_for s.parts.table p.ch) h);
}

grows-none : (s : Scene) → Grows part_joins (IsEmptyPart s)
grows-none s held next glyph these those e =
    let joins : marked_glyph None (mark_of next.role) ≡ Some glyph = rw these.alone at e in
    cc

-- a place that no spec replaces, whose character gives no element
abbrev GivesNone : Scene → Place → Type 0
GivesNone s p = (p.spec ≡ None) × (gives_element s.parts.table p.ch ≡ false)

place-empty : (s : Scene) (p : Place) → GivesNone s p → IsEmptyPart s (part_of s p)
place-empty s p none =
    let own = or_parts (is_newline p.ch) (not (is_empty_entry (glyphs_for s.parts.table p.ch))) none.1 in
    rw none.0 (char-empty s p own.1)

not-end : (s : Scene) (p : Place) → GivesNone s p → ends_row p ≡ true → ⊥
not-end s p none ends =
    let own = or_parts (is_newline p.ch) (not (is_empty_entry (glyphs_for s.parts.table p.ch))) none.1 in
    both_ways (is_newline p.ch) own.0 (and_parts (not (is_some p.spec)) (is_newline p.ch) ends).1

flat-none : {X : Type 0} (f : X → List Element) (xs : List X) → AllByRecursion (λ (x : X). f x ≡ []) xs → flat_map f xs ≡ []
flat-none f [] all = refl
flat-none f (x ∷ xs) all = ap₂ ◌++◌ all.0 (flat-none f xs all.1)

string-none : (s : Scene) (base : ℕ) (origin : Origin) (under : Attributes) (text : Option TextValue) → string_gives s.parts.table text ≡ false → display_elements s base origin under text ≡ []
string-none s base origin under None h = refl
string-none s base origin under (Some text) h =
    flat-none (display_part_elements s origin) (string_parts s base false text under)
    (string-each s base (GivesNone s) (IsEmptyPart s) (λ (x : Shown). display_part_elements s origin x ≡ []) (place-empty s) (grows-none s)
    (λ odd x empty. empty.none x.face odd origin) (λ p none ends. absurd (not-end s p none ends)) false text under
    (λ i less. (refl, false_from_ne_true _ (λ gives. both_ways _ h (list_any_at (gives_element s.parts.table) text.chars i 0 less gives)))))

ellipsis-none : (table : Option TableValue) (face : Attributes) (origin : Origin) → ellipsis_gives table ≡ false → glyph_elements face origin (ellipsis_glyphs table) ≡ []
ellipsis-none None face origin h = absurd (let q : true ≡ false = h in cc)
ellipsis-none (Some table) face origin h = ap (λ text. glyph_elements face origin (unwrap_or text (ellipsis_glyphs None))) (empty-entry table.ellipsis h)

-- an item has an element where it is said to give one, and else none
pub item-gives : CharactersGive → (s : Scene) (base : ℕ) (k : ItemKind) (odd : Bool) (face : Attributes) (origin : Origin)
    → let shown = put_kind kind_elements s base k false odd face origin in
    (kind_gives s k ≡ true → 1 ≤ length shown) × (kind_gives s k ≡ false → shown ≡ [])
item-gives law s base (item.Char c) odd face origin =
    (λ h. law s.parts c odd face origin (not-true (is_empty_entry (glyphs_for s.parts.table c)) h), character-none s.parts c odd face origin)
item-gives law s base (item.Text n) odd face origin =
    let text = slice_get s.objects.strings n in (string-some law s base origin face text, string-none s base origin face text)
item-gives law s base (item.Space (Text n)) odd face origin = (λ h. absurd (let q : false ≡ true = h in cc), λ h. refl)
item-gives law s base item.Ellipsis odd face origin = (ellipsis-some s.parts.table face origin, ellipsis-none s.parts.table face origin)
item-gives law s base k odd face origin = (λ h. omega arith, λ h. absurd (let q : true ≡ false = h in cc))
