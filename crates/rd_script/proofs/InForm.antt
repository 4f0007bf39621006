-- An op that a line says is in form, and no field of one is refused for want of memory.
use Rattle.std.proofs.Common.{◌≡◌, ◌≢◌, ℕ, suc, ◌≤◌, ◌<◌, ◌-◌, ◌&&◌, Bool, true, false, pos, List, [], ◌∷◌, length, Option, None, Some, Result, Ok, Err, IsTrue, refl, sym, ap, subst, ◌∙◌, arith, unwrap_or, option_and_then, option_map, nat_le, chars, ok_or}
use Rattle.std.proofs.lemmas.Bool.Decides.{nat_tests}
use Rattle.std.proofs.lemmas.List.Elements.{All-nil, All-cons}
use Rattle.std.proofs.lemmas.Option.{none-some}
use Rattle.std.specs.Option.{option_zip}
use Rattle.std.specs.Prelude.{All}
use Rattle.serde_json.specs.Data.{Data, Items, no_items, item, Members}
use Rattle.serde_json.specs.Events.{items_len}
use Rattle.serde_json.specs.Find.{get_member, as_number, as_u64, as_i64, as_bool, as_str, as_array}
use Rattle.rd_base.proofs.Choices.{IsFreeOf, goes-on-free, kept-some, map-some, no-free, ok-free}
use Rattle.rd_base.specs.declared.limits.TheConstants.{ATOMS, CODE_POINTS, COLOURS, HSCROLL_COLUMNS, INVISIBLE_ATOMS, NUMBER_COLUMNS, SCROLL_CONSERVATIVELY, SCROLL_MARGIN, SCROLL_ROWS, START_ROW, STRING_COLUMNS, FRAME_COLUMNS, FRAME_ROWS, LEAST_FRAME_COLUMNS, LEAST_FRAME_ROWS, PRIORITY, STRING_RUNS, TABLE_ENTRIES, SPACE_COLUMNS, TAB_COLUMNS}
use Rattle.rd_base.specs.declared.settings.Invisible.{Invisible}
use Rattle.rd_base.specs.declared.settings.Invisible.TheVariants.{Every, Listed}
use Rattle.rd_objects.specs.declared.run.RunKind.{RunKind}
use Rattle.rd_script.specs.declared.object.SpecName.{SpecName}
use Rattle.rd_script.specs.declared.object.SpecName.TheVariants as spec_names
use Rattle.rd_script.specs.declared.setting.SettingName.{SettingName}
use Rattle.rd_script.specs.declared.setting.SettingName.TheVariants as setting_names
use Rattle.rd_script.specs.declared.fault.OpFault.{OpFault}
use Rattle.rd_script.specs.declared.fault.OpFault.TheVariants.{BadField, Memory}
use Rattle.rd_script.specs.declared.op.Op.{Op}
use Rattle.rd_script.specs.declared.name.Name.{Name}
use Rattle.rd_script.specs.declared.name.Name.TheVariants as names
use Rattle.rd_script.specs.declared.name.TextOp.{TextOp}
use Rattle.rd_script.specs.declared.name.TextOp.TheVariants as texts
use Rattle.rd_script.specs.declared.name.PropertyOp.{PropertyOp}
use Rattle.rd_script.specs.declared.name.PropertyOp.TheVariants as properties
use Rattle.rd_script.specs.declared.name.ObjectOp.{ObjectOp}
use Rattle.rd_script.specs.declared.name.ObjectOp.TheVariants as objects
use Rattle.rd_script.specs.declared.name.WindowOp.{WindowOp}
use Rattle.rd_script.specs.declared.name.WindowOp.TheVariants as windows
use Rattle.rd_script.specs.declared.name.ScreenOp.{ScreenOp}
use Rattle.rd_script.specs.declared.name.ScreenOp.TheVariants as screens
use Rattle.rd_overlays.specs.declared.overlay.Kind.{Kind}
use Rattle.rd_overlays.specs.declared.overlay.Kind.TheVariants as kinds
use Rattle.rd_script.specs.Forms.{is_buffer_name, is_text, is_plain_text, is_text_kind, IsRawByte, IsFormat, IsPropertyValue, is_glyph_text, is_slot, IsWhole, IsStop, IsNumber, IsInvisible, IsSettingInForm, IsSpecInForm, IsRunInForm, IsEntryInForm, IsSlot, IsEllipsis, IsInForm}
use Rattle.rd_script.specs.Fields.{Fields, kept_if, within, whole, signed, text, plain_text, items_of, buffer_name, word, consed, each_item, list_of, two_items_of, two_items, four_items_of, four_items, or_bad, required_of, present, optional_of, required, optional, defaulted, and_then, both, made, then_by, value_key}
use Rattle.rd_script.specs.Numbers.{is_near_zero}
use Rattle.rd_script.specs.Objects.{run_kinds, op_run, run_form, spec_names as spec_words, spec_value, face_of, glyph_text, only, slot, op_entry, entry_form, slot_field}
use Rattle.rd_script.specs.Settings.{setting_names as setting_words, direction_names, invisible_by, invisible, value_of as value_of_setting}
use Rattle.rd_script.specs.Properties.{overlay_kind, text_kind, greatest_value, property_value, property}
use Rattle.rd_script.specs.Reading.{op_key, reading, reading_name, reading_row, reading_members, object_of, closed, extra_key, unless_extra}
use Rattle.rd_script.specs.Table.{row, text_row, property_row, object_row, window_row, screen_row, stretch_fields, text_field, overlay_manner, split_sides, ways, wrap_modes}

-- what fields give has this, and none of them is refused for want of memory
pub record Gives {T : Type 0} (fields : Fields T) (P : T → Type 0) : Type 0 where
  pub given : (ms : Members) (x : T) → fields.taken ms ≡ Ok x → P x
  pub free : (ms : Members) → IsFreeOf Memory (fields.taken ms)

-- what a kind of value gives has this
record Finds {T : Type 0} (kind : Data → Option T) (P : T → Type 0) : Type 0 where
  pub found : (d : Data) (x : T) → kind d ≡ Some x → P x

ok-same : {T : Type 0} (x y : T) → ◌≡◌ {A = Result T OpFault} (Ok x) (Ok y) → x ≡ y
ok-same x y e = cc

-- ---- readings of which no fault is want of memory

pub ok_or-free : {T : Type 0} (fault : OpFault) (o : Option T) → fault ≢ Memory → IsFreeOf Memory (ok_or o fault)
ok_or-free fault None h = no-free fault h
ok_or-free fault (Some x) h = ok-free x

or_bad-free : {T : Type 0} (key : List ℕ) (o : Option T) → IsFreeOf Memory (or_bad key o)
or_bad-free key o = ok_or-free (BadField (chars key)) o (λ e. cc)

pub required_of-free : {T : Type 0} (key : List ℕ) (kind : Data → Option T) (o : Option Data) → IsFreeOf Memory (required_of key kind o)
required_of-free key kind None = λ e. cc
required_of-free key kind (Some d) = or_bad-free key (kind d)

optional_of-free : {T : Type 0} (key : List ℕ) (kind : Data → Option T) (o : Option Data) → IsFreeOf Memory (optional_of key kind o)
optional_of-free key kind None = λ e. cc
optional_of-free key kind (Some d) = or_bad-free key _

-- ---- kinds of values

kept-finds : {T : Type 0} (test : T → Bool) (of : Data → Option T) → Finds (λ d. option_and_then (kept_if test) (of d)) (λ x. IsTrue (test x))
kept-finds test of = record { found = λ d x e. kept-some test (of d) x e }

within-finds : (least greatest : ℕ) → Finds (within least greatest) (λ n. (least ≤ n) × (n ≤ greatest))
within-finds least greatest = record {
  found = λ d n e.
      let h = kept-some (λ n. nat_le least n && nat_le n greatest) (option_and_then as_u64 (as_number d)) n e in
      (grind (arith, nat_tests), grind (arith, nat_tests));
}

whole-finds : Finds whole IsWhole
whole-finds = record { found = λ d n e. ((within-finds 0 18446744073709551615).found d n e).1 }

-- ---- fields

or_bad-ok : {T : Type 0} (key : List ℕ) (o : Option T) (x : T) → or_bad key o ≡ Ok x → o ≡ Some x
or_bad-ok key None x e = absurd (cc)
or_bad-ok key (Some y) x e = ap Some (ok-same y x e)

required-ok : {T : Type 0} (key : List ℕ) (kind : Data → Option T) (P : T → Type 0) → Finds kind P → (o : Option Data) (x : T) → required_of key kind o ≡ Ok x → P x
required-ok key kind P finds None x e = absurd (cc)
required-ok key kind P finds (Some d) x e = finds.found d x (or_bad-ok key (kind d) x e)

required-gives : {T : Type 0} (key : List ℕ) (kind : Data → Option T) (P : T → Type 0) → Finds kind P → Gives (required key kind) P
required-gives key kind P finds = record {
  given = λ ms x e. required-ok key kind P finds (get_member key ms) x e;
  free = λ ms. required_of-free key kind (get_member key ms);
}

and_then-ok : {A B : Type 0} (f : A → Result B OpFault) (r : Result A OpFault) (b : B) → and_then f r ≡ Ok b → (a : A) × (r ≡ Ok a) × (f a ≡ Ok b)
and_then-ok f (Ok a) b e = (a, refl, e)
and_then-ok f (Err g) b e = absurd (cc)

made-as : {A B : Type 0} (f : A → B) (fields : Fields A) (P : A → Type 0) (Q : B → Type 0) → Gives fields P → ((a : A) → P a → Q (f a)) → Gives (made f fields) Q
made-as f fields P Q h so = record {
  given = λ ms x e.
      let of = and_then-ok (λ a. Ok (f a)) (fields.taken ms) x e in
      subst Q (ok-same (f of.0) x of.2) (so of.0 (h.given ms of.0 of.1));
  free = λ ms. goes-on-free (and_then (λ a. Ok (f a))) (fields.taken ms) (λ e. refl) (λ a e. ok-free (f a)) (h.free ms);
}

made-gives : {A : Type 0} (f : A → Op) (fields : Fields A) (P : A → Type 0) → Gives fields P → ((a : A) → P a → IsInForm (f a)) → Gives (made f fields) IsInForm
made-gives f fields P h so = made-as f fields P IsInForm h so

some_found : {T : Type 0} (kind : Data → Option T) (P : T → Type 0) (Q : Option T → Type 0) → Finds kind P → ((y : T) → P y → Q (Some y))
    → (d : Data) (o : Option T) (x : Option T) → kind d ≡ o → option_map Some o ≡ Some x → Q x
some_found kind P Q finds some d None x is e = absurd (none-some x e)
some_found kind P Q finds some d (Some y) x is e = subst Q (ap (λ o. unwrap_or o None) e) (some y (finds.found d y is))

optional-ok : {T : Type 0} (key : List ℕ) (kind : Data → Option T) (P : T → Type 0) (Q : Option T → Type 0) → Finds kind P → Q None → ((y : T) → P y → Q (Some y))
    → (o : Option Data) (x : Option T) → optional_of key kind o ≡ Ok x → Q x
optional-ok key kind P Q finds none some None x e = subst Q (ok-same None x e) none
optional-ok key kind P Q finds none some (Some d) x e = some_found kind P Q finds some d (kind d) x refl (or_bad-ok key (option_map Some (kind d)) x e)

optional-gives : {T : Type 0} (key : List ℕ) (kind : Data → Option T) (P : T → Type 0) (Q : Option T → Type 0) → Finds kind P → Q None → ((y : T) → P y → Q (Some y))
    → Gives (optional key kind) Q
optional-gives key kind P Q finds none some = record {
  given = λ ms x e. optional-ok key kind P Q finds none some (present (get_member key ms)) x e;
  free = λ ms. optional_of-free key kind (present (get_member key ms));
}

defaulted-gives : {T : Type 0} (default : T) (key : List ℕ) (kind : Data → Option T) (P : T → Type 0) → Finds kind P → P default → Gives (defaulted default key kind) P
defaulted-gives default key kind P finds h =
    made-as (λ o. unwrap_or o default) (optional key kind) (λ o. P (unwrap_or o default)) P
    (optional-gives key kind P (λ o. P (unwrap_or o default)) finds h (λ y p. p)) (λ o p. p)

then_by-gives : {A B : Type 0} (first : Fields A) (keys : List (List ℕ)) (second : A → Fields B) (P : A → Type 0) (Q : B → Type 0)
    → Gives first P → ((a : A) → P a → Gives (second a) Q) → Gives (then_by first keys second) Q
then_by-gives first keys second P Q h so = record {
  given = λ ms x e.
      let of = and_then-ok (λ a. (second a).taken ms) (first.taken ms) x e in
      (so of.0 (h.given ms of.0 of.1)).given ms x of.2;
  free = λ ms. goes-on-free (and_then (λ a. (second a).taken ms)) (first.taken ms) (λ e. refl) (λ a e. (so a (h.given ms a e)).free ms) (h.free ms);
}

-- both of two fields are what is made behind the first of what the second gives
both-gives : {A B : Type 0} (f : Fields A) (g : Fields B) (P : A → Type 0) (Q : B → Type 0) → Gives f P → Gives g Q → Gives (both f g) (λ x. P x.0 × Q x.1)
both-gives f g P Q hf hg =
    then_by-gives f g.keys (λ a. made (λ b. (a, b)) g) P (λ x. P x.0 × Q x.1) hf (λ a p. made-as (λ b. (a, b)) g Q (λ x. P x.0 × Q x.1) hg (λ b q. (p, q)))

any-finds : {T : Type 0} (kind : Data → Option T) → Finds kind (λ x. Unit {0})
any-finds kind = record { found = λ d x e. tt }

name_field : {key : List ℕ} → Gives (required key buffer_name) (λ t. IsTrue (is_buffer_name t))
name_field = required-gives _ buffer_name _ (kept-finds is_buffer_name as_str)

text_field-gives : Gives text_field (λ t. IsTrue (is_text t))
text_field-gives = required-gives _ text _ (kept-finds is_text (λ d. option_map chars (as_str d)))

whole_field : {key : List ℕ} → Gives (required key whole) IsWhole
whole_field = required-gives _ whole IsWhole whole-finds

range_field : {key : List ℕ} (least greatest : ℕ) → Gives (required key (within least greatest)) (λ n. (least ≤ n) × (n ≤ greatest))
range_field least greatest = required-gives _ (within least greatest) _ (within-finds least greatest)

-- ---- arrays

mapped-finds : {A B : Type 0} (f : A → B) (kind : Data → Option A) (P : A → Type 0) (Q : B → Type 0) → Finds kind P → ((y : A) → P y → Q (f y))
    → Finds (λ d. option_map f (kind d)) Q
mapped-finds f kind P Q finds so = record {
  found = λ d x e. let y = map-some f (kind d) x e in subst Q y.2 (so y.0 (finds.found d y.0 y.1));
}

pair-some : {A B : Type 0} (a : Option A) (b : Option B) (x : A × B) → option_zip a b ≡ Some x → (a ≡ Some x.0) × (b ≡ Some x.1)
pair-some None b x e = absurd (none-some x e)
pair-some (Some a) None x e = absurd (none-some x e)
pair-some (Some a) (Some b) x e = let same : (a, b) ≡ x = cc in (ap (λ z. Some z.0) same, ap (λ z. Some z.1) same)

bound : {A B : Type 0} (f : A → Option B) (o : Option A) (x : B) → option_and_then f o ≡ Some x → (y : A) × (o ≡ Some y) × (f y ≡ Some x)
bound f None x e = absurd (none-some x e)
bound f (Some y) x e = (y, refl, e)

two-some : {A B : Type 0} (a : Data → Option A) (b : Data → Option B) (P : A → Type 0) (Q : B → Type 0) → Finds a P → Finds b Q
    → (ds : Items) (x : A × B) → two_items_of a b ds ≡ Some x → P x.0 × Q x.1
two-some a b P Q fa fb (item d (item f no_items)) x e = let parts = pair-some (a d) (b f) x e in (fa.found d x.0 parts.0, fb.found f x.1 parts.1)
two-some a b P Q fa fb ds x e = absurd (none-some x e)

two-finds : {A B : Type 0} (a : Data → Option A) (b : Data → Option B) (P : A → Type 0) (Q : B → Type 0) → Finds a P → Finds b Q
    → Finds (two_items a b) (λ x. P x.0 × Q x.1)
two-finds a b P Q fa fb = record {
  found = λ d x e. let ds = bound (two_items_of a b) (as_array d) x e in two-some a b P Q fa fb ds.0 x ds.2;
}

run-some : (ds : Items) (x : ℕ × (ℕ × (RunKind × ℕ))) → four_items_of whole whole (word run_kinds) whole ds ≡ Some x → IsWhole x.0 × IsWhole x.1.0 × IsWhole x.1.1.1
run-some (item a (item b (item c (item d no_items)))) x e =
    let first = pair-some (whole a) (option_zip (whole b) (option_zip (word run_kinds c) (whole d))) x e in
    let second = pair-some (whole b) (option_zip (word run_kinds c) (whole d)) x.1 first.1 in
    let third = pair-some (word run_kinds c) (whole d) x.1.1 second.1 in
    (whole-finds.found a x.0 first.0, whole-finds.found b x.1.0 second.0, whole-finds.found d x.1.1.1 third.1)
run-some ds x e = absurd (none-some x e)

run-finds : Finds run_form IsRunInForm
run-finds = mapped-finds op_run (four_items whole whole (word run_kinds) whole) (λ x. IsWhole x.0 × IsWhole x.1.0 × IsWhole x.1.1.1) IsRunInForm
    (record { found = λ d x e. let ds = bound (four_items_of whole whole (word run_kinds) whole) (as_array d) x e in run-some ds.0 x ds.2 })
    (λ x h. record { from = h.0; to = h.1; value = h.2 })

consed-some : {T : Type 0} (P : T → Type 0) (o : Option T) (os : Option (List T)) (n : ℕ) (xs : List T) → ((x : T) → o ≡ Some x → P x)
    → ((ys : List T) → os ≡ Some ys → (length ys ≡ n) × All P ys) → consed o os ≡ Some xs → (length xs ≡ suc n) × All P xs
consed-some P None os n xs first rest e = absurd (none-some xs e)
consed-some P (Some x) None n xs first rest e = absurd (none-some xs e)
consed-some P (Some x) (Some ys) n xs first rest e =
    let same : (x ∷ ys) ≡ xs = cc in
    let behind = rest ys refl in
    (ap length (sym same) ∙ ap suc behind.0, subst (All P) same (All-cons P x ys (first x refl) behind.1))

each-some : {T : Type 0} (kind : Data → Option T) (P : T → Type 0) → Finds kind P → (ds : Items) (xs : List T) → each_item kind ds ≡ Some xs
    → (length xs ≡ items_len ds) × All P xs
each-some kind P finds no_items xs e = let same : [] ≡ xs = cc in (ap length (sym same), subst (All P) same (All-nil P))
each-some kind P finds (item d ds) xs e = consed-some P (kind d) (each_item kind ds) (items_len ds) xs (λ x h. finds.found d x h) (λ ys h. each-some kind P finds ds ys h) e

list-finds : {T : Type 0} (most : ℕ) (kind : Data → Option T) (P : T → Type 0) → Finds kind P → Finds (list_of most kind) (λ xs. (length xs ≤ most) × All P xs)
list-finds most kind P finds = record {
  found = λ d xs e.
      let ds = bound (each_item kind) (option_and_then (kept_if (λ ds. nat_le (items_len ds) most)) (as_array d)) xs e in
      let all = each-some kind P finds ds.0 xs ds.2 in
      let few = kept-some (λ ds. nat_le (items_len ds) most) (as_array d) ds.0 ds.1 in
      let small : items_len ds.0 ≤ most = grind (arith, nat_tests) in
      (omega (arith, all.0, small), all.1);
}

-- ---- settings and objects

entry-finds : Finds entry_form IsEntryInForm
entry-finds = mapped-finds op_entry (two_items (within 0 (CODE_POINTS - 1)) glyph_text) (λ x. ((0 ≤ x.0) × (x.0 ≤ CODE_POINTS - 1)) × IsTrue (is_glyph_text x.1)) IsEntryInForm
    (two-finds (within 0 (CODE_POINTS - 1)) glyph_text _ _ (within-finds 0 (CODE_POINTS - 1)) (kept-finds is_glyph_text (λ d. option_map chars (as_str d)))) (λ x h. record { code = let most = h.0.1 in omega arith; text = h.1 })

slot-gives : {key : List ℕ} → Gives (slot_field key) IsSlot
slot-gives = optional-gives _ slot _ IsSlot (kept-finds is_slot (λ d. option_and_then only (option_map chars (as_str d)))) tt (λ c h. h)

number-gives : {key : List ℕ} → Gives (optional key whole) IsNumber
number-gives = optional-gives _ whole IsWhole IsNumber whole-finds tt (λ n h. h)

invisible-some : (b : Option Bool) (o : Option (List (ℕ × Bool))) (x : Invisible) → ((pairs : List (ℕ × Bool)) → o ≡ Some pairs → IsInvisible (Listed pairs))
    → invisible_by b o ≡ Some x → IsInvisible x
invisible-some (Some true) o x so e = let same : Every ≡ x = cc in subst IsInvisible same tt
invisible-some (Some false) o x so e = absurd (none-some x e)
invisible-some None o x so e = let y = map-some Listed o x e in subst IsInvisible y.2 (so y.0 y.1)

pairs-finds : Finds (list_of INVISIBLE_ATOMS (two_items (within 0 ATOMS) as_bool)) (λ pairs. IsInvisible (Listed pairs))
pairs-finds = list-finds INVISIBLE_ATOMS (two_items (within 0 ATOMS) as_bool) (λ pair. pair.0 ≤ ATOMS)
    (record { found = λ d x e. ((two-finds (within 0 ATOMS) as_bool _ _ (within-finds 0 ATOMS) (any-finds as_bool)).found d x e).0.1 })

invisible-finds : Finds invisible IsInvisible
invisible-finds = record { found = λ d x e. invisible-some (as_bool d) (list_of INVISIBLE_ATOMS (two_items (within 0 ATOMS) as_bool) d) x (pairs-finds.found d) e }

any-gives : {T : Type 0} {key : List ℕ} (kind : Data → Option T) → Gives (required key kind) (λ x. Unit {0})
any-gives kind = required-gives _ kind _ (any-finds kind)

value-gives : (n : SettingName) (key : List ℕ) → Gives (value_of_setting n key) IsSettingInForm
value-gives setting_names.TabWidth key = made-as _ _ _ IsSettingInForm (required-gives key (within 1 TAB_COLUMNS) _ (within-finds 1 TAB_COLUMNS)) (λ n h. h)
value-gives setting_names.CtlArrow key = made-as _ _ _ IsSettingInForm (any-gives as_bool) (λ x h. h)
value-gives setting_names.Direction key = made-as _ _ _ IsSettingInForm (any-gives (word direction_names)) (λ x h. h)
value-gives setting_names.Reorder key = made-as _ _ _ IsSettingInForm (any-gives as_bool) (λ x h. h)
value-gives setting_names.Table key = made-as _ _ _ IsSettingInForm number-gives (λ x h. h)
value-gives setting_names.Invisible key = made-as _ _ _ IsSettingInForm (required-gives key invisible _ invisible-finds) (λ x h. h)
value-gives setting_names.LinePrefix key = made-as _ _ _ IsSettingInForm number-gives (λ x h. h)
value-gives setting_names.WrapPrefix key = made-as _ _ _ IsSettingInForm number-gives (λ x h. h)
value-gives setting_names.Modified key = made-as _ _ _ IsSettingInForm (any-gives as_bool) (λ x h. h)
value-gives setting_names.ReadOnly key = made-as _ _ _ IsSettingInForm (any-gives as_bool) (λ x h. h)

spec-gives : (n : SpecName) (key : List ℕ) → Gives (spec_value n key) IsSpecInForm
spec-gives spec_names.Text key = made-as _ _ _ IsSpecInForm whole_field (λ n h. h)
spec-gives spec_names.Width key = made-as _ _ _ IsSpecInForm (range_field 0 SPACE_COLUMNS) (λ n h. h.1)
spec-gives spec_names.Align key = made-as _ _ _ IsSpecInForm (range_field 0 SPACE_COLUMNS) (λ n h. h.1)

colour-gives : {key : List ℕ} → Gives (defaulted COLOURS key (within 0 (COLOURS - 1))) (λ n. n ≤ COLOURS)
colour-gives = defaulted-gives COLOURS _ (within 0 (COLOURS - 1)) (λ n. n ≤ COLOURS)
    (record { found = λ d n e. let h = (within-finds 0 (COLOURS - 1)).found d n e in let most = h.1 in omega arith }) (omega arith)

flag-gives : {key : List ℕ} → Gives (defaulted false key as_bool) (λ b. Unit {0})
flag-gives = defaulted-gives false _ as_bool _ (any-finds as_bool) tt

-- ---- rows

raw_bytes-finds : Finds (items_of (within 128 255)) (λ bytes. All IsRawByte bytes)
raw_bytes-finds = record {
  found = λ d xs e.
      let ds = bound (each_item (within 128 255)) (as_array d) xs e in
      (each-some (within 128 255) IsRawByte (within-finds 128 255) ds.0 xs ds.2).1;
}

-- a value below a number
below-finds : (most end : ℕ) → most < end → Finds (within 0 most) (λ n. n < end)
below-finds most end less = record { found = λ d n e. let h = (within-finds 0 most).found d n e in let up = h.1 in omega (arith, up, less) }

to_field : {key : List ℕ} (most : ℕ) → Gives (required key (within 0 most)) (λ n. n ≤ most)
to_field most = required-gives _ (within 0 most) _ (record { found = λ d n e. ((within-finds 0 most).found d n e).1 })

property_value-form : (kind : Kind) (value : Option ℕ) → ((n : ℕ) → value ≡ Some n → n ≤ greatest_value kind) → IsPropertyValue kind value
property_value-form kind None h = tt
property_value-form kinds.Face (Some n) h = h n refl
property_value-form kind (Some n) h = h n refl

abbrev AtMost : ℕ → Option ℕ → Type 0
AtMost most o = (n : ℕ) → o ≡ Some n → n ≤ most

value-at_most : (key : List ℕ) (most : ℕ) → Gives (optional key (within 0 most)) (AtMost most)
value-at_most key most = optional-gives key (within 0 most) (λ n. n ≤ most) (AtMost most)
    (record { found = λ d n e. ((within-finds 0 most).found d n e).1 }) (λ n e. absurd (none-some n e)) (λ y h n e. subst (λ z. z ≤ most) (ap (λ o. unwrap_or o y) e) h)

-- a kind and its value
property-gives : (of : Data → Option Kind) (P : Kind → Type 0) → Finds of P → Gives (property of) (λ x. P x.0 × IsPropertyValue x.0 x.1)
property-gives of P finds = then_by-gives _ _ (λ kind. property_value kind value_key) P (λ x. P x.0 × IsPropertyValue x.0 x.1) (required-gives _ of P finds)
    (λ kind h. made-as _ _ (AtMost (greatest_value kind)) _ (value-at_most value_key (greatest_value kind)) (λ value most. (h, property_value-form kind value most)))

stretch-gives : Gives stretch_fields (λ x. IsTrue (is_buffer_name x.0) × (IsWhole x.1.0 × IsWhole x.1.1))
stretch-gives = both-gives _ _ _ (λ x. IsWhole x.0 × IsWhole x.1) name_field (both-gives _ _ _ _ whole_field whole_field)

manner-gives : Gives overlay_manner (λ x. IsTrue (is_near_zero PRIORITY x.0) × (Unit {0} × Unit {0}))
manner-gives = both-gives _ _ _ (λ x. Unit {0} × Unit {0}) (defaulted-gives (pos 0) _ (signed PRIORITY) (λ z. IsTrue (is_near_zero PRIORITY z)) (kept-finds (is_near_zero PRIORITY) (λ d. option_and_then as_i64 (as_number d))) refl)
    (both-gives _ _ _ _ flag-gives flag-gives)

text-gives : (op : TextOp) → Gives (text_row op) IsInForm
text-gives texts.Buffer = made-gives _ _ _ name_field (λ x h. h)
text-gives texts.Insert = made-gives _ _ _ (both-gives _ _ _ _ name_field (both-gives _ _ _ _ whole_field text_field-gives)) (λ x h. (h.0, h.1.0, h.1.1))
text-gives texts.InsertRaw = made-gives _ _ _ (both-gives _ _ _ _ name_field (both-gives _ _ _ _ whole_field
    (required-gives _ (items_of (within 128 255)) _ raw_bytes-finds))) (λ x h. (h.0, h.1.0, h.1.1))
text-gives texts.Type = made-gives _ _ _ text_field-gives (λ x h. h)
text-gives texts.Delete = made-gives _ _ _ stretch-gives (λ x h. (h.0, h.1.0, h.1.1))
text-gives texts.Narrow = made-gives _ _ _ stretch-gives (λ x h. (h.0, h.1.0, h.1.1))
text-gives texts.Widen = made-gives _ _ _ name_field (λ x h. h)

properties-give : (op : PropertyOp) → Gives (property_row op) IsInForm
properties-give properties.Put = made-gives _ _ _ (both-gives _ _ _ _ stretch-gives (property-gives text_kind (λ kind. IsTrue (is_text_kind kind)) (kept-finds is_text_kind overlay_kind)))
    (λ x h. (h.0.0, h.0.1.0, h.0.1.1, h.1.0, h.1.1))
properties-give properties.Overlay = made-gives _ _ _ (both-gives _ _ _ _ stretch-gives manner-gives) (λ x h. (h.0.0, h.0.1.0, h.0.1.1, h.1.0))
properties-give properties.OverlayMove = made-gives _ _ _
    (both-gives _ _ _ _ name_field (both-gives _ _ _ _ whole_field (both-gives _ _ _ _ whole_field whole_field)))
    (λ x h. (h.0, h.1.0, h.1.1.0, h.1.1.1))
properties-give properties.OverlayDrop = made-gives _ _ _ (both-gives _ _ _ _ name_field whole_field) (λ x h. (h.0, h.1))
properties-give properties.OverlayPut = made-gives _ _ _
    (both-gives _ _ _ _ name_field (both-gives _ _ _ _ whole_field (property-gives overlay_kind (λ kind. Unit {0}) (any-finds overlay_kind))))
    (λ x h. (h.0, h.1.0, h.1.1.1))
properties-give properties.MarginPut = made-gives _ _ _
    (both-gives _ _ _ _ name_field (both-gives _ _ _ _ whole_field number-gives)) (λ x h. (h.0, h.1.0, h.1.1))
properties-give properties.Setting = made-gives _ _ _
    (both-gives _ _ _ _ name_field (then_by-gives _ _ (λ n. value_of_setting n value_key) _ IsSettingInForm (any-gives (word setting_words)) (λ n any. value-gives n value_key)))
    (λ x h. (h.0, h.1))

object-gives : (op : ObjectOp) → Gives (object_row op) IsInForm
object-gives objects.String = made-gives _ _ _
    (both-gives _ _ _ _ text_field-gives (defaulted-gives [] _ (list_of STRING_RUNS run_form) _ (list-finds STRING_RUNS run_form IsRunInForm run-finds) (omega arith, All-nil _)))
    (λ x h. (h.0, h.1.0, h.1.1))
object-gives objects.Spec = made-gives _ _ _ (then_by-gives _ _ (λ n. spec_value n value_key) _ IsSpecInForm (any-gives (word spec_words)) (λ n any. spec-gives n value_key)) (λ x h. h)
object-gives objects.Face = made-gives _ _ _
    (made-as face_of _ _ (λ f. (f.fg ≤ COLOURS) × (f.bg ≤ COLOURS)) (both-gives _ _ _ _ colour-gives (both-gives _ _ _ _ colour-gives
    (both-gives _ _ _ _ flag-gives (both-gives _ _ _ _ flag-gives flag-gives))))
    (λ x h. (h.0, h.1.0))) (λ x h. h)
object-gives objects.Table = made-gives _ _ _
    (both-gives _ _ _ _ (defaulted-gives [] _ (list_of TABLE_ENTRIES entry_form) _ (list-finds TABLE_ENTRIES entry_form IsEntryInForm entry-finds) (omega arith, All-nil _))
    (both-gives _ _ _ _ slot-gives (both-gives _ _ _ _ slot-gives (both-gives _ _ _ _ slot-gives (both-gives _ _ _ _ slot-gives
    (both-gives _ _ _ _ (optional-gives _ glyph_text _ IsEllipsis (kept-finds is_glyph_text (λ d. option_map chars (as_str d))) tt (λ t h. h)) slot-gives))))))
    (λ x h. (h.0.0, h.0.1, h.1.0, h.1.1.0, h.1.1.1.0, h.1.1.1.1.0, h.1.1.1.1.1.0, h.1.1.1.1.1.1))

window-gives : (op : WindowOp) → Gives (window_row op) IsInForm
window-gives windows.Split = made-gives _ _ _ (both-gives _ _ _ _ whole_field (both-gives _ _ _ _ (any-gives (word split_sides)) whole_field)) (λ x h. (h.0, h.1.1))
window-gives windows.Remove = made-gives _ _ _ whole_field (λ x h. h)
window-gives windows.Select = made-gives _ _ _ whole_field (λ x h. h)
window-gives windows.Show = made-gives _ _ _ (both-gives _ _ _ _ whole_field name_field) (λ x h. h)
window-gives windows.Point = made-gives _ _ _ (both-gives _ _ _ _ whole_field whole_field) (λ x h. h)
window-gives windows.Start = made-gives _ _ _ (both-gives _ _ _ _ whole_field (both-gives _ _ _ _ whole_field (to_field START_ROW))) (λ x h. (h.0, h.1.0, h.1.1))
window-gives windows.Scroll = made-gives _ _ _ (both-gives _ _ _ _ whole_field
    (required-gives _ (signed (pos SCROLL_ROWS)) _ (kept-finds (is_near_zero (pos SCROLL_ROWS)) (λ d. option_and_then as_i64 (as_number d))))) (λ x h. h)
window-gives windows.Hscroll = made-gives _ _ _ (both-gives _ _ _ _ whole_field (to_field HSCROLL_COLUMNS)) (λ x h. h)
window-gives windows.Wrap = made-gives _ _ _ (both-gives _ _ _ _ whole_field (any-gives (word wrap_modes))) (λ x h. h.0)
window-gives windows.ModeLine = made-gives _ _ _ (both-gives _ _ _ _ whole_field
    (optional-gives _ plain_text _ IsFormat (kept-finds is_plain_text (λ d. option_map chars (as_str d))) tt (λ t h. h))) (λ x h. h)
window-gives windows.Go = made-gives _ _ _ (both-gives _ _ _ _ whole_field (any-gives (word ways))) (λ x h. h.0)
window-gives windows.Hit = made-gives _ _ _ (both-gives _ _ _ _ whole_field
    (both-gives _ _ _ _ (required-gives _ (within 0 (FRAME_ROWS - 1)) _ (below-finds (FRAME_ROWS - 1) FRAME_ROWS (omega arith)))
    (required-gives _ (within 0 (FRAME_COLUMNS - 1)) _ (below-finds (FRAME_COLUMNS - 1) FRAME_COLUMNS (omega arith))))) (λ x h. (h.0, h.1.0, h.1.1))
window-gives windows.Margin = made-gives _ _ _ (both-gives _ _ _ _ whole_field
    (both-gives _ _ _ _ (to_field NUMBER_COLUMNS) (to_field STRING_COLUMNS))) (λ x h. (h.0, h.1.0, h.1.1))

screen-gives : (op : ScreenOp) → Gives (screen_row op) IsInForm
screen-gives screens.Frame = made-gives _ _ _ (both-gives _ _ _ _ (range_field LEAST_FRAME_COLUMNS FRAME_COLUMNS) (range_field LEAST_FRAME_ROWS FRAME_ROWS)) (λ x h. (h.0.0, h.0.1, h.1.0, h.1.1))
screen-gives screens.Scrolling = made-gives _ _ _ (both-gives _ _ _ _ (to_field SCROLL_MARGIN) (to_field SCROLL_CONSERVATIVELY)) (λ x h. h)
screen-gives screens.Echo = made-gives _ _ _ (required-gives _ plain_text _ (kept-finds is_plain_text (λ d. option_map chars (as_str d)))) (λ x h. h)
screen-gives screens.Redisplay = made-gives _ _ IsStop (optional-gives _ (within 0 FRAME_ROWS) _ IsStop (within-finds 0 FRAME_ROWS) tt (λ y h. h.1)) (λ x h. h)
screen-gives screens.Shift = made-gives _ _ _ (any-gives as_bool) (λ x h. h)

pub row-gives : (n : Name) → Gives (row n) IsInForm
row-gives (names.Text op) = text-gives op
row-gives (names.Property op) = properties-give op
row-gives (names.Object op) = object-gives op
row-gives (names.Window op) = window-gives op
row-gives (names.Screen op) = screen-gives op

-- ---- lines

unless_extra-same : (key : Option (List ℕ)) (op x : Op) → unless_extra key op ≡ Ok x → op ≡ x
unless_extra-same None op x e = ok-same op x e
unless_extra-same (Some key) op x e = absurd (cc)

reading_row-in_form : (ms : Members) (n : Name) (op : Op) → reading_row ms n ≡ Ok op → IsInForm op
reading_row-in_form ms n op e =
    let read = and_then-ok (closed (op_key ∷ (row n).keys) ms) ((row n).taken ms) op e in
    subst IsInForm (unless_extra-same (extra_key (op_key ∷ (row n).keys) ms) read.0 op read.2) ((row-gives n).given ms read.0 read.1)

-- an op that a line says is in form
pub reading-in_form : (line : List ℕ) (op : Op) → reading line ≡ Ok op → IsInForm op
unfolding reading
reading-in_form line op e =
    let object = and_then-ok reading_members (object_of line) op e in
    let named = and_then-ok (reading_row object.0) (reading_name object.0) op object.2 in
    reading_row-in_form object.0 named.0 op named.2
