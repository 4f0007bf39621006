-- The values of text properties as lists, one value for each character, and what edits of a buffer make of what it holds.
use Rattle.std.proofs.Common.{◌≡◌, ℕ, zero, suc, ◌<◌, ◌≤◌, inl, inr, Option, None, Some, List, length, map, get_or, sym, ap, subst, refl, ◌∙◌, arith}
use Rattle.std.proofs.lemmas.Bool.{cases_lt}
use Rattle.std.proofs.lemmas.List.{get_or_past}
use Rattle.std.proofs.lemmas.List.FromFn.{get_or-map-range_with_len, length-map-range_with_len}
use Rattle.std.specs.FinMap as finite
use Rattle.std.specs.List.{range_with_len}
use Rattle.rd_text.specs.Texts.{TextValue}
use Rattle.rd_base.specs.Settings.{SettingValues}
use Rattle.rd_overlays.specs.declared.overlay.Overlay.{Overlay}
use Rattle.rd_margins.specs.Marks.{MarkValues}
use Rattle.rd_props.specs.Buffers as props
use Rattle.rd_props.specs.declared.state.BufferState.{BufferState}
use Rattle.rd_state.specs.States.{ContentValue, table, values_on, value_in, new_content, seen}
use Rattle.rd_state.specs.Held.{content_of}
use Rattle.rd_state.specs.Valid.{IsWithin}

-- ---- lists

pub table-same : (size : ℕ) (f g : ℕ → ℕ → Option ℕ) → ((kind p : ℕ) → f kind p ≡ g kind p) → table size f ≡ table size g
table-same size f g e = λ i. table size (λ kind p. e kind p i)

-- values are the same at each position
abbrev pub AreAlike : (ℕ → ℕ → Option ℕ) → (ℕ → ℕ → Option ℕ) → Type 0
AreAlike f g = (kind p : ℕ) → f kind p ≡ g kind p

pub values-alike : (t u : TextValue) (f g : ℕ → ℕ → Option ℕ) → u ≡ t → AreAlike g f → values_on t f ≡ values_on u g
values-alike t u f g e h = sym (table-same (length t.text) g f h) ∙ ap (λ (x : TextValue). values_on x g) (sym e)

-- ---- looking at them

none-there : {X : Type 0} (o : Option X) → ((v : X) → o ≡ Some v → ⊥) → o ≡ None
none-there None h = refl
none-there (Some v) h = absurd (h v refl)

listed-value : (size : ℕ) (f : ℕ → Option ℕ) (i : ℕ) → ((v : ℕ) → f (suc i) ≡ Some v → suc i ≤ size) → get_or (map f (range_with_len 1 size)) i None ≡ f (suc i)
listed-value size f i h = elim (cases_lt i size) [
  | inl within ↦ get_or-map-range_with_len f 1 size i (suc i) None within (omega arith)
  | inr past ↦
      get_or_past (map f (range_with_len 1 size)) i None (omega (arith, length-map-range_with_len f 1 size))
      ∙ sym (none-there (f (suc i)) (λ v e. omega (arith, h v e)))
]

pub value-in-table : (size : ℕ) (f : ℕ → ℕ → Option ℕ) → ((kind p v : ℕ) → f kind p ≡ Some v → kind < 5) → ((kind p v : ℕ) → f kind p ≡ Some v → 1 ≤ p)
    → ((kind p v : ℕ) → f kind p ≡ Some v → p ≤ size) → (kind p : ℕ) → value_in (table size f) kind p ≡ f kind p
value-in-table size f kinds first last kind zero = sym (none-there (f kind zero) (λ v e. omega (arith, first kind zero v e)))
value-in-table size f kinds first last (suc (suc (suc (suc (suc k))))) (suc i) =
    sym (none-there (f (suc (suc (suc (suc (suc k))))) (suc i)) (λ v e. omega (arith, kinds (suc (suc (suc (suc (suc k))))) (suc i) v e)))
value-in-table size f kinds first last kind (suc i) = listed-value size (f kind) i (last kind (suc i))

-- ---- buffers

-- the lists give the values that they were made of
pub values-kept : (b : BufferState) → IsWithin (props.meaning b) → AreAlike (value_in (values_on b.text (props.values_of b.spans))) (props.values_of b.spans)
values-kept b within = value-in-table (length b.text.text) (props.values_of b.spans) within.kinds within.first within.last

-- a buffer is what is seen of what it holds
pub as-seen : (b : BufferState) (m : MarkValues) → IsWithin (props.meaning b) → props.meaning b ≡ seen (content_of b m)
as-seen b m within = λ i. record {
  text = b.text;
  properties = λ kind p. sym (values-kept b within kind p) i;
  overlays = b.overlays;
  settings = b.settings;
}

pub nothing-within : (b : props.BufferValue) → b ≡ props.new_buffer → IsWithin b
nothing-within b e = subst IsWithin (sym e) (record {
  kinds = λ kind p value h. absurd (cc);
  first = λ kind p value h. absurd (cc);
  last = λ kind p value h. absurd (cc);
  few = omega arith;
  overlays = λ number o h. absurd (cc);
})

pub new-content : (b : BufferState) (m : MarkValues) → props.meaning b ≡ props.new_buffer → m ≡ finite.empty → content_of b m ≡ new_content
new-content b m e f = λ i. record {
  text = (e i).text;
  properties = table (length (e i).text.text) (e i).properties;
  overlays = (e i).overlays;
  settings = (e i).settings;
  marks = f i;
}

-- what a buffer holds after an edit
pub changed-content : (b c : BufferState) (m : MarkValues) (text : TextValue) (change : (ℕ → ℕ → Option ℕ) → ℕ → ℕ → Option ℕ) (overlays : List (Option Overlay)) (settings : SettingValues)
    → IsWithin (props.meaning b) → c.text ≡ text → AreAlike (props.values_of c.spans) (change (props.values_of b.spans)) → c.overlays ≡ overlays → c.settings ≡ settings
    → ◌≡◌ {A = ContentValue}
    (record { text = text; properties = values_on text (change (value_in (values_on b.text (props.values_of b.spans)))); overlays = overlays; settings = settings; marks = m }) (content_of c m)
changed-content b c m text change overlays settings within same values is set =
    let f = value_in (values_on b.text (props.values_of b.spans)) in
    let alike : AreAlike (props.values_of c.spans) (change f) = λ kind p. values kind p ∙ λ i. change (λ k q. sym (values-kept b within k q) i) kind p in
    let lists = values-alike text c.text (change f) (props.values_of c.spans) same alike in
    λ i. record { text = sym same i; properties = lists i; overlays = sym is i; settings = sym set i; marks = m }
