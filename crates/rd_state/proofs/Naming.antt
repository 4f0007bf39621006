-- A step leads from a valid state to a valid one: settings, margin strings, objects and new buffers.
use Rattle.std.proofs.Common.{◌≡◌, ℕ, zero, suc, ◌<◌, true, is_some, inl, inr, Option, None, Some, List, [], ◌∷◌, ◌++◌, length, subst, sym, refl, ◌∙◌, arith, IsTrue}
use Rattle.std.proofs.lemmas.Bool.{cases_cond, ltb-true, ltb-false, leb-false}
use Rattle.std.proofs.lemmas.List.Elements.{All-nil}
use Rattle.std.proofs.lemmas.Option.{none-some, same_Some}
use Rattle.std.specs.Cmp.{nat_cmp_total}
use Rattle.std.specs.FinMap as finite
use Rattle.std.specs.FinMap.{get, get-insert, get-remove, get-empty}
use Rattle.std.specs.Ordering.{nat_cmp, eq_by_cmp}
use Rattle.std.specs.Prelude.{IfOk}
use Rattle.rd_base.specs.Chars.{is_code}
use Rattle.rd_base.specs.Settings.{SettingValues}
use Rattle.rd_base.specs.declared.limits.TheConstants.{BUFFERS}
use Rattle.rd_text.specs.Texts.{IsText, no_text}
use Rattle.rd_overlays.specs.Overlays.{overlay_at, place_of}
use Rattle.rd_objects.proofs.Soundness.{goes_longer}
use Rattle.rd_objects.specs.Sound.{AreRight, Extends}
use Rattle.rd_objects.specs.Things.{ObjectLists, IsSmallSpec}
use Rattle.rd_objects.specs.declared.fault.ObjectFault.{ObjectFault}
use Rattle.rd_props.specs.Buffers as props
use Rattle.rd_props.proofs.Names.{made-extended}
use Rattle.rd_props.specs.Made.{SettingsMade}
use Rattle.rd_margins.specs.Marks.{MarkValues, marked}
use Rattle.rd_script.specs.Forms.{IsSettingInForm, IsSpecInForm, is_buffer_name}
use Rattle.rd_script.specs.declared.object.OpSpec.{OpSpec}
use Rattle.rd_script.specs.declared.object.OpSpec.TheVariants as specs
use Rattle.rd_script.specs.declared.setting.Setting.{Setting}
use Rattle.rd_script.specs.declared.setting.Setting.TheVariants as setting
use Rattle.rd_state.specs.declared.refused.Refused.TheVariants.{NoObject, NoOverlay}
use Rattle.rd_state.specs.States.{ContentValue, StateValue, seen, value_in, values_on, new_buffer, new_content, number_of}
use Rattle.rd_state.specs.Valid.{IsContent, IsValid}
use Rattle.rd_state.specs.Edits.{is_number_made, is_setting_made, margin_putting, setting_putting, with_setting}
use Rattle.rd_state.specs.Making.{unless_fault, spec_of}
use Rattle.rd_state.specs.Steps.{with_objects, making}
use Rattle.rd_state.proofs.Contents.{IsTab, number-made, still-valid}
use Rattle.rd_state.proofs.Keeping.{buffers-appended, windows-appended}
use Rattle.rd_state.proofs.StepParts.{making-if}
use Rattle.rd_state.proofs.Stepping.{Keeps, text-kept}
use Rattle.rd_state.proofs.Tables.{nothing-within}
use Rattle.rd_base.proofs.Choices.{both-ok, made-ok}
use Rattle.rd_state.proofs.WithParts.{with_parts}

-- ---- settings

with_settings-made : (o : ObjectLists) (value : Setting) (s : SettingValues) → is_setting_made o value ≡ true → SettingsMade o s → SettingsMade o (with_setting value s)
with_settings-made o (setting.Table number) s h v = record { table = number-made (length o.tables) number h; line_prefix = v.line_prefix; wrap_prefix = v.wrap_prefix }
with_settings-made o (setting.LinePrefix number) s h v = record { table = v.table; line_prefix = number-made (length o.strings) number h; wrap_prefix = v.wrap_prefix }
with_settings-made o (setting.WrapPrefix number) s h v = record { table = v.table; line_prefix = v.line_prefix; wrap_prefix = number-made (length o.strings) number h }
with_settings-made o value s h v = record { table = v.table; line_prefix = v.line_prefix; wrap_prefix = v.wrap_prefix }

with_setting-tab : (value : Setting) (s : SettingValues) → IsSettingInForm value → IsTab s → IsTab (with_setting value s)
with_setting-tab (setting.TabWidth n) s form h = (form.0, form.1)
with_setting-tab value s form h = h

pub setting-keeps : (o : ObjectLists) (value : Setting) → IsSettingInForm value → Keeps o (λ p. p) (setting_putting o value)
setting-keeps o value form c d v h =
    let new : ContentValue = record c { settings = with_setting value c.settings } in
    let parts = made-ok (is_setting_made o value) new NoObject d h in
    text-kept o c new d parts.1 refl
    (still-valid o new (with_setting-tab value c.settings form (v.least_tab, v.most_tab)) v.text v.characters
    (record { kinds = v.within.kinds; first = v.within.first; last = v.within.last; few = v.within.few; overlays = v.within.overlays })
    (record { properties = v.names.properties; overlays = v.names.overlays; settings = with_settings-made o value c.settings parts.0 v.names.settings }) v.marks)

-- ---- margin strings

margin-made : (count : ℕ) (m : MarkValues) (number : ℕ) (string : Option ℕ) → is_number_made count string ≡ true → ((k x : ℕ) → get m k ≡ Some x → x < count)
    → (k x : ℕ) → get (marked m number string) k ≡ Some x → x < count
margin-made count m number None made old k x h =
    elim (cases_cond (eq_by_cmp nat_cmp k number) None (get m k) (Some x) (sym h ∙ get-remove nat_cmp_total m number k)) [ inl e ↦ absurd (none-some x (sym e)) | inr e ↦ old k x (sym e) ]
margin-made count m number (Some n) made old k x h =
    elim (cases_cond (eq_by_cmp nat_cmp k number) (Some n) (get m k) (Some x) (sym h ∙ get-insert nat_cmp_total m number n k)) [
      | inl e ↦ subst (λ (y : ℕ). y < count) (same_Some n x (sym e)) (ltb-true n count made)
      | inr e ↦ old k x (sym e)
    ]

pub margin-keeps : (o : ObjectLists) (number : ℕ) (string : Option ℕ) → Keeps o (λ p. p) (margin_putting o number string)
margin-keeps o number string c d v h =
    let new : ContentValue = record c { marks = marked c.marks number string } in
    let m = both-ok (is_some (overlay_at c.overlays number)) (is_number_made (length o.strings) string) new NoObject NoOverlay d h in
    text-kept o c new d m.2 refl
    (still-valid o new (v.least_tab, v.most_tab) v.text v.characters v.within v.names (margin-made (length o.strings) c.marks number string m.1 v.marks))

-- ---- objects

content-extended : (o p : ObjectLists) (c : ContentValue) → Extends o p → IsContent o c → IsContent p c
content-extended o p c more v =
    let size = goes_longer o.strings p.strings more.strings in
    still-valid p c (v.least_tab, v.most_tab) v.text v.characters v.within (made-extended (seen c) o p v.names more) (λ k x h. let old = v.marks k x h in omega arith)

-- a valid state is valid with other objects, that go on from those that there were
pub objects-valid : (s : StateValue) (fault : Option ObjectFault) (added : ObjectLists) → IsValid s → (fault ≡ None → AreRight s.objects → AreRight added)
    → Extends s.objects added → IfOk (with_objects s (unless_fault fault added)) IsValid
objects-valid s (Some e) added v right more = tt
objects-valid s None added v right more =
    let new = right refl (record { sound = v.objects; closed = v.closed }) in
    with_parts s s.buffers added s.tree s.windows s.selected s.width s.height v (record {
      few = v.buffers.few;
      told = v.buffers.told;
      names = v.buffers.names;
      contents = λ k b h. content-extended s.objects added b.content more (v.buffers.contents k b h);
    }) new.sound new.closed v.windows v.frame

pub small-spec : (spec : OpSpec) → IsSpecInForm spec → IsSmallSpec (spec_of spec)
small-spec (specs.Text n) form = tt
small-spec (specs.Width n) form = form
small-spec (specs.Align n) form = form

-- ---- a new buffer

no_text-is_text : IsText no_text
no_text-is_text = record { first = omega arith; ordered = omega arith; last = omega arith; short = omega arith }

no-margin : (k x : ℕ) → get (finite.empty {X = ℕ} {R = nat_cmp}) k ≡ Some x → ⊥
no-margin k x h = let none = get-empty {X = ℕ} nat_cmp k in cc

-- lists of nothing have no value
none-in : (kind p : ℕ) → value_in (values_on no_text props.no_values) kind p ≡ None
none-in kind zero = refl
none-in (suc (suc (suc (suc (suc kind))))) (suc p) = refl
none-in kind (suc p) = refl

empty-seen : seen new_content ≡ props.new_buffer
empty-seen = λ i. record {
  text = no_text;
  properties = λ kind p. none-in kind p i;
  overlays = [];
  settings = props.new_buffer.settings;
}

pub new-valid : (o : ObjectLists) → IsContent o new_content
new-valid o =
    still-valid o new_content (omega arith, omega arith) no_text-is_text (All-nil (λ (c : ℕ). IsTrue (is_code c))) (nothing-within (seen new_content) empty-seen)
    (record {
      properties = λ kind p value h. absurd (none-some value (sym (none-in (place_of kind) p) ∙ h));
      overlays = λ number value kind overlay h e. absurd (cc);
      settings = record { table = tt; line_prefix = tt; wrap_prefix = tt };
    })
    (λ k x h. absurd (no-margin k x h))

pub making-valid : (s : StateValue) (name : List ℕ) → IsValid s → IsTrue (is_buffer_name name) → IfOk (making s name) IsValid
making-valid s name v form =
    let count = length s.buffers in
    making-if IsValid s name
    (λ free room. with_parts s (s.buffers ++ new_buffer name ∷ []) s.objects s.tree s.windows s.selected s.width s.height v
    (buffers-appended s.objects s.buffers name v.buffers (new-valid s.objects) form (leb-false BUFFERS count room) (ltb-false (number_of name s.buffers) count free))
    v.objects v.closed (windows-appended s.buffers name s.tree s.windows s.selected v.windows) v.frame)
