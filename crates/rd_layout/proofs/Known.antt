-- The last layouts of a session's windows stay known behind each op.
use Rattle.std.proofs.Common.{◌≡◌, ◌⊎◌, inl, inr, ℕ, ◌<◌, ◌≤◌, ◌==◌, Bool, true, false, if◌then◌else◌, Option, None, Some, Result, Ok, Err, List, sym, ap, refl, subst, subst₂, ◌∙◌, unwrap_or, arith}
use Rattle.std.proofs.lemmas.Bool.{cases_eq, cond-true, eq-eqb}
use Rattle.std.specs.Prelude.{slice_get, option_map}
use Rattle.rd_base.proofs.Choices.{map-some}
use Rattle.std.proofs.lemmas.Result.{IfOk-at_ok}
use Rattle.rd_base.proofs.Lists.{element-at}
use Rattle.rd_blocks.specs.Leads.{LeadsTo}
use Rattle.rd_objects.specs.Things.{ObjectLists}
use Rattle.rd_base.specs.declared.settings.Anchor.{Anchor}
use Rattle.rd_blocks.specs.Sources.{text_source}
use Rattle.rd_props.specs.Buffers as props
use Rattle.rd_props.specs.Made.{AreMade}
use Rattle.rd_text.specs.Texts.{IsText}
use Rattle.rd_window.specs.Layouts.{Stands, StandsUnchanged}
use Rattle.rd_reuse.specs.Changes.{all, is_none, join, none}
use Rattle.rd_reuse.specs.declared.change.Change.{Change}
use Rattle.rd_matrix.specs.Entries.{shown_entries}
use Rattle.rd_script.specs.Forms.{IsInForm}
use Rattle.rd_script.specs.declared.op.Op.{Op}
use Rattle.rd_script.specs.declared.op.Op.TheVariants as ops
use Rattle.rd_state.specs.Changes.{LeavesTheRest}
use Rattle.rd_state.specs.Effects.{effect_of}
use Rattle.rd_state.specs.States.{BufferValue, ContentValue, StateValue, opening, seen}
use Rattle.rd_state.specs.Steps.{in_window, step}
use Rattle.rd_state.specs.Valid.{IsValid}
use Rattle.rd_state.specs.Windows.{content_in, shown_content, window_of}
use Rattle.rd_state.proofs.ByNumber.{under-became}
use Rattle.rd_state.proofs.Showing.{window-valid}
use Rattle.rd_state.proofs.StepParts.{found, each-if}
use Rattle.rd_state.specs.declared.effect.Effect.{Effect}
use Rattle.rd_state.specs.declared.effect.Effect.TheVariants.{Nothing, Edit, Moved, All, Window}
use Rattle.rd_state.specs.declared.refused.Refused.{Refused}
use Rattle.rd_state.specs.declared.refused.Refused.TheVariants.{NotShown}
use Rattle.rd_state.specs.declared.window.WindowState.{WindowState}
use Rattle.rd_frame.specs.Panes.{body_height}
use Rattle.rd_tree.specs.declared.placed.Placed.{Placed}
use Rattle.rd_visual.specs.Hits.{hit_in}
use Rattle.rd_term.specs.Pictures.{Picture, IsOfSize}
use Rattle.rd_ucd.specs.Data.{Data}
use Rattle.rd_window.specs.declared.layout.Layout.{Layout}
use Rattle.rd_layout.specs.Changes.{change_by, change_in, layouts_after}
use Rattle.rd_layout.specs.Laws.{ViewLaws}
use Rattle.rd_layout.specs.Pointing.{hitting_by, is_shown, pointed, stepped_to}
use Rattle.rd_layout.specs.Sessions.{SessionValue, behind, is_frame, layout_of, opened, session_step}
use Rattle.rd_layout.specs.Since.{KnownScreenFits, IsKnown, IsSession}
use Rattle.rd_layout.proofs.Calm.{Quiet}
use Rattle.rd_layout.proofs.Leading.{effect-leads}
use Rattle.rd_layout.specs.Windows.{place_of, window_shape, window_source}
use Rattle.rd_layout.proofs.Over.{OverLaws, combined-change, combined-none, first-none, objects-over}
use Rattle.rd_layout.proofs.Placing.{has-place, point-whole}
use Rattle.rd_layout.proofs.Standing.{Moves, moved}

-- what the layers below say
pub record StepLaws : Type 0 where
  pub valid : (s t : StateValue) (op : Op) → IsValid s → IsInForm op → step s op ≡ Ok t → IsValid t
  pub left : (s t : StateValue) (op : Op) → IsValid s → IsInForm op → step s op ≡ Ok t → LeavesTheRest s t (effect_of s op)
  pub combined : (first second third : props.BufferValue) (a b c : ObjectLists) (change later : Change) → LeadsTo first a second b change → LeadsTo second b third c later → LeadsTo first a third c (join change later)
  pub over : OverLaws
  pub views : ViewLaws

-- ---- layouts by their numbers

abbrev pub Last : Type 0
Last = ℕ × Layout

-- a layout since which so much more changed
abbrev pub changed : Change → Layout → Layout
changed c l = record l { change = join l.change c }

layout-later : (effect : Effect) (t : StateValue) (n : ℕ) (ls : List Last)
    → layout_of n (layouts_after effect t ls) ≡ option_map (changed (change_in effect n (window_of n t.windows))) (layout_of n ls)
layout-later effect t n ls = under-became (λ k. changed (change_in effect k (window_of k t.windows))) n ls

-- ---- one window behind an op

-- whether an effect tells of a window itself
tells : (effect : Effect) (number : ℕ) → (effect ≡ Window number) ⊎ (effect ≡ Window number → ⊥)
tells (Window n) number = elim (cases_eq n number) [
  | inl p ↦ inl (ap (λ k. Window k) p)
  | inr q ↦ inr (λ h. q (cc))
]
tells Nothing number = inr (λ h. absurd (cc))
tells (Edit i from removed added) number = inr (λ h. absurd (cc))
tells (Moved i before after) number = inr (λ h. absurd (cc))
tells (All i) number = inr (λ h. absurd (cc))

module _ (laws : StepLaws) (s t : StateValue) (op : Op) (valid : IsValid s) (form : IsInForm op) (is : step s op ≡ Ok t) where
  -- the buffer that a window shows before the op and behind it
  shown-both : (number : ℕ) (w v : WindowState) → window_of number s.windows ≡ Some w → window_of number t.windows ≡ Some v → v.buffer ≡ w.buffer
      → (b : BufferValue) × (c : BufferValue) × (slice_get s.buffers v.buffer ≡ Some b) × (slice_get t.buffers v.buffer ≡ Some c) × (b.content ≡ shown_content s w) × (c.content ≡ shown_content t v)
  shown-both number w v hw hv same =
      let b = element-at s.buffers w.buffer (window-valid s number w valid hw).made in
      let c = element-at t.buffers v.buffer (window-valid t number v (laws.valid s t op valid form is) hv).made in
      (b.0, c.0, ap (slice_get s.buffers) same ∙ b.1, c.1, sym (ap content_in b.1), sym (ap content_in c.1))

  window-leads : (number : ℕ) (w v : WindowState) → window_of number s.windows ≡ Some w → window_of number t.windows ≡ Some v
      → LeadsTo (seen (shown_content s w)) s.objects (seen (shown_content t v)) t.objects (change_by (effect_of s op) number v.buffer)
  window-leads number w v hw hv = elim (tells (effect_of s op) number) [
    | inl p ↦ inl (ap (λ (e : Effect). change_by e number v.buffer) p ∙ cond-true (number == number) all none (eq-eqb number number refl))
    | inr q ↦
        let both = shown-both number w v hw hv ((laws.left s t op valid form is).windows number w v hw hv q) in
        let names = (valid.buffers.contents v.buffer both.0 both.2).names in
        subst₂ (λ (x : ContentValue) (y : ContentValue). LeadsTo (seen x) s.objects (seen y) t.objects (change_by (effect_of s op) number v.buffer)) both.4 both.5
        (effect-leads both.0.content both.1.content s.objects t.objects valid.closed names (laws.left s t op valid form is).objects (effect_of s op) number v.buffer
        (has-place s t valid op is v.buffer both.0 both.2) ((laws.left s t op valid form is).contents v.buffer both.0 both.1 both.2 both.3))
  ]

  -- where an effect is that of the window itself, its change is not none
  not-itself : (number k : ℕ) → effect_of s op ≡ Window number → change_by (effect_of s op) number k ≡ none → ⊥
  not-itself number k p h =
      let all-is-none : all ≡ none = sym (ap (λ (e : Effect). change_by e number k) p ∙ cond-true (number == number) all none (eq-eqb number number refl)) ∙ h in
      let heads : 0 ≡ 4294967295 = ap (λ (c : Change). c.head) all-is-none in
      absurd (omega (arith, heads))

  -- a layout since which an effect tells none stands as it stood
  stands-by : (files : Data) (number : ℕ) (w v : WindowState) (l : Layout) → window_of number s.windows ≡ Some w → window_of number t.windows ≡ Some v → IsKnown files s w l
      → v.buffer ≡ w.buffer → change_by (effect_of s op) number v.buffer ≡ none → is_none l.change ≡ true → v.forced ≡ false → Stands (window_source files t v) v.anchor l
  stands-by files number w v l hw hv known same nothing before forced =
      let both = shown-both number w v hw hv same in
      let content = valid.buffers.contents v.buffer both.0 both.2 in
      let quiet : Quiet (effect_of s op) number v.buffer = ap is_none nothing in
      let moves = moved s t op is in
      let rest = (moves.windows.calm valid.windows.apart number w v hw hv (subst (Quiet (effect_of s op) number) same quiet)).1 forced in
      let seen-same : seen both.1.content ≡ seen both.0.content = moves.contents number v.buffer both.0 both.1 both.2 both.3 quiet in
      let text = subst (λ (x : ContentValue). IsText x.text) both.4 content.text in
      let named = subst (λ (x : ContentValue). AreMade (seen x) s.objects) both.4 content.names in
      let over = objects-over laws.over (seen (shown_content s w)) s.objects t.objects valid.closed named (laws.left s t op valid form is).objects text laws.views files w.anchor l (known.stands before rest.0) in
      let one-seen : seen (shown_content s w) ≡ seen (shown_content t v) = ap seen (sym both.4) ∙ (sym seen-same ∙ ap seen both.5) in
      subst₂ (λ (x : props.BufferValue) (a : Anchor). Stands (text_source x t.objects files) a l) one-seen (sym rest.1) over

  stands-behind : (files : Data) (number : ℕ) (w v : WindowState) (l : Layout) → window_of number s.windows ≡ Some w → window_of number t.windows ≡ Some v → IsKnown files s w l
      → StandsUnchanged (Some (changed (change_by (effect_of s op) number v.buffer) l)) (window_source files t v) v.forced v.anchor
  stands-behind files number w v l hw hv known unchanged forced =
      let nothing = combined-none l.change (effect_of s op) number v.buffer unchanged in
      let before = first-none l.change (change_by (effect_of s op) number v.buffer) known.change nothing unchanged in
      let stands : Stands (window_source files t v) v.anchor l = elim (tells (effect_of s op) number) [
        | inl p ↦ absurd (not-itself number v.buffer p nothing)
        | inr q ↦ stands-by files number w v l hw hv known ((laws.left s t op valid form is).windows number w v hw hv q) nothing before forced
      ] in
      record { rows = stands.rows }

  known-behind : (files : Data) (number : ℕ) (w v : WindowState) (l : Layout) → window_of number s.windows ≡ Some w → window_of number t.windows ≡ Some v → IsKnown files s w l
      → IsKnown files t v (changed (change_by (effect_of s op) number v.buffer) l)
  known-behind files number w v l hw hv known = record {
    old = known.old;
    made = known.made;
    text = known.text;
    shape = known.shape;
    rows = known.rows;
    change = combined-change l.change (change_by (effect_of s op) number v.buffer) known.change;
    stands = stands-behind files number w v l hw hv known;
    leads = laws.combined known.old (seen (shown_content s w)) (seen (shown_content t v)) known.made s.objects t.objects l.change (change_by (effect_of s op) number v.buffer) known.leads
        (window-leads number w v hw hv);
  }

-- ---- a session behind an op

-- the screen of a frame that kept its size
screen-stays : (framed : Bool) (effect : Effect) (current : Option Picture) (s t : StateValue) → Moves framed effect s t → KnownScreenFits current s → KnownScreenFits (if framed then None else current) t
screen-stays true effect current s t g fits = tt
screen-stays false effect None s t g fits = tt
screen-stays false effect (Some screen) s t g fits =
    (subst₂ (λ (w : ℕ) (h : ℕ). IsOfSize w h screen) (sym (g.size refl).0) (sym (g.size refl).1) fits.0, fits.1)

pub stays-session : StepLaws → (v : SessionValue) (op : Op) (t : StateValue) → IsSession v → IsInForm op → step v.state op ≡ Ok t → IsSession (behind v op t)
stays-session laws v op t session form is = record {
  state = laws.valid v.state t op session.state form is;
  screen = screen-stays (is_frame op) (effect_of v.state op) v.current v.state t g session.screen;
  made = λ number l h. le (session.made number _ (earlier number l h).1) g.made;
  layouts = λ number w l hw hl.
      let e = earlier number l hl in
      let old = g.windows.lives number (session.made number e.0 e.1) (w, hw) in
      subst (IsKnown v.files t w)
      (ap (λ (o : Option WindowState). changed (change_in (effect_of v.state op) number o) e.0) (sym hw) ∙ e.2)
      (known-behind laws v.state t op session.state form is v.files number old.0 w e.0 old.1 hw (session.layouts number old.0 e.0 old.1 e.1));
} where
  g : Moves (is_frame op) (effect_of v.state op) v.state t
  g = moved v.state t op is

  le : {a b c : ℕ} → a < b → b ≤ c → a < c
  le h k = omega arith

  earlier : (number : ℕ) (l : Layout) → layout_of number (layouts_after (effect_of v.state op) t v.layouts) ≡ Some l
      → (l0 : Layout) × (layout_of number v.layouts ≡ Some l0) × (changed (change_in (effect_of v.state op) number (window_of number t.windows)) l0 ≡ l)
  earlier number l h = map-some (changed (change_in (effect_of v.state op) number (window_of number t.windows))) (layout_of number v.layouts) l
      (sym (layout-later (effect_of v.state op) t number v.layouts) ∙ h)

-- ---- the opening, and all ops

pub opened-session : (files : Data) → IsValid opening → IsSession (opened files)
opened-session files valid = record { state = valid; screen = tt; made = λ number l h. absurd (cc); layouts = λ number w l hw hl. absurd (cc) }

-- a session whose screen is unknown
pub forgotten-session : (v : SessionValue) → IsSession v → IsSession (record v { current = None })
forgotten-session v s = record { state = s.state; screen = tt; made = s.made; layouts = s.layouts }

found-window : (s t : StateValue) (window : ℕ) (f : WindowState → Result StateValue Refused) → in_window s window f ≡ Ok t → (w : WindowState) × (f w ≡ Ok t)
found-window s t window f h =
    let Found : StateValue → Type 0 = λ u. (w : WindowState) × (f w ≡ Ok u) in
    IfOk-at_ok Found h (found Found _ (window_of window s.windows) f (λ w lives. each-if Found (f w) (λ u is. (w, is))))

-- a hit moves point by an op where it is not refused
hit-moves : (s t : StateValue) (window : ℕ) (w : WindowState) (last : Option Layout) (place : Option Placed) (row column : ℕ) → hitting_by s window w last place row column ≡ Ok t
    → (to : ℕ) × (step s (ops.Point window to) ≡ Ok t)
hit-moves s t window w None place row column h = absurd (cc)
hit-moves s t window w (Some l) None row column h = absurd (cc)
hit-moves s t window w (Some l) (Some place) row column h = by (is_shown l (window_shape s w place) (body_height place)) h where
  by : (shown : Bool) → (if shown then pointed s window w l row column else Err NotShown) ≡ Ok t → (to : ℕ) × (step s (ops.Point window to) ≡ Ok t)
  by true h = (unwrap_or (hit_in (shown_entries l.matrix) row column) w.point, h)
  by false h = absurd (cc)

-- an accepted op is one of the state: `go` and `hit` move point
pub as-step : (v : SessionValue) (op : Op) (t : StateValue) → session_step v op ≡ Ok t
    → (o : Op) × (step v.state o ≡ Ok t) × (is_frame op ≡ is_frame o) × (behind v op t ≡ behind v o t) × (IsValid v.state → IsInForm op → IsInForm o)
unfolding effect_of
as-step v (ops.Go window right) t is =
    let w = found-window v.state t window _ is in
    let to = stepped_to v.files v.state w.0 right in
    (ops.Point window to, w.1, refl, refl, λ valid form. (form, point-whole v.state t valid window to w.1))
as-step v (ops.Hit window row column) t is =
    let w = found-window v.state t window _ is in
    let to = hit-moves v.state t window w.0 (layout_of window v.layouts) (place_of window v.state) row column w.1 in
    (ops.Point window to.0, to.1, refl, refl, λ valid form. (form.0, point-whole v.state t valid window to.0 to.1))
as-step v op t is = (op, is, refl, refl, λ valid form. form)

pub step-session : StepLaws → (v : SessionValue) (op : Op) (t : StateValue) → IsSession v → IsInForm op → session_step v op ≡ Ok t → IsSession (behind v op t)
step-session laws v op t session form is =
    let o = as-step v op t is in
    subst IsSession (sym o.3) (stays-session laws v o.0 t session (o.4 session.state form) o.1)
