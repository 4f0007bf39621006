-- A redisplay that is sent leads from a session to a session.
use Rattle.std.proofs.Common.{◌≡◌, inl, inr, ℕ, suc, ◌<◌, ◌≤◌, Bool, Option, None, Some, List, [], ◌∷◌, length, map, replicate, take, drop, sym, ap, refl, subst, subst₂, ◌∙◌}
use Rattle.std.proofs.lemmas.Bool.{cases_eq}
use Rattle.std.proofs.lemmas.List.{length-map, length-replicate}
use Rattle.std.proofs.lemmas.List.Elements.{All-replicate}
use Rattle.std.specs.Prelude.{IfSome, slice_get, option_map}
use Rattle.rd_base.proofs.Choices.{map-some}
use Rattle.rd_base.specs.Faces.{plain}
use Rattle.rd_base.specs.declared.cell.Cell.{Cell}
use Rattle.rd_base.specs.declared.limits.TheConstants.{FRAME_COLUMNS, FRAME_ROWS}
use Rattle.rd_blocks.specs.Kept.{AreRowsAt}
use Rattle.rd_blocks.specs.Leads.{LeadsTo}
use Rattle.rd_blocks.specs.Sources.{text_source}
use Rattle.rd_lineshift.specs.Choices.{AreWithin}
use Rattle.rd_lineshift.specs.Laws.{ShiftLaw}
use Rattle.rd_lineshift.specs.Plans.{shifted_update}
use Rattle.rd_lineshift.specs.declared.band.Band.{Band}
use Rattle.rd_matrix.specs.Entries.{shown_entries}
use Rattle.rd_base.specs.declared.settings.Anchor.{Anchor}
use Rattle.rd_matrix.specs.Blocks.{IsWithin}
use Rattle.rd_matrix.specs.Sources.{IsSource, SourceValues, rows_at}
use Rattle.rd_matrix.specs.declared.matrix.Entry.{Entry}
use Rattle.rd_objects.proofs.Soundness.{extends_itself}
use Rattle.rd_objects.specs.Sound.{IsClosed, Extends}
use Rattle.rd_objects.specs.Things.{ObjectLists}
use Rattle.rd_props.specs.Buffers as props
use Rattle.rd_props.specs.Made.{AreMade}
use Rattle.rd_frame.specs.Panes.{body_height}
use Rattle.rd_reuse.specs.Changes.{IsChange, none}
use Rattle.rd_reuse.specs.declared.change.Change.{Change}
use Rattle.rd_rows.specs.Shapes.{IsShape, ShapeValues}
use Rattle.rd_start.specs.Chosen.{chosen_of}
use Rattle.rd_start.specs.declared.wanted.Wanted.{Wanted}
use Rattle.rd_state.specs.States.{ContentValue, StateValue, seen}
use Rattle.rd_state.specs.Valid.{IsValid, IsWindow}
use Rattle.rd_state.specs.Windows.{content_in, shown_content, window_of}
use Rattle.rd_state.specs.declared.window.WindowState.{WindowState}
use Rattle.rd_term.specs.Pictures.{IsOfSize, IsScreen, Picture}
use Rattle.rd_term.specs.Terminals.{Tty, known, unknown}
use Rattle.rd_term.proofs.Shapes.{grid-known}
use Rattle.rd_tree.specs.declared.placed.Placed.{Placed}
use Rattle.rd_ucd.specs.Data.{Data}
use Rattle.rd_update.specs.Laws.{AtFrame, IsReady, IsSound}
use Rattle.rd_update.proofs.Sizes.{is-screen, one-size}
use Rattle.rd_update.specs.Plans.{HaveOneSize}
use Rattle.rd_window.specs.Layouts.{IsLaidOut, Stands}
use Rattle.rd_window.specs.Views.{start_row}
use Rattle.rd_window.specs.declared.layout.Layout.{Layout}
use Rattle.rd_layout.specs.Laws.{ViewLaws}
use Rattle.rd_layout.specs.Redisplays.{AreLaidOut, IsLaidOutBy, IsSent, bands_of, update_of}
use Rattle.rd_layout.specs.Screens.{laid_out, settled_by, settled_state}
use Rattle.rd_layout.specs.Sessions.{SessionValue, layout_of}
use Rattle.rd_layout.specs.Since.{KnownScreenFits, IsKnown, IsSession}
use Rattle.rd_layout.specs.Windows.{place_of, places, wanted_of, window_shape, window_source}
use Rattle.rd_layout.proofs.Known.{Last}
use Rattle.rd_state.proofs.ByNumber.{under-became, under-here, under-there}
use Rattle.rd_state.proofs.Showing.{window-valid}
use Rattle.rd_layout.proofs.Over.{new-change}
use Rattle.rd_layout.proofs.Placed.{bands-within, made-number, placed-at}
use Rattle.rd_layout.proofs.Settling.{is-shape, point-within, shown-right, state-stays}

-- what the layers below say
pub record SendLaws : Type 0 where
  pub views : ViewLaws
  pub read : ShiftLaw
  pub sound : (current : Option Picture) (target : Picture) (bands : List Band) (limit : Option ℕ) → HaveOneSize current target → IfSome current (λ screen. IsScreen screen × IsSound screen)
      → AreWithin (length target.rows) bands → IsSound target → IsSound (shifted_update current target bands limit).screen
  pub rows : (m : SourceValues) (shape : ShapeValues) (rows : List Entry) (first height : ℕ) → shown_entries rows ≡ take height (drop first (rows_at m shape)) → AreRowsAt m shape rows
  pub grown : (s : props.BufferValue) (made objects : ObjectLists) → IsClosed made → AreMade s made → Extends made objects → LeadsTo s made s objects none
  pub stand : (last : Option Layout) (m : SourceValues) (shape : ShapeValues) (w : Wanted) (new : Layout) → IsSource m → IsShape shape → IsWithin w.point m.blocks → IsLaidOut last m shape w new → Stands m (chosen_of m shape w).anchor new

-- ---- the new current screen

-- a terminal that shows a current screen
abbrev pub shows : ℕ → ℕ → Option Picture → Tty
shows width height None = unknown width height
shows width height (Some screen) = record (unknown width height) { rows = known screen.rows; pen = Some plain }

-- a new terminal
pub unknown-at : (width height : ℕ) → AtFrame width height None (unknown width height)
unknown-at width height =
    let row : List (Option Cell) = replicate width None in
    record {
      sure = refl;
      between = refl;
      rows = length-replicate height row;
      each = All-replicate (λ (r : List (Option Cell)). length r ≡ width) height row (length-replicate width None);
      now = tt;
    }

-- a current screen, where one is known, and a target of the frame's size; the current one is a screen, and sound
pub sized : (s : StateValue) (current : Option Picture) (target : Picture) → s.width ≤ FRAME_COLUMNS → s.height ≤ FRAME_ROWS → KnownScreenFits current s → IsOfSize s.width s.height target
    → HaveOneSize current target × IfSome current (λ screen. IsScreen screen × IsSound screen)
sized s None target wide tall fits size = (tt, tt)
sized s (Some screen) target wide tall fits size = (one-size s.width s.height screen target fits.0 size, (is-screen s.width s.height screen wide tall fits.0, fits.1))

module _ (laws : SendLaws) (s : StateValue) (target : Picture) (bands : List Band) (limit : Option ℕ) (wide : s.width ≤ FRAME_COLUMNS) (tall : s.height ≤ FRAME_ROWS)
    (size : IsOfSize s.width s.height target) (sound : IsSound target) (within : AreWithin s.height bands) where
  ready : (current : Option Picture) → KnownScreenFits current s → IsReady s.width s.height current target (shows s.width s.height current)
  ready None fits = record { there = unknown-at s.width s.height; wide = wide; tall = tall; size = size; sound = sound }
  ready (Some screen) fits =
      let rows : length (known screen.rows) ≡ s.height = length-map screen.rows (map Some) ∙ fits.0.rows in
      let there : AtFrame s.width s.height (Some screen) (shows s.width s.height (Some screen)) =
      record { sure = refl; between = refl; rows = rows; each = grid-known s.width screen.rows fits.0.each; now = (fits.0, refl, refl) } in
      record { there = there; wide = wide; tall = tall; size = size; sound = sound }

  new-screen : (current : Option Picture) → KnownScreenFits current s → KnownScreenFits (Some (shifted_update current target bands limit).screen) s
  new-screen current fits =
      let both = sized s current target wide tall fits size in (
        (laws.read s.width s.height current target bands limit (shows s.width s.height current) (ready current fits) within).size,
        laws.sound current target bands limit both.0 both.1 (subst (λ (n : ℕ). AreWithin n bands) (sym size.rows) within) sound,
      )

-- ---- the new layouts

-- a new layout is that of a window in its place
found-layout : (v : SessionValue) (n : ℕ) (ps : List Placed) (es : List Last) (l : Layout) → AreLaidOut v ps es → layout_of n es ≡ Some l
    → (k : ℕ) × (p : Placed) × (slice_get ps k ≡ Some p) × (p.number ≡ n) × IsLaidOutBy v.files v.state (layout_of p.number v.layouts) p (window_of p.number v.state.windows) l
found-layout v n [] [] l h at = absurd (cc)
found-layout v n [] (e ∷ es) l h at = absurd h
found-layout v n (p ∷ ps) [] l h at = absurd h
found-layout v n (p ∷ ps) (e ∷ es) l h at = elim (cases_eq e.0 n) [
  | inl q ↦
      let same : e.1 ≡ l = cc (sym (under-here n e es q) ∙ at) in
      (0, p, refl, sym h.0 ∙ q, subst (IsLaidOutBy v.files v.state (layout_of p.number v.layouts) p (window_of p.number v.state.windows)) same h.1)
  | inr q ↦
      let rest = found-layout v n ps es l h.2 (sym (under-there n e es q) ∙ at) in
      (suc rest.0, rest.1, rest.2, rest.3, rest.4)
]

laid-of : (files : Data) (s : StateValue) (last : Option Layout) (p : Placed) (o : Option WindowState) (x : WindowState) (l : Layout) → o ≡ Some x → IsLaidOutBy files s last p o l
    → IsLaidOut last (window_source files s x) (window_shape s x p) (wanted_of s x p) l
laid-of files s last p o x l is laid = subst (λ (k : Option WindowState). IsLaidOutBy files s last p k l) is laid

module _ (laws : SendLaws) (files : Data) (s : StateValue) (valid : IsValid s) where
  known-by : (p : Placed) (x w : WindowState) (last : Option Layout) (l : Layout) → place_of p.number s ≡ Some p → IsWindow s.buffers x → settled_by files s x (Some p) ≡ w
      → IsLaidOut last (window_source files s x) (window_shape s x p) (wanted_of s x p) l → IsKnown files (settled_state files s) w l
  known-by p x w last l at window settled laid =
      let same : w.buffer ≡ x.buffer = ap (λ (y : WindowState). y.buffer) (sym settled) in
      let m = window_source files s x in
      let shape = window_shape s x p in
      let shaped : l.shape ≡ shape = ap (λ (y : Layout). y.shape) laid.is in
      let anew : l.change ≡ none = ap (λ (y : Layout). y.change) laid.is in
      let content = shown-right s x valid window in
      let here : shown_content (settled_state files s) w ≡ shown_content s x = ap (λ k. content_in (slice_get s.buffers k)) same in
      record {
        old = seen (shown_content s x);
        made = s.objects;
        text = content.text;
        shape = subst IsShape (sym shaped) (is-shape s valid p.number x p at);
        rows = subst (λ (y : ShapeValues). AreRowsAt m y l.matrix) (sym shaped) (laws.rows m shape l.matrix (start_row m shape (wanted_of s x p)) (body_height p) laid.rows);
        change = subst IsChange (sym anew) new-change;
        stands = λ unchanged forced. subst₂ (λ (c : ContentValue) (a : Anchor). Stands (text_source (seen c) s.objects files) a l) (sym here) (ap (λ (y : WindowState). y.anchor) settled)
            (laws.stand last m shape (wanted_of s x p) l (laws.views.source (seen (shown_content s x)) s.objects files content.text) (is-shape s valid p.number x p at)
            (point-within laws.views files s valid x window) laid);
        leads = subst₂ (λ (c : ContentValue) (change : Change). LeadsTo (seen (shown_content s x)) s.objects (seen c) s.objects change) (sym here) (sym anew)
            (laws.grown (seen (shown_content s x)) s.objects s.objects valid.closed content.names (extends_itself s.objects));
      }

-- ---- the session

-- a redisplay whose bytes are not known is sent where the windows have new layouts
pub sent-anew : (old : SessionValue) (stop : Option ℕ) (files : Data) (s : StateValue) (layouts : List Last) → files ≡ old.files → s ≡ (laid_out old.files old.state).state
    → AreLaidOut old (places old.state) layouts
    → IsSent (update_of old stop).rows (update_of old stop).done stop old (record { files = files; state = s; current = Some (update_of old stop).screen; layouts = layouts }) None None
sent-anew old stop files s layouts a b laid = record { files = a; state = b; current = refl; layouts = laid; bytes = tt; count = refl; whole = refl }

module _ (laws : SendLaws) (rows : ℕ) (done : Bool) (stop : Option ℕ) (old new : SessionValue) (before after : Option (List ℕ)) (session : IsSession old) (sent : IsSent rows done stop old new before after)
    (size : IsOfSize old.state.width old.state.height (laid_out old.files old.state).picture) (sound : IsSound (laid_out old.files old.state).picture) where
  abbrev s : StateValue
  s = old.state

  now : new.state ≡ settled_state old.files s
  unfolding laid_out
  now = sent.state

  same-windows : (number : ℕ) → window_of number new.state.windows ≡ option_map (λ w. settled_by old.files s w (place_of number s)) (window_of number s.windows)
  same-windows number = ap (λ (x : StateValue). window_of number x.windows) now ∙ under-became (λ n w. settled_by old.files s w (place_of n s)) number s.windows

  sent-screen : KnownScreenFits new.current new.state
  sent-screen =
      subst (λ (c : Option Picture). KnownScreenFits c new.state) (sym sent.current)
      (subst (λ (x : StateValue). KnownScreenFits (Some (update_of old stop).screen) x) (sym now)
      (new-screen laws s (laid_out old.files s).picture (bands_of s) stop session.state.frame.narrow session.state.frame.low size sound
      (bands-within s session.state) old.current session.screen))

  sent-made : (number : ℕ) (l : Layout) → layout_of number new.layouts ≡ Some l → number < new.state.tree.made
  sent-made number l at =
      let found = found-layout old number (places s) new.layouts l sent.layouts at in
      let p = found.1 in
      let place = placed-at s session.state found.0 p found.2 in
      subst (λ (x : StateValue). number < x.tree.made) (sym now) (subst (λ (k : ℕ). k < s.tree.made) found.3 (made-number s session.state p.number p place))

  sent-known : (number : ℕ) (w : WindowState) (l : Layout) → window_of number new.state.windows ≡ Some w → layout_of number new.layouts ≡ Some l → IsKnown new.files new.state w l
  sent-known number w l lives at =
      let found = found-layout old number (places s) new.layouts l sent.layouts at in
      let p = found.1 in
      let place = placed-at s session.state found.0 p found.2 in
      let x = map-some (λ w. settled_by old.files s w (place_of number s)) (window_of number s.windows) w (sym (same-windows number) ∙ lives) in
      let there : window_of p.number s.windows ≡ Some x.0 = ap (λ (k : ℕ). window_of k s.windows) found.3 ∙ x.1 in
      let laid = laid-of old.files s (layout_of p.number old.layouts) p (window_of p.number s.windows) x.0 l there found.4 in
      let placed : place_of number s ≡ Some p = ap (λ (k : ℕ). place_of k s) (sym found.3) ∙ place in
      let settled : settled_by old.files s x.0 (Some p) ≡ w = ap (settled_by old.files s x.0) (sym placed) ∙ x.2 in
      subst₂ (λ (f : Data) (y : StateValue). IsKnown f y w l) (sym sent.files) (sym now)
      (known-by laws old.files s session.state p x.0 w (layout_of p.number old.layouts) l place (window-valid s number x.0 session.state x.1) settled laid)

  pub sent-session : IsSession new
  sent-session = record {
    state = subst IsValid (sym now) (state-stays laws.views old.files s session.state);
    screen = sent-screen;
    made = sent-made;
    layouts = sent-known;
  }
