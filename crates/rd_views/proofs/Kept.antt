-- A session stays one where what laying out all windows gave is kept.
use Rattle.std.proofs.Common.{◌≡◌, None, List, sym, refl, subst, subst₂, ◌∙◌}
use Rattle.rd_layout.specs.Laws.{ChosenLaw, LeadLaw}
use Rattle.rd_layout.specs.Redisplays.{AreLaidOut, update_of}
use Rattle.rd_layout.specs.Screens.{laid_out, settled_state}
use Rattle.rd_layout.specs.Sessions.{SessionValue}
use Rattle.rd_layout.specs.Since.{IsSession}
use Rattle.rd_layout.specs.Windows.{places}
use Rattle.rd_layout.proofs.Known.{Last, forgotten-session}
use Rattle.rd_layout.proofs.Placed.{placed-at}
use Rattle.rd_layout.proofs.Sending.{sent-anew}
use Rattle.rd_state.specs.States.{StateValue}
use Rattle.rd_tree.proofs.Listing.{placed-apart}
use Rattle.rd_tree.specs.Calls.{frame_of}
use Rattle.rd_ucd.specs.Data.{Data}
use Rattle.rd_views.specs.Layings.{AreDesired, AreOnce, CanSettle, all_settled, layouts_taken}
use Rattle.rd_views.specs.declared.desired.LaidWindow.{LaidWindow}
use Rattle.rd_views.proofs.Desiring.{laid-out, once}
use Rattle.rd_views.proofs.Settled.{can-settle, state-settled}

settled-is : (files : Data) (s : StateValue) → settled_state files s ≡ (laid_out files s).state
unfolding laid_out
settled-is files s = refl

-- a session of which no screen is known
abbrev pub unknown : Data → StateValue → List Last → SessionValue
unknown files s layouts = record { files = files; state = s; current = None; layouts = layouts }

pub adopted : LeadLaw → (old : SessionValue) (files : Data) (s : StateValue) (layouts : List Last) → IsSession old → files ≡ old.files → s ≡ (laid_out old.files old.state).state
    → AreLaidOut old (places old.state) layouts → IsSession (unknown files s layouts)
adopted law old files s layouts session files_stay state laid =
    let u = update_of old None in
    forgotten-session _ (law u.rows u.done None old _ None None session (sent-anew old None files s layouts files_stay state laid))

module _ (v : SessionValue) (session : IsSession v) (xs : List LaidWindow) (es : List Last) (desired : AreDesired v (places v.state) xs es) where
  numbers-once : AreOnce es
  numbers-once = once v (places v.state) xs es desired (placed-apart v.state.tree.windows (frame_of v.state.tree) session.state.windows.tree.once)

  pub once-as : (ws : List Last) → ws ≡ es → AreOnce ws
  once-as ws is = subst AreOnce (sym is) numbers-once

  pub can-as : ChosenLaw → (s : StateValue) (us : List LaidWindow) (ws : List Last) → s ≡ v.state → us ≡ xs → ws ≡ es → CanSettle s us ws
  can-as chosen s us ws a b d =
      let can = can-settle v chosen session.state xs es (λ k p at. placed-at v.state session.state k p at) desired in
      subst (λ (t : StateValue). CanSettle t us ws) (sym a) (subst₂ (λ (ys : List LaidWindow) (fs : List Last). CanSettle v.state ys fs) (sym b) (sym d) can)

  pub state-as : (new s : StateValue) (us : List LaidWindow) (ws : List Last) → s ≡ v.state → us ≡ xs → ws ≡ es → new ≡ all_settled us ws s → new ≡ (laid_out v.files v.state).state
  state-as new s us ws a b d is =
      let same : all_settled us ws s ≡ all_settled xs es v.state = λ i. all_settled (b i) (d i) (a i) in
      is ∙ (same ∙ (state-settled v xs es session.state.windows.apart numbers-once desired ∙ settled-is v.files v.state))

  pub layouts-as : (new lasts : List Last) (us : List LaidWindow) (ws : List Last) → lasts ≡ v.layouts → us ≡ xs → ws ≡ es → new ≡ layouts_taken lasts us ws
      → AreLaidOut v (places v.state) new
  layouts-as new lasts us ws a b d is =
      let same : layouts_taken lasts us ws ≡ layouts_taken v.layouts xs es = λ i. layouts_taken (a i) (b i) (d i) in
      subst (λ (ls : List Last). AreLaidOut v (places v.state) ls) (sym (is ∙ same)) (laid-out v (places v.state) xs es desired)
