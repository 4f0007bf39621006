-- A session stands behind each line of a run, and the terminal shows its screen where that is known.
use Rattle.std.proofs.Common.{◌≡◌, ℕ, Bool, true, false, List, [], ◌∷◌, length, map, Option, None, Some, Ok, is_some, if◌then◌else◌, refl, sym, ap, ◌∙◌, subst, subst₂}
use Rattle.std.proofs.lemmas.Bool.{both_ways}
use Rattle.std.proofs.lemmas.List.{length-map}
use Rattle.std.proofs.lemmas.Option.{IfSome_then}
use Rattle.std.specs.Prelude.{IfSome}
use Rattle.rd_lineshift.specs.Choices.{AreWithin}
use Rattle.rd_lineshift.specs.Laws.{ShiftLaw}
use Rattle.rd_lineshift.specs.Plans.{shifted_update}
use Rattle.rd_lineshift.specs.declared.band.Band.{Band}
use Rattle.rd_script.specs.Forms.{IsInForm}
use Rattle.rd_script.specs.declared.op.Op.{Op}
use Rattle.rd_state.specs.States.{StateValue}
use Rattle.rd_state.specs.Valid.{IsValid}
use Rattle.rd_term.specs.Pictures.{Picture, IsGrid, IsOfSize, IsScreen}
use Rattle.rd_term.specs.Terminals.{Tty, unknown, feed_bytes, Shows, known}
use Rattle.rd_ucd.specs.Data.{Data}
use Rattle.rd_term.proofs.Shapes.{grid-known}
use Rattle.rd_update.specs.Laws.{AtFrame, IsReady, IsUpdated, IsSound}
use Rattle.rd_update.specs.Plans.{HaveOneSize}
use Rattle.rd_update.specs.Updates.{Update}
use Rattle.rd_layout.specs.Copies.{redisplayed as redisplayed_session}
use Rattle.rd_layout.specs.Laws.{LeadLaw}
use Rattle.rd_layout.specs.Redisplays.{bands_of, update_of}
use Rattle.rd_layout.specs.Screens.{laid_out}
use Rattle.rd_layout.specs.Sessions.{IsStep, SessionValue, behind, is_frame, opened as opened_session, session_step}
use Rattle.rd_layout.specs.Since.{IsSession}
use Rattle.rd_layout.specs.declared.outcome.Outcome.{Outcome}
use Rattle.rd_layout.proofs.Known.{forgotten-session}
use Rattle.rd_layout.proofs.Sending.{sized, unknown-at}
use Rattle.rd_run.specs.Runs.{AreOfOneSize, Effect, Input, IsOn, LeadsOn, Mode, Standing, World, after, effect, is_sent, is_shown, opened, outcome_at, quiet, redisplayed, refused, run, run_line, stepped, terminal_after, unshown}
use Rattle.rd_run.specs.declared.status.ScriptFault.TheVariants as faults
use Rattle.rd_run.proofs.Effects.{effect-is, shown-done}
use Rattle.rd_run.proofs.Leading.{leads-on}
use Rattle.rd_run.proofs.Ops.{keeps-size}

-- what the layers below promise of sessions and of updates
pub record RunLaws : Type 0 where
  pub opened : (files : Data) → IsSession (opened_session files)
  pub stepped : (v : SessionValue) (op : Op) (state : StateValue) → IsSession v → IsInForm op → IsStep op → session_step v op ≡ Ok state → IsSession (behind v op state)
  pub lead : LeadLaw
  pub bands : (s : StateValue) → IsValid s → AreWithin s.height (bands_of s)
  pub targets : (files : Data) (s : StateValue) → IsValid s → IsOfSize s.width s.height (laid_out files s).picture × IsSound (laid_out files s).picture
  pub updated : ShiftLaw
  pub reached : (current : Option Picture) (target : Picture) (bands : List Band) (limit : Option ℕ) → HaveOneSize current target → IfSome current (λ screen. IsScreen screen)
      → AreWithin (length target.rows) bands → (shifted_update current target bands limit).done ≡ true → (shifted_update current target bands limit).screen ≡ target

-- ---- where a run stands, with its terminal

pub record IsAt (v : SessionValue) (t : Tty) : Type 0 where
  pub session : IsSession v
  pub there : AtFrame v.state.width v.state.height v.current t

-- a run stands with its terminal behind a session whose frame kept its size
frame-at : (v next : SessionValue) (c : Option Picture) (t : Tty) → IsSession next → AreOfOneSize v.state next.state → next.current ≡ c → AtFrame v.state.width v.state.height c t → IsAt next t
frame-at v next c t session same now there = record {
  session = session;
  there = subst (λ d. AtFrame next.state.width next.state.height d t) (sym now) (subst₂ (λ (w : ℕ) (n : ℕ). AtFrame w n c t) (sym same.0) (sym same.1) there);
}

-- a new terminal
fresh-at : (v : SessionValue) → IsSession v → v.current ≡ None → IsAt v (unknown v.state.width v.state.height)
fresh-at v session none = frame-at v v None (unknown v.state.width v.state.height) session (refl, refl) none (unknown-at v.state.width v.state.height)

-- a session whose screen is unknown
forgotten-at : (v : SessionValue) (t : Tty) → IsAt v t → IsAt (record v { current = None }) t
forgotten-at v t h =
    let there = h.there in record {
      session = forgotten-session v h.session;
      there = record { sure = there.sure; between = there.between; rows = there.rows; each = there.each; now = tt };
    }

-- ---- a redisplay

-- a redisplay leaves the frame
same-frame : (files : Data) (s : StateValue) → AreOfOneSize s (laid_out files s).state
unfolding laid_out
same-frame files s = (refl, refl)

ready : (laws : RunLaws) (v : SessionValue) (t : Tty) → IsAt v t → IsReady v.state.width v.state.height v.current (laid_out v.files v.state).picture t
ready laws v t h =
    let target = laws.targets v.files v.state h.session.state in
    let frame = h.session.state.frame in
    record { there = h.there; wide = frame.narrow; tall = frame.low; size = target.0; sound = target.1 }

-- a run stands with its terminal behind the bytes of an update
updated-at : (v next : SessionValue) (u : Update) (target : Picture) (t : Tty) → IsSession next → AreOfOneSize v.state next.state → next.current ≡ Some u.screen
    → IsUpdated v.state.width v.state.height u target t → IsAt next t
updated-at v next u target t session same now h =
    let rows : length t.rows ≡ v.state.height = ap length h.cells ∙ length-map u.screen.rows (map Some) ∙ h.size.rows in
    let each : IsGrid v.state.width t.rows = subst (IsGrid v.state.width) (sym h.cells) (grid-known v.state.width u.screen.rows h.size.each) in
    frame-at v next (Some u.screen) t session same now (record { sure = h.sure; between = h.between; rows = rows; each = each; now = (h.size, h.cells, h.pen) })

-- an update that is done leads to its target
target-reached : (laws : RunLaws) (v : SessionValue) (stop : Option ℕ) → IsSession v → (update_of v stop).done ≡ true → (update_of v stop).screen ≡ (laid_out v.files v.state).picture
target-reached laws v stop h =
    let target = (laid_out v.files v.state).picture in
    let size = (laws.targets v.files v.state h.state).0 in
    let frame = h.state.frame in
    let both = sized v.state v.current target frame.narrow frame.low h.screen size in
    laws.reached v.current target (bands_of v.state) stop both.0 (IfSome_then v.current both.1 (λ screen h. h.0))
    (subst (λ k. AreWithin k (bands_of v.state)) (sym size.rows) (laws.bands v.state h.state))

updated-shows : (width height : ℕ) (u : Update) (target : Picture) (t : Tty) → u.screen ≡ target → u.done ≡ true → IsUpdated width height u target t → Shows t target
updated-shows width height u target t reached done h = record {
  sure = h.sure;
  cells = h.cells ∙ ap (λ (p : Picture). known p.rows) reached;
  cursor = h.cursor done;
}

-- ---- one line

-- what holds where a line leads from one place to another, by the terminal there and the end of its redisplay
record LineLeads (from to : Standing) (t : Tty) (o : Option Outcome) : Type 0 where
  pub at : IsAt to.session t
  pub under : to.mode ≡ from.mode
  pub knows : is_sent o ≡ true → IsOn to.session.current t
  pub reaches : is_shown o ≡ true → to.session.current ≡ Some (laid_out from.session.files from.session.state).picture
  pub shows : is_shown o ≡ true → Shows t (laid_out from.session.files from.session.state).picture

-- what holds behind a line with this effect
record Goes (place : Standing) (t : Tty) (e : Effect) : Type 0 where
  pub on : LineLeads place e.now (terminal_after t e) e.outcome
  pub size : e.fresh ≡ false → AreOfOneSize place.session.state e.now.session.state

-- a line that sends nothing
silent-on : (from to : Standing) (t : Tty) (o : Option Outcome) → is_sent o ≡ false → is_shown o ≡ false → IsAt to.session t → to.mode ≡ from.mode → LineLeads from to t o
silent-on from to t o unsent unshown at under = record { at = at; under = under; knows = λ s. absurd (both_ways _ unsent s); reaches = λ s. absurd (both_ways _ unshown s); shows = λ s. absurd (both_ways _ unshown s) }

silent-goes : (place : Standing) (t : Tty) (e : Effect) → is_sent e.outcome ≡ false → is_shown e.outcome ≡ false → IsAt e.now.session (terminal_after t e) → e.now.mode ≡ place.mode
    → (e.fresh ≡ false → AreOfOneSize place.session.state e.now.session.state) → Goes place t e
silent-goes place t e unsent unshown at under size = record { on = silent-on place e.now (terminal_after t e) e.outcome unsent unshown at under; size = size }

-- an op that was accepted
accepted-at : (place : Standing) (t : Tty) (op : Op) (s : StateValue) (framed : Bool) → is_frame op ≡ framed → IsAt place.session t → IsSession (behind place.session op s)
    → (is_frame op ≡ false → AreOfOneSize place.session.state s) → IsAt (behind place.session op s) (terminal_after t (stepped place op (Ok s)))
accepted-at place t op s true e h session size =
    let next = behind place.session op s in
    let current : next.current ≡ None = ap (λ b. if b then None else place.session.current) e in
    let terminal : terminal_after t (stepped place op (Ok s)) ≡ unknown s.width s.height = ap (λ b. if b then unknown s.width s.height else t) e in
    subst (IsAt next) (sym terminal) (fresh-at next session current)
accepted-at place t op s false e h session size =
    let next = behind place.session op s in
    let v = place.session in
    let current : next.current ≡ v.current = ap (λ b. if b then None else v.current) e in
    let terminal : terminal_after t (stepped place op (Ok s)) ≡ t = ap (λ b. if b then unknown s.width s.height else t) e in
    subst (IsAt next) (sym terminal) (frame-at v next v.current t session (size e) current h.there)

redisplayed-goes : (laws : RunLaws) (place : Standing) (t : Tty) (stop : Option ℕ) → IsAt place.session t → Goes place t (redisplayed place stop)
redisplayed-goes laws place t stop h =
    let v = place.session in
    let w = v.state.width in
    let n = v.state.height in
    let target = (laid_out v.files v.state).picture in
    let u = update_of v stop in
    let same = same-frame v.files v.state in
    let updated : IsUpdated w n u target (feed_bytes t u.bytes) = laws.updated w n v.current target (bands_of v.state) stop t (ready laws v t h) (laws.bands v.state h.session.state) in
    let reached = target-reached laws v stop h.session in
    record {
      on = record {
        at = updated-at v (redisplayed_session v stop) u target (feed_bytes t u.bytes) (leads-on laws.lead v stop h.session) same refl updated;
        under = refl;
        knows = λ s. (updated.sure, updated.cells);
        reaches = λ s. ap (λ (p : Picture). Some p) (reached (shown-done u.done u.rows s));
        shows = λ s. let done = shown-done u.done u.rows s in updated-shows w n u target (feed_bytes t u.bytes) (reached done) done updated;
      };
      size = λ _. same;
    }

line-goes : (laws : RunLaws) (place : Standing) (t : Tty) (line : Input) → IsAt place.session t → Goes place t (effect place line)
line-goes laws place t line h = effect-is place line (Goes place t) (record {
  blank = silent-goes place t (quiet place) refl refl h refl (λ _. (refl, refl));
  unread = λ fault e. silent-goes place t (refused place (faults.Op fault)) refl refl h refl (λ _. (refl, refl));
  refusal = λ op cause e. silent-goes place t (refused place (faults.Refused cause)) refl refl h refl (λ _. (refl, refl));
  accepted = λ op s form step e.
      let session = laws.stepped place.session op s h.session form step e in
      let size : is_frame op ≡ false → AreOfOneSize place.session.state s = λ other. keeps-size place.session op s e other in
      silent-goes place t (stepped place op (Ok s)) refl refl (accepted-at place t op s (is_frame op) refl h session size) refl size;
  starved = silent-goes place t (unshown place) refl refl (forgotten-at place.session t h) refl (λ _. (refl, refl));
  fed = λ stop. redisplayed-goes laws place t stop h;
})

-- ---- all lines

-- where one more line leads; a run that has ended stays as it is
abbrev Next : World → World → Option Outcome → Type 0
Next w next o = LineLeads w.now next.now next.terminal o

goes-if : (stays : Bool) (w : World) (e : Effect) → IsAt w.now.session w.terminal → Goes w.now w.terminal e → Next w (if stays then w else after w e) (if stays then None else e.outcome)
goes-if true w e h g = silent-on w.now w.now w.terminal None refl refl h refl
goes-if false w e h g = g.on

goes-on : (laws : RunLaws) (w : World) (t : Input) → IsAt w.now.session w.terminal → Next w (run_line w t) (outcome_at w t)
goes-on laws w t h = goes-if (is_some w.fault) w (effect w.now t) h (line-goes laws w.now w.terminal t h)

-- where a run in this mode stands
pub record Stands (mode : Mode) (w : World) : Type 0 where
  pub at : IsAt w.now.session w.terminal
  pub under : w.now.mode ≡ mode

run-stands : (laws : RunLaws) (mode : Mode) (w : World) (ts : List Input) → Stands mode w → Stands mode (run w ts)
run-stands laws mode w [] h = h
run-stands laws mode w (t ∷ ts) h =
    let next = goes-on laws w t h.at in
    run-stands laws mode (run_line w t) ts (record { at = next.at; under = next.under ∙ h.under })

pub stands : (laws : RunLaws) (mode : Mode) (ts : List Input) → Stands mode (run (opened mode) ts)
stands laws mode ts = run-stands laws mode (opened mode) ts (record { at = fresh-at (opened_session mode.files) (laws.opened mode.files) refl; under = refl })

pub leads : (laws : RunLaws) (mode : Mode) (ts : List Input) (t : Input) → LeadsOn (run (opened mode) ts) t
leads laws mode ts t =
    let w = run (opened mode) ts in
    let here = stands laws mode ts in
    let line = line-goes laws w.now w.terminal t here.at in
    let next = goes-on laws w t here.at in
    record { size = line.size; knows = next.knows; reaches = next.reaches; shows = next.shows }
