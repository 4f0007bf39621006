-- The bytes since the last accepted frame are those that the terminal has read, and the end of those that were sent.
use Rattle.std.proofs.Common.{◌≡◌, ℕ, Bool, true, false, if◌then◌else◌, List, [], ◌∷◌, ◌++◌, None, refl, sym, ap, ◌∙◌, subst, append_assoc}
use Rattle.rd_run.proofs.Inputs.{run-clear, run_line-goes}
use Rattle.rd_run.specs.Runs.{AreOfOneSize, Input, LeadsOn, Mode, World, after, effect, opened, run, run_line}
use Rattle.rd_state.specs.States.{StateValue}
use Rattle.std.proofs.lemmas.List.Sums.{fold-append}
use Rattle.rd_term.specs.Terminals.{Tty, feed_bytes, unknown, feed_byte}
use Rattle.rd_audit.specs.Recorded.{HaveNoFrame, recorded, since, since_frame}

-- ---- lines that were run

-- each line was run: none before it was refused
abbrev pub AreRun : World → List Input → Type 0
AreRun w [] = Unit {0}
AreRun w (t ∷ ts) = (w.fault ≡ None) × AreRun (run_line w t) ts

pub run-all : (w : World) (ts : List Input) → (run w ts).fault ≡ None → AreRun w ts
run-all w [] ran = tt
run-all w (t ∷ ts) ran = (run-clear w (t ∷ ts) ran, run-all (run_line w t) ts ran)

-- the last line may be refused
pub run-last : (w : World) (ts : List Input) (t : Input) → (run w ts).fault ≡ None → AreRun w (ts ++ t ∷ [])
run-last w [] t ran = (ran, tt)
run-last w (u ∷ ts) t ran = (run-clear w (u ∷ ts) ran, run-last (run_line w u) ts t ran)

pub run-split : (w : World) (ts : List Input) (t : Input) (us : List Input) → AreRun w (ts ++ t ∷ us)
    → AreRun w ts × ((run w ts).fault ≡ None) × AreRun (run_line (run w ts) t) us
run-split w [] t us all = (tt, all.0, all.1)
run-split w (u ∷ ts) t us all = let more = run-split (run_line w u) ts t us all.1 in ((all.0, more.0), more.1, more.2)

-- ---- what the terminal has read

-- the terminal is a new one of the frame's size that has read these bytes
abbrev pub HasRead : List ℕ → World → Type 0
HasRead bytes w = w.terminal ≡ feed_bytes (unknown w.now.session.state.width w.now.session.state.height) bytes

read-if : (fresh : Bool) (s next : StateValue) (t : Tty) (bytes sent : List ℕ) → (fresh ≡ false → AreOfOneSize s next) → t ≡ feed_bytes (unknown s.width s.height) bytes
    → feed_bytes (if fresh then unknown next.width next.height else t) sent ≡ feed_bytes (unknown next.width next.height) ((if fresh then [] else bytes) ++ sent)
read-if true s next t bytes sent size h = refl
read-if false s next t bytes sent size h =
    let same = size refl in
    ap (λ x. feed_bytes x sent) (h ∙ ap (λ x. feed_bytes (unknown x s.height) bytes) (sym same.0) ∙ ap (λ x. feed_bytes (unknown next.width x) bytes) (sym same.1))
    ∙ sym (fold-append feed_byte (unknown next.width next.height) bytes sent)

pub run_line-reads : (w : World) (t : Input) (bytes : List ℕ) → w.fault ≡ None → LeadsOn w t → HasRead bytes w → HasRead (since bytes (effect w.now t)) (run_line w t)
run_line-reads w t bytes clear leads h =
    let e = effect w.now t in
    let here : HasRead (since bytes e) (after w e) = read-if e.fresh w.now.session.state e.now.session.state w.terminal bytes e.sent leads.size h in
    subst (HasRead (since bytes e)) (sym (run_line-goes w t clear)) here

run-reads : (w : World) (ts : List Input) (bytes : List ℕ) → AreRun w ts → ((us : List Input) (t : Input) → LeadsOn (run w us) t) → HasRead bytes w → HasRead (since_frame bytes w ts) (run w ts)
run-reads w [] bytes all leads h = h
run-reads w (t ∷ ts) bytes all leads h =
    run-reads (run_line w t) ts (since bytes (effect w.now t)) all.1 (λ us u. leads (t ∷ us) u) (run_line-reads w t bytes all.0 (leads [] t) h)

pub recorded-read : (mode : Mode) (ts : List Input) → AreRun (opened mode) ts → ((us : List Input) (t : Input) → LeadsOn (run (opened mode) us) t)
    → HasRead (recorded mode ts) (run (opened mode) ts)
recorded-read mode ts all leads = run-reads (opened mode) ts [] all leads refl

-- ---- what was sent

-- the bytes are the end of those that were sent
abbrev pub IsEnd : List ℕ → List ℕ → Type 0
IsEnd bytes sent = (earlier : List ℕ) × (sent ≡ earlier ++ bytes)

end-if : (fresh : Bool) (bytes sent more : List ℕ) → IsEnd bytes sent → IsEnd ((if fresh then [] else bytes) ++ more) (sent ++ more)
end-if true bytes sent more h = (sent, refl)
end-if false bytes sent more h = (h.0, ap (λ l. l ++ more) h.1 ∙ append_assoc h.0 bytes more)

run-end : (w : World) (ts : List Input) (bytes : List ℕ) → AreRun w ts → IsEnd bytes w.sent → IsEnd (since_frame bytes w ts) (run w ts).sent
run-end w [] bytes all h = h
run-end w (t ∷ ts) bytes all h =
    let e = effect w.now t in
    let next : IsEnd (since bytes e) (run_line w t).sent =
    subst (λ (v : World). IsEnd (since bytes e) v.sent) (sym (run_line-goes w t all.0)) (end-if e.fresh bytes w.sent e.sent h) in
    run-end (run_line w t) ts (since bytes e) all.1 next

pub recorded-end : (mode : Mode) (ts : List Input) → AreRun (opened mode) ts → IsEnd (recorded mode ts) (run (opened mode) ts).sent
recorded-end mode ts all = run-end (opened mode) ts [] all ([], refl)

-- ---- the frame's size

-- lines of which none is a frame that is accepted keep the frame's size
pub sizes-kept : (w : World) (ts : List Input) → AreRun w ts → HaveNoFrame w ts → ((us : List Input) (t : Input) → LeadsOn (run w us) t)
    → AreOfOneSize w.now.session.state (run w ts).now.session.state
sizes-kept w [] all none leads = (refl, refl)
sizes-kept w (t ∷ ts) all none leads =
    let e = effect w.now t in
    let here = (leads [] t).size none.0 in
    let same = run_line-goes w t all.0 in
    let more = sizes-kept (run_line w t) ts all.1 none.1 (λ us u. leads (t ∷ us) u) in
    (more.0 ∙ (ap (λ (v : World). v.now.session.state.width) same ∙ here.0), more.1 ∙ (ap (λ (v : World). v.now.session.state.height) same ∙ here.1))

-- ---- lines in two parts

pub since-append : (bytes : List ℕ) (w : World) (ts us : List Input) → since_frame bytes w (ts ++ us) ≡ since_frame (since_frame bytes w ts) (run w ts) us
since-append bytes w [] us = refl
since-append bytes w (t ∷ ts) us = since-append (since bytes (effect w.now t)) (run_line w t) ts us
