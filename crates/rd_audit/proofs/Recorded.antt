-- What a run of a script leaves for the auditor: its stream is the terminal's, and its report has the dump of what that shows.
use Rattle.std.proofs.Common.{◌≡◌, ℕ, ◌+◌, ◌<◌, ◌≤◌, Bool, true, false, if◌then◌else◌, is_some, inl, inr, Option, None, Some, unwrap_or, Ok, decimal, codes, List, [], ◌∷◌, ◌++◌, length, take, refl, sym, ap, ◌∙◌, subst, arith, append_assoc}
use Rattle.std.specs.Prelude.{IsSome}
use Rattle.std.specs.Io.KnownBytes.{Appends}
use Rattle.std.proofs.lemmas.Bool.{false≢true}
use Rattle.std.proofs.lemmas.List.{take_all}
use Rattle.std.proofs.lemmas.List.Sums.{fold-append}
use Rattle.rd_dump.specs.Dumps.{dump_text}
use Rattle.rd_dump.specs.declared.dump.WindowFacts.{WindowFacts}
use Rattle.rd_io.specs.Lines.{lines_of}
use Rattle.rd_layout.specs.Copies.{redisplayed as redisplayed_session}
use Rattle.rd_layout.specs.Facts.{fact_of, facts_of}
use Rattle.rd_layout.specs.Redisplays.{update_of}
use Rattle.rd_layout.specs.Sessions.{SessionValue}
use Rattle.rd_layout.specs.Since.{KnownScreenFits, IsSession}
use Rattle.rd_layout.proofs.Placed.{shown-count}
use Rattle.rd_run.proofs.Effects.{effect-is, shown-done}
use Rattle.rd_update.proofs.Sizes.{is-screen, width-is}
use Rattle.rd_run.proofs.Inputs.{run-push}
use Rattle.rd_run.specs.Alike.{End}
use Rattle.rd_run.specs.Ends.{Comes, Drawn, TellsFault, Took, done_of, last_in}
use Rattle.rd_run.specs.Given.{Given}
use Rattle.rd_run.specs.Reports.{last_line, shown_line, stopped_line}
use Rattle.rd_run.specs.Runs.{Effect, Input, LeadsOn, Mode, StandLaws, Standing, World, after, dump_lines, effect, is_shown, opened, outcome_at, run, run_line, told_of}
use Rattle.rd_run.specs.declared.status.Status.{Status}
use Rattle.rd_run.specs.declared.status.Status.TheVariants.{Done, Usage, BadData, BadScript, ReadFault, WriteFault, NoMemory}
use Rattle.rd_state.specs.States.{StateValue}
use Rattle.rd_state.specs.Valid.{IsValid}
use Rattle.rd_term.specs.Pictures.{Picture, width_of}
use Rattle.rd_term.specs.Terminals.{Shows, feed_bytes, unknown}
use Rattle.rd_tree.specs.Calls.{frame_of}
use Rattle.rd_tree.proofs.Rooms.{leaves-some}
use Rattle.rd_tree.proofs.Standing.{placed-count}
use Rattle.rd_update.specs.Updates.{Update}
use Rattle.rd_audit.proofs.LastLines.{broken-passes, last-passes}
use Rattle.rd_audit.proofs.Leaving.{IsPassed, leave-unshown, stream-left, told-behind}
use Rattle.rd_audit.proofs.ReadBack.{read-last}
use Rattle.rd_audit.proofs.Since.{AreRun, recorded-end, recorded-read, run-all, run-last, run-split, run_line-reads, since-append, sizes-kept}
use Rattle.rd_audit.specs.Dumps.{dump_in}
use Rattle.rd_audit.specs.Printed.{HasDump, HasNoCursor}
use Rattle.rd_audit.specs.Recorded.{AreUnshown, HaveNoFrame, IsRecording, IsReported, IsSentWhole, IsToldInOneLine, IsToldWhole, LeaveScreen, recorded, screen_behind, since}
use Rattle.rd_audit.specs.Verdicts as verdicts

-- ---- the dump of a screen

-- a known screen of a session can be dumped
has-dump : (s : StateValue) (p : Picture) → IsValid s → KnownScreenFits (Some p) s → HasDump p
has-dump s p valid h =
    let frame = valid.frame in
    record {
      screen = is-screen s.width s.height p frame.narrow frame.low h.0;
      whole = h.1.whole;
      colours = h.1.colours;
      wide = subst (λ (x : ℕ). 12 ≤ x) (sym (width-is s.width s.height p h.0)) frame.wide;
      tall = subst (λ (x : ℕ). 2 ≤ x) (sym h.0.rows) frame.high;
    }

-- a frame has a window, so a dump has the line of one
windows-told : (v : SessionValue) → IsValid v.state → 0 < length (facts_of v)
windows-told v valid =
    let tree = v.state.tree in
    omega (arith, shown-count v.state valid (fact_of v), placed-count tree.windows (frame_of tree), leaves-some tree.windows)

-- ---- what a redisplay tells that is shown

told-shown : (mode : Mode) (number : ℕ) (u : Update) (next : SessionValue) (screen : Picture) → mode.generated ≡ None → mode.dumps ≡ true → u.done ≡ true → next.current ≡ Some screen
    → told_of mode number u.done u.rows next ≡ shown_line number u.rows ++ dump_text screen (facts_of next)
unfolding dump_lines
told-shown mode number u next screen read dumps done current =
    ap (λ o. if is_some o then [] else if u.done then shown_line number u.rows ++ dump_lines mode.dumps next.current (facts_of next) else stopped_line number u.rows) read
    ∙ ap (λ b. if b then shown_line number u.rows ++ dump_lines mode.dumps next.current (facts_of next) else stopped_line number u.rows) done
    ∙ ap (λ b. shown_line number u.rows ++ dump_lines b next.current (facts_of next)) dumps
    ∙ ap (λ o. shown_line number u.rows ++ dump_lines true o (facts_of next)) current

-- what a shown redisplay tells, where the dumps of a script that is read are told: its line, and the dump of the screen that is reached
abbrev Tells : Standing → Picture → Effect → Type 0
Tells place screen e = is_shown e.outcome ≡ true → place.mode.generated ≡ None → place.mode.dumps ≡ true → e.now.session.current ≡ Some screen
    → (rows : ℕ) × (e.told ≡ shown_line (place.lines + 1) rows ++ dump_text screen (facts_of e.now.session))

effect-tells : (place : Standing) (t : Input) (screen : Picture) → Tells place screen (effect place t)
effect-tells place t screen = effect-is place t (Tells place screen) (record {
  blank = λ s. absurd (false≢true s);
  unread = λ fault is s. absurd (false≢true s);
  refusal = λ op cause is s. absurd (false≢true s);
  accepted = λ op state form step is s. absurd (false≢true s);
  starved = λ s. absurd (false≢true s);
  fed = λ stop s read dumps current.
      let u = update_of place.session stop in
      (u.rows, told-shown place.mode (place.lines + 1) u (redisplayed_session place.session stop) screen read dumps (shown-done u.done u.rows s) current);
})

tells-if : (stays : Bool) (w : World) (e : Effect) (screen : Picture) → Tells w.now screen e → is_shown (if stays then None else e.outcome) ≡ true → w.now.mode.generated ≡ None
    → w.now.mode.dumps ≡ true → (if stays then w else after w e).now.session.current ≡ Some screen
    → (rows : ℕ) × ((if stays then w else after w e).told ≡ w.told ++ (shown_line (w.now.lines + 1) rows ++ dump_text screen (facts_of (if stays then w else after w e).now.session)))
tells-if true w e screen tells s read dumps current = absurd (false≢true s)
tells-if false w e screen tells s read dumps current = let told = tells s read dumps current in (told.0, ap (λ l. w.told ++ l) told.1)

run_line-tells : (w : World) (t : Input) (screen : Picture) → is_shown (outcome_at w t) ≡ true → w.now.mode.generated ≡ None → w.now.mode.dumps ≡ true → (run_line w t).now.session.current ≡ Some screen
    → (rows : ℕ) × ((run_line w t).told ≡ w.told ++ (shown_line (w.now.lines + 1) rows ++ dump_text screen (facts_of (run_line w t).now.session)))
run_line-tells w t screen = tells-if (is_some w.fault) w (effect w.now t) screen (effect-tells w.now t screen)

-- ---- the last redisplay that was shown

-- the report of lines has the dump of a screen, behind a newline, and no line of a cursor behind it
pub record IsDumped (mode : Mode) (inputs : List Input) (screen : Picture) : Type 0 where
  pub has : HasDump screen
  pub windows : List WindowFacts
  pub some : 0 < length windows
  pub front : List ℕ
  pub tail : List ℕ
  pub told : (run (opened mode) inputs).told ≡ front ++ 10 ∷ (dump_text screen windows ++ tail)
  pub passed : IsPassed tail

abbrev shown_body : ℕ → ℕ → List ℕ
shown_body number rows = decimal number ++ (codes ": shown " ++ (decimal rows ++ codes " rows"))

shown-line : (number rows : ℕ) → shown_line number rows ≡ shown_body number rows ++ 10 ∷ []
shown-line number rows =
    ap (λ l. decimal number ++ (codes ": shown " ++ l)) (sym (append_assoc (decimal rows) (codes " rows") (10 ∷ [])))
    ∙ sym (append_assoc (decimal number) (codes ": shown " ++ (decimal rows ++ codes " rows")) (10 ∷ []))

-- the dump stands behind the newline of its line, and the lines after it follow
dump-behind-newline : (front line dump tail : List ℕ) → (front ++ ((line ++ 10 ∷ []) ++ dump)) ++ tail ≡ (front ++ line) ++ 10 ∷ (dump ++ tail)
dump-behind-newline front line dump tail =
    append_assoc front ((line ++ 10 ∷ []) ++ dump) tail
    ∙ ap (λ l. front ++ l) (append_assoc (line ++ 10 ∷ []) dump tail ∙ append_assoc line (10 ∷ []) (dump ++ tail))
    ∙ sym (append_assoc front line (10 ∷ (dump ++ tail)))

terminals-same : (w n x m : ℕ) (bs cs : List ℕ) → w ≡ x → n ≡ m → bs ≡ cs → feed_bytes (unknown w n) bs ≡ feed_bytes (unknown x m) cs
terminals-same w n x m bs cs p q r =
    ap (λ k. feed_bytes (unknown k n) bs) p ∙ ap (λ k. feed_bytes (unknown x k) bs) q ∙ ap (feed_bytes (unknown x m)) r

-- a redisplay that is shown, in a run of which each line was run: lines before it, the redisplay, and those behind it
pub record Shown (mode : Mode) (before : List Input) (t : Input) (behind : List Input) : Type 0 where
  pub dumps : mode.dumps ≡ true
  pub read : mode.generated ≡ None
  pub all : AreRun (opened mode) (before ++ t ∷ behind)
  pub shown : is_shown (outcome_at (run (opened mode) before) t) ≡ true

module _ (laws : StandLaws) (mode : Mode) (before : List Input) (t : Input) (behind : List Input) (h : Shown mode before t behind) where
  abbrev at_redisplay : World
  at_redisplay = run (opened mode) before

  abbrev behind_it : World
  behind_it = run_line at_redisplay t

  abbrev all_lines : List Input
  all_lines = before ++ t ∷ behind

  parts : AreRun (opened mode) before × (at_redisplay.fault ≡ None) × AreRun behind_it behind
  parts = run-split (opened mode) before t behind h.all

  reached : behind_it.now.session.current ≡ Some (screen_behind mode before)
  reached = (laws.leads mode before t).reaches h.shown

  session : IsSession behind_it.now.session
  session = subst (λ (x : World). IsSession x.now.session) (run-push (opened mode) before t) (laws.session mode (before ++ t ∷ []))

  fits : KnownScreenFits (Some (screen_behind mode before)) behind_it.now.session.state
  fits = subst (λ c. KnownScreenFits c behind_it.now.session.state) reached session.screen

  whole : run (opened mode) all_lines ≡ run behind_it behind
  whole = fold-append run_line (opened mode) before (t ∷ behind)

  -- the report has its dump
  pub dumped : AreUnshown behind_it behind → IsDumped mode all_lines (screen_behind mode before)
  dumped none =
      let under = laws.in_mode mode before in
      let tells = run_line-tells at_redisplay t (screen_behind mode before) h.shown (ap (λ (m : Mode). m.generated) under ∙ h.read) (ap (λ (m : Mode). m.dumps) under ∙ h.dumps) reached in
      let dump = dump_text (screen_behind mode before) (facts_of behind_it.now.session) in
      let line = shown_body (at_redisplay.now.lines + 1) tells.0 in
      let told : behind_it.told ≡ at_redisplay.told ++ ((line ++ 10 ∷ []) ++ dump) = tells.1 ∙ ap (λ l. at_redisplay.told ++ (l ++ dump)) (shown-line (at_redisplay.now.lines + 1) tells.0) in
      let more = told-behind behind_it behind parts.2 none in
      record {
        has = has-dump behind_it.now.session.state (screen_behind mode before) session.state fits;
        windows = facts_of behind_it.now.session;
        some = windows-told behind_it.now.session session.state;
        front = at_redisplay.told ++ line;
        tail = more.tail;
        told = ap (λ (x : World). x.told) whole ∙ (more.told ∙ (ap (λ l. l ++ more.tail) told ∙ dump-behind-newline at_redisplay.told line dump more.tail));
        passed = more.passed;
      }

  -- a terminal of the frame's size is one of the dump's
  sized : (bytes : List ℕ) → feed_bytes (unknown behind_it.now.session.state.width behind_it.now.session.state.height) bytes ≡ verdicts.terminal_after (screen_behind mode before) bytes
  sized bytes =
      let width = behind_it.now.session.state.width in
      let height = behind_it.now.session.state.height in
      let screen = screen_behind mode before in
      terminals-same width height (width_of screen.rows) (length screen.rows) bytes bytes (sym (width-is width height screen fits.0)) (sym fits.0.rows) refl

  -- where the lines behind it leave the screen the terminal of the stream shows it
  pub shows_screen : LeaveScreen behind_it behind → Shows (verdicts.terminal_after (screen_behind mode before) (recorded mode all_lines)) (screen_behind mode before)
  shows_screen leave =
      let screen = screen_behind mode before in
      let bytes = since (recorded mode before) (effect at_redisplay.now t) in
      let stream : bytes ≡ recorded mode all_lines = sym (since-append [] (opened mode) before (t ∷ behind) ∙ stream-left behind_it behind bytes parts.2 leave) in
      let terminal : behind_it.terminal ≡ verdicts.terminal_after screen (recorded mode all_lines) =
      run_line-reads at_redisplay t (recorded mode before) parts.1 (laws.leads mode before t) (recorded-read mode before parts.0 (laws.leads mode))
      ∙ (sized bytes ∙ ap (verdicts.terminal_after screen) stream) in
      subst (λ x. Shows x screen) terminal ((laws.leads mode before t).shows h.shown)

  -- where no frame is accepted behind it the terminal of the stream is that of the run
  pub same_terminal : HaveNoFrame behind_it behind → verdicts.terminal_after (screen_behind mode before) (recorded mode all_lines) ≡ (run (opened mode) all_lines).terminal
  same_terminal none =
      let last = (run (opened mode) all_lines).now.session.state in
      let size = sizes-kept behind_it behind parts.2 none (λ us u. subst (λ (x : World). LeadsOn x u) (fold-append run_line (opened mode) before (t ∷ us)) (laws.leads mode (before ++ t ∷ us) u)) in
      let wide : behind_it.now.session.state.width ≡ last.width = sym size.0 ∙ ap (λ (x : World). x.now.session.state.width) (sym whole) in
      let high : behind_it.now.session.state.height ≡ last.height = sym size.1 ∙ ap (λ (x : World). x.now.session.state.height) (sym whole) in
      sym (sized (recorded mode all_lines))
      ∙ (terminals-same behind_it.now.session.state.width behind_it.now.session.state.height last.width last.height (recorded mode all_lines) (recorded mode all_lines) wide high refl
      ∙ sym (recorded-read mode all_lines h.all (laws.leads mode)))

-- ---- a run that has ended

-- the lines of a run were run, whatever its status, but perhaps the last was refused
all-run : (given : Given) (mode : Mode) (status : Status) (inputs : List Input) (bytes : List ℕ) (source : Drawn) → Comes given (Some mode) status inputs bytes source → AreRun (opened mode) inputs
all-run given mode Done inputs bytes source (begun, (ran, all)) = run-all (opened mode) inputs ran
all-run given mode Usage inputs bytes source (begun, none) = absurd none
all-run given mode (BadData file number kind) inputs bytes source (begun, none) = absurd none
all-run given mode (BadScript number fault) inputs bytes source (begun, inl bad) = subst (AreRun (opened mode)) (sym bad.split) (run-last (opened mode) bad.others bad.last bad.ran)
all-run given mode (BadScript number fault) inputs bytes source (begun, inr past) = run-all (opened mode) inputs past.ran
all-run given mode ReadFault inputs bytes source (begun, here) = run-all (opened mode) inputs here.0
all-run given mode WriteFault inputs bytes source (begun, none) = absurd none
all-run given mode NoMemory inputs bytes source (begun, (ran, all)) = run-all (opened mode) inputs ran

-- a front of the line that a status gives
last-in-passes : (given : Given) (mode : Mode) (status : Status) (inputs : List Input) (bytes : List ℕ) (source : Drawn) (n : ℕ) → mode.generated ≡ None
    → Comes given (Some mode) status inputs bytes source → IsToldInOneLine status → HasNoCursor (lines_of (take n (last_in (Some mode) status inputs)))
last-in-passes given mode Done inputs bytes source n read comes one =
    let now = (run (opened mode) inputs).now in
    subst (λ g. HasNoCursor (lines_of (take n (done_of g now)))) (sym read) (last-passes mode Done inputs bytes source now.lines n comes.1 one)
last-in-passes given mode status inputs bytes source n read comes one = last-passes mode status inputs bytes source (length inputs) n comes.1 one

-- what a report has behind the lines that were run: a front of one line, which is no cursor's
pub record IsEnded (e : End) (mode : Mode) (file : List ℕ) : Type 0 where
  pub all : AreRun (opened mode) e.inputs
  pub old : List ℕ
  pub rest : List ℕ
  pub split : file ≡ old ++ ((run (opened mode) e.inputs).told ++ rest)
  pub passed : HasNoCursor (lines_of rest)

-- bytes that were told are those that were there with those that were written
wrote : (before after : Option (List ℕ)) (bytes file : List ℕ) → IsSome before → after ≡ Some file → Appends before after bytes → (old : List ℕ) × (file ≡ old ++ bytes)
wrote None after bytes file some e h = absurd (false≢true some)
wrote (Some xs) None bytes file some e h = absurd h
wrote (Some xs) (Some ys) bytes file some e h = (xs, ap (λ o. unwrap_or o file) (sym e) ∙ h)

sent-ended : (e : End) (mode : Mode) (file : List ℕ) → mode.generated ≡ None → IsSome e.report.before → e.report.after ≡ Some file → IsSentWhole e mode → IsEnded e mode file
sent-ended e mode file read empty full (inl (one, ended)) =
    let last = last_in (Some mode) e.status e.inputs in
    let told = wrote e.report.before e.report.after ((run (opened mode) e.inputs).told ++ last) file empty full ended.told.wrote in
    record {
      all = all-run e.given mode e.status e.inputs e.bytes e.source ended.comes;
      old = told.0;
      rest = last;
      split = told.1;
      passed = subst (λ l. HasNoCursor (lines_of l)) (take_all (length last) last (omega arith)) (last-in-passes e.given mode e.status e.inputs e.bytes e.source (length last) read ended.comes one);
    }
sent-ended e mode file read before after (inr (status, one, broke)) =
    let front = broke.told.front in
    let last = last_in (Some mode) status e.inputs in
    let told = wrote e.report.before e.report.after ((run (opened mode) e.inputs).told ++ take front.0 last) file before after front.2 in
    record {
      all = all-run e.given mode status e.inputs e.bytes e.source broke.comes;
      old = told.0;
      rest = take front.0 last;
      split = told.1;
      passed = last-in-passes e.given mode status e.inputs e.bytes e.source front.0 read broke.comes one;
    }

fault-ended : (e : End) (mode : Mode) (file : List ℕ) → IsSome e.report.before → e.report.after ≡ Some file → AreRun (opened mode) e.inputs
    → TellsFault e.report (run (opened mode) e.inputs).told e.inputs → IsEnded e mode file
fault-ended e mode file before after all (inl took) =
    let last = last_line WriteFault (length e.inputs) in
    let told = wrote e.report.before e.report.after ((run (opened mode) e.inputs).told ++ last) file before after took.wrote in
    record {
      all = all;
      old = told.0;
      rest = last;
      split = told.1;
      passed = subst (λ l. HasNoCursor (lines_of l)) (take_all (length last) last (omega arith)) (broken-passes (length last) (length e.inputs));
    }
fault-ended e mode file before after all (inr broke) =
    let front = broke.front in
    let last = last_line WriteFault (length e.inputs) in
    let told = wrote e.report.before e.report.after ((run (opened mode) e.inputs).told ++ take front.0 last) file before after front.2 in
    record {
      all = all;
      old = told.0;
      rest = take front.0 last;
      split = told.1;
      passed = broken-passes front.0 (length e.inputs);
    }

told-ended : (e : End) (mode : Mode) (file : List ℕ) → mode.generated ≡ None → IsSome e.report.before → e.report.after ≡ Some file → IsToldWhole e mode → IsEnded e mode file
told-ended e mode file read before after (inl sent) = sent-ended e mode file read before after sent
told-ended e mode file read before after (inr (line, broke)) = fault-ended e mode file before after (run-all (opened mode) e.inputs broke.hand.ran) broke.told

behind-all : (old front dump tail last : List ℕ) → old ++ ((front ++ 10 ∷ (dump ++ tail)) ++ last) ≡ (old ++ front) ++ 10 ∷ (dump ++ (tail ++ last))
behind-all old front dump tail last =
    ap (λ l. old ++ l) (append_assoc front (10 ∷ (dump ++ tail)) last ∙ ap (λ l. front ++ 10 ∷ l) (append_assoc dump tail last))
    ∙ sym (append_assoc old front (10 ∷ (dump ++ (tail ++ last))))

-- the last dump of the file is that of the screen
dump-read : (e : End) (mode : Mode) (file : List ℕ) (screen : Picture) → IsEnded e mode file → IsDumped mode e.inputs screen → dump_in file ≡ Ok screen
dump-read e mode file screen h d =
    let dump = dump_text screen d.windows in
    let whole : file ≡ (h.old ++ d.front) ++ 10 ∷ (dump ++ (d.tail ++ h.rest)) =
    h.split ∙ (ap (λ l. h.old ++ (l ++ h.rest)) d.told ∙ behind-all h.old d.front dump d.tail h.rest) in
    ap dump_in whole ∙ read-last screen d.windows (h.old ++ d.front) (d.tail ++ h.rest) d.has d.some (d.passed h.rest h.passed)

-- ---- what the laws say of it

pub reported-shown : (e : End) (mode : Mode) (file : List ℕ) (h : IsReported e mode file) → Shown mode h.last.before h.last.redisplay h.last.behind
reported-shown e mode file h = record {
  dumps = h.dumps;
  read = h.read;
  all = subst (AreRun (opened mode)) h.last.split (told-ended e mode file h.read h.told h.contents h.ended).all;
  shown = h.last.shown;
}

pub reported-dump : (laws : StandLaws) (e : End) (mode : Mode) (file : List ℕ) (h : IsReported e mode file) → dump_in file ≡ Ok (screen_behind mode h.last.before)
reported-dump laws e mode file h =
    let last = h.last in
    let screen = screen_behind mode last.before in
    dump-read e mode file screen (told-ended e mode file h.read h.told h.contents h.ended)
    (subst (λ ts. IsDumped mode ts screen) (sym last.split) (dumped laws mode last.before last.redisplay last.behind (reported-shown e mode file h) last.none))

-- the file has a dump, and the terminal of the stream shows it
pub record Agree (stream file : List ℕ) : Type 0 where
  pub picture : Picture
  pub dump : dump_in file ≡ Ok picture
  pub shows : Shows (verdicts.terminal_after picture stream) picture

pub recording-agrees : (laws : StandLaws) (e : End) (mode : Mode) (stream file : List ℕ) → IsRecording e mode stream file → Agree stream file
recording-agrees laws e mode stream file h =
    let last = h.ends in
    let screen = screen_behind mode last.before in
    let ended = sent-ended e mode file h.read h.told h.contents h.ended in
    let all = subst (AreRun (opened mode)) last.split ended.all in
    let here : Shown mode last.before last.redisplay last.behind = record { dumps = h.dumps; read = h.read; all = all; shown = last.shown } in
    let none = leave-unshown (run_line (run (opened mode) last.before) last.redisplay) last.behind last.leave in
    let shown = shows_screen laws mode last.before last.redisplay last.behind here last.leave in
    record {
      picture = screen;
      dump = dump-read e mode file screen ended (subst (λ ts. IsDumped mode ts screen) (sym last.split) (dumped laws mode last.before last.redisplay last.behind here none));
      shows = subst (λ s. Shows (verdicts.terminal_after screen s) screen) (ap (recorded mode) (sym last.split) ∙ sym h.sent) shown;
    }

whole-sent : (e : End) (mode : Mode) → IsSentWhole e mode → Took e.screen (run (opened mode) e.inputs).sent
whole-sent e mode (inl (one, ended)) = ended.sent
whole-sent e mode (inr (status, one, broke)) = broke.sent

-- the screen's bytes end with the stream
pub recording-sent : (e : End) (mode : Mode) (stream file : List ℕ) → IsRecording e mode stream file → (earlier : List ℕ) × Took e.screen (earlier ++ stream)
recording-sent e mode stream file h =
    let end = recorded-end mode e.inputs (sent-ended e mode file h.read h.told h.contents h.ended).all in
    (end.0, subst (Took e.screen) (end.1 ∙ ap (λ l. end.0 ++ l) (sym h.sent)) (whole-sent e mode h.ended))
