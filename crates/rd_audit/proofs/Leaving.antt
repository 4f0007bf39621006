-- Lines that leave the screen as it is send nothing, and what lines tell of which no redisplay is shown has no line of a cursor.
use Rattle.std.proofs.Common.{◌≡◌, ◌==◌, ℕ, ◌+◌, Bool, true, false, if◌then◌else◌, is_some, Option, None, Some, decimal, codes, List, [], ◌∷◌, ◌++◌, refl, sym, ap, ◌∙◌, subst, append_assoc, append-nil, true≢false, arith}
use Rattle.std.proofs.lemmas.Bool.{and_parts, not-true}
use Rattle.std.proofs.lemmas.Bool.Decides.{nat_tests}
use Rattle.std.proofs.lemmas.List.Elements.{All-cons}
use Rattle.rd_io.specs.Lines.{lines_of}
use Rattle.rd_layout.specs.Copies.{redisplayed as redisplayed_session}
use Rattle.rd_layout.specs.Facts.{facts_of}
use Rattle.rd_layout.specs.Redisplays.{update_of}
use Rattle.rd_layout.specs.Sessions.{SessionValue}
use Rattle.rd_layout.specs.declared.outcome.Outcome.{Outcome}
use Rattle.rd_layout.specs.declared.outcome.Outcome.TheVariants.{Shown, Stopped, NoMemory, WriteFault}
use Rattle.rd_run.proofs.Effects.{effect-is, is-sent}
use Rattle.rd_run.proofs.Inputs.{run_line-goes}
use Rattle.rd_run.specs.Reports.{no_memory_line, shown_line, stopped_line}
use Rattle.rd_run.specs.Runs.{Input, Mode, Standing, World, dump_lines, effect, is_sent, is_shown, outcome_at, run, run_line, told_of}
use Rattle.rd_update.specs.Updates.{Update}
use Rattle.rd_audit.proofs.Lacking.{lacks, lacks-append, lacks-decimal, lines-seam}
use Rattle.rd_audit.proofs.Since.{AreRun}
use Rattle.rd_audit.specs.Printed.{HasNoCursor}
use Rattle.rd_audit.specs.Recorded.{AreUnshown, LeaveScreen, since, since_frame}
use Rattle.rd_audit.specs.Rows.{is_cursor}

-- ---- texts without the line of a cursor

-- a text of lines of which none is a cursor's
abbrev pub IsPassed : List ℕ → Type 0
IsPassed text = (rest : List ℕ) → HasNoCursor (lines_of rest) → HasNoCursor (lines_of (text ++ rest))

passed-both : (one other : List ℕ) → IsPassed one → IsPassed other → IsPassed (one ++ other)
passed-both one other p q rest h = subst (λ l. HasNoCursor (lines_of l)) (sym (append_assoc one other rest)) (p (other ++ rest) (q rest h))

pub passed-line : (line rest : List ℕ) → lacks 10 line ≡ true → is_cursor line ≡ false → HasNoCursor (lines_of rest) → HasNoCursor (lines_of (line ++ 10 ∷ rest))
passed-line line rest unbroken other h =
    subst HasNoCursor (sym (lines-seam line rest unbroken)) (All-cons (λ l. is_cursor l ≡ false) line (lines_of rest) other h)

-- a number begins with no letter
other-letter : (digits rest : List ℕ) → lacks 99 digits ≡ true → is_cursor (digits ++ 58 ∷ rest) ≡ false
other-letter [] rest h = refl
other-letter (b ∷ bs) rest h =
    let letter = not-true (b == 99) (and_parts _ (lacks 99 bs) h).0 in
    let other : (99 == b) ≡ false = grind (arith, nat_tests, letter) in
    rw other refl

-- a line that begins with its number
passed-numbered : (number : ℕ) (body : List ℕ) → lacks 10 body ≡ true → IsPassed (decimal number ++ 58 ∷ (body ++ 10 ∷ []))
passed-numbered number body unbroken rest h =
    let line = decimal number ++ 58 ∷ body in
    let same : line ++ 10 ∷ rest ≡ (decimal number ++ 58 ∷ (body ++ 10 ∷ [])) ++ rest =
    append_assoc (decimal number) (58 ∷ body) (10 ∷ rest)
    ∙ (ap (λ l. decimal number ++ 58 ∷ l) (sym (append_assoc body (10 ∷ []) rest)) ∙ sym (append_assoc (decimal number) (58 ∷ (body ++ 10 ∷ [])) rest)) in
    subst (λ l. HasNoCursor (lines_of l)) same
    (passed-line line rest (lacks-append 10 (decimal number) (58 ∷ body) (lacks-decimal 10 number refl) unbroken)
    (other-letter (decimal number) body (lacks-decimal 99 number refl)) h)

passed-no_memory : (number : ℕ) → IsPassed (no_memory_line number)
passed-no_memory number = passed-numbered number (codes " no memory") refl

passed-stopped : (number rows : ℕ) → IsPassed (stopped_line number rows)
passed-stopped number rows =
    subst IsPassed (ap (λ l. decimal number ++ (codes ": stopped " ++ l)) (append_assoc (decimal rows) (codes " rows") (10 ∷ [])))
    (passed-numbered number (codes " stopped " ++ (decimal rows ++ codes " rows"))
    (lacks-append 10 (decimal rows) (codes " rows") (lacks-decimal 10 rows refl) refl))

-- ---- one line

-- what a redisplay tells that is not shown
passed-told : (mode : Mode) (number : ℕ) (u : Update) (next : SessionValue) → is_shown (Some (if u.done then Shown u.rows else Stopped u.rows)) ≡ false
    → IsPassed (told_of mode number u.done u.rows next)
passed-told mode number u next s = by (is_some mode.generated) u.done s
  where
    by : (generated done : Bool) → is_shown (Some (if done then Shown u.rows else Stopped u.rows)) ≡ false
        → IsPassed (if generated then [] else if done then shown_line number u.rows ++ dump_lines mode.dumps next.current (facts_of next) else stopped_line number u.rows)
    by true done s = λ rest h. h
    by false true s = absurd (true≢false s)
    by false false s = passed-stopped number u.rows

-- what a line tells whose redisplay is not shown
passed-effect : (place : Standing) (t : Input) → is_shown (effect place t).outcome ≡ false → IsPassed (effect place t).told
passed-effect place t = effect-is place t (λ e. is_shown e.outcome ≡ false → IsPassed e.told) (record {
  blank = λ s rest h. h;
  unread = λ fault is s rest h. h;
  refusal = λ op cause is s rest h. h;
  accepted = λ op state form step is s rest h. h;
  starved = λ s. passed-no_memory (place.lines + 1);
  fed = λ stop s. passed-told place.mode (place.lines + 1) (update_of place.session stop) (redisplayed_session place.session stop) s;
})

-- a line whose redisplay is neither shown nor stopped sends nothing
silent-effect : (place : Standing) (t : Input) → is_sent (effect place t).outcome ≡ false → (effect place t).sent ≡ []
silent-effect place t = effect-is place t (λ e. is_sent e.outcome ≡ false → e.sent ≡ []) (record {
  blank = λ s. refl;
  unread = λ fault is s. refl;
  refusal = λ op cause is s. refl;
  accepted = λ op state form step is s. refl;
  starved = λ s. refl;
  fed = λ stop s. let u = update_of place.session stop in absurd (true≢false (sym (is-sent u.done u.rows) ∙ s));
})

-- the outcome of a line that is run
outcome-if : (w : World) (t : Input) (test : Option Outcome → Bool) → w.fault ≡ None → test (outcome_at w t) ≡ false → test (effect w.now t).outcome ≡ false
outcome-if w t test clear h = ap (λ o. test (if is_some o then None else (effect w.now t).outcome)) (sym clear) ∙ h

unsent-unshown : (o : Option Outcome) → is_sent o ≡ false → is_shown o ≡ false
unsent-unshown None s = refl
unsent-unshown (Some (Shown rows)) s = s
unsent-unshown (Some (Stopped rows)) s = refl
unsent-unshown (Some NoMemory) s = refl
unsent-unshown (Some WriteFault) s = refl

-- ---- all lines

-- lines that leave the screen show no redisplay
pub leave-unshown : (w : World) (ts : List Input) → LeaveScreen w ts → AreUnshown w ts
leave-unshown w [] h = tt
leave-unshown w (t ∷ ts) h = (unsent-unshown (outcome_at w t) h.0, leave-unshown (run_line w t) ts h.2)

-- lines that leave the screen leave the stream
pub stream-left : (w : World) (ts : List Input) (bytes : List ℕ) → AreRun w ts → LeaveScreen w ts → since_frame bytes w ts ≡ bytes
stream-left w [] bytes all h = refl
stream-left w (t ∷ ts) bytes all h =
    let e = effect w.now t in
    let sent = silent-effect w.now t (outcome-if w t is_sent all.0 h.0) in
    let same : since bytes e ≡ bytes = ap (λ b. (if b then [] else bytes) ++ e.sent) h.1 ∙ (ap (λ l. bytes ++ l) sent ∙ append-nil bytes) in
    ap (λ bs. since_frame bs (run_line w t) ts) same ∙ stream-left (run_line w t) ts bytes all.1 h.2

-- what lines tell of which no redisplay is shown
pub record Tells (w : World) (ts : List Input) : Type 0 where
  pub tail : List ℕ
  pub told : (run w ts).told ≡ w.told ++ tail
  pub passed : IsPassed tail

pub told-behind : (w : World) (ts : List Input) → AreRun w ts → AreUnshown w ts → Tells w ts
told-behind w [] all h = record { tail = []; told = sym (append-nil w.told); passed = λ rest h. h }
told-behind w (t ∷ ts) all h =
    let e = effect w.now t in
    let passed = passed-effect w.now t (outcome-if w t is_shown all.0 h.0) in
    let more = told-behind (run_line w t) ts all.1 h.1 in
    let told : (run_line w t).told ≡ w.told ++ e.told = ap (λ (v : World). v.told) (run_line-goes w t all.0) in
    record {
      tail = e.told ++ more.tail;
      told = more.told ∙ (ap (λ l. l ++ more.tail) told ∙ append_assoc w.told e.told more.tail);
      passed = passed-both e.told more.tail passed more.passed;
    }
