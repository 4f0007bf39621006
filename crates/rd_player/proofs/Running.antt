-- A run, one line after another, against what was read and written.
use Rattle.std.proofs.Common.{◌≡◌, ℕ, ◌+◌, ◌≤◌, inl, Bool, true, false, List, [], ◌∷◌, ◌++◌, length, take, Option, None, Some, is_some, if◌then◌else◌, Ok, Err, refl, sym, ap, ◌∙◌, subst, append-nil, arith}
use Rattle.std.specs.Io.KnownBytes.{Appends}
use Rattle.std.proofs.KnownBytes.{Appends-nil, Appends-trans}
use Rattle.std.proofs.lemmas.List.{length_push}
use Rattle.rd_base.proofs.Choices.{either}
use Rattle.rd_io.proofs.Bytes.{rose-after}
use Rattle.rd_run.specs.Ends.{Drawn, drawn, Sunk, sunk, Took, Broke, AreAll, AreScript, IsCalm, IsGivenUp, allowed_in, done_of, lines_in, placed, IsBad, IsInHand}
use Rattle.rd_run.specs.Given.{Given, IsMode, NoneFailed}
use Rattle.rd_run.specs.Runs.{Mode, Input, Standing, Effect, World, opened, run, after, effect, is_sent, redisplayed, unshown, input_of}
use Rattle.rd_run.specs.declared.status.Status.TheVariants.{Done}
use Rattle.rd_run.proofs.Effects.{effect-is, effects-pair}
use Rattle.rd_run.proofs.Inputs.{lines-push, run-push, run_line-goes}
use Rattle.rd_player.specs.Acts.{Acts, ComesTo, ComesWith, IsToldOf, Places, halted_by}
use Rattle.rd_player.specs.declared.halt.Halt.{Halt}
use Rattle.rd_player.specs.declared.halt.Halt.TheVariants as halts
use Rattle.rd_player.specs.declared.halt.Ending.{Ending}

-- ---- what was written, and what broke

pub took-none : (b : Option (List ℕ)) (n : ℕ) → Took (sunk b b n n) []
took-none b n = record { wrote = Appends-nil b; kept = refl }

-- bytes were written, and then others
pub took-then : (a b c : Option (List ℕ)) (m n o : ℕ) (bytes more : List ℕ) → Took (sunk a b m n) bytes → Took (sunk b c n o) more → Took (sunk a c m o) (bytes ++ more)
took-then a b c m n o bytes more p q = record { wrote = Appends-trans a b c bytes more p.wrote q.wrote; kept = q.kept ∙ p.kept }

-- bytes were written, and then none
pub took-still : (a b c : Option (List ℕ)) (m n o : ℕ) (bytes : List ℕ) → Took (sunk a b m n) bytes → Took (sunk b c n o) [] → Took (sunk a c m o) bytes
took-still a b c m n o bytes p q = subst (Took (sunk a c m o)) (append-nil bytes) (took-then a b c m n o bytes [] p q)

-- what broke behind bytes that were written
pub broke-after : (a b c : Option (List ℕ)) (m n o : ℕ) (bytes more : List ℕ) → Took (sunk a b m n) bytes → Broke (sunk b c n o) [] more → Broke (sunk a c m o) bytes more
broke-after a b c m n o bytes more p h =
    let low : m ≤ n = let same = p.kept in omega arith in
    record {
      rose = rose-after m n o low h.rose;
      front = (h.front.0, h.front.1, Appends-trans a b c bytes (take h.front.0 more) p.wrote h.front.2);
    }

-- ---- each line

-- each line counts, and keeps the mode
effect-goes : (place : Standing) (t : Input) → ((effect place t).now.lines ≡ place.lines + 1) × ((effect place t).now.mode ≡ place.mode)
effect-goes place t = effect-is place t (λ e. (e.now.lines ≡ place.lines + 1) × (e.now.mode ≡ place.mode)) (record {
  blank = (refl, refl);
  unread = λ fault no. (refl, refl);
  refusal = λ op cause no. (refl, refl);
  accepted = λ op state form step is. (refl, refl);
  starved = (refl, refl);
  fed = λ stop. (refl, refl);
})

-- a redisplay may place as many elements whether it finds memory or not
effect-allows : (place : Standing) (line : List ℕ) (starved : Bool) → (effect place (input_of line starved)).allowed ≡ (effect place (input_of line false)).allowed
effect-allows place line starved = effects-pair place line starved false (λ e f. e.allowed ≡ f.allowed) (λ e. refl)
    (λ op stop. either (λ (e : Effect). e.allowed ≡ (redisplayed place stop).allowed) starved (unshown place) (redisplayed place stop) refl refl)

-- ---- what a run has written

-- the run of these lines stands here, has written this, and has placed so many elements
pub record HasRun (mode : Mode) (inputs : List Input) (place : Standing) (screen report : Sunk) (c0 c1 : ℕ) : Type 0 where
  pub whole : (run (opened mode) inputs).fault ≡ None
  pub stands : (run (opened mode) inputs).now ≡ place
  pub under : place.mode ≡ mode
  pub counted : place.lines ≡ length inputs
  pub sent : Took screen (run (opened mode) inputs).sent
  pub told : Took report (run (opened mode) inputs).told
  pub spent : c1 ≤ c0 + (run (opened mode) inputs).allowed

-- the run begins
pub has-begun : (mode : Mode) (place : Standing) (s p : Option (List ℕ)) (m n c : ℕ) → place ≡ (opened mode).now → HasRun mode [] place (sunk s s m m) (sunk p p n n) c c
has-begun mode place s p m n c e = record {
  whole = refl;
  stands = sym e;
  under = ap (λ (x : Standing). x.mode) e;
  counted = ap (λ (x : Standing). x.lines) e;
  sent = took-none s m;
  told = took-none p n;
  spent = omega arith;
}

-- the world behind one more line
world-behind : (mode : Mode) (inputs : List Input) (t : Input) (place : Standing) → (run (opened mode) inputs).fault ≡ None → (run (opened mode) inputs).now ≡ place
    → run (opened mode) (inputs ++ t ∷ []) ≡ after (run (opened mode) inputs) (effect place t)
world-behind mode inputs t place whole stands = run-push (opened mode) inputs t ∙ run_line-goes (run (opened mode) inputs) t whole ∙ ap (λ x. after (run (opened mode) inputs) (effect x t)) stands

-- one more line was run
pub has-run : (mode : Mode) (inputs : List Input) (line : List ℕ) (place next : Standing) (s0 s1 s2 p0 p1 p2 : Option (List ℕ)) (m0 m1 m2 n0 n1 n2 c0 c1 c2 : ℕ)
    → HasRun mode inputs place (sunk s0 s1 m0 m1) (sunk p0 p1 n0 n1) c0 c1
    → (a : Acts (Ok tt) (λ starved. effect place (input_of line starved)) next (sunk s1 s2 m1 m2) (sunk p1 p2 n1 n2)) → Places (Ok tt) (effect place (input_of line false)) c1 c2
    → HasRun mode (inputs ++ input_of line a.0 ∷ []) next (sunk s0 s2 m0 m2) (sunk p0 p2 n0 n2) c0 c2
has-run mode inputs line place next s0 s1 s2 p0 p1 p2 m0 m1 m2 n0 n1 n2 c0 c1 c2 k a places =
    let t = input_of line a.0 in
    let w = run (opened mode) inputs in
    let e = effect place t in
    let world = world-behind mode inputs t place k.whole k.stands in
    let allowed : (run (opened mode) (inputs ++ t ∷ [])).allowed ≡ w.allowed + e.allowed = ap (λ (x : World). x.allowed) world in
    record {
      whole = ap (λ (x : World). x.fault) world ∙ a.1;
      stands = ap (λ (x : World). x.now) world ∙ sym a.2;
      under = ap (λ (x : Standing). x.mode) a.2 ∙ (effect-goes place t).1 ∙ k.under;
      counted = ap (λ (x : Standing). x.lines) a.2 ∙ (effect-goes place t).0 ∙ ap (λ n. n + 1) k.counted ∙ sym (length_push inputs t);
      sent = subst (Took (sunk s0 s2 m0 m2)) (sym (ap (λ (x : World). x.sent) world)) (took-then s0 s1 s2 m0 m1 m2 w.sent e.sent k.sent a.3);
      told = subst (Took (sunk p0 p2 n0 n2)) (sym (ap (λ (x : World). x.told) world)) (took-then p0 p1 p2 n0 n1 n2 w.told e.told k.told a.4);
      spent = let before = k.spent in omega (arith, effect-allows place line a.0);
    }

-- ---- how a run ends

-- what comes of a run over all lines of its script
pub all-ran : (given : Given) (mode : Mode) (o : Option ℕ) (inputs : List Input) (bytes : List ℕ) (source : Drawn) (place : Standing) (screen report : Sunk) (c0 c1 : ℕ) (line : List ℕ) → IsMode given mode
    → NoneFailed given × IsCalm source → mode.generated ≡ o → HasRun mode inputs place screen report c0 c1 → AreAll o inputs bytes source.left → done_of o place ≡ line
    → ComesWith Done line given (Some mode) inputs bytes source screen report (placed c0 c1)
all-ran given mode o inputs bytes source place screen report c0 c1 line begun calm is k all last = record {
  comes = (begun, (k.whole, subst (λ x. AreAll x inputs bytes source.left) (sym is) all));
  calm = calm;
  line = ap (λ x. done_of x (run (opened mode) inputs).now) is ∙ (ap (done_of o) k.stands ∙ last);
  sent = k.sent;
  told = k.told;
  spent = k.spent;
}

-- ---- how a run halts

-- the ending of a run over these lines
abbrev pub Halts : Ending → Given → Mode → List ℕ → Drawn → Sunk → Sunk → ℕ → ℕ → Type 0
Halts ending given mode bytes source screen report c0 c1 =
    (inputs : List Input) × ComesTo ending given (Some mode) inputs bytes source screen report (placed c0 c1)

-- a redisplay is the line in hand
in-hand : (given : Given) (mode : Mode) (inputs : List Input) (place : Standing) (line bytes : List ℕ) (left : Option (List ℕ)) → IsMode given mode → (run (opened mode) inputs).fault ≡ None
    → (run (opened mode) inputs).now ≡ place → AreScript mode.generated (lines_in inputs ++ line ∷ []) bytes left → is_sent (effect place (input_of line false)).outcome ≡ true
    → IsInHand given mode inputs line bytes left
in-hand given mode inputs place line bytes left begun whole stands lines sent = record {
  begun = begun;
  ran = whole;
  lines = lines;
  shown = ap (λ o. is_sent (if is_some o then None else (effect (run (opened mode) inputs).now (input_of line false)).outcome)) whole
      ∙ ap (λ x. is_sent (effect x (input_of line false)).outcome) stands ∙ sent;
}

-- what the line in hand may place counts for the run
hand-spent : (mode : Mode) (inputs : List Input) (place : Standing) (line : List ℕ) (starved : Bool) (c0 c1 c2 : ℕ) → (run (opened mode) inputs).fault ≡ None → (run (opened mode) inputs).now ≡ place
    → c1 ≤ c0 + (run (opened mode) inputs).allowed → c2 ≤ c1 + (effect place (input_of line false)).allowed → c2 ≤ c0 + allowed_in (Some mode) (inputs ++ input_of line starved ∷ [])
hand-spent mode inputs place line starved c0 c1 c2 whole stands one other =
    let t = input_of line starved in
    let allowed : (run (opened mode) (inputs ++ t ∷ [])).allowed ≡ (run (opened mode) inputs).allowed + (effect place t).allowed =
    ap (λ (x : World). x.allowed) (world-behind mode inputs t place whole stands) in
    omega (arith, effect-allows place line starved)

pub halts-at : (given : Given) (mode : Mode) (inputs : List Input) (line bytes : List ℕ) (left : Option (List ℕ)) (q0 q1 : ℕ) (halt : Halt) (place next : Standing) (s0 s1 s2 p0 p1 p2 : Option (List ℕ))
    (m0 m1 m2 n0 n1 n2 c0 c1 c2 : ℕ) → IsMode given mode → NoneFailed given × (q1 ≡ q0) → HasRun mode inputs place (sunk s0 s1 m0 m1) (sunk p0 p1 n0 n1) c0 c1
    → AreScript mode.generated (lines_in inputs ++ line ∷ []) bytes left → IsGivenUp mode.generated inputs bytes
    → Acts (Err halt) (λ starved. effect place (input_of line starved)) next (sunk s1 s2 m1 m2) (sunk p1 p2 n1 n2) → Places (Err halt) (effect place (input_of line false)) c1 c2
    → Halts (halted_by halt place.lines) given mode bytes (drawn left q0 q1) (sunk s0 s2 m0 m2) (sunk p0 p2 n0 n2) c0 c2
halts-at given mode inputs line bytes left q0 q1 (halts.Bad fault) place next s0 s1 s2 p0 p1 p2 m0 m1 m2 n0 n1 n2 c0 c1 c2 begun calm k lines before a places =
    let t = input_of line false in
    let w = run (opened mode) inputs in
    let e = effect place t in
    let world = world-behind mode inputs t place k.whole k.stands in
    let count : place.lines + 1 ≡ length (inputs ++ t ∷ []) = ap (λ i. i + 1) k.counted ∙ sym (length_push inputs t) in
    let bad : IsBad mode fault (place.lines + 1) (inputs ++ t ∷ []) bytes left = record {
      others = inputs;
      last = t;
      split = refl;
      ran = k.whole;
      ended = ap (λ (x : World). x.fault) world ∙ a.0;
      at = count;
      lines = subst (λ ls. AreScript mode.generated ls bytes left) (sym (lines-push inputs t)) lines;
    } in (
      inputs ++ t ∷ [],
      record {
        comes = (begun, inl bad);
        calm = calm;
        line = refl;
        sent = subst (Took (sunk s0 s2 m0 m2)) (sym (ap (λ (x : World). x.sent) world)) (took-then s0 s1 s2 m0 m1 m2 w.sent e.sent k.sent a.1);
        told = subst (Took (sunk p0 p2 n0 n2)) (sym (ap (λ (x : World). x.told) world)) (took-then p0 p1 p2 n0 n1 n2 w.told e.told k.told a.2);
        spent = hand-spent mode inputs place line false c0 c1 c2 k.whole k.stands k.spent places;
      },
    )
halts-at given mode inputs line bytes left q0 q1 halts.NoMemory place next s0 s1 s2 p0 p1 p2 m0 m1 m2 n0 n1 n2 c0 c1 c2 begun calm k lines before a places =
    let w = run (opened mode) inputs in (
      inputs,
      record {
        comes = (begun, (k.whole, before));
        calm = calm;
        line = refl;
        sent = took-still s0 s1 s2 m0 m1 m2 w.sent k.sent a.0;
        told = took-still p0 p1 p2 n0 n1 n2 w.told k.told a.1;
        spent = let one = k.spent in let other = places in omega arith;
      },
    )
halts-at given mode inputs line bytes left q0 q1 halts.ScreenBroke place next s0 s1 s2 p0 p1 p2 m0 m1 m2 n0 n1 n2 c0 c1 c2 begun calm k lines before a places =
    let w = run (opened mode) inputs in
    let t = input_of line false in
    let hand = in-hand given mode inputs place line bytes left begun k.whole k.stands lines a.0 in (
      inputs,
      record {
        line = line;
        hand = hand;
        calm = calm;
        sent = subst (λ (x : Standing). Broke (sunk s0 s2 m0 m2) w.sent (effect x t).sent) (sym k.stands) (broke-after s0 s1 s2 m0 m1 m2 w.sent (effect place t).sent k.sent a.1);
        told = took-still p0 p1 p2 n0 n1 n2 w.told k.told a.2;
        spent = hand-spent mode inputs place line false c0 c1 c2 k.whole k.stands k.spent places;
      },
    )
halts-at given mode inputs line bytes left q0 q1 halts.ReportBroke place next s0 s1 s2 p0 p1 p2 m0 m1 m2 n0 n1 n2 c0 c1 c2 begun calm k lines before a places =
    let w = run (opened mode) inputs in
    let t = input_of line a.0 in
    let hand = in-hand given mode inputs place line bytes left begun k.whole k.stands lines a.1 in
    let mode_is : (effect place t).now.mode ≡ mode = (effect-goes place t).1 ∙ k.under in (
      inputs,
      record {
        t = t;
        hand = hand;
        calm = calm;
        sent = subst (λ (x : Standing). Took (sunk s0 s2 m0 m2) (w.sent ++ (effect x t).sent)) (sym k.stands) (took-then s0 s1 s2 m0 m1 m2 w.sent (effect place t).sent k.sent a.2);
        told = subst (λ (x : Standing). Broke (sunk p0 p2 n0 n2) w.told (effect x t).told) (sym k.stands) (broke-after p0 p1 p2 n0 n1 n2 w.told (effect place t).told k.told a.3);
        tells = subst (λ (x : Mode). IsToldOf x.generated a.0) mode_is a.4;
        spent = hand-spent mode inputs place line a.0 c0 c1 c2 k.whole k.stands k.spent places;
      },
    )
