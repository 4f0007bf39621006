-- What the line of an op does.
use Rattle.std.proofs.Common.{◌≡◌, ℕ, ◌+◌, inl, inr, Bool, true, false, List, [], ◌++◌, Option, None, is_some, if◌then◌else◌, OnErr, Result, Ok, Err, refl, sym, ap, ◌∙◌, subst}
use Rattle.std.specs.Io.KnownBytes.{Appends}
use Rattle.rd_io.specs.Devices.{AppendsFront, Prints, Rose}
use Rattle.rd_io.specs.declared.traits.Failed.{Failed}
use Rattle.rd_layout.specs.Copies.{redisplayed as redisplayed_session, without_copies}
use Rattle.rd_layout.specs.Facts.{facts_of}
use Rattle.rd_layout.specs.Redisplays.{IsSent, update_of}
use Rattle.rd_layout.specs.Sessions.{SessionValue}
use Rattle.rd_run.proofs.Effects.{is-sent}
use Rattle.rd_run.specs.Ends.{Sunk, sunk}
use Rattle.rd_run.specs.Reports.{no_memory_line, shown_line, stopped_line}
use Rattle.rd_run.specs.Runs.{Mode, Standing, asked, dump_lines, effect_by, effect_of_op, redisplayed, told_of, unshown}
use Rattle.rd_script.specs.declared.op.Op.{Op}
use Rattle.rd_player.specs.Acts.{Acts, BearsIt, GivesUp, IsTold}
use Rattle.rd_player.proofs.Running.{took-none}
use Rattle.rd_player.specs.declared.halt.Halt.{Halt}
use Rattle.rd_player.specs.declared.halt.Halt.TheVariants as halts

-- how often rows were copied changes nothing that is told
abbrev pub CopyLaw : Type 0
CopyLaw = (v : SessionValue) → facts_of (without_copies v) ≡ facts_of v

-- where a run stands, part by part
abbrev pub stand : Bool → Option ℕ → ℕ → ℕ → SessionValue → Standing
stand dumps generated lines shown v = record { mode = record { files = v.files; dumps = dumps; generated = generated }; session = without_copies v; lines = lines; shown = shown }

-- an op, by what it asks for
pub op-acts : (result : Result Unit Halt) (place next : Standing) (op : Op) (screen report : Sunk) (answer asks : Option (Option ℕ)) → answer ≡ asked op → answer ≡ asks
    → Acts result (λ starved. effect_by asks starved place op) next screen report → Acts result (λ starved. effect_of_op starved place op) next screen report
op-acts result place next op screen report answer asks p q h =
    subst (λ o. Acts result (λ starved. effect_by o starved place op) next screen report) (sym (sym p ∙ q)) h

-- ---- want of memory

-- what bears want of memory does not give an op up
pub borne : (result : Result Unit Halt) (op : Op) → BearsIt result → GivesUp result op
borne (Ok x) op h = tt
borne (Err halts.NoMemory) op h = absurd h
borne (Err halt) op h = tt

pub told-borne : (answer : Result Unit Failed) (result : Result Unit Halt) → IsTold answer result → BearsIt result
told-borne (Ok x) result told = subst BearsIt (sym told) tt
told-borne (Err x) result told = subst BearsIt (sym told) tt

-- ---- a redisplay

-- however often rows were copied, the report is told what the effect tells
told-same : (law : CopyLaw) (mode : Mode) (number rows : ℕ) (done : Bool) (old new : SessionValue) (stop : Option ℕ) → without_copies new ≡ redisplayed_session old stop
    → rows ≡ (update_of old stop).rows → (update_of old stop).done ≡ done
    → told_of mode number done rows new ≡ told_of mode number (update_of old stop).done (update_of old stop).rows (redisplayed_session old stop)
told-same law mode number rows done old new stop same count whole =
    let current : new.current ≡ (redisplayed_session old stop).current = ap (λ (v : SessionValue). v.current) same in
    let facts : facts_of new ≡ facts_of (redisplayed_session old stop) = sym (law new) ∙ ap facts_of same in
    let is : done ≡ (update_of old stop).done = sym whole in
    λ i. if is_some mode.generated then [] else if is i then shown_line number (count i) ++ dump_lines mode.dumps (current i) (facts i) else stopped_line number (count i)

-- a redisplay was sent as far as it goes, and the report was told of it or broke
pub sent-acts : (law : CopyLaw) (answer : Result Unit Failed) (result : Result Unit Halt) (dumps : Bool) (generated : Option ℕ) (lines shown : ℕ) (old new : SessionValue) (stop : Option ℕ) (rows : ℕ) (done : Bool)
    (next : Standing) (s0 s1 r0 r1 : Option (List ℕ)) (m0 m1 n0 n1 : ℕ) → m1 ≡ m0 → next ≡ stand dumps generated (lines + 1) (if done then shown + 1 else shown) new
    → IsTold answer result → without_copies new ≡ redisplayed_session old stop → IsSent rows done stop old new s0 s1
    → Prints r0 r1 n0 n1 (told_of (stand dumps generated lines shown new).mode (lines + 1) done rows new) answer → OnErr answer (generated ≡ None)
    → Acts result (λ starved. if starved then unshown (stand dumps generated lines shown old) else redisplayed (stand dumps generated lines shown old) stop)
    next (sunk s0 s1 m0 m1) (sunk r0 r1 n0 n1)
sent-acts law (Ok x) result dumps generated lines shown old new stop rows done next s0 s1 r0 r1 m0 m1 n0 n1 kept stands told same h prints read =
    let place = stand dumps generated lines shown old in
    let counts : (if done then shown + 1 else shown) ≡ (redisplayed place stop).now.shown = ap (λ d. if d then shown + 1 else shown) (sym h.whole) in
    let now : stand dumps generated (lines + 1) (if done then shown + 1 else shown) new ≡ (redisplayed place stop).now =
    λ i. record { mode = record { files = h.files i; dumps = dumps; generated = generated }; session = same i; lines = lines + 1; shown = counts i } in
    subst (λ (r : Result Unit Halt). Acts r (λ starved. if starved then unshown place else redisplayed place stop) next (sunk s0 s1 m0 m1) (sunk r0 r1 n0 n1)) (sym told) (
      false,
      refl,
      stands ∙ now,
      record { wrote = h.bytes; kept = kept },
      record { wrote = subst (Appends r0 r1) (told-same law place.mode (lines + 1) rows done old new stop same h.count h.whole) prints.bytes.whole; kept = prints.kept },
    )
sent-acts law (Err x) result dumps generated lines shown old new stop rows done next s0 s1 r0 r1 m0 m1 n0 n1 kept stands told same h prints read =
    let place = stand dumps generated lines shown old in
    let u = update_of old stop in
    let front = subst (AppendsFront r0 r1) (told-same law place.mode (lines + 1) rows done old new stop same h.count h.whole) prints.bytes.front in
    subst (λ (r : Result Unit Halt). Acts r (λ starved. if starved then unshown place else redisplayed place stop) next (sunk s0 s1 m0 m1) (sunk r0 r1 n0 n1)) (sym told)
    (false, is-sent u.done u.rows, record { wrote = h.bytes; kept = kept }, record { rose = prints.failed; front = front }, inl read)

-- a redisplay found no memory
pub starved-acts : (answer : Result Unit Failed) (result : Result Unit Halt) (dumps : Bool) (generated : Option ℕ) (lines shown : ℕ) (old new : SessionValue) (stop : Option ℕ)
    (s0 s1 r0 r1 : Option (List ℕ)) (m0 m1 n0 n1 : ℕ) → m1 ≡ m0 → IsTold answer result → new ≡ record old { current = None } → Appends s0 s1 []
    → Prints r0 r1 n0 n1 (no_memory_line (lines + 1)) answer
    → Acts result (λ starved. if starved then unshown (stand dumps generated lines shown old) else redisplayed (stand dumps generated lines shown old) stop) (stand dumps generated (lines + 1) shown new)
    (sunk s0 s1 m0 m1) (sunk r0 r1 n0 n1)
starved-acts (Ok x) result dumps generated lines shown old new stop s0 s1 r0 r1 m0 m1 n0 n1 kept told becomes sent prints =
    let place = stand dumps generated lines shown old in
    let next = stand dumps generated (lines + 1) shown new in
    let now : next ≡ (unshown place).now = ap (stand dumps generated (lines + 1) shown) becomes in
    subst (λ (r : Result Unit Halt). Acts r (λ starved. if starved then unshown place else redisplayed place stop) next (sunk s0 s1 m0 m1) (sunk r0 r1 n0 n1)) (sym told)
    (true, refl, now, record { wrote = sent; kept = kept }, record { wrote = prints.bytes.whole; kept = prints.kept })
starved-acts (Err x) result dumps generated lines shown old new stop s0 s1 r0 r1 m0 m1 n0 n1 kept told becomes sent prints =
    let place = stand dumps generated lines shown old in
    let next = stand dumps generated (lines + 1) shown new in
    let u = update_of old stop in
    subst (λ (r : Result Unit Halt). Acts r (λ starved. if starved then unshown place else redisplayed place stop) next (sunk s0 s1 m0 m1) (sunk r0 r1 n0 n1)) (sym told)
    (true, is-sent u.done u.rows, record { wrote = sent; kept = kept }, record { rose = prints.failed; front = prints.bytes.front }, inr refl)

-- the screen broke
pub broke-acts : (dumps : Bool) (generated : Option ℕ) (lines shown : ℕ) (next : Standing) (old : SessionValue) (stop : Option ℕ) (s0 s1 r : Option (List ℕ)) (m0 m1 n : ℕ)
    → AppendsFront s0 s1 (update_of old stop).bytes → Rose m0 m1
    → Acts (Err halts.ScreenBroke) (λ starved. if starved then unshown (stand dumps generated lines shown old) else redisplayed (stand dumps generated lines shown old) stop) next
    (sunk s0 s1 m0 m1) (sunk r r n n)
broke-acts dumps generated lines shown next old stop s0 s1 r m0 m1 n front rose =
    let u = update_of old stop in (is-sent u.done u.rows, record { rose = rose; front = front }, took-none r n)
