use Rattle.std.proofs.Common.{◌≡◌, ◌∷◌, [], List, Option, Some, ℕ, refl, sym, subst}
use Rattle.std.specs.Prelude.{IfSome}
use Rattle.rd_run.specs.Alike.{End}
use Rattle.rd_run.specs.Runs.{Mode, opened}
use Rattle.rd_audit.proofs.Judging.{only-yes}
use Rattle.rd_audit.proofs.Recorded.{Agree, recording-agrees, recording-sent}
use Rattle.rd_audit.proofs.Since.{recorded-read, run-all}
use Rattle.rd_audit.specs.Recorded.{IsRecording}
use Rattle.rd_audit.specs.Verdicts.{IsSound}
use Rattle.rd_audit.proofs.law.recorded_runs_get_yes.Goals as goal

agree : goal.After-a_session_stands_behind_each_line → (e : End) (mode : Mode) (stream file : List ℕ) → IsRecording e mode stream file → Agree stream file
agree c e mode stream file h = recording-agrees c.a_session_stands_behind_each_line.ensures e mode stream file h

sound : (stream file name : List ℕ) (told : List ℕ → Option (List ℕ)) (e : End) (mode : Mode) → IsRecording e mode stream file → told name ≡ Some file → Agree stream file
    → IsSound (name ∷ []) told (Some stream)
sound stream file name told e mode h t a = record {
  name = name;
  file = file;
  dump = a.picture;
  stream = stream;
  word = refl;
  contents = t;
  small = h.small;
  good = a.dump;
  bytes = refl;
  short = h.short;
}

pub returns-clause-terminal : goal.returns-clause-terminal
returns-clause-terminal c mode inputs ran = recorded-read mode inputs (run-all (opened mode) inputs ran) (c.a_session_stands_behind_each_line.ensures.leads mode)

pub returns-clause-screen : goal.returns-clause-screen
returns-clause-screen c e mode stream file h = recording-sent e mode stream file h

pub returns-clause-yes : goal.returns-clause-yes
returns-clause-yes c e mode stream file name told h t =
    let a = agree c e mode stream file h in
    let told_so = subst (λ o. IfSome o (λ bytes. file ≡ bytes)) (sym t) refl in
    (name, refl, (a.picture, (file, (h.small, told_so), a.dump), ((h.short, refl), a.shows)))

pub returns-clause-sound : goal.returns-clause-sound
returns-clause-sound c e mode stream file name told h t = sound stream file name told e mode h t (agree c e mode stream file h)

pub returns-clause-only : goal.returns-clause-only
unfolding sound
returns-clause-only c e mode stream file name told verdict bytes left h t taken comes read found =
    let a = agree c e mode stream file h in
    only-yes verdict (name ∷ []) told (Some stream) left bytes (sound stream file name told e mode h t a) a.shows taken comes read found
