use Rattle.std.proofs.Common.{◌≡◌, ◌≤◌, ◌∷◌, [], List, Option, Some, Ok, ℕ, length, refl, sym, ap, subst, ◌∙◌}
use Rattle.std.specs.Prelude.{IfSome}
use Rattle.rd_base.specs.declared.limits.TheConstants.{STREAM_BYTES}
use Rattle.rd_run.specs.Alike.{End}
use Rattle.rd_run.specs.Runs.{Mode, opened, run}
use Rattle.rd_term.specs.Pictures.{Picture}
use Rattle.rd_audit.proofs.Judging.{judged-yes, only-yes}
use Rattle.rd_audit.proofs.Recorded.{reported-dump, reported-shown, same_terminal}
use Rattle.rd_audit.specs.Dumps.{dump_in}
use Rattle.rd_audit.specs.Recorded.{IsReported, recorded, screen_behind}
use Rattle.rd_audit.specs.Verdicts.{IsSound, terminal_after}
use Rattle.rd_audit.proofs.law.last_dumps_are_judged.Goals as goal

dump : goal.After-a_session_stands_behind_each_line → (e : End) (mode : Mode) (file : List ℕ) (h : IsReported e mode file) → dump_in file ≡ Ok (screen_behind mode h.last.before)
dump c e mode file h = reported-dump c.a_session_stands_behind_each_line.ensures e mode file h

sound : (stream file name : List ℕ) (told : List ℕ → Option (List ℕ)) (e : End) (mode : Mode) (screen : Picture) → IsReported e mode file → told name ≡ Some file
    → length stream ≤ STREAM_BYTES → dump_in file ≡ Ok screen → IsSound (name ∷ []) told (Some stream)
sound stream file name told e mode screen h t short good = record {
  name = name;
  file = file;
  dump = screen;
  stream = stream;
  word = refl;
  contents = t;
  small = h.small;
  good = good;
  bytes = refl;
  short = short;
}

pub returns-clause-dump : goal.returns-clause-dump
returns-clause-dump c e mode file h = dump c e mode file h

pub returns-clause-yes : goal.returns-clause-yes
returns-clause-yes c e mode stream file name told h t short shows =
    let told_so = subst (λ o. IfSome o (λ bytes. file ≡ bytes)) (sym t) refl in
    (name, refl, (screen_behind mode h.last.before, (file, (h.small, told_so), dump c e mode file h), ((short, refl), shows)))

pub returns-clause-judged : goal.returns-clause-judged
unfolding sound
returns-clause-judged c e mode stream file name told verdict bytes left h t short taken comes read found =
    let s = sound stream file name told e mode (screen_behind mode h.last.before) h t short (dump c e mode file h) in (
      λ yes. judged-yes verdict (name ∷ []) told (Some stream) left bytes s taken comes yes,
      λ shows. only-yes verdict (name ∷ []) told (Some stream) left bytes s shows taken comes read found,
    )

pub returns-clause-terminal : goal.returns-clause-terminal
returns-clause-terminal c e mode file h none =
    let last = h.last in
    let screen = screen_behind mode last.before in
    let same = same_terminal c.a_session_stands_behind_each_line.ensures mode last.before last.redisplay last.behind (reported-shown e mode file h) none in
    ap (λ ts. terminal_after screen (recorded mode ts)) last.split ∙ (same ∙ ap (λ ts. (run (opened mode) ts).terminal) (sym last.split))
