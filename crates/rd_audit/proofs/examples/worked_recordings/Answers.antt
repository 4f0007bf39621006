use Rattle.std.proofs.Common.{◌≡◌, [], inl, true, false, refl, arith}
use Rattle.std.proofs.lemmas.Bool.{leb-true}
use Rattle.rd_run.proofs.OnRuns.{on_lines}
use Rattle.rd_run.specs.Ends.{AreInLimits, IsWhole, lines_in}
use Rattle.rd_run.specs.Given.{IsMode}
use Rattle.rd_run.specs.Runs.{opened}
use Rattle.rd_run.specs.declared.status.Status.TheVariants.{Done}
use Rattle.rd_audit.specs.Examples.{before_redisplay, empty_files, redisplay, short_end, short_inputs, short_mode, short_report}
use Rattle.rd_audit.specs.Recorded.{EndsShown}
use Rattle.rd_audit.proofs.examples.worked_recordings.Goals as goal

begun : IsMode (empty_files true) (short_mode true)
begun = record { words = _; said = refl; files = ([], [], [], refl, refl, refl, refl); dumps = refl; generated = refl }

limits : AreInLimits (lines_in short_inputs)
limits = record { short = (leb-true _ _ refl, (leb-true _ _ refl, (leb-true _ _ refl, tt))); few = leb-true _ _ refl }

whole : let e = short_end true short_report in IsWhole e.given e.mode Done e.inputs e.bytes e.source e.screen e.report e.steps
unfolding on_lines
whole = record {
  comes = (begun, (refl, (limits, refl, refl)));
  calm = (λ file. refl, refl);
  sent = record { wrote = refl; kept = refl };
  told = record { wrote = refl; kept = refl };
  spent = omega arith;
}

shown : EndsShown (opened (short_mode true)) short_inputs
unfolding on_lines
shown = record { before = before_redisplay; redisplay = redisplay; behind = []; split = refl; shown = refl; leave = tt }

pub returns-clause-dumped : goal.returns-clause-dumped
unfolding on_lines
returns-clause-dumped c = record {
  begun = refl;
  dumps = refl;
  read = refl;
  ended = inl (tt, whole);
  ends = shown;
  sent = refl;
  told = refl;
  contents = refl;
  small = leb-true _ _ refl;
  short = leb-true _ _ refl;
}

pub returns-clause-told : goal.returns-clause-told
unfolding on_lines
returns-clause-told c = refl

pub returns-clause-bare : goal.returns-clause-bare
returns-clause-bare c h = let dumps : false ≡ true = h.dumps in absurd (cc)

pub returns-clause-dumpless : goal.returns-clause-dumpless
unfolding on_lines
returns-clause-dumpless c = refl
