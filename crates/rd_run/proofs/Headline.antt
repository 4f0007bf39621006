-- The laws of all runs, by what each line leads to.
use Rattle.std.proofs.Common.{List, [], ◌∷◌}
use Rattle.rd_run.specs.Runs.{Input, KnowsEach, LeadsOn, ShowsEach, World, run, run_line}

-- what each shown redisplay promises
pub shows-each : (w : World) (ts : List Input) → ((us : List Input) (t : Input) → LeadsOn (run w us) t) → ShowsEach w ts
shows-each w [] h = tt
shows-each w (t ∷ ts) h = let one = h [] t in (one.shows, shows-each (run_line w t) ts (λ us u. h (t ∷ us) u))

-- what each redisplay that was shown or stopped promises
pub knows-each : (w : World) (ts : List Input) → ((us : List Input) (t : Input) → LeadsOn (run w us) t) → KnowsEach w ts
knows-each w [] h = tt
knows-each w (t ∷ ts) h = let one = h [] t in (one.knows, knows-each (run_line w t) ts (λ us u. h (t ∷ us) u))
