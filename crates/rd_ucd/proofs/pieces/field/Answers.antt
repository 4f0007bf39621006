use Rattle.std.proofs.Common.{◌≡◌, ◌<◌, ◌≤◌, ◌==◌, ℕ, List, [], length, get_or, Option, None, Some, sym, rules, tests}
use Rattle.std.specs.Prelude.{MatchOption, option_map, slice_get}
use Rattle.std.specs.Borrow.{Bor}
use Rattle.std.proofs.lemmas.Iterator.Consumers.{nth_from_yields_List}
use Rattle.std.proofs.lemmas.Iterator.Splits.{YieldsList-from_slice_split}
use Rattle.std.proofs.lemmas.Option.{slice_get_within, get_or_from_slice_get}
use Rattle.rd_base.proofs.Lists.{ended}
use Rattle.rd_ucd.specs.Lines.{fields_of}
use Rattle.rd_ucd.proofs.pieces.field.Goals as goal

-- what a place of a list has
told : (fields : List (List ℕ)) (i : ℕ) (found : Option (Bor (List ℕ))) → option_map (λ x. x.now) found ≡ slice_get fields i
    → MatchOption found (length fields ≤ i) (λ field. (i < length fields) × (get_or fields i [] ≡ field.now))
told fields i None e = ended fields i (sym e)
told fields i (Some field) e = (slice_get_within fields i field.now (sym e), get_or_from_slice_get fields i field.now [] (sym e))

pub returns : goal.returns
returns c =
    told (fields_of c.args.line.now) c.args.index c.nth.result
    (nth_from_yields_List c.nth.result c.nth.new.self c.args.index c.nth.ensures.ran
    (YieldsList-from_slice_split _ (λ b. b == 59) c.args.line.now c.split.ensures.rest c.split.ensures.done c.split.ensures.closure (λ x b q k. search (rules, tests))))
