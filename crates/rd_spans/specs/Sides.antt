-- How the values are kept: runs on both sides of a gap. Each run reaches from the end of the one before it to its own. The runs behind the
-- gap count from the last position with a value backwards.
use Rattle.std.specs.Prelude.{◌≡◌, ℕ, ◌+◌, ◌-◌, ◌<◌, ◌≤◌, nat_lt, nat_eq, Bool, false, if◌then◌else◌, List, [], ◌∷◌, ◌++◌, length, min, replicate, reverse, take, fold, Option, None, Some}
use Rattle.std.specs.List.{last_or}
use Rattle.std.specs.Option.{option_eq}
use Rattle.rd_spans.specs.declared.run.ValueRun.{ValueRun}
use Rattle.rd_spans.specs.declared.side.TheConstants.{LIMIT}
use Rattle.rd_spans.specs.Values.{IsTrimmed}

-- the values that runs give the places from one on
abbrev pub values_from : ℕ → List ValueRun → List (Option ℕ)
values_from k [] = []
values_from k (r ∷ rs) = replicate (r.end - k) r.value ++ values_from r.end rs

abbrev pub values_of : List ValueRun → List (Option ℕ)
values_of runs = values_from 0 runs

-- each run ends behind the one before it
abbrev pub Rises : ℕ → List ValueRun → Type 0
Rises k [] = Unit {0}
Rises k (r ∷ rs) = (k < r.end) × Rises r.end rs

-- where the last run ends, and this place where there is none
abbrev pub reach : ℕ → List ValueRun → ℕ
reach k rs = fold (λ _ (r : ValueRun). r.end) k rs

abbrev pub size_of : List ValueRun → ℕ
size_of runs = reach 0 runs

-- the value of the first run that ends behind a place
abbrev pub value_in : List ValueRun → ℕ → Option ℕ
value_in [] p = None
value_in (r ∷ rs) p = if nat_lt p r.end then r.value else value_in rs p

-- the last of these runs, if there is one
abbrev pub top : List ValueRun → Option ValueRun
top rs = last_or None rs

-- whether a run that may be there has a value
abbrev pub has_value : Option ValueRun → Option ℕ → Bool
has_value None value = false
has_value (Some r) value = option_eq nat_eq r.value value

-- whether two runs that may be there have one value
abbrev pub meet : Option ValueRun → Option ValueRun → Bool
meet a None = false
meet a (Some r) = has_value a r.value

-- how many runs each side needs room for, wherever the gap moves: all of both, and one more unless the gap stands inside a run
abbrev pub needs : List ValueRun → List ValueRun → ℕ
needs front back = length front + length back + (if meet (top front) (top back) then 0 else 1)

-- the values of both sides together
abbrev pub values_of_both : List ValueRun → List ValueRun → List (Option ℕ)
values_of_both front back = values_of front ++ reverse (values_of back)

-- runs went from the end of one side to the end of the other
pub record AreMoved (from to from_new to_new : List ValueRun) : Type 0 where
  pub same : values_of_both from_new to_new ≡ values_of_both from to
  pub from_rises : Rises 0 from_new
  pub to_rises : Rises 0 to_new
  pub needs : needs from_new to_new ≤ needs from to

-- both sides, where the gap is at a position or at the end
pub record AtGap (front back : List ValueRun) (pos : ℕ) : Type 0 where
  pub front_rises : Rises 0 front
  pub back_rises : Rises 0 back
  pub gap : size_of front ≡ min pos (size_of front + size_of back)

-- the gap moved to a position, or to the end where that comes before
pub record GapMoved (front back front_new back_new : List ValueRun) (pos : ℕ) : Type 0 where
  pub same : values_of_both front_new back_new ≡ values_of_both front back
  pub at : AtGap front_new back_new pos
  pub needs : needs front_new back_new ≤ needs front back
  pub size : size_of front_new + size_of back_new ≡ size_of front + size_of back

-- the runs of a side whose last places were taken away
pub record IsCut (runs new : List ValueRun) (n : ℕ) : Type 0 where
  pub rises : Rises 0 new
  pub values : values_of new ≡ take (size_of runs - n) (values_of runs)
  pub size : size_of new ≡ size_of runs - n

-- a side has no more runs than before, and with it no side needs more room
pub record IsLighter (runs new : List ValueRun) : Type 0 where
  pub needs : (other : List ValueRun) → needs other new ≤ needs other runs
  pub count : length new ≤ length runs

-- the runs of both sides, over no more places than there are positions
pub record AreRuns (front back : List ValueRun) : Type 0 where
  pub front_rises : Rises 0 front
  pub back_rises : Rises 0 back
  pub few : size_of front + size_of back ≤ LIMIT

-- the runs of both sides, and room for them on each
pub record HaveRoom (front back : List ValueRun) (front_room back_room : ℕ) : Type 0 where
  pub runs : AreRuns front back
  pub front_holds : needs front back ≤ front_room
  pub back_holds : needs front back ≤ back_room

-- what both sides always keep, where they have so much room
pub record AreSides (front back : List ValueRun) (front_room back_room : ℕ) : Type 0 where
  pub rooms : HaveRoom front back front_room back_room
  pub trimmed : IsTrimmed (values_of_both front back)
