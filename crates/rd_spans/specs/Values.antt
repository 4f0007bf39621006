-- A value for each position: a list from position 0 on. A position that it does not reach has none.
use Rattle.std.specs.Prelude.{◌≡◌, ℕ, ◌+◌, ◌-◌, ◌<◌, ◌≤◌, nat_lt, if◌then◌else◌, List, length, slice_index_or, Option, None, Some}
use Rattle.rd_base.specs.Lists.{is_between}
use Rattle.rd_spans.specs.declared.side.TheConstants.{LIMIT}

-- the value of a position
abbrev pub value_at : List (Option ℕ) → ℕ → Option ℕ
value_at values p = slice_index_or values p None

-- the values of positions after a value was put from one position up to another
abbrev pub values_put : (ℕ → Option ℕ) → ℕ → ℕ → Option ℕ → ℕ → Option ℕ
values_put values from to value p = if is_between from to p then value else values p

-- the values of positions after so many positions without a value were opened
abbrev pub values_opened : (ℕ → Option ℕ) → ℕ → ℕ → ℕ → Option ℕ
values_opened values pos n p = if nat_lt p pos then values p else if nat_lt p (pos + n) then None else values (p - n)

-- the values of positions after those from one up to another were taken away
abbrev pub values_closed : (ℕ → Option ℕ) → ℕ → ℕ → ℕ → Option ℕ
values_closed values from to p = if nat_lt p from then values p else values (p + (to - from))

-- each position with a value can move on by so many
abbrev pub CanMove : List (Option ℕ) → ℕ → Type 0
CanMove values n = (p v : ℕ) → value_at values p ≡ Some v → p + n < LIMIT

-- the least later position whose value differs from that of a position, where that is a position
abbrev pub IsNextChange : List (Option ℕ) → ℕ → Option ℕ → Type 0
IsNextChange values p None = (q : ℕ) → p < q → q < LIMIT → value_at values q ≡ value_at values p
IsNextChange values p (Some q) =
    (p < q) × (q < LIMIT) × (value_at values q ≡ value_at values p → ⊥)
    × ((r : ℕ) → p < r → r < q → value_at values r ≡ value_at values p)

-- the first of the positions up to one that all have its value
pub record IsFirstAlike (values : List (Option ℕ)) (p first : ℕ) : Type 0 where
  pub before : first ≤ p
  pub same : (q : ℕ) → first ≤ q → q ≤ p → value_at values q ≡ value_at values p
  pub reason : 0 < first → value_at values (first - 1) ≡ value_at values p → ⊥

-- the list reaches no further than to the last position with a value
abbrev pub IsTrimmed : List (Option ℕ) → Type 0
IsTrimmed values = (p : ℕ) → p + 1 ≡ length values → value_at values p ≡ None → ⊥
