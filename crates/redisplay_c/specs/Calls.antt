-- What a call does to what a slot holds, and what it tells.
use Rattle.std.specs.Prelude.{◌≡◌, ℕ, Option, None, Some}
use Rattle.rd_embed.specs.Statuses.{code_of}
use Rattle.rd_embed.specs.declared.embedded.Embedded.{Embedded}
use Rattle.rd_embed.specs.declared.shown.Shown.{Shown}
use Rattle.rd_embed.specs.declared.status.Status.{Status}
use Rattle.rd_embed.specs.declared.status.Status.TheVariants.{Done, NotOpen, NotThere}
use Rattle.redisplay_c.specs.declared.showing.ShownRows.{ShownRows}

-- ---- calls that change a session

-- a call takes an open session to another one by a step, and tells the step's status by its number
pub record Steps (Step : Status → Embedded → Embedded → Type 0) (told : ℕ) (old new : Embedded) : Type 0 where
  pub status : Status
  pub number : told ≡ code_of status
  pub step : Step status old new

-- the same of a slot: a closed one stays closed, and is told to be
abbrev pub Calls : (Status → Embedded → Embedded → Type 0) → ℕ → Option Embedded → Option Embedded → Type 0
Calls Step told (Some old) (Some new) = Steps Step told old new
Calls Step told None None = told ≡ code_of NotOpen
Calls Step told old new = ⊥

-- the same of a line and of a redisplay, which tell a number of rows too
pub record ShowSteps (Step : Shown → Embedded → Embedded → Type 0) (told : ShownRows) (old new : Embedded) : Type 0 where
  pub shown : Shown
  pub number : told.status ≡ code_of shown.status
  pub count : told.rows ≡ shown.rows
  pub step : Step shown old new

abbrev pub ShowCalls : (Shown → Embedded → Embedded → Type 0) → ShownRows → Option Embedded → Option Embedded → Type 0
ShowCalls Step told (Some old) (Some new) = ShowSteps Step told old new
ShowCalls Step told None None = (told.status ≡ code_of NotOpen) × (told.rows ≡ 0)
ShowCalls Step told old new = ⊥

-- the same of a call that answers a number and no status; of a closed slot it answers this number
abbrev pub Counts : (Embedded → Embedded → Type 0) → ℕ → ℕ → Option Embedded → Option Embedded → Type 0
Counts Step of_closed told (Some old) (Some new) = Step old new
Counts Step of_closed told None None = told ≡ of_closed
Counts Step of_closed told old new = ⊥

-- ---- calls that read

-- what is found stands in the caller's place for it; where there is nothing this is told, and the place is as it was
abbrev pub IsGiven : {A : Type 0} → Option A → Status → A → A → Type 0
IsGiven (Some x) status before after = (status ≡ Done) × (after ≡ x)
IsGiven None status before after = (status ≡ NotThere) × (after ≡ before)

-- a call gives what it finds in an open session
pub record Gives {A : Type 0} (Finds : Option A → Embedded → Type 0) (told : ℕ) (before after : A) (held : Embedded) : Type 0 where
  pub found : Option A
  pub finds : Finds found held
  pub status : Status
  pub number : told ≡ code_of status
  pub given : IsGiven found status before after

-- the same of a slot, in which nothing changes; a closed one is told to be, and the caller's place is as it was
abbrev pub Looks : {A : Type 0} → (Option A → Embedded → Type 0) → ℕ → A → A → Option Embedded → Option Embedded → Type 0
Looks Finds told before after (Some old) (Some new) = (new ≡ old) × Gives Finds told before after old
Looks Finds told before after None None = (told ≡ code_of NotOpen) × (after ≡ before)
Looks Finds told before after old new = ⊥
