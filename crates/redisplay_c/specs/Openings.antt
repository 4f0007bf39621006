-- The opening of a slot.
use Rattle.std.specs.Prelude.{◌≡◌, ℕ, ◌⊎◌, Option, None, Some}
use Rattle.rd_embed.specs.Statuses.{code_of}
use Rattle.rd_embed.specs.declared.embedded.Embedded.{Embedded}
use Rattle.rd_embed.specs.declared.status.Status.TheVariants.{BadData, Done, NoMemory}

-- there is a session, of which this is so
abbrev pub Holds : (Embedded → Type 0) → Option Embedded → Type 0
Holds Fact (Some held) = Fact held
Holds Fact None = ⊥

-- what the opening of a closed slot tells
abbrev pub IsOpening : ℕ → Type 0
IsOpening told = (told ≡ code_of Done) ⊎ ((told ≡ code_of BadData) ⊎ (told ≡ code_of NoMemory))
