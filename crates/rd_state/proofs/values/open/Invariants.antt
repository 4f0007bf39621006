use Rattle.std.proofs.Common.{◌≡◌, ℕ, nat_lt, if◌then◌else◌}
use Rattle.rd_props.specs.Buffers.{values_of}
use Rattle.rd_props.specs.Edits.{opened}
use Rattle.rd_state.proofs.values.open.Given as goal

-- the kinds so far are opened, and the others are as they were
abbrev pub invariant-loop-kind : goal.invariant-loop-kind
invariant-loop-kind l = (kind p : ℕ) → values_of l.spans kind p
    ≡ (if nat_lt kind l.kind then opened (values_of l.initial.spans) l.pos l.n kind p else values_of l.initial.spans kind p)
