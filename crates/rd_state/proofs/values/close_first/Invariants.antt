use Rattle.std.proofs.Common.{◌≡◌, ℕ, nat_lt, if◌then◌else◌}
use Rattle.rd_props.specs.Buffers.{values_of}
use Rattle.rd_props.specs.Edits.{closed}
use Rattle.rd_state.proofs.values.close_first.Given as goal

-- the kinds so far are closed, and the others are as they were
abbrev pub invariant-loop-kind : goal.invariant-loop-kind
invariant-loop-kind l = (kind p : ℕ) → values_of l.spans kind p
    ≡ (if nat_lt kind l.kind then closed (values_of l.initial.spans) l.from l.to kind p else values_of l.initial.spans kind p)
