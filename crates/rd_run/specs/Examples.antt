-- Runs of ops, on which the definitions are worked out.
use Rattle.std.specs.Prelude.{ℕ, Bool, false, Option, None, List, [], ◌∷◌, ◌++◌}
use Rattle.std.specs.Option.{option_or}
use Rattle.rd_blocks.specs.Examples.{files}
use Rattle.rd_script.specs.declared.op.Op.{Op}
use Rattle.rd_run.specs.Runs.{Standing, effect_of_op, opened}
use Rattle.rd_run.specs.declared.status.ScriptFault.{ScriptFault}

-- what lines with these ops write to the report, each of whose redisplays finds memory
abbrev pub told_from : Standing → List Op → List ℕ
told_from now [] = []
told_from now (op ∷ ops) = (effect_of_op false now op).told ++ told_from (effect_of_op false now op).now ops

-- a run that begins, with dumps or without
abbrev pub begun : Bool → Standing
begun dumps = (opened (record { files = files; dumps = dumps; generated = None })).now

abbrev pub told_by : Bool → List Op → List ℕ
told_by dumps ops = told_from (begun dumps) ops

-- why the first bad line with one of these ops is bad, all of whose redisplays find memory, or none
abbrev pub fault_from : Bool → Standing → List Op → Option ScriptFault
fault_from starved now [] = None
fault_from starved now (op ∷ ops) = option_or (effect_of_op starved now op).fault (fault_from starved (effect_of_op starved now op).now ops)

abbrev pub fault_by : Bool → List Op → Option ScriptFault
fault_by starved ops = fault_from starved (begun false) ops
