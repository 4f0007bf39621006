use Rattle.std.proofs.Common.{◌≢◌, length, option_map, ap, arith}
use Rattle.rd_script.specs.Fields.{whole, word}
use Rattle.rd_script.specs.Objects.{op_run, run_kinds}
use Rattle.rd_script.proofs.Items.{not-four}
use Rattle.rd_script.proofs.object_form.op_run.Goals as goal

pub returns-in_default : goal.returns-in_default
returns-in_default c =
    let other : length c.args.items.now ≢ 4 = omega (arith, c.in_default.len_below) in
    ap (option_map op_run) (not-four whole whole (word run_kinds) whole c.args.items.now other)

pub returns-in_default-2 : goal.returns-in_default-2
returns-in_default-2 c =
    let other : length c.args.items.now ≢ 4 = omega (arith, c.in_default.len_at_least) in
    ap (option_map op_run) (not-four whole whole (word run_kinds) whole c.args.items.now other)
