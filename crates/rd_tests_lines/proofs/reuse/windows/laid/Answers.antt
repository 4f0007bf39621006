use Rattle.std.proofs.Common.{ℕ, sym, subst, arith}
use Rattle.rd_matrix.specs.Sources.{SourceValues, rows_at}
use Rattle.rd_reuse.specs.Views.{Names}
use Rattle.rd_rows.specs.Shapes.{IsShape}
use Rattle.rd_window.specs.Views.{start_row}
use Rattle.rd_window.proofs.Starting.{chosen-named}
use Rattle.rd_tests_lines.proofs.reuse.windows.laid.Given as given
use Rattle.rd_tests_lines.proofs.reuse.windows.laid.Goals as goal
use Rattle.rd_tests_lines.proofs.reuse.windows.laid.Goals.{In_ok-chosen}

-- the start that was chosen names its row
named : (g : given.Over) (c : In_ok-chosen g) → let m = g.B.BlockSource.meaning c.args.source.now in
    Names c.in_ok-chosen.chosen.anchor (rows_at m c.args.shape) (start_row m c.args.shape c.args.wanted)
named g c =
    let m = g.B.BlockSource.meaning c.args.source.now in
    let shaped : IsShape c.args.shape = record { least = omega arith; most = omega arith } in
    chosen-named m c.args.shape c.args.wanted c.in_ok-chosen.chosen (c.a_start_is_a_row.ensures m c.args.shape c.args.wanted c.choose.ensures.source shaped c.requires.point) c.in_ok-chosen.ensures.value

pub relay-requires-clause-row : goal.relay-requires-clause-row
relay-requires-clause-row g c =
    subst (λ (x : SourceValues). (place : ℕ) × Names c.in_ok-chosen.chosen.anchor (rows_at x c.args.shape) place) (sym c.choose.ensures.stays)
    (start_row (g.B.BlockSource.meaning c.args.source.now) c.args.shape c.args.wanted, named g (goal.at.relay-requires-clause-row g c).In_ok-chosen)
