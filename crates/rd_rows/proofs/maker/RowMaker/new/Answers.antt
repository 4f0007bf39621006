use Rattle.std.proofs.Common.{refl, arith}
use Rattle.rd_rows.specs.Rows.{cutting_of}
use Rattle.rd_rows.proofs.Fitting.{prefix-leads}
use Rattle.rd_rows.proofs.Made.{fresh-is, fresh-whole, fresh-making}
use Rattle.rd_rows.proofs.maker.RowMaker.new.Goals as goal

pub invariant_of-result : goal.invariant_of-result
invariant_of-result c =
    rw (c.line_start.ensures, c.new.ensures, c.in_ok-first.ensures, c.in_ok-wrap.ensures) (
      omega arith,
      fresh-making (cutting_of c.args.shape c.args.base c.args.first.now c.args.wrap.now c.args.truncation c.args.continuation) (record {
        first = prefix-leads c.args.shape c.args.first.now (omega arith) c.requires.first;
        wrap = prefix-leads c.args.shape c.args.wrap.now (omega arith) c.requires.wrap;
      }) (omega arith),
    )

pub returns-clause-fresh : goal.returns-clause-fresh
returns-clause-fresh c =
    fresh-is (cutting_of c.args.shape c.args.base c.args.first.now c.args.wrap.now c.args.truncation c.args.continuation) _ (rw (c.line_start.ensures, c.new.ensures, c.in_ok-first.ensures, c.in_ok-wrap.ensures) refl)

pub returns-clause-whole : goal.returns-clause-whole
returns-clause-whole c = λ h k a b es sound measured.
    fresh-whole c.args.shape c.args.base c.args.first.now c.args.wrap.now c.args.truncation c.args.continuation _
    (fresh-is (cutting_of c.args.shape c.args.base c.args.first.now c.args.wrap.now c.args.truncation c.args.continuation) _ (rw (c.line_start.ensures, c.new.ensures, c.in_ok-first.ensures, c.in_ok-wrap.ensures) refl))
    h k a b es sound measured (omega arith) (omega arith)
