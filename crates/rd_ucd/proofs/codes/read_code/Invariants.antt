use Rattle.std.proofs.Common.{◌≡◌, ◌<◌, drop}
use Rattle.rd_base.specs.declared.limits.TheConstants.{CODE_POINTS}
use Rattle.rd_ucd.specs.Codes.{number_from, in_range}
use Rattle.rd_ucd.proofs.codes.read_code.Given as goal

abbrev pub invariant-loop-digit : goal.invariant-loop-digit
invariant-loop-digit l = record {
  bound : l.code < CODE_POINTS;
  rest : in_range (number_from l.code (drop l.digit-index l.digits)) ≡ in_range (number_from 0 l.digits);
}
