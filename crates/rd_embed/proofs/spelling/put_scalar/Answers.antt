use Rattle.std.proofs.Common.{◌≡◌, length, ap, arith}
use Rattle.rd_base.specs.Chars.{encoded}
use Rattle.rd_embed.proofs.Codes.{encoded-short}
use Rattle.rd_embed.proofs.spelling.put_scalar.Goals as goal

pub put-requires : goal.put-requires
put-requires c =
    let e : length c.encode.result.now ≡ length (encoded c.args.code) = ap length c.encode.ensures in
    omega (arith, e, encoded-short c.args.code)

pub returns-clause-within : goal.returns-clause-within
returns-clause-within c =
    let e : length c.encode.result.now ≡ length (encoded c.args.code) = ap length c.encode.ensures in
    omega (arith, e, encoded-short c.args.code)
