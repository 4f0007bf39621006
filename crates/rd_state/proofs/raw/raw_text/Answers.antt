use Rattle.std.proofs.Common.{rules}
use Rattle.rd_base.proofs.Lists.{all-at}
use Rattle.rd_base.specs.Chars.{raw_code}
use Rattle.rd_script.specs.Forms.{IsRawByte}
use Rattle.rd_state.proofs.raw.raw_text.Goals as goal

pub mapped-requires : goal.mapped-requires
mapped-requires c = λ i x at _ _ _ _ _. (all-at IsRawByte c.args.bytes.now i x.now c.requires at).0

pub returns : goal.returns
returns c = c.mapped.ensures raw_code (λ x y told. search rules)
