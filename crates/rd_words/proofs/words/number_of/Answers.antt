use Rattle.std.proofs.Common.{◌∙◌, false, refl, arith}
use Rattle.clap.specs.declared.builder.value_parser.ValueParser.TheVariants.{Unsigned}
use Rattle.clap.proofs.ValueTestLemmas.{accepts-Accepts}
use Rattle.rd_base.specs.declared.limits.TheConstants.{GENERATED_NUMBER}
use Rattle.rd_words.proofs.OwnWords.{is_number-is}
use Rattle.rd_words.proofs.words.number_of.Goals as goal

pub returns : goal.returns
returns c = rw (c.requires, c.in-Ok.ensures.value.0.1) refl

pub unreachable-requires : goal.unreachable-requires
unreachable-requires c =
    let within = accepts-Accepts false (Unsigned 0 GENERATED_NUMBER) c.args.text.now (is_number-is c.args.text.now ∙ c.requires) in
    absurd (c.in-Err.ensures.value.0 (within.0, omega (arith, within.3)))
