use Rattle.rd_props.specs.Buffers.{meaning}
use Rattle.rd_stack.proofs.keeping.reading_stays_sound.Goals as goal

pub returns-clause-codes : goal.returns-clause-codes
returns-clause-codes c = c.readings_have_codes.ensures (meaning c.args.view.now.state.now) c.args.view.now.objects.now c.args.start c.buffers_are_valid.ensures.codes
