use Rattle.rd_blocks.proofs.EntryBlocks.{slice-rows}
use Rattle.rd_blocks.proofs.KeptRows.{rows-fresh}
use Rattle.rd_blocks.proofs.Listed.{among-small}
use Rattle.rd_blocks.proofs.locality.kept_rows_are_fresh.Goals as goal

pub returns-clause-changed : goal.returns-clause-changed
returns-clause-changed c = λ old new made objects files change shape rows right text is follows all.
    rows-fresh (record {
      listed = c.blocks_are_listed.ensures;
      source = c.buffers_are_sources.ensures;
      read = c.made_objects_alone_are_read.ensures.reading;
    }) old new made objects files change shape rows right text is follows all

pub returns-clause-all : goal.returns-clause-all
returns-clause-all c = λ s objects files shape rows text.
    c.all_keeps_no_block.ensures.source _ rows shape (c.buffers_are_sources.ensures s objects files text)
    (among-small files.classes s (c.blocks_are_listed.ensures s text.ordered) text)

pub returns-clause-rows : goal.returns-clause-rows
returns-clause-rows c = slice-rows
