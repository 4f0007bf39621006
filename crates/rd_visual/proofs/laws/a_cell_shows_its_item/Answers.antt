use Rattle.rd_visual.proofs.Covered.{shows-item}
use Rattle.rd_visual.proofs.Within.{item-held}
use Rattle.rd_blocks.specs.Sources.{text_source}
use Rattle.rd_visual.proofs.laws.a_cell_shows_its_item.Goals as goal

pub returns : goal.returns
returns c = λ s objects files shape es row column point e k b text is rows cursor there place covered alone.
    shows-item (text_source s objects files) shape es row column point e k b (c.buffers_are_sources.ensures s objects files text) is rows cursor there place covered
    (item-held s objects files shape es row e k b is rows there place) alone
