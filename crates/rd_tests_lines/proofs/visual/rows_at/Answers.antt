use Rattle.std.proofs.Common.{inl, sym, subst}
use Rattle.rd_matrix.specs.Blocks.{IsWithin}
use Rattle.rd_matrix.specs.Sources.{SourceValues}
use Rattle.rd_props.specs.Buffers.{files_of, meaning}
use Rattle.rd_tests_lines.proofs.visual.rows_at.Goals as goal

pub block_of-requires : goal.block_of-requires
block_of-requires g c =
    let v = c.args.view.now in
    inl (subst (λ (m : SourceValues). IsWithin c.args.pos m.blocks) (sym c.new-source.ensures)
    (c.accessible_positions_lie_in_blocks.ensures (meaning v.state.now) v.objects.now (files_of v) c.args.pos c.requires.place))
