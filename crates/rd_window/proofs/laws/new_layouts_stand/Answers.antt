use Rattle.rd_start.proofs.Inside.{start-inside}
use Rattle.rd_window.proofs.Standing.{stands-new}
use Rattle.rd_window.proofs.laws.new_layouts_stand.Goals as goal

pub returns : goal.returns
returns c = λ last m shape w new source is within laid. stands-new last m shape w new source (start-inside m shape w source is within) laid
