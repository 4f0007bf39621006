use Rattle.std.proofs.Common.{◌∙◌}
use Rattle.rd_tree.proofs.Keeping.{found_held}
use Rattle.rd_tree.proofs.Listing.{leaf_window}
use Rattle.rd_tree.proofs.Standing.{one_window, all_room, held_among, listed, stands_in}
use Rattle.rd_tree.proofs.laws.windows_tile_their_rectangle.Goals as goal

pub returns : goal.returns
returns c = record {
  cells = one_window;
  room = all_room;
  inside = stands_in;
  listed = listed;
  in_order = leaf_window;
  found = λ number windows rect. found_held number windows rect ∙ held_among number windows;
}
