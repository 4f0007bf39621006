use Rattle.rd_tree.proofs.Rooms.{room_needs, room_first_parts, resized_room}
use Rattle.rd_tree.specs.Windows.{Window, halves}
use Rattle.rd_tree.proofs.Keeping.{room-decides, replaced_fits}
use Rattle.rd_tree.proofs.Standing.{resized_same_place, resized_leaves}
use Rattle.rd_tree.proofs.laws.needs_are_exact.Goals as goal

pub returns : goal.returns
returns c = record {
  true_of_room = λ windows rect. (room-decides windows rect).1;
  room_of_true = λ windows rect. (room-decides windows rect).0;
  split = λ number side size new windows rect window h e. replaced_fits number (halves number side size new) windows rect window h e;
  mode = λ number shown windows rect window h e. replaced_fits number (λ _ margins. Window number shown margins) windows rect window h e;
  margins = λ number columns windows rect window h e. replaced_fits number (λ mode _. Window number mode columns) windows rect window h e;
  needed = room_needs;
  enough = λ windows old rect h n. resized_room windows rect (room_first_parts windows old h) n;
  same = resized_same_place;
  order = resized_leaves;
}
