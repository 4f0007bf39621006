use Rattle.rd_tree.specs.Windows.{Window, halves}
use Rattle.rd_tree.proofs.Siblings.{removed_sibling}
use Rattle.rd_tree.proofs.Standing.{replaced_places, removed_leaves, removed_others}
use Rattle.rd_tree.proofs.laws.other_windows_stay.Goals as goal

pub returns : goal.returns
returns c = record {
  split = λ number side size new windows rect. replaced_places number (halves number side size new) windows rect;
  mode = λ number shown windows rect. replaced_places number (λ _ margins. Window number shown margins) windows rect;
  margins = λ number columns windows rect. replaced_places number (λ mode _. Window number mode columns) windows rect;
  removed = removed_leaves;
  others = removed_others;
  sibling = removed_sibling;
}
