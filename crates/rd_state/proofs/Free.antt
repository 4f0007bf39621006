-- What the tree refuses for another cause than want of memory, the op refuses so too.
use Rattle.std.proofs.Common.{◌≡◌, ◌≢◌, Result, Ok, Err, refl}
use Rattle.std.specs.Result.{IsErrAnd}
use Rattle.rd_tree.specs.Calls.{Configuration}
use Rattle.rd_tree.specs.declared.fault.TreeFault.{TreeFault}
use Rattle.rd_tree.specs.declared.fault.TreeFault.TheVariants as tree_faults
use Rattle.rd_state.specs.declared.effect.Effect.{Effect}
use Rattle.rd_state.specs.declared.refused.Refused.{Refused}
use Rattle.rd_state.specs.declared.refused.Refused.TheVariants.{Memory}
use Rattle.rd_state.specs.Steps.{refused_tree}

pub refused-free : (fault : TreeFault) → fault ≢ tree_faults.Memory → refused_tree fault ≢ Memory
refused-free tree_faults.Memory h = λ e. h refl
refused-free fault h = λ e. cc

pub tree-free : (r : Result Effect Refused) (said : Result Configuration TreeFault) (fault : TreeFault) → IsErrAnd r (λ x. x ≡ refused_tree fault) → said ≡ Err fault
    → said ≢ Err tree_faults.Memory → r ≢ Err Memory
tree-free (Ok x) said fault and is other = λ h. cc
tree-free (Err x) said fault and is other = λ h. refused-free fault (λ e. other (cc)) (cc)
