-- No call on the windows is refused for want of memory, by the definitions.
use Rattle.std.proofs.Common.{◌≢◌, ℕ, Bool, Err}
use Rattle.rd_base.proofs.Choices.{IsFreeOf, either, no-free, ok-free}
use Rattle.rd_tree.specs.Calls.{Configuration, changed_to, margins_tree, mode_tree, remove_tree, resize_tree, split_to, split_tree}
use Rattle.rd_tree.specs.Windows.{Windows, holds, split_at, with_margins, with_mode}
use Rattle.rd_tree.specs.declared.fault.TreeFault.TheVariants.{LastWindow, Memory, NoWindow, TooMany, TooSmall}
use Rattle.rd_tree.specs.declared.side.Side.{Side}

absent-free : IsFreeOf {T = Configuration} Memory (Err NoWindow)
absent-free = no-free NoWindow (λ e. cc)

small-free : IsFreeOf {T = Configuration} Memory (Err TooSmall)
small-free = no-free TooSmall (λ e. cc)

changed-free : (c : Configuration) (windows : Windows) → IsFreeOf Memory (changed_to c windows)
changed-free c windows = either (IsFreeOf Memory) _ _ _ (ok-free _) small-free

split_to-free : (c : Configuration) (windows : Windows) → IsFreeOf Memory (split_to c windows)
split_to-free c windows = either (IsFreeOf Memory) _ _ _ (either (IsFreeOf Memory) _ _ _ (no-free TooMany (λ e. cc)) (ok-free _)) small-free

pub split-free : (c : Configuration) (window : ℕ) (side : Side) (size : ℕ) → split_tree c window side size ≢ Err Memory
unfolding split_tree
split-free c window side size = either (IsFreeOf Memory) (holds window c.windows) _ _ (split_to-free c (split_at window side size c.made c.windows)) absent-free

pub remove-free : (c : Configuration) (window : ℕ) → remove_tree c window ≢ Err Memory
unfolding remove_tree
remove-free c window = either (IsFreeOf Memory) _ _ _ (either (IsFreeOf Memory) _ _ _ (no-free LastWindow (λ e. cc)) (ok-free _)) absent-free

pub resize-free : (c : Configuration) (width height : ℕ) → resize_tree c width height ≢ Err Memory
unfolding resize_tree
resize-free c width height = either (IsFreeOf Memory) _ _ _ (ok-free _) small-free

pub mode-free : (c : Configuration) (window : ℕ) (shown : Bool) → mode_tree c window shown ≢ Err Memory
unfolding mode_tree
mode-free c window shown = either (IsFreeOf Memory) (holds window c.windows) _ _ (changed-free c (with_mode window shown c.windows)) absent-free

pub margins-free : (c : Configuration) (window columns : ℕ) → margins_tree c window columns ≢ Err Memory
unfolding margins_tree
margins-free c window columns = either (IsFreeOf Memory) (holds window c.windows) _ _ (changed-free c (with_margins window columns c.windows)) absent-free
