-- One sequence more.
use Rattle.std.proofs.Common.{◌≡◌, ℕ, ◌+◌, List, drop, slice_get, Some, ap}
use Rattle.rd_base.proofs.Lists.{drop-at}
use Rattle.rd_base.specs.declared.class.Class.{Class}
use Rattle.rd_base.specs.declared.line.Seq.{Seq}
use Rattle.rd_ucd.specs.declared.spans.BracketEntry.{BracketEntry}
use Rattle.rd_levels.specs.Levels.{x10_resolved, resolved_in}

pub x10_resolved-step : (entries : List BracketEntry) (cs : List Class) (codes levels : List ℕ) (ss : List Seq) (k : ℕ) (s : Seq) (ts : List Class) → slice_get ss k ≡ Some s
    → x10_resolved entries cs codes levels (drop k ss) ts ≡ x10_resolved entries cs codes levels (drop (k + 1) ss) (resolved_in entries cs codes levels s ts)
x10_resolved-step entries cs codes levels ss k s ts read =
    ap (λ rest. x10_resolved entries cs codes levels rest ts) (drop-at ss k s read)
