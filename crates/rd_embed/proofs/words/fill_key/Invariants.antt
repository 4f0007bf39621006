use Rattle.std.proofs.Common.{◌≤◌, ◌++◌, ◌∷◌, ℕ, List, length, take}
use Rattle.std.specs.List.{flat_map}
use Rattle.rd_base.specs.Chars.{encoded}
use Rattle.rd_embed.specs.Fills.{Fills}
use Rattle.rd_embed.proofs.words.fill_key.Given as goal

abbrev pub invariant-loop-ch : goal.invariant-loop-ch
invariant-loop-ch l = record {
  within : l.end ≤ length l.out;
  filled : (text before : List ℕ) → Fills l.fn.at text before l.fn.out → Fills l.end (text ++ (32 ∷ flat_map encoded (take l.ch-index l.key))) before l.out;
}
