-- The items of a block end within what is read of it.
use Rattle.std.proofs.Common.{ℕ, suc, ◌+◌, ◌≤◌, List, length, All, arith}
use Rattle.std.specs.Prelude.{if◌then◌else◌}
use Rattle.std.proofs.lemmas.Bool.{cond_both}
use Rattle.std.proofs.lemmas.List.Elements.{All-from_recursion}
use Rattle.std.proofs.lemmas.List.Sums.{prefix_len-le-length}
use Rattle.rd_base.proofs.Choices.{if-value}
use Rattle.rd_props.specs.Seen.{Seen}
use Rattle.rd_items.specs.Readings.{showing_of}
use Rattle.rd_items.specs.Pieces.{Scene, goes_on, run_in}
use Rattle.rd_items.specs.Items.{items_of}
use Rattle.rd_items.specs.declared.item.Item.{Item}
use Rattle.rd_items.specs.declared.item.ItemKind.{ItemKind}
use Rattle.rd_items.specs.declared.piece.Piece.{Piece}
use Rattle.rd_items.proofs.EachItem.{GivesOnly, items-from}

module _ (n : ℕ) where
  abbrev IsIn : Piece → Type 0
  IsIn x = (x.at ≤ n) × (x.to ≤ n)

  gives : (s : Scene) (k to : ℕ) (e : Seen) → k + 1 ≤ n → to ≤ n → GivesOnly s IsIn k to e
  gives s k to e h end =
      let at : k ≤ n = omega (arith, h) in
      record {
        string = λ i d inside. (at, at);
        text = λ covers m number shown is. (at, end);
        space = λ m spec shown is. (at, end);
        char = λ c is. (at, h);
        nothing = (at, end);
        ellipsis = λ covers. (at, end);
        ender = (at, h);
      }

  pub items-within : (s : Scene) (es : List Seen) → length es ≤ n → All (λ (x : Item). x.to ≤ n) (items_of s es)
  items-within s es h =
      All-from_recursion (λ (x : Item). x.to ≤ n) (items_of s es)
      (items-from s IsIn (λ (x : Item). x.to ≤ n) (λ k es. k + length es ≤ n) (λ k e es few. omega (arith, few))
      (λ k e es few.
      let run = prefix_len-le-length (λ x. goes_on (showing_of s.parts.settings.invisible e) (showing_of s.parts.settings.invisible x)) es in
      gives s k (suc k + run_in s e es) e (omega (arith, few)) (omega (arith, few, run)))
      (λ held next glyph these those e. (these.0, those.1))
      (λ since x ends. if-value (λ (k : ItemKind). (if x.covers then x.to else x.at) ≤ n) x.kind (λ k e. cond_both x.covers x.to x.at (λ to. to ≤ n) (λ _. ends.1) (λ _. ends.0)))
      es (omega (arith, h)))
