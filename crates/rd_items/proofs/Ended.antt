-- Items of which the last is the ender, and no other.
use Rattle.std.proofs.Common.{◌≡◌, false, List, [], ◌∷◌, ◌++◌, refl, ap}
use Rattle.std.specs.List.{AllByRecursion}
use Rattle.rd_items.specs.Covers.{is_ender_kind, IsEnder, EndOnce}
use Rattle.rd_items.specs.declared.item.Item.{Item}

pub record Ended (items : List Item) : Type 0 where
  pub others : List Item
  pub ender : Item
  pub whole : items ≡ others ++ ender ∷ []
  pub is : IsEnder ender
  pub no_enders : AllByRecursion (λ (x : Item). is_ender_kind x.kind ≡ false) others

pub ended : (items : List Item) → EndOnce items → Ended items
ended [] once = absurd once
ended (x ∷ []) once = record { others = []; ender = x; whole = refl; is = once; no_enders = tt }
ended (x ∷ y ∷ xs) once =
    let rest = ended (y ∷ xs) once.1 in
    record { others = x ∷ rest.others; ender = rest.ender; whole = ap (λ l. x ∷ l) rest.whole; is = rest.is; no_enders = (once.0, rest.no_enders) }
