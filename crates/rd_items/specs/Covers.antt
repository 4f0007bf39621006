-- What items cover, and how they end.
use Rattle.std.specs.Prelude.{◌≡◌, ℕ, ◌<◌, nat_lt, Bool, true, false, not, ◌&&◌, List, [], ◌∷◌, Option, None, Some, All}
use Rattle.rd_base.specs.Lists.{Follow}
use Rattle.rd_base.specs.declared.class.Class.TheVariants.{B}
use Rattle.rd_items.specs.Pieces.{Scene}
use Rattle.rd_items.specs.Items.{kind_gives}
use Rattle.rd_items.specs.declared.item.Item.{Item}
use Rattle.rd_items.specs.declared.item.ItemKind.{ItemKind}
use Rattle.rd_items.specs.declared.item.ItemKind.TheVariants as kind

-- items that cover the offsets from one to another, that one not included: each covers none, or goes on where the last that
-- covers any ended
abbrev pub Tile : ℕ → ℕ → List Item → Type 0
Tile = Follow (λ x. x.from) (λ x. x.to)

-- an item covers any offset exactly where it is no overlay's string and gives an element
abbrev pub CoverWhereTheyGive : Scene → List Item → Type 0
CoverWhereTheyGive scene items = All (λ x. nat_lt x.from x.to ≡ (not x.overlay && kind_gives scene x.kind)) items

abbrev pub is_ender_kind : ItemKind → Bool
is_ender_kind kind.Ender = true
is_ender_kind k = false

-- whether what a piece shows, if anything, is an ender
abbrev pub shows_ender : Option ItemKind → Bool
shows_ender None = false
shows_ender (Some k) = is_ender_kind k

-- an ender is a separator of paragraphs and covers the position that ends the block
pub record IsEnder (x : Item) : Type 0 where
  pub kind : is_ender_kind x.kind ≡ true
  pub class : x.class ≡ B
  pub some : x.from < x.to

-- the last item is an ender, and no other is
abbrev pub EndOnce : List Item → Type 0
EndOnce [] = ⊥
EndOnce (x ∷ []) = IsEnder x
EndOnce (x ∷ y ∷ xs) = (is_ender_kind x.kind ≡ false) × EndOnce (y ∷ xs)

-- items that cover each offset from one to another, that one not included, once; an item covers any exactly where it is no overlay's
-- string and gives an element; the last is the ender, and no other is
pub record CoverBlock (scene : Scene) (since to : ℕ) (items : List Item) : Type 0 where
  pub tile : Tile since to items
  pub give : CoverWhereTheyGive scene items
  pub end : EndOnce items
