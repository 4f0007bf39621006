-- What the items of a block cover, and how they end.
use Rattle.std.proofs.Common.{◌≡◌, inl, inr, ℕ, ◌<◌, ◌≤◌, Bool, true, false, List, [], ◌∷◌, ◌++◌, length, Option, Some, None, refl, sym, ◌∙◌, arith, le_refl}
use Rattle.std.specs.Prelude.{not, ◌&&◌, nat_lt}
use Rattle.std.proofs.lemmas.Bool.{and_right, lt-ltb, le-ltb}
use Rattle.std.proofs.lemmas.List.Elements.{All-cons, All-nil}
use Rattle.rd_glyphs.specs.Marks.{marks_joined}
use Rattle.rd_props.specs.Seen.{Seen}
use Rattle.rd_items.specs.declared.piece.Piece.{Piece}
use Rattle.rd_items.specs.declared.item.Item.{Item}
use Rattle.rd_items.specs.declared.item.ItemKind.{ItemKind}
use Rattle.rd_items.specs.declared.item.ItemKind.TheVariants as kind
use Rattle.rd_items.specs.Readings.{IsReading}
use Rattle.rd_items.specs.Pieces.{Scene, pieces_from}
use Rattle.rd_items.specs.Items.{piece_joins, kind_gives, item_of, items_by, covered_to, covering, items_of}
use Rattle.rd_items.specs.Covers.{Tile, CoverBlock, CoverWhereTheyGive, is_ender_kind, EndOnce}
use Rattle.rd_items.proofs.Chains.{IsLink, IsNoEnder, Chain, reading-chain}

-- a piece that shows nothing covers nothing
shows-none : (s : Scene) (p : ℕ) (x : Piece) → IsLink s p x → x.kind ≡ None → x.covers ≡ false
shows-none s p x link e = link.gives ∙ rw (e, and_right (not x.overlay) false refl)

-- a piece covers no offset behind its end
no-later : (s : Scene) (since p : ℕ) (x : Piece) → since ≤ p → IsLink s p x → (covers : Bool) → x.covers ≡ covers → covered_to since x ≤ x.to
no-later s since p x within link true f = rw f (omega arith)
no-later s since p x within link false f = rw f (omega (arith, link.ordered))

-- ---- one more item

end-cons : (x : Item) (xs : List Item) → is_ender_kind x.kind ≡ false → EndOnce xs → EndOnce (x ∷ xs)
end-cons x [] own rest = absurd rest
end-cons x (y ∷ xs) own rest = (own, rest)

abbrev CoversWhereItGives : Scene → Item → Type 0
CoversWhereItGives s i = nat_lt i.from i.to ≡ (not i.overlay && kind_gives s i.kind)

item-covers : (s : Scene) (since p to : ℕ) (x : Piece) (k : ItemKind) (items : List Item) → since ≤ p → IsLink s p x → x.kind ≡ Some k
    → (covers : Bool) → x.covers ≡ covers → Tile (covered_to since x) to items → CoverWhereTheyGive s items
    → Tile since to (item_of since x k ∷ items) × CoverWhereTheyGive s (item_of since x k ∷ items)
item-covers s since p to x k items within link e true f tile give =
    let gives : x.covers ≡ (not x.overlay && kind_gives s k) = rw e at link.gives in
    let later : Tile x.to to items = rw f at tile in
    let here = lt-ltb since x.to (omega (arith, link.some f)) in
    (rw f (inr (refl, omega (arith, link.some f), later)), All-cons (CoversWhereItGives s) (item_of since x k) items (rw f (here ∙ sym f ∙ gives)) give)
item-covers s since p to x k items within link e false f tile give =
    let gives : x.covers ≡ (not x.overlay && kind_gives s k) = rw e at link.gives in
    let same : Tile since to items = rw f at tile in
    let here = le-ltb x.at x.at (le_refl x.at) in
    (rw f (inl (refl, same)), All-cons (CoversWhereItGives s) (item_of since x k) items (rw f (here ∙ sym f ∙ gives)) give)

cover-cons : (s : Scene) (since p to : ℕ) (x : Piece) (items : List Item) → since ≤ p → IsNoEnder s p x
    → CoverBlock s (covered_to since x) to items → (kind : Option ItemKind) → x.kind ≡ kind → CoverBlock s since to (items_by x.kind since x ++ items)
cover-cons s since p to x items within own rest None e =
    let none = shows-none s p x own.link e in
    let same : CoverBlock s since to items = rw none at rest in
    rw e same
cover-cons s since p to x items within own rest (Some k) e =
    let none : is_ender_kind k ≡ false = rw e at own.no_ender in
    let both = item-covers s since p to x k items within own.link e x.covers refl rest.tile rest.give in
    rw e (record { tile = both.0; give = both.1; end = end-cons (item_of since x k) items none rest.end })

-- ---- the items of a block

cover : (s : Scene) (since p to : ℕ) (xs : List Piece) → since ≤ p → Chain s p to xs → CoverBlock s since to (covering since xs)
cover s since p to [] within chain = absurd chain
cover s since p to (x ∷ []) within chain =
    let ends : covered_to since x ≡ to = rw chain.covers chain.ends in
    let both = item-covers s since p to x kind.Ender [] within chain.link chain.kind x.covers refl ends (All-nil (CoversWhereItGives s)) in
    let some : since < x.to = omega (arith, within, chain.link.some chain.covers) in
    let ender : EndOnce (item_of since x kind.Ender ∷ []) = rw chain.covers (record { kind = refl; class = chain.class; some = some }) in
    rw chain.kind (record { tile = both.0; give = both.1; end = ender })
cover s since p to (x ∷ y ∷ xs) within chain =
    cover-cons s since p to x (covering (covered_to since x) (y ∷ xs)) within chain.0
    (cover s (covered_to since x) x.to to (y ∷ xs) (no-later s since p x within chain.0.link x.covers refl) chain.1) x.kind refl

pub block-covered : (s : Scene) (es : List Seen) → IsReading s.parts.settings.invisible es → CoverBlock s 0 (length es) (items_of s es)
block-covered s es well = cover s 0 0 (length es) (marks_joined piece_joins (pieces_from s 0 0 es)) (omega arith) (reading-chain s es well)
