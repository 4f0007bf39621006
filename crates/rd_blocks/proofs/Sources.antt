-- Each buffer is a source of blocks.
use Rattle.std.proofs.Common.{◌≡◌, ℕ, ◌+◌, ◌<◌, ◌≤◌, true, IsTrue, List, [], ◌∷◌, length, get_or, map, None, sym, subst, arith}
use Rattle.std.proofs.lemmas.List.Elements.{All-map}
use Rattle.rd_base.specs.Elements.{ends_once}
use Rattle.rd_base.specs.declared.element.Element.{Element}
use Rattle.rd_base.proofs.Lists.{get-map}
use Rattle.rd_text.specs.Texts.{IsText}
use Rattle.rd_ucd.specs.Data.{Data}
use Rattle.rd_ucd.specs.declared.spans.Span.{Span}
use Rattle.rd_objects.specs.Things.{ObjectLists}
use Rattle.rd_props.specs.Buffers.{BufferValue}
use Rattle.rd_props.specs.Seen.{Seen}
use Rattle.rd_items.specs.Blocks.{blocks_of, Adjoin, IsBlock, ListedLaw}
use Rattle.rd_items.specs.Readings.{reading, IsReading}
use Rattle.rd_items.specs.Pieces.{Scene, scene_in}
use Rattle.rd_items.specs.Items.{items_of}
use Rattle.rd_items.specs.Covers.{CoverBlock}
use Rattle.rd_matrix.proofs.HeldLemmas.{are-rows}
use Rattle.rd_matrix.specs.Blocks.{StandFrom, first_start, end_from}
use Rattle.rd_matrix.specs.Sources.{IsSource, AreRowsOf}
use Rattle.rd_matrix.specs.declared.block.Block.{Block}
use Rattle.rd_rows.specs.declared.cutting.Cutting.{Cutting}
use Rattle.rd_rows.specs.Laws.{seen_rows, ends_last, begins_of, range_of, ranges_of}
use Rattle.rd_rows.specs.Leads.{HasQuietLeads}
use Rattle.rd_rows.specs.Rows.{rows_of}
use Rattle.rd_rows.specs.Shapes.{ShapeValues}
use Rattle.rd_stack.specs.Lines.{line_elements}
use Rattle.rd_blocks.specs.Bases.{block_in, blocks_in}
use Rattle.rd_blocks.specs.Rows.{block_cutting, block_rows}
use Rattle.rd_blocks.specs.Sources.{text_source}
use Rattle.rd_blocks.proofs.Gives.{ItemsGive}
use Rattle.rd_blocks.proofs.Within.{items-within}
use Rattle.rd_blocks.proofs.Ranges.{line-once, line-within}
use Rattle.rd_blocks.proofs.Bases.{base-low}
use Rattle.rd_blocks.proofs.Quiet.{PrefixesOpen, quiet-cutting}

-- what lower layers promise
pub record Lower : Type 0 where
  pub items : ItemsGive
  pub prefixes : PrefixesOpen
  pub listed : ListedLaw
  pub read : (s : BufferValue) (objects : ObjectLists) (p : ℕ) → p ≤ s.text.end → IsReading s.settings.invisible (reading s objects p)
  pub size : (s : BufferValue) (objects : ObjectLists) (from to : ℕ) → IsBlock s from to → from + length (reading s objects from) ≡ to
  pub cover : (scene : Scene) (es : List Seen) → IsReading scene.parts.settings.invisible es → CoverBlock scene 0 (length es) (items_of scene es)
  pub ends : (scene : Scene) (base : ℕ) (es : List Seen) → IsReading scene.parts.settings.invisible es → ends_once (line_elements scene base es) ≡ true
  pub last : (c : Cutting) (es : List Element) → HasQuietLeads c → IsTrue (ends_once es) → IsTrue (ends_last (seen_rows (rows_of c es)))
  pub begun : (c : Cutting) (es : List Element) → HasQuietLeads c → IsTrue (ends_once es) → map range_of (begins_of (seen_rows (rows_of c es))) ≡ ranges_of None es

-- the blocks

later-less : (from to : ℕ) (c : ℕ × ℕ) (bs : List (ℕ × ℕ)) → Adjoin from to (c ∷ bs) → from < to
later-less from to c [] h = let a = h.0 in let b = h.1 in let e = h.2 in omega (arith, a, b, e)
later-less from to c (d ∷ ds) h = let a = h.0 in let b = h.1 in let rest = later-less c.1 to d ds h.2 in omega (arith, a, b, rest)

pub stand-map : (classes : List Span) (s : BufferValue) (from to : ℕ) (bs : List (ℕ × ℕ)) → Adjoin from to bs → StandFrom from (map (block_in classes s) bs)
stand-map classes s from to [] h = tt
stand-map classes s from to (b ∷ bs) h = (h.0, h.1, stand-map classes s b.1 to bs h.2)

pub first-is : (classes : List Span) (s : BufferValue) (from to : ℕ) (bs : List (ℕ × ℕ)) → Adjoin from to bs → from < to → first_start (map (block_in classes s) bs) ≡ from
first-is classes s from to [] h less = absurd (omega (arith, h, less))
first-is classes s from to (b ∷ bs) h less = h.0

pub end-is : (classes : List Span) (s : BufferValue) (from to other : ℕ) (bs : List (ℕ × ℕ)) → Adjoin from to bs → from < to → end_from other (map (block_in classes s) bs) ≡ to
end-is classes s from to other [] h less = absurd (omega (arith, h, less))
end-is classes s from to other (b ∷ []) h less = h.2
end-is classes s from to other (b ∷ c ∷ bs) h less = end-is classes s b.1 to b.1 (c ∷ bs) h.2 (later-less b.1 to c bs h.2)

some-map : (classes : List Span) (s : BufferValue) (from to : ℕ) (bs : List (ℕ × ℕ)) → Adjoin from to bs → from < to → 0 < length (map (block_in classes s) bs)
some-map classes s from to [] h less = absurd (omega (arith, h, less))
some-map classes s from to (b ∷ bs) h less = omega arith

-- the rows of what is read of a block
rows-right : Lower → (scene : Scene) (base start end : ℕ) (shape : ShapeValues) (es : List Seen) → IsReading scene.parts.settings.invisible es → start + length es ≡ end
    → AreRowsOf start end (seen_rows (block_rows scene base shape es))
rows-right low scene base start end shape es is size =
    let cutting = block_cutting scene base shape es in
    let line = line_elements scene base es in
    let quiet = quiet-cutting low.prefixes scene base shape es in
    let ends = low.ends scene base es is in
    let items = items_of scene es in
    let cover = low.cover scene es is in
    are-rows start end (length es) (seen_rows (rows_of cutting line)) (ranges_of None line) size (low.last cutting line quiet ends) (low.begun cutting line quiet ends)
    (line-within scene base (length es) items cover.tile (items-within (length es) scene es (omega arith)))
    (λ k. line-once low.items scene base (length es) k items cover.tile cover.give)

pub source-right : Lower → (s : BufferValue) (objects : ObjectLists) (files : Data) → IsText s.text → IsSource (text_source s objects files)
source-right low s objects files right =
    let order = right.ordered in
    let classes = files.classes in
    let listed = low.listed s order in
    let less : s.text.begin < s.text.end + 1 = omega (arith, order) in
    record {
      blocks = record {
        some = some-map classes s s.text.begin (s.text.end + 1) (blocks_of s) listed.adjoin less;
        stand = subst (λ n. StandFrom n (blocks_in classes s)) (sym (first-is classes s s.text.begin (s.text.end + 1) (blocks_of s) listed.adjoin less)) (stand-map classes s s.text.begin (s.text.end + 1) (blocks_of s) listed.adjoin);
        bases = All-map (λ (b : Block). b.base ≤ 1) (block_in classes s) (blocks_of s) (λ k d inside. base-low classes s (get_or (blocks_of s) k d).0);
      };
      rows = λ b shape among good.
          let found = get-map (block_in classes s) (blocks_of s) among.0 b among.1 in
          let block = listed.blocks among.0 found.0 found.1 in
          let last = block.last in
          let some = block.some in
          subst (λ (x : Block). AreRowsOf x.start x.end ((text_source s objects files).rows_of x shape)) found.2
          (rows-right low (scene_in s.settings objects files) (block_in classes s found.0).base found.0.0 found.0.1 shape (reading s objects found.0.0)
          (low.read s objects found.0.0 (omega (arith, last, some))) (low.size s objects found.0.0 found.0.1 block));
    }
