-- Where the same is seen at the positions of a block, the same is read of it.
use Rattle.std.proofs.Common.{◌≡◌, inr, ℕ, zero, suc, ◌+◌, ◌-◌, ◌<◌, ◌≤◌, true, false, List, [], ◌∷◌, sym, ap, subst, ◌∙◌, arith}
use Rattle.std.specs.Prelude.{pos, ◌-ℤ◌}
use Rattle.std.proofs.lemmas.Int.{ints}
use Rattle.rd_base.specs.declared.settings.Invisible.{Invisible}
use Rattle.rd_objects.specs.Things.{ObjectLists}
use Rattle.rd_props.specs.Agreement.{IsSame, Unchanged}
use Rattle.rd_props.specs.Buffers.{BufferValue}
use Rattle.rd_props.specs.Seen.{Seen, seen_at}
use Rattle.rd_items.specs.Blocks.{IsBlock}
use Rattle.rd_items.specs.Readings.{is_ender, ends_block, reading}
use Rattle.rd_items.proofs.Readings.{newline-ends, block-ends, reads-one, reading-more}
use Rattle.rd_reuse.specs.declared.change.Change.{Change}

-- ---- two readings

-- from two positions on the same is seen, before a block ends with the position before another
pub record SeenAlike (old : BufferValue) (made : ObjectLists) (new : BufferValue) (objects : ObjectLists) (x y to : ℕ) : Type 0 where
  pub same : (p q : ℕ) → x ≤ p → p + y ≡ q + x → q < to → IsSame old made p new objects q
  pub goes : (q : ℕ) → y ≤ q → suc q < to → ends_block new q ≡ false
  pub ends : (q : ℕ) → suc q ≡ to → ends_block new q ≡ true

module _ (old : BufferValue) (made : ObjectLists) (new : BufferValue) (objects : ObjectLists) (setting : old.settings.invisible ≡ new.settings.invisible) where
  same-ends : (x y : ℕ) → IsSame old made x new objects y → ends_block old x ≡ ends_block new y
  same-ends x y same =
      let first : is_ender old.settings.invisible (seen_at old made x) ≡ is_ender old.settings.invisible (seen_at new objects y) = ap (is_ender old.settings.invisible) same.agree in
      let last : is_ender old.settings.invisible (seen_at new objects y) ≡ is_ender new.settings.invisible (seen_at new objects y) = ap (λ (i : Invisible). is_ender i (seen_at new objects y)) setting in
      first ∙ last

  pub same-reading : (m x y to : ℕ) → to ≡ y + suc m → SeenAlike old made new objects x y to → reading old made x ≡ reading new objects y
  same-reading zero x y to size alike =
      let here = alike.same x y (omega arith) (omega arith) (omega arith) in
      let last = alike.ends y (omega arith) in
      reads-one old made (old.text.end - x) x (same-ends x y here ∙ last) ∙ ap (λ (e : Seen). e ∷ []) here.agree
      ∙ sym (reads-one new objects (new.text.end - y) y last)
  same-reading (suc m) x y to size alike =
      let here = alike.same x y (omega arith) (omega arith) (omega arith) in
      let goes = alike.goes y (omega arith) (omega arith) in
      let before = same-ends x y here ∙ goes in
      let rest = same-reading m (suc x) (suc y) to (omega arith) (record {
        same = λ p q a e b. alike.same p q (omega arith) (omega arith) b;
        goes = λ q a b. alike.goes q (omega arith) b;
        ends = alike.ends;
      }) in
      reading-more old made x here.old_within before
      ∙ ap (λ (e : Seen). e ∷ reading old made (suc x)) here.agree
      ∙ ap (λ (es : List Seen). seen_at new objects y ∷ es) rest
      ∙ sym (reading-more new objects y here.new_within goes)

  -- ---- a block outside a change

  module _ (c : Change) (unchanged : Unchanged old made new objects c.head c.tail c.added) (from to : ℕ) (block : IsBlock new from to) where
    inside-goes : (q : ℕ) → from ≤ q → suc q < to → ends_block new q ≡ false
    inside-goes q low less = sym (newline-ends new q (let last = block.last in omega arith)) ∙ block.inside q low less

    last-ends : (q : ℕ) → suc q ≡ to → ends_block new q ≡ true
    last-ends q here = block-ends new objects q to (sym here) block.ends

    length-of : suc from ≤ to → to ≡ from + suc (to - suc from)
    length-of some = omega arith

    -- where the same is seen from a position on
    reads-by : (x : ℕ) → ((p q : ℕ) → x ≤ p → p + from ≡ q + x → q < to → IsSame old made p new objects q) → reading old made x ≡ reading new objects from
    reads-by x same = same-reading (to - suc from) x from to (length-of block.some) (record { same = same; goes = inside-goes; ends = last-ends })

    -- a block that ends before the change is read as it was
    pub reads-before : to ≤ c.head → reading old made from ≡ reading new objects from
    reads-before below =
        reads-by from (λ p q a e b.
        let here : q ≡ p = omega arith in
        let first = block.first in
        let last = block.last in
        subst (λ (r : ℕ). IsSame old made r new objects q) here (unchanged.before q (omega arith) (omega arith) (inr (omega arith))))

    -- a block that starts behind the change is read as it was where it stood
    pub reads-behind : (x : ℕ) → c.tail ≤ from → pos from -ℤ pos x ≡ c.added → reading old made x ≡ reading new objects from
    reads-behind x above moved =
        reads-by x (λ p q a e b.
        let first = block.first in
        let last = block.last in
        unchanged.behind p q (omega arith) (omega arith) (omega (arith, ints, moved, e)) (inr (omega arith)))
