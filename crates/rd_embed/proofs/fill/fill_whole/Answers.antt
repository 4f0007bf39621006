use Rattle.std.proofs.Common.{arith, ◌≡◌, ◌≤◌, ◌<◌, ◌-◌, ◌+◌, ℕ, length, take, subst, sym}
use Rattle.std.proofs.lemmas.List.{length-take-le}
use Rattle.rd_embed.specs.Fills.{fitting}
use Rattle.rd_embed.proofs.fill.fill_whole.Given.{Over}
use Rattle.rd_embed.proofs.Filling.{IsFilled, none-fits, one-more, whole-filled}
use Rattle.rd_embed.proofs.fill.fill_whole.Goals as goal
use Rattle.rd_embed.proofs.fill.fill_whole.Goals.{Then-len-out}

-- the text that does not fit is the first of those that are left
stopped : (g : Over) (c : Then-len-out g) → fitting (length c.args.out.now) (g.T.Texts.texts c.args.texts.now) ≡ c.each_text.filled.texts
stopped g c =
    let few : c.spell-len.result ≤ length c.spell-len.new.room = omega arith in
    let size : length (take c.spell-len.result c.spell-len.new.room) ≡ c.spell-len.result = length-take-le c.spell-len.result c.spell-len.new.room few in
    none-fits (g.T.Texts.texts c.args.texts.now) c.args.out.now c.each_text.filled.texts c.each_text.filled.bytes c.each_text.out
    (take c.spell-len.result c.spell-len.new.room) c.each_text.invariant c.spell-len.ensures.spelt (omega (arith, size))

pub returns-then-len-out-clause-bytes : goal.returns-then-len-out-clause-bytes
returns-then-len-out-clause-bytes g c = whole-filled (g.T.Texts.texts c.args.texts.now) c.args.out.now c.each_text.filled.texts c.each_text.filled.bytes c.each_text.out
    c.each_text.invariant (stopped g c)

pub returns-then-len-out-clause-texts : goal.returns-then-len-out-clause-texts
returns-then-len-out-clause-texts g c = sym (stopped g c)

pub each_text-preserved : goal.each_text-preserved
each_text-preserved g c =
    let few : c.spell-len.result ≤ length c.spell-len.new.room = omega arith in
    let size : length (take c.spell-len.result c.spell-len.new.room) ≡ c.spell-len.result = length-take-le c.spell-len.result c.spell-len.new.room few in
    subst (λ (n : ℕ). IsFilled (g.T.Texts.texts c.args.texts.now) c.args.out.now (c.each_text.filled.texts + 1) (c.each_text.filled.bytes + n) c.overwrite.new.out) size
    (one-more (g.T.Texts.texts c.args.texts.now) c.args.out.now c.each_text.filled.texts c.each_text.filled.bytes c.each_text.out
    (take c.spell-len.result c.spell-len.new.room) c.overwrite.new.out c.each_text.invariant c.spell-len.ensures.spelt (omega arith) (omega (arith, size)) c.overwrite.ensures)
