use Rattle.std.proofs.Common.{arith, ◌≡◌, ◌<◌, ℕ, IsTrue, length, take}
use Rattle.std.proofs.lemmas.Grind.{common_steps}
use Rattle.std.proofs.lemmas.List.Elements.{All-more, at_read}
use Rattle.rd_base.specs.Chars.{is_code}
use Rattle.rd_objects.proofs.objects.characters_have_codes.Goals as goal

pub loop-ch-preserved : goal.loop-ch-preserved
loop-ch-preserved c =
    let text = c.args.text.now in
    let inside : c.loop-ch.ch-index < length text = omega arith in
    All-more (λ (x : ℕ). IsTrue (is_code x)) text c.loop-ch.ch-index 0 inside c.loop-ch.invariant
    (at_read text (λ (x : ℕ). IsTrue (is_code x)) c.loop-ch.ch-index c.ch-item.result inside c.ch-item.is c.code.ensures.right 0)

pub returns : goal.returns
returns c =
    let all : take c.loop-ch.ch-index c.args.text.now ≡ c.args.text.now = grind (arith, common_steps) in
    rw all at c.loop-ch.invariant
