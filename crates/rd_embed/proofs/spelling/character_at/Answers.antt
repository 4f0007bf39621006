use Rattle.std.proofs.Common.{arith, ◌≡◌, ◌≤◌, length, sym}
use Rattle.std.specs.Str.{chars}
use Rattle.std.proofs.lemmas.Iterator.{YieldsList-from_chars}
use Rattle.std.proofs.lemmas.Iterator.Consumers.{YieldsList-end, YieldsList-turn}
use Rattle.std.proofs.lemmas.Option.{slice_get_past}
use Rattle.rd_embed.proofs.Codes.{got-at}
use Rattle.rd_embed.proofs.spelling.character_at.Goals as goal

pub returns-then-k-i : goal.returns-then-k-i
returns-then-k-i c =
    let turned = YieldsList-turn (YieldsList-from_chars c.args.text.now c.utf8.text cc) c.loop-c.yielded _ c.loop-c.yielded_by _ _ c.in-Some.c c.in-Some.is c.next.ensures.steps in
    got-at (chars c.args.text.now) (length c.loop-c.yielded) c.args.i c.in-Some.c (omega arith) turned.0 turned.1

pub returns : goal.returns
returns c =
    let end = YieldsList-end (YieldsList-from_chars c.args.text.now c.utf8.text cc) c.loop-c.yielded _ c.loop-c.yielded_by _ _ c.in-None.is c.next.ensures.steps in
    sym (slice_get_past (chars c.args.text.now) c.args.i (omega (arith, end.1)))
