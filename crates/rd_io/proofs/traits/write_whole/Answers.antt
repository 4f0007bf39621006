use Rattle.std.proofs.Common.{◌++◌, ◌∙◌, ap, sym, take, take-append-drop, rules}
use Rattle.rd_io.proofs.Bytes.{front-stopped, going-by}
use Rattle.rd_io.proofs.traits.write_whole.Goals as goal

pub returns-in_err-n : goal.returns-in_err-n
returns-in_err-n g c =
    let front = c.loop-rest.invariant in
    let kept = c.in_err-n.ensures.bytes in
    let stopped = front-stopped _ _ _ c.args.bytes.now front.done c.loop-rest.rest.now front.split (search rules) front.printed kept in
    record { bytes = record { whole = search rules; front = search rules }; never_falls = search rules; kept = search rules; failed = search rules }

pub loop-rest-preserved : goal.loop-rest-preserved
loop-rest-preserved g c =
    let rest = c.loop-rest.rest.now in
    let piece = take c.in_ok-n.n rest in
    let split = sym (take-append-drop c.in_ok-n.n rest) ∙ ap (λ l. piece ++ l) (sym c.split_at.ensures.back) in
    going-by _ _ _ _ _ _ c.args.bytes.now rest piece c.split_at.result.1.now c.loop-rest.invariant split c.in_ok-n.ensures.bytes c.in_ok-n.ensures.kept
