use Rattle.std.proofs.Common.{◌∷◌, ◌++◌, ap, append-nil, decimal}
use Rattle.rd_dump.proofs.Writing.{prints-as}
use Rattle.rd_player.proofs.last_line.print_located.Goals as goal

pub returns : goal.returns
returns g c = prints-as _ _ _ _ _ _ _ (ap (λ kind. c.args.word.now ++ (58 ∷ (decimal c.args.number ++ (58 ∷ 32 ∷ kind)))) (append-nil c.args.kind.now)) c.print_tokens.ensures
