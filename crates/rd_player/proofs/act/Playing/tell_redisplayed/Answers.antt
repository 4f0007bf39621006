use Rattle.std.proofs.Common.{◌≡◌, ℕ, [], is_some, Bool, if◌then◌else◌, true, Option, None, List, sym}
use Rattle.rd_dump.proofs.Writing.{prints-as, prints-then}
use Rattle.rd_player.proofs.act.Playing.tell_redisplayed.Goals as goal

-- of a script that is read all lines of a redisplay that was shown are told
all-told : (generated : Option ℕ) (shown : Bool) (lines others : List ℕ) → generated ≡ None → shown ≡ true
    → lines ≡ (if is_some generated then [] else if shown then lines else others)
all-told generated shown lines others read is = λ i. if is_some (sym read i) then [] else if sym is i then lines else others

pub returns-in_ok-tell_rows-in-None-true-clause-printed : goal.returns-in_ok-tell_rows-in-None-true-clause-printed
returns-in_ok-tell_rows-in-None-true-clause-printed g c =
    prints-as _ _ _ _ _ _ _ (all-told c.args.self.now.generated c.args.shown _ _ c.in-None-true.is-0 c.in-None-true.is-1)
    (prints-then _ _ _ _ _ _ _ _ _ _ c.in_ok-tell_rows-in-None-true.ensures c.tell_dump.ensures)
