-- A stream that is read piece by piece.
use Rattle.std.proofs.Common.{◌≡◌, ℕ, List, ◌++◌, sym, ap, ◌∙◌}
use Rattle.std.proofs.lemmas.List.Sums.{fold-append}
use Rattle.rd_term.specs.Terminals.{Tty, feed_bytes, feed_byte}

pub fed-more : (start now next : Tty) (bs cs ds : List ℕ) → now ≡ feed_bytes start bs → next ≡ feed_bytes now cs → cs ≡ ds → next ≡ feed_bytes start (bs ++ ds)
fed-more start now next bs cs ds p q e = q ∙ ap (feed_bytes now) e ∙ ap (λ t. feed_bytes t ds) p ∙ sym (fold-append feed_byte start bs ds)
