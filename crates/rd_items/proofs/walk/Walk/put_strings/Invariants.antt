use Rattle.std.proofs.Common.{◌≡◌, ◌++◌, List, drop}
use Rattle.rd_items.specs.Pieces.{string_pieces}
use Rattle.rd_items.specs.Walks.{whole}
use Rattle.rd_items.specs.declared.piece.Piece.{Piece}
use Rattle.rd_items.proofs.walk.Walk.put_strings.Given as goal

abbrev pub invariant-loop-number : goal.invariant-loop-number
invariant-loop-number l =
    (xs : List Piece) → whole l.self.items l.self.since l.self.held (string_pieces l.at l.face (drop l.number-index l.numbers) ++ xs) ≡ whole l.fn.self.items l.fn.self.since l.fn.self.held (string_pieces l.at l.face l.numbers ++ xs)
