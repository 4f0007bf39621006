-- What a writer of items does to a sink.
use Rattle.std.specs.Prelude.{ℕ, List, Option, Result}
use Rattle.std.specs.Borrow.{Bor, MutBor}
use Rattle.rd_io.specs.Devices.{Prints}

-- what a call writes is the text of the item that it is given
abbrev pub PrintsItems : {K T U E : Type 0} → (K → Option (List ℕ)) → (K → ℕ) → (T → List ℕ) → (MutBor K → Bor T → Result U E → MutBor K → Type 0) → Type 0
PrintsItems {K} {T} {U} {E} written faults text calls = (sink left : MutBor K) (item : Bor T) (result : Result U E) → calls sink item result left
    → Prints (written sink.now) (written left.now) (faults sink.now) (faults left.now) (text item.now) result
