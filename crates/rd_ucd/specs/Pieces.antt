-- Pieces of bytes.
use Rattle.std.specs.Prelude.{ℕ, ◌==◌, ◌-◌, Bool, ◌||◌, List, [], length, take, drop, slice_index_or}
use Rattle.std.specs.List.{slice_split, prefix_len, suffix_len}

-- what stands before the first `#`
abbrev pub uncommented : List ℕ → List ℕ
uncommented line = slice_index_or (slice_split (λ b. b == 35) line) 0 []

-- a space or a tab
abbrev pub is_blank : ℕ → Bool
is_blank b = (b == 32) || (b == 9)

-- bytes without the spaces and tabs at their beginning, at their end, and at both
abbrev pub trimmed_front : List ℕ → List ℕ
trimmed_front bs = drop (prefix_len is_blank bs) bs

abbrev pub trimmed_back : List ℕ → List ℕ
trimmed_back bs = take (length bs - suffix_len is_blank bs) bs

abbrev pub trimmed : List ℕ → List ℕ
trimmed bs = trimmed_back (trimmed_front bs)
