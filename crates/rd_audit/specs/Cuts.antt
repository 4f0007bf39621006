-- Pieces of bytes.
use Rattle.std.specs.Prelude.{ℕ, ◌==◌, if◌then◌else◌, List, [], ◌∷◌, length, take, drop, Option, None, Some}
use Rattle.std.specs.List.{slice_split}
use Rattle.std.specs.Str.{bytes_eq}

-- what stands behind these bytes, where the others begin with them
abbrev pub stripped : List ℕ → List ℕ → Option (List ℕ)
stripped front bytes = if bytes_eq (take (length front) bytes) front then Some (drop (length front) bytes) else None

-- what stands before the last of a byte, and what stands behind it
abbrev pub cut_last_or : ℕ → ℕ → List ℕ → Option (List ℕ × List ℕ) → Option (List ℕ × List ℕ)
cut_last_or byte b bs None = if b == byte then Some ([], bs) else None
cut_last_or byte b bs (Some parts) = Some (b ∷ parts.0, parts.1)

abbrev pub cut_last : ℕ → List ℕ → Option (List ℕ × List ℕ)
cut_last byte [] = None
cut_last byte (b ∷ bs) = cut_last_or byte b bs (cut_last byte bs)

-- the pieces before, between and behind a byte
abbrev pub pieces : ℕ → List ℕ → List (List ℕ)
pieces byte bytes = slice_split (λ b. b == byte) bytes
