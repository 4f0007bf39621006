-- Files in memory: their names, their bytes, and how often each has failed.
use Rattle.std.specs.Prelude.{ℕ, ◌==◌, List, Option, None, Some, count_by, position, slice_get, String, Vec, string_bytes}
use Rattle.std.specs.Global.{Global}
use Rattle.std.specs.Option.{option_map, option_and_then}
use Rattle.std.specs.Str.{bytes_eq}

-- the place of the first file of a name
abbrev pub place_in : List (String Global × Vec ℕ Global) → List ℕ → Option ℕ
place_in files name = position (λ file. bytes_eq (string_bytes file.0) name) files

-- the bytes of the file of a place
abbrev pub bytes_at : List (String Global × Vec ℕ Global) → Option ℕ → Option (List ℕ)
bytes_at files place = option_and_then (λ p. option_map (λ file. file.1.items) (slice_get files p)) place

-- Places of files are noted as they fail, and the failures at names without a file are counted. So many times the file of this
-- place has failed, or such a name where there is no place.
abbrev pub faults_at : Option ℕ → List ℕ → ℕ → ℕ
faults_at None failed missing = missing
faults_at (Some place) failed missing = count_by (λ p. p == place) failed
