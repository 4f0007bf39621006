-- What the last element that passes a test gives.
use Rattle.std.proofs.Common.{ℕ, ◌==◌, Bool, List, Option, Some, None, IsTrue}
use Rattle.std.proofs.lemmas.List.Sorted.{All-permutation, IsPermutation-reverse}
use Rattle.std.specs.List.{All, find}
use Rattle.std.specs.Prelude.{IfSome, option_map, reverse}
use Rattle.rd_base.proofs.Lists.{found-each}
use Rattle.rd_objects.specs.declared.table.TableEntry.{TableEntry}
use Rattle.rd_objects.specs.Tables.{entry_glyphs, is_glyph_text}

-- what holds of what each element gives holds of what the last that passes gives
pub last-gives : {X Y : Type 0} (P : Y → Type 0) (f : X → Y) (p : X → Bool) (xs : List X) → All (λ x. P (f x)) xs
    → IfSome (option_map f (find p (reverse xs))) P
last-gives {X} P f p xs all =
    let turned = All-permutation (λ x. P (f x)) xs (reverse xs) (IsPermutation-reverse xs) all in
    mapped (find p (reverse xs)) (found-each (λ x. P (f x)) p (reverse xs) turned) where
      mapped : (o : Option X) → IfSome o (λ x. P (f x)) → IfSome (option_map f o) P
      mapped None h = h
      mapped (Some x) h = h

-- an entry shows glyph characters
pub entry-text : (entries : List TableEntry) (code : ℕ) → All (λ e. IsTrue (is_glyph_text e.text)) entries → IfSome (entry_glyphs entries code) (λ text. IsTrue (is_glyph_text text))
entry-text entries code = last-gives (λ text. IsTrue (is_glyph_text text)) (λ e. e.text) (λ e. e.code == code) entries
