-- A whole control sequence, read by a terminal that is not confused and stands between two sequences.
use Rattle.std.proofs.Common.{◌≡◌, ℕ, ◌+◌, ◌-◌, ◌<◌, ◌≤◌, ◌==◌, Bool, true, false, List, [], ◌∷◌, ◌++◌, length, get_or, All, Option, None, Some, refl, sym, ap, ◌∙◌, arith, append_assoc}
use Rattle.std.specs.Fmt.{decimal}
use Rattle.std.specs.List.{flat_map, AllByRecursion}
use Rattle.std.proofs.lemmas.Bool.Decides.{nat_tests}
use Rattle.std.proofs.lemmas.List.{length-append}
use Rattle.std.proofs.lemmas.List.Elements.{recursion_from_All}
use Rattle.std.specs.Char.{is_ascii_digit}
use Rattle.rd_base.specs.Faces.{Attributes}
use Rattle.rd_term.specs.Controls.{control_of}
use Rattle.rd_term.specs.Steps.{at_end}
use Rattle.rd_term.specs.Terminals.{Tty, feed_byte, feed_bytes, on_screen, perform}
use Rattle.rd_term.specs.declared.reading.Reading.{Reading}
use Rattle.rd_term.specs.declared.reading.Reading.TheVariants.{Between}
use Rattle.rd_term.proofs.Encoded.{Rows, standing}
use Rattle.std.proofs.lemmas.List.Sums.{fold-append}
use Rattle.rd_update.specs.Updates.{parameter, sequence, move}
use Rattle.rd_update.proofs.Feeding.{amid, decimal_fed}

-- what a sequence of these numbers with this last byte does
abbrev pub obeyed : ℕ → List ℕ → Tty → Tty
obeyed byte numbers t = perform (at_end (control_of byte) (Some numbers)) t

-- ---- the numbers

end_fed : (region : Option (ℕ × ℕ)) (rows : Rows) (cursor : Option (ℕ × ℕ)) (wait : Bool) (pen : Option Attributes) (ended : List ℕ) (last byte : ℕ)
    → is_ascii_digit byte ≡ false → (byte == 59) ≡ false
    → feed_byte (amid region rows cursor wait pen ended (Some last)) byte ≡ obeyed byte (ended ++ last ∷ []) (standing region rows cursor wait pen None)
end_fed region rows cursor wait pen ended last byte d s = rw (d, s) refl

next_fed : (region : Option (ℕ × ℕ)) (rows : Rows) (cursor : Option (ℕ × ℕ)) (wait : Bool) (pen : Option Attributes) (ended : List ℕ) (last : ℕ)
    → feed_byte (amid region rows cursor wait pen ended (Some last)) 59 ≡ amid region rows cursor wait pen (ended ++ last ∷ []) None
next_fed region rows cursor wait pen ended last = refl

pub parameters_fed : (region : Option (ℕ × ℕ)) (rows : Rows) (cursor : Option (ℕ × ℕ)) (wait : Bool) (pen : Option Attributes) (ended : List ℕ) (last byte : ℕ) (ns : List ℕ)
    → is_ascii_digit byte ≡ false → (byte == 59) ≡ false → length ended + length ns < 16 → AllByRecursion (λ n. n ≤ 65535) ns
    → feed_bytes (amid region rows cursor wait pen ended (Some last)) (flat_map parameter ns ++ byte ∷ []) ≡ obeyed byte (ended ++ last ∷ ns) (standing region rows cursor wait pen None)
parameters_fed region rows cursor wait pen ended last byte [] d s few small = end_fed region rows cursor wait pen ended last byte d s
parameters_fed region rows cursor wait pen ended last byte (n ∷ ns) d s few small =
    let more = flat_map parameter ns ++ byte ∷ [] in
    let room : length (ended ++ last ∷ []) < 16 = omega (arith, few, length-append ended (last ∷ [])) in
    let next : length (ended ++ last ∷ []) + length ns < 16 = omega (arith, few, length-append ended (last ∷ [])) in
    ap (feed_bytes (amid region rows cursor wait pen ended (Some last))) (append_assoc (parameter n) (flat_map parameter ns) (byte ∷ []))
    ∙ ap (λ t. feed_bytes t (decimal n ++ more)) (next_fed region rows cursor wait pen ended last)
    ∙ fold-append feed_byte (amid region rows cursor wait pen (ended ++ last ∷ []) None) (decimal n) more
    ∙ ap (λ t. feed_bytes t more) (decimal_fed region rows cursor wait pen (ended ++ last ∷ []) n room small.0)
    ∙ parameters_fed region rows cursor wait pen (ended ++ last ∷ []) n byte ns d s next small.1
    ∙ ap (λ xs. obeyed byte xs (standing region rows cursor wait pen None)) (append_assoc ended (last ∷ []) (n ∷ ns))

sequence_fed : (region : Option (ℕ × ℕ)) (rows : Rows) (cursor : Option (ℕ × ℕ)) (wait : Bool) (pen : Option Attributes) (latest : Option (ℕ × ℕ)) (n byte : ℕ) (ns : List ℕ)
    → is_ascii_digit byte ≡ false → (byte == 59) ≡ false → n ≤ 65535 → AllByRecursion (λ n. n ≤ 65535) ns → length ns < 16
    → feed_bytes (standing region rows cursor wait pen latest) (sequence n ns byte) ≡ obeyed byte (n ∷ ns) (standing region rows cursor wait pen None)
sequence_fed region rows cursor wait pen latest n byte ns d s first small few =
    let none : length {A = ℕ} [] < 16 = omega arith in
    let room : length {A = ℕ} [] + length ns < 16 = omega (arith, few) in
    fold-append feed_byte (amid region rows cursor wait pen [] None) (decimal n) (flat_map parameter ns ++ byte ∷ [])
    ∙ ap (λ t. feed_bytes t (flat_map parameter ns ++ byte ∷ [])) (decimal_fed region rows cursor wait pen [] n none first)
    ∙ parameters_fed region rows cursor wait pen [] n byte ns d s room small

-- ---- moves

on_screen-here : (rows : Rows) (row column : ℕ) → row < length rows → column < length (get_or rows row []) → on_screen rows (row + 1) (column + 1) ≡ true
on_screen-here rows row column r c =
    let e : row + 1 - 1 ≡ row = omega arith in
    rw e (grind (arith, nat_tests))

pub move_fed : (region : Option (ℕ × ℕ)) → (rows : Rows) (cursor : Option (ℕ × ℕ)) (wait : Bool) (pen : Option Attributes) (latest : Option (ℕ × ℕ)) (row column : ℕ)
    → row < length rows → column < length (get_or rows row []) → row < 65535 → column < 65535
    → feed_bytes (standing region rows cursor wait pen latest) (move row column) ≡ standing region rows (Some (row, column)) false pen None
move_fed region rows cursor wait pen latest row column r c row_small column_small =
    let here = on_screen-here rows row column r c in
    let e : row + 1 - 1 ≡ row = omega arith in
    let f : column + 1 - 1 ≡ column = omega arith in
    sequence_fed region rows cursor wait pen latest (row + 1) 72 ((column + 1) ∷ []) refl refl (omega arith) (omega arith, tt) (omega arith) ∙ rw (here, e, f) refl

-- ---- any terminal

pub tty-same : (rows : Rows) (region cursor : Option (ℕ × ℕ)) (wait : Bool) (pen : Option Attributes) (latest : Option (ℕ × ℕ)) (reading : Reading) (confused : Bool) (rows' : Rows) (pen' : Option Attributes)
    → rows ≡ rows' → pen ≡ pen' → reading ≡ Between → confused ≡ false
    → let t : Tty = record { rows = rows; region = region; cursor = cursor; wait = wait; pen = pen; latest = latest; reading = reading; confused = confused } in t ≡ standing region rows' cursor wait pen' latest
tty-same rows region cursor wait pen latest reading confused rows' pen' a b c d = cc

pub sequence-read : (t : Tty) (byte n : ℕ) (ns : List ℕ) → t.confused ≡ false → t.reading ≡ Between → is_ascii_digit byte ≡ false → (byte == 59) ≡ false
    → n ≤ 65535 → All (λ k. k ≤ 65535) ns → length ns < 16
    → feed_bytes t (sequence n ns byte) ≡ obeyed byte (n ∷ ns) (record t { latest = None })
sequence-read t byte n ns sure between d s first small few =
    let before = tty-same t.rows t.region t.cursor t.wait t.pen t.latest t.reading t.confused t.rows t.pen refl refl between sure in
    let behind = tty-same t.rows t.region t.cursor t.wait t.pen None t.reading t.confused t.rows t.pen refl refl between sure in
    ap (λ x. feed_bytes x (sequence n ns byte)) before
    ∙ sequence_fed t.region t.rows t.cursor t.wait t.pen t.latest n byte ns d s first (recursion_from_All (λ k. k ≤ 65535) ns small) few
    ∙ ap (obeyed byte (n ∷ ns)) (sym behind)
