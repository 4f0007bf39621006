-- What one more piece makes of the pieces of a format that were read.
use Rattle.std.proofs.Common.{arith, ◌≡◌, ◌++◌, ℕ, ◌+◌, ◌≤◌, Option, drop, List, [], ◌∷◌, Result, Ok, Err, length, sym, ap, ◌∙◌, refl, subst, IsErrAnd, Some}
use Rattle.std.proofs.lemmas.List.{append_assoc}
use Rattle.rd_ucd.specs.Results.{behind}
use Rattle.rd_modeline.specs.declared.fault.FormatFault.{FormatFault}
use Rattle.rd_modeline.specs.declared.fault.FormatFault.TheVariants.{BadFormat, Memory}
use Rattle.rd_modeline.specs.declared.piece.Piece.{Piece}
use Rattle.rd_modeline.specs.declared.reading.Begun.{Begun}
use Rattle.rd_modeline.specs.Formats.{before, pieces_from, pieces_at, pieces_of, ReadsOn, IsNext}

-- these pieces were read of a format up to a place
pub record AreRead (text : List ℕ) (place : ℕ) (ps : List Piece) : Type 0 where
  pub bound : place ≤ length text
  pub rest : behind ps (pieces_at text place) ≡ pieces_of text

all-before : (ps : List Piece) (p : Piece) (r : Result (List Piece) ℕ) → behind ps (before p r) ≡ behind (ps ++ p ∷ []) r
all-before ps p (Ok qs) = ap Ok (sym (append_assoc ps (p ∷ []) qs))
all-before ps p (Err place) = refl

behind-none : (r : Result (List Piece) ℕ) → behind [] r ≡ r
behind-none (Ok ps) = refl
behind-none (Err place) = refl

-- before the first piece none is read
pub begun-reading : (text : List ℕ) → AreRead text 0 []
begun-reading text = record { bound = omega arith; rest = behind-none (pieces_of text) }

-- one piece more is read
pub one-more : (text : List ℕ) (place end : ℕ) (ps : List Piece) (p : Piece) (step : Option (Piece × ℕ)) →
    AreRead text place ps → step ≡ Some (p, end) → IsNext (Ok step) text place → AreRead text end (ps ++ p ∷ [])
one-more text place end ps p step read is found = let next = subst (λ o. IsNext (Ok o) text place) is found in record {
  bound = next.1;
  rest = sym (all-before ps p (pieces_at text end)) ∙ ap (behind ps) (sym next.2) ∙ read.rest;
}

-- where the next character is bad the rest is
pub bad-next : (result : Result (Option (Piece × ℕ)) FormatFault) (fault : FormatFault) (b : Begun) (text : List ℕ) (from place c : ℕ) → IsErrAnd result (λ f. f ≡ fault) → ReadsOn (Err fault) b place c →
    pieces_at text from ≡ pieces_from b place (drop place text) → drop place text ≡ c ∷ drop (place + 1) text → IsNext result text from
bad-next (Err f) (BadFormat start) b text from place c is reads same split =
    subst (λ (g : FormatFault). IsNext (Err g) text from) (sym is) (same ∙ ap (pieces_from b place) split ∙ reads (drop (place + 1) text))
bad-next (Err f) Memory b text from place c is reads same split = subst (λ (g : FormatFault). IsNext (Err g) text from) (sym is) tt
bad-next (Ok a) fault b text from place c is reads same split = absurd is
