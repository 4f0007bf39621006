-- The reading of one line, step by step.
use Rattle.std.proofs.Common.{◌≡◌, ℕ, ◌+◌, ◌<◌, ◌≤◌, ◌⊎◌, inl, inr, List, [], ◌++◌, length, take, Option, None, Result, Ok, Err, refl, sym, ap, ◌∙◌, subst, append_assoc, append-nil, arith, length-append}
use Rattle.std.proofs.lemmas.List.{take-append-le}
use Rattle.std.specs.Io.KnownBytes.{Consumes, IsAtEnd}
use Rattle.std.proofs.KnownBytes.{Consumes-trans}
use Rattle.rd_base.specs.declared.limits.TheConstants.{LINE_BYTES, LINES}
use Rattle.rd_io.specs.Lines.{IsUnbroken}
use Rattle.rd_io.specs.Pieces.{IsLeft, ReadsOn, TakesPiece, Gathers}
use Rattle.rd_io.specs.declared.chunk.TheConstants.{READ_BYTES}
use Rattle.rd_io.specs.declared.lines.Found.{Found}
use Rattle.rd_io.specs.declared.lines.Found.TheVariants.{Whole, Last, Over}
use Rattle.rd_io.specs.declared.lines.LineFault.{LineFault}
use Rattle.rd_io.specs.declared.lines.LineFault.TheVariants.{Failed, TooLong, TooMany, Memory}
use Rattle.rd_io.proofs.Cuts.{unbroken-append, unbroken-take}

-- the bytes held at first and those taken since are the line so far and the bytes behind it
pub record Gathering (held : List ℕ) (first left : Option (List ℕ)) (line rest : List ℕ) (given : ℕ) : Type 0 where
  pub bytes : List ℕ
  pub taken : Consumes first left bytes
  pub split : held ++ bytes ≡ line ++ rest
  pub unbroken : IsUnbroken line
  pub short : length line ≤ LINE_BYTES
  pub few : (line ≡ []) ⊎ (given < LINES)
  pub reads : ReadsOn held bytes

-- what came ends in this result
abbrev pub Ends : Result Found LineFault → List ℕ → Option (List ℕ) → Option (List ℕ) → List ℕ → List ℕ → ℕ → Type 0
Ends result held first left line rest given = (bytes : List ℕ) × Consumes first left bytes × Gathers result (held ++ bytes) line rest given left × ReadsOn held bytes

-- no line may be given
pub gathers-fault : (held : List ℕ) (first left : Option (List ℕ)) (line rest new behind : List ℕ) (given : ℕ) (fault : LineFault) → Gathering held first left line rest given
    → TakesPiece (Err fault) line new rest given → Ends (Err fault) held first left new behind given
gathers-fault held first left line rest new behind given Failed g t = absurd t
gathers-fault held first left line rest new behind given TooMany g t =
    let long : 0 < length (held ++ g.bytes) = rw g.split (omega (arith, length-append line rest, t.1)) in
    (g.bytes, g.taken, (t.0, long), g.reads)
gathers-fault held first left line rest new behind given Memory g t =
    let some : 0 < length (held ++ g.bytes) = rw g.split (omega (arith, length-append line rest, t.1)) in
    (g.bytes, g.taken, (t.0, some), g.reads)
gathers-fault held first left line rest new behind given TooLong g t =
    let piece = t.1.0 in
    let come : held ++ g.bytes ≡ (line ++ piece) ++ t.1.1 = g.split ∙ ap (λ l. line ++ l) t.1.2 ∙ sym (append_assoc line piece t.1.1) in
    let long : LINE_BYTES < length (line ++ piece) = omega (arith, length-append line piece, t.1.4) in
    let whole : LINE_BYTES < length (held ++ g.bytes) = rw come (omega (arith, length-append (line ++ piece) t.1.1)) in
    let bound : LINE_BYTES + 1 ≤ length (line ++ piece) = omega arith in
    let front : take (LINE_BYTES + 1) (held ++ g.bytes) ≡ take (LINE_BYTES + 1) (line ++ piece) = rw come (rw take-append-le refl) in
    let unbroken = unbroken-take (LINE_BYTES + 1) (line ++ piece) (unbroken-append line piece g.unbroken t.1.3) in
    (g.bytes, g.taken, (t.0, whole, subst IsUnbroken (sym front) unbroken), g.reads)

few-more : (line rest new : List ℕ) (given : ℕ) → (line ≡ []) ⊎ (given < LINES) → new ≡ line ++ rest
    → ((rest ≡ []) ⊎ ((given < LINES) × (length new ≤ LINE_BYTES))) → (new ≡ []) ⊎ (given < LINES)
few-more line rest new given few is (inr more) = inr more.0
few-more line rest new given (inr few) is (inl none) = inr few
few-more line rest new given (inl empty) is (inl none) = inl (is ∙ ap (λ l. l ++ rest) empty ∙ none)

short-more : (line rest new : List ℕ) (given : ℕ) → length line ≤ LINE_BYTES → new ≡ line ++ rest
    → ((rest ≡ []) ⊎ ((given < LINES) × (length new ≤ LINE_BYTES))) → length new ≤ LINE_BYTES
short-more line rest new given short is (inr more) = more.1
short-more line rest new given short is (inl none) = rw (is, none, append-nil line) short

-- what was there had no newline, and the source gave more
pub gathering-goes_on : (held : List ℕ) (first left later : Option (List ℕ)) (line rest new more : List ℕ) (given : ℕ) → Gathering held first left line rest given
    → TakesPiece (Ok None) line new rest given → Consumes left later more → length more ≤ READ_BYTES → Gathering held first later new more given
gathering-goes_on held first left later line rest new more given g t taken small = record {
  bytes = g.bytes ++ more;
  taken = Consumes-trans first left later g.bytes more g.taken taken;
  split = sym (append_assoc held g.bytes more) ∙ ap (λ l. l ++ more) (g.split ∙ sym t.0);
  unbroken = subst IsUnbroken (sym t.0) (unbroken-append line rest g.unbroken t.1);
  short = short-more line rest new given g.short t.0 t.2;
  few = few-more line rest new given g.few t.0 t.2;
  reads = inr (g.bytes, more, refl, subst IsUnbroken (sym g.split) (unbroken-append line rest g.unbroken t.1), small);
}

-- the source is at its end behind a line without a newline, or behind nothing
pub gathers-end : (held : List ℕ) (first left : Option (List ℕ)) (line rest : List ℕ) (given : ℕ) (found : Found) → Gathering held first left line rest given
    → rest ≡ [] → IsAtEnd left → IsLeft found line → Ends (Ok found) held first left line rest given
gathers-end held first left line rest given Whole g none end is = absurd is
gathers-end held first left line rest given Over g none end is = (g.bytes, g.taken, (g.split ∙ ap (λ l. l ++ rest) is ∙ none, none, end), g.reads)
gathers-end held first left line rest given Last g none end is =
    let come : held ++ g.bytes ≡ line = g.split ∙ ap (λ l. line ++ l) none ∙ append-nil line in
    let few : given < LINES = elim g.few [ inl empty ↦ absurd (omega (arith, ap length empty)) | inr few ↦ few ] in
    (g.bytes, g.taken, record { fits = record { unbroken = g.unbroken; short = g.short; few = few }; split = come; some = is; none = none; end = end }, g.reads)

-- nothing was read before the bytes held at first were seen to have no newline
pub unbroken-first : (held rest : List ℕ) (P : Type 0) → (P × (rest ≡ held)) ⊎ IsUnbroken held → IsUnbroken rest → IsUnbroken held
unbroken-first held rest P (inl first) h = subst IsUnbroken first.1 h
unbroken-first held rest P (inr known) h = known
