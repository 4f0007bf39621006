-- What a reader has read: the lines that it gave, and the bytes that it took for them.
use Rattle.std.proofs.Common.{◌≡◌, ℕ, ◌+◌, ◌<◌, ◌≤◌, inl, inr, Bool, true, false, List, [], ◌∷◌, ◌++◌, length, Option, None, Result, Ok, Err, refl, sym, ap, ◌∙◌, subst, append_assoc, append-nil, arith, length-append}
use Rattle.std.specs.List.{AllByRecursion}
use Rattle.std.specs.Io.KnownBytes.{Consumes, IsAtEnd}
use Rattle.std.proofs.KnownBytes.{Consumes-nil, Consumes-trans}
use Rattle.std.proofs.lemmas.Bool.{both_ways, false_from_ne_true}
use Rattle.std.proofs.lemmas.List.{length_push}
use Rattle.rd_base.proofs.Lists.{each-append}
use Rattle.rd_base.specs.declared.limits.TheConstants.{LINE_BYTES, LINES}
use Rattle.rd_io.specs.Lines.{Reading, Answers, IsLine, Gives, IsUnbroken, lines_of, text_of_lines, unread}
use Rattle.rd_io.specs.declared.lines.LineFault.{LineFault}
use Rattle.rd_io.proofs.Cuts.{last-some, lines-text_of_lines}
use Rattle.rd_run.specs.Ends.{AreFirst, AreInLimits}

pub record HasRead (lines : List (List ℕ)) (bytes : List ℕ) (l0 l1 : Option (List ℕ)) (r : Reading) : Type 0 where
  pub taken : Consumes l0 l1 bytes
  pub unbroken : AllByRecursion IsUnbroken lines
  pub short : AllByRecursion (λ line. length line ≤ LINE_BYTES) lines
  pub split : r.ended ≡ false → bytes ≡ text_of_lines lines ++ r.held
  pub over : r.ended ≡ true → (lines_of bytes ≡ lines) × IsAtEnd l1
  pub count : r.given ≡ length lines
  pub few : r.given ≤ LINES
  pub clear : r.fault ≡ None

-- a reader that has read nothing
pub read-nothing : (l : Option (List ℕ)) (r : Reading) → r ≡ unread → HasRead [] [] l l r
read-nothing l r e =
    let at : HasRead [] [] l l unread = record { taken = Consumes-nil l; unbroken = tt; short = tt; split = λ p. refl; over = λ p. absurd (let q : false ≡ true = p in cc); count = refl; few = omega arith; clear = refl } in
    subst (HasRead [] [] l l) (sym e) at

-- ---- one more line

text_of_lines-push : (lines : List (List ℕ)) (line rest : List ℕ) → text_of_lines (lines ++ line ∷ []) ++ rest ≡ text_of_lines lines ++ (line ++ 10 ∷ rest)
text_of_lines-push [] line rest = simp append_assoc
text_of_lines-push (l ∷ ls) line rest =
    append_assoc (l ++ 10 ∷ []) (text_of_lines (ls ++ line ∷ [])) rest ∙ ap (λ x. (l ++ 10 ∷ []) ++ x) (text_of_lines-push ls line rest) ∙ sym (append_assoc (l ++ 10 ∷ []) (text_of_lines ls) (line ++ 10 ∷ rest))

-- the bytes that came behind the lines so far
pub come : (lines : List (List ℕ)) (bytes held more : List ℕ) → bytes ≡ text_of_lines lines ++ held → bytes ++ more ≡ text_of_lines lines ++ (held ++ more)
come lines bytes held more e = ap (λ l. l ++ more) e ∙ append_assoc (text_of_lines lines) held more

read-more : (lines : List (List ℕ)) (bytes more : List ℕ) (l0 l1 l2 : Option (List ℕ)) (old new : Reading) (last : Bool) → HasRead lines bytes l0 l1 old → Consumes l1 l2 more
    → IsLine new.line old.given → Gives old new last → (new.ended ≡ false → bytes ++ more ≡ text_of_lines (lines ++ new.line ∷ []) ++ new.held)
    → (new.ended ≡ true → (lines_of (bytes ++ more) ≡ lines ++ new.line ∷ []) × IsAtEnd l2) → HasRead (lines ++ new.line ∷ []) (bytes ++ more) l0 l2 new
read-more lines bytes more l0 l1 l2 old new last h p line g split over = record {
  taken = Consumes-trans l0 l1 l2 bytes more h.taken p;
  unbroken = each-append IsUnbroken lines (new.line ∷ []) h.unbroken (line.unbroken, tt);
  short = each-append (λ line. length line ≤ 1048576) lines (new.line ∷ []) h.short (line.short, tt);
  split = split;
  over = over;
  count = let a = h.count in let b = g.count in omega (arith, length_push lines new.line);
  few = let a = line.few in let b = g.count in omega arith;
  clear = g.fault;
}

pub read-line : (lines : List (List ℕ)) (bytes more : List ℕ) (l0 l1 l2 : Option (List ℕ)) (old new : Reading) → HasRead lines bytes l0 l1 old → Consumes l1 l2 more → old.ended ≡ false
    → Answers (Ok true) old new more l2 → HasRead (lines ++ new.line ∷ []) (bytes ++ more) l0 l2 new
read-line lines bytes more l0 l1 l2 old new h p off (inl (found, g)) =
    read-more lines bytes more l0 l1 l2 old new false h p found.fits g
    (λ q. come lines bytes old.held more (h.split off) ∙ ap (λ l. text_of_lines lines ++ l) found.split ∙ sym (text_of_lines-push lines new.line new.held))
    (λ q. absurd (both_ways new.ended g.ended q))
read-line lines bytes more l0 l1 l2 old new h p off (inr (found, g)) =
    read-more lines bytes more l0 l1 l2 old new true h p found.fits g (λ q. absurd (both_ways new.ended q g.ended)) (λ q. (
      ap lines_of (come lines bytes old.held more (h.split off) ∙ ap (λ l. text_of_lines lines ++ l) found.split) ∙ lines-text_of_lines lines new.line h.unbroken found.fits.unbroken
          ∙ ap (λ l. lines ++ l) (last-some new.line found.some),
      found.end,
    ))

pub line-given : (old new : Reading) (more : List ℕ) (l2 : Option (List ℕ)) → Answers (Ok true) old new more l2 → (new.given ≡ old.given + 1) × (old.given < 1000000)
line-given old new more l2 (inl (found, g)) = (g.count, found.fits.few)
line-given old new more l2 (inr (found, g)) = (g.count, found.fits.few)

-- a byte of a line that is given has come
pub line-comes : (old new : Reading) (more : List ℕ) (l2 : Option (List ℕ)) → Answers (Ok true) old new more l2 → 0 < length (old.held ++ more)
line-comes old new more l2 (inl (found, g)) = rw found.split (omega (arith, length-append new.line (10 ∷ new.held)))
line-comes old new more l2 (inr (found, g)) = rw found.split found.some

-- the lines given pass no limit
pub in-limits : (lines : List (List ℕ)) (bytes : List ℕ) (l0 l1 : Option (List ℕ)) (r : Reading) → HasRead lines bytes l0 l1 r → AreInLimits lines
in-limits lines bytes l0 l1 r h = record { short = h.short; few = let a = h.few in let b = h.count in omega arith }

-- the lines given are the first ones of the bytes taken
first-if : (b : Bool) (lines : List (List ℕ)) (bytes : List ℕ) (l0 l1 : Option (List ℕ)) (r : Reading) → r.ended ≡ b → HasRead lines bytes l0 l1 r → AreFirst lines bytes l1
first-if false lines bytes l0 l1 r e h = (in-limits lines bytes l0 l1 r h, inl (r.held, (h.unbroken, h.split e)))
first-if true lines bytes l0 l1 r e h = (in-limits lines bytes l0 l1 r h, inr (h.over e))

pub are-first : (lines : List (List ℕ)) (bytes : List ℕ) (l0 l1 : Option (List ℕ)) (r : Reading) → HasRead lines bytes l0 l1 r → AreFirst lines bytes l1
are-first lines bytes l0 l1 r h = first-if r.ended lines bytes l0 l1 r refl h

-- ---- the end

nothing-more : (held more : List ℕ) → held ++ more ≡ [] → more ≡ []
nothing-more [] more e = e
nothing-more (b ∷ bs) more e = absurd (let q : b ∷ (bs ++ more) ≡ [] = e in cc)

-- the reader answers that no line is left
pub read-over : (lines : List (List ℕ)) (bytes more : List ℕ) (l0 l1 l2 : Option (List ℕ)) (old new : Reading) → HasRead lines bytes l0 l1 old → Consumes l1 l2 more → (old.ended ≡ true → l2 ≡ l1)
    → Answers (Ok false) old new more l2 → Consumes l0 l2 (bytes ++ more) × (lines_of (bytes ++ more) ≡ lines) × IsAtEnd l2
read-over lines bytes more l0 l1 l2 old new h p same g = by old.ended refl
  where
    by : (b : Bool) → old.ended ≡ b → Consumes l0 l2 (bytes ++ more) × (lines_of (bytes ++ more) ≡ lines) × IsAtEnd l2
    by false off = (
      Consumes-trans l0 l1 l2 bytes more h.taken p,
      ap lines_of (come lines bytes old.held more (h.split off) ∙ ap (λ l. text_of_lines lines ++ l) g.split) ∙ lines-text_of_lines lines [] h.unbroken tt ∙ append-nil lines,
      g.end off,
    )
    by true on = (
      Consumes-trans l0 l1 l2 bytes more h.taken p,
      ap lines_of (ap (λ l. bytes ++ l) (nothing-more old.held more g.split) ∙ append-nil bytes) ∙ (h.over on).0,
      subst IsAtEnd (sym (same on)) (h.over on).1,
    )

-- an answer other than the end comes while the end has not been met
pub is-open : (r : Reading) (result : Result Bool LineFault) → (r.ended ≡ true → result ≡ Ok false) → (result ≡ Ok false → ⊥) → r.ended ≡ false
is-open r result p q = false_from_ne_true r.ended (λ over. q (p over))

pub not-err : (r : Result Bool LineFault) (fault : LineFault) → r ≡ Err fault → r ≡ Ok false → ⊥
not-err r fault p q = cc

pub not-true : (r : Result Bool LineFault) (b : Bool) → r ≡ Ok b → b ≡ true → r ≡ Ok false → ⊥
not-true r b p t q = cc
