-- A front of the last line of a run has no line of a cursor.
use Rattle.std.proofs.Common.{◌≡◌, ◌==◌, ◌⊎◌, inl, inr, ℕ, zero, suc, Bool, true, false, not, if◌then◌else◌, None, Some, option_map, decimal, codes, List, [], ◌∷◌, ◌++◌, take, refl, sym, ap, ◌∙◌, subst, append_assoc, arith}
use Rattle.std.proofs.lemmas.Bool.{and_from, and_parts, eqb-true, not-true}
use Rattle.std.proofs.lemmas.Bool.Decides.{nat_tests}
use Rattle.std.proofs.lemmas.List.Elements.{All-cons, All-nil}
use Rattle.rd_base.specs.Cuts.{cut}
use Rattle.rd_io.specs.Lines.{IsUnbroken, lines_of}
use Rattle.rd_run.specs.Ends.{ComesIn, Drawn}
use Rattle.rd_run.specs.Reports.{behind_kind, kind_of, last_line, located, op_kind, refused_kind}
use Rattle.rd_run.specs.Runs.{Input, Mode}
use Rattle.rd_run.specs.declared.status.ScriptFault.{ScriptFault}
use Rattle.rd_run.specs.declared.status.ScriptFault.TheVariants as faults
use Rattle.rd_run.specs.declared.status.Status.{Status}
use Rattle.rd_run.specs.declared.status.Status.TheVariants.{Done, Usage, BadData, BadScript, ReadFault, WriteFault, NoMemory}
use Rattle.rd_script.specs.declared.fault.OpFault.{OpFault}
use Rattle.rd_script.specs.declared.fault.OpFault.TheVariants as ops
use Rattle.rd_state.specs.declared.refused.Refused.{Refused}
use Rattle.rd_state.specs.declared.refused.Refused.TheVariants as refusals
use Rattle.rd_audit.proofs.Cutting.{lines-uncut}
use Rattle.rd_audit.proofs.Lacking.{lacks, lacks-append, lacks-decimal}
use Rattle.rd_audit.proofs.Leaving.{passed-line}
use Rattle.rd_audit.specs.Printed.{HasNoCursor}
use Rattle.rd_audit.specs.Recorded.{IsToldInOneLine}
use Rattle.rd_audit.specs.Rows.{is_cursor}

-- ---- fronts of a line

-- whether a line does not begin as a cursor's does
abbrev is_other : List ℕ → Bool
is_other [] = true
is_other (b ∷ bs) = not (b == 99)

other-line : (line : List ℕ) → is_other line ≡ true → is_cursor line ≡ false
other-line [] h = refl
other-line (b ∷ bs) h =
    let letter = not-true (b == 99) h in
    let other : (99 == b) ≡ false = grind (arith, nat_tests, letter) in
    rw other refl

cut-none : (byte : ℕ) (bytes : List ℕ) → lacks byte bytes ≡ true → cut byte bytes ≡ None
cut-none byte [] h = refl
cut-none byte (b ∷ bs) h =
    let both = and_parts (not (b == byte)) (lacks byte bs) h in
    ap (λ t. if t then Some ([], bs) else option_map (λ parts. (b ∷ parts.0, parts.1)) (cut byte bs)) (not-true (b == byte) both.0)
    ∙ ap (option_map (λ parts. (b ∷ parts.0, parts.1))) (cut-none byte bs both.1)

line-alone : (line : List ℕ) → lacks 10 line ≡ true → is_other line ≡ true → HasNoCursor (lines_of line)
line-alone [] unbroken other = All-nil (λ l. is_cursor l ≡ false)
line-alone (b ∷ bs) unbroken other =
    subst HasNoCursor (sym (lines-uncut (b ∷ bs) (cut-none 10 (b ∷ bs) unbroken) (omega arith)))
    (All-cons (λ l. is_cursor l ≡ false) (b ∷ bs) [] (other-line (b ∷ bs) other) (All-nil (λ l. is_cursor l ≡ false)))

lacks-take : (byte n : ℕ) (bytes : List ℕ) → lacks byte bytes ≡ true → lacks byte (take n bytes) ≡ true
lacks-take byte zero bytes h = refl
lacks-take byte (suc n) [] h = refl
lacks-take byte (suc n) (b ∷ bs) h =
    let both = and_parts (not (b == byte)) (lacks byte bs) h in
    and_from (not (b == byte)) (lacks byte (take n bs)) both.0 (lacks-take byte n bs both.1)

other-take : (n : ℕ) (line : List ℕ) → is_other line ≡ true → is_other (take n line) ≡ true
other-take zero line h = refl
other-take (suc n) [] h = refl
other-take (suc n) (b ∷ bs) h = h

-- a front of a line and its newline is a front of the line, or all of it
fronts : (n : ℕ) (line : List ℕ) → (take n (line ++ 10 ∷ []) ≡ take n line) ⊎ (take n (line ++ 10 ∷ []) ≡ line ++ 10 ∷ [])
fronts zero line = inl refl
fronts (suc zero) [] = inr refl
fronts (suc (suc n)) [] = inr refl
fronts (suc n) (b ∷ bs) = longer (fronts n bs)
  where
    longer : (take n (bs ++ 10 ∷ []) ≡ take n bs) ⊎ (take n (bs ++ 10 ∷ []) ≡ bs ++ 10 ∷ [])
        → (b ∷ take n (bs ++ 10 ∷ []) ≡ b ∷ take n bs) ⊎ (b ∷ take n (bs ++ 10 ∷ []) ≡ b ∷ (bs ++ 10 ∷ []))
    longer (inl e) = inl (ap (λ l. b ∷ l) e)
    longer (inr e) = inr (ap (λ l. b ∷ l) e)

-- a text is one line with its newline, and no cursor's
record IsOneLine (text : List ℕ) : Type 0 where
  pub line : List ℕ
  pub is : text ≡ line ++ 10 ∷ []
  pub unbroken : lacks 10 line ≡ true
  pub other : is_other line ≡ true

front-passes : (n : ℕ) (text : List ℕ) → IsOneLine text → HasNoCursor (lines_of (take n text))
front-passes n text h = subst (λ l. HasNoCursor (lines_of (take n l))) (sym h.is) (by (fronts n h.line))
  where
    by : (take n (h.line ++ 10 ∷ []) ≡ take n h.line) ⊎ (take n (h.line ++ 10 ∷ []) ≡ h.line ++ 10 ∷ []) → HasNoCursor (lines_of (take n (h.line ++ 10 ∷ [])))
    by (inl e) = subst (λ l. HasNoCursor (lines_of l)) (sym e) (line-alone (take n h.line) (lacks-take 10 n h.line h.unbroken) (other-take n h.line h.other))
    by (inr e) =
        subst (λ l. HasNoCursor (lines_of l)) (sym e) (passed-line h.line [] h.unbroken (other-line h.line h.other) (All-nil (λ l. is_cursor l ≡ false)))

-- ---- the last line

op_kind-lacks : (fault : OpFault) → lacks 10 (op_kind fault) ≡ true
op_kind-lacks ops.NotJson = refl
op_kind-lacks fault = refl

refused_kind-lacks : (cause : Refused) → lacks 10 (refused_kind cause) ≡ true
refused_kind-lacks refusals.NoBuffer = refl
refused_kind-lacks cause = refl

kind-lacks : (fault : ScriptFault) → lacks 10 (kind_of fault) ≡ true
kind-lacks faults.TooLong = refl
kind-lacks faults.TooMany = refl
kind-lacks (faults.Op fault) = op_kind-lacks fault
kind-lacks (faults.Refused cause) = refused_kind-lacks cause

unbroken-lacks : (bytes : List ℕ) → IsUnbroken bytes → lacks 10 bytes ≡ true
unbroken-lacks [] h = refl
unbroken-lacks (b ∷ bs) h = and_from (not (b == 10)) (lacks 10 bs) (by (b == 10) refl) (unbroken-lacks bs h.1)
  where
    by : (t : Bool) → (b == 10) ≡ t → not t ≡ true
    by true e = absurd (h.0 (eqb-true b 10 e))
    by false e = refl

-- no status of a run that has begun tells faulty words or a bad data file
last-line : (mode : Mode) (status : Status) (inputs : List Input) (bytes : List ℕ) (source : Drawn) (lines : ℕ) → ComesIn mode status inputs bytes source
    → IsToldInOneLine status → IsOneLine (last_line status lines)
last-line mode Done inputs bytes source lines comes one = record {
  line = codes "done " ++ (decimal lines ++ codes " lines");
  is = ap (λ l. codes "done " ++ l) (sym (append_assoc (decimal lines) (codes " lines") (10 ∷ [])));
  unbroken = lacks-append 10 (decimal lines) (codes " lines") (lacks-decimal 10 lines refl) refl;
  other = refl;
}
last-line mode Usage inputs bytes source lines comes one = absurd comes
last-line mode (BadData file number kind) inputs bytes source lines comes one = absurd comes
last-line mode (BadScript number fault) inputs bytes source lines comes one = record {
  line = located (codes "script") number (kind_of fault) ++ behind_kind fault;
  is = sym (append_assoc (located (codes "script") number (kind_of fault)) (behind_kind fault) (10 ∷ []));
  unbroken = lacks-append 10 (located (codes "script") number (kind_of fault)) (behind_kind fault)
      (lacks-append 10 (decimal number) (codes ": " ++ kind_of fault) (lacks-decimal 10 number refl) (kind-lacks fault)) (unbroken-lacks (behind_kind fault) one);
  other = refl;
}
last-line mode ReadFault inputs bytes source lines comes one = record { line = codes "read fault"; is = refl; unbroken = refl; other = refl }
last-line mode WriteFault inputs bytes source lines comes one = absurd comes
last-line mode NoMemory inputs bytes source lines comes one = record { line = codes "no memory"; is = refl; unbroken = refl; other = refl }

-- a front of the last line of a run
pub last-passes : (mode : Mode) (status : Status) (inputs : List Input) (bytes : List ℕ) (source : Drawn) (lines n : ℕ) → ComesIn mode status inputs bytes source
    → IsToldInOneLine status → HasNoCursor (lines_of (take n (last_line status lines)))
last-passes mode status inputs bytes source lines n comes one = front-passes n (last_line status lines) (last-line mode status inputs bytes source lines comes one)

-- a front of the line of a write that broke
pub broken-passes : (n lines : ℕ) → HasNoCursor (lines_of (take n (last_line WriteFault lines)))
broken-passes n lines = front-passes n (codes "write fault\n") (record { line = codes "write fault"; is = refl; unbroken = refl; other = refl })
