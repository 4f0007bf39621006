-- The runs of faces, found in one pass.
use Rattle.std.proofs.Common.{◌≡◌, ℕ, ◌+◌, ◌-◌, ◌<◌, ◌||◌, length, drop, get_or, Option, Result, is_some, codes, decimal, Bool, true, false, if◌then◌else◌, List, [], ◌∷◌, ◌++◌, refl, sym, ap, ◌∙◌, subst, arith, append-nil, true≢false}
use Rattle.std.specs.List.{concat}
use Rattle.std.proofs.lemmas.Bool.{cond-true, cond-false}
use Rattle.std.proofs.lemmas.List.{drop_more}
use Rattle.rd_base.specs.Faces.{Attributes, plain}
use Rattle.rd_base.specs.Equals.{same_face}
use Rattle.rd_base.proofs.Equals.{face-told, face-itself}
use Rattle.rd_base.proofs.Lists.{drop-read}
use Rattle.rd_dump.specs.Dumps.{with_columns, maximal_runs, run_text, runs_text, ended_text, faces_of, numbers_text, number_text, numbers_behind, rows_text, row_line}
use Rattle.std.specs.Result.{IsErr}
use Rattle.rd_base.specs.Cells.{face_after}
use Rattle.rd_io.specs.Devices.{Prints}
use Rattle.rd_io.proofs.Bytes.{Going}
use Rattle.rd_dump.proofs.Writing.{going-stop}
use Rattle.rd_base.specs.declared.cell.Cell.{Cell}

-- a run of a face from `first` up to `column` that may go on, and then these faces
abbrev pub open_text : ℕ → ℕ → Attributes → List Attributes → List ℕ
open_text first column face [] = run_text first column face
open_text first column face (next ∷ faces) = if same_face next face then open_text first (column + 1) face faces else run_text first column face ++ open_text column (column + 1) next faces

-- more columns of a face before joined runs of it
with_columns-more_at : (m n : ℕ) (face : Attributes) (run : ℕ × Attributes) (runs : List (ℕ × Attributes)) (same : Bool)
    → with_columns m face (if same then (n + run.0, face) ∷ runs else (n, face) ∷ run ∷ runs) ≡ (if same then (m + n + run.0, face) ∷ runs else (m + n, face) ∷ run ∷ runs)
with_columns-more_at m n face run runs true =
    let sum : m + (n + run.0) ≡ m + n + run.0 = omega arith in
    cond-true (same_face face face) _ _ (face-itself face) ∙ ap (λ k. (k, face) ∷ runs) sum
with_columns-more_at m n face run runs false = cond-true (same_face face face) _ _ (face-itself face)

with_columns-more : (m n : ℕ) (face : Attributes) (runs : List (ℕ × Attributes)) → with_columns m face (with_columns n face runs) ≡ with_columns (m + n) face runs
with_columns-more m n face [] = cond-true (same_face face face) _ _ (face-itself face)
with_columns-more m n face (run ∷ runs) = with_columns-more_at m n face run runs (same_face face run.1)

-- columns of another face before joined runs
with_columns-other_at : (m n : ℕ) (face next : Attributes) (run : ℕ × Attributes) (runs : List (ℕ × Attributes)) (same : Bool) → same_face face next ≡ false
    → with_columns m face (if same then (n + run.0, next) ∷ runs else (n, next) ∷ run ∷ runs) ≡ (m, face) ∷ (if same then (n + run.0, next) ∷ runs else (n, next) ∷ run ∷ runs)
with_columns-other_at m n face next run runs true other = cond-false (same_face face next) _ _ other
with_columns-other_at m n face next run runs false other = cond-false (same_face face next) _ _ other

with_columns-other : (m n : ℕ) (face next : Attributes) (runs : List (ℕ × Attributes)) → same_face face next ≡ false → with_columns m face (with_columns n next runs) ≡ (m, face) ∷ with_columns n next runs
with_columns-other m n face next [] other = cond-false (same_face face next) _ _ other
with_columns-other m n face next (run ∷ runs) other = with_columns-other_at m n face next run runs (same_face next run.1) other

told_apart : (f g : Attributes) (same : Bool) → same_face g f ≡ same → same_face f g ≡ false → same ≡ false
told_apart f g true e other =
    let alike : same_face f g ≡ true = subst (λ h. same_face f h ≡ true) (sym (face-told g f e)) (face-itself f) in
    absurd (true≢false (sym alike ∙ other))
told_apart f g false e other = refl

-- one step of a pass over the faces
open_text-step : (first n : ℕ) (face next : Attributes) (faces : List Attributes) (same : Bool) → same_face next face ≡ same
    → open_text first (first + (n + 1)) face faces ≡ runs_text first (with_columns (n + 1) face (maximal_runs faces))
    → open_text (first + n) (first + n + 1) next faces ≡ runs_text (first + n) (with_columns 1 next (maximal_runs faces))
    → (if same then open_text first (first + n + 1) face faces else run_text first (first + n) face ++ open_text (first + n) (first + n + 1) next faces)
    ≡ runs_text first (with_columns n face (with_columns 1 next (maximal_runs faces)))
open_text-step first n face next faces true e on other =
    let turned : next ≡ face = face-told next face e in
    let moved : first + n + 1 ≡ first + (n + 1) = omega arith in
    ap (λ k. open_text first k face faces) moved ∙ on
    ∙ sym (ap (runs_text first) (with_columns-more n 1 face (maximal_runs faces))) ∙ ap (λ f. runs_text first (with_columns n face (with_columns 1 f (maximal_runs faces)))) (sym turned)
open_text-step first n face next faces false e on other =
    ap (λ l. run_text first (first + n) face ++ l) other
    ∙ sym (ap (runs_text first) (with_columns-other n 1 face next (maximal_runs faces) (told_apart next face (same_face face next) refl e)))

-- one pass finds the runs
pub open_text-runs : (first n : ℕ) (face : Attributes) (faces : List Attributes) → open_text first (first + n) face faces ≡ runs_text first (with_columns n face (maximal_runs faces))
open_text-runs first n face [] = sym (append-nil (run_text first (first + n) face))
open_text-runs first n face (next ∷ faces) =
    open_text-step first n face next faces (same_face next face) refl (open_text-runs first (n + 1) face faces) (open_text-runs (first + n) 1 next faces)

-- no column of the plain face before the runs of faces adds nothing
before_plain_at : (run : ℕ × Attributes) (runs : List (ℕ × Attributes)) (same : Bool) → same_face plain run.1 ≡ same
    → runs_text 0 (if same then (0 + run.0, plain) ∷ runs else (0, plain) ∷ run ∷ runs) ≡ runs_text 0 (run ∷ runs)
before_plain_at run runs true e =
    let sum : 0 + (0 + run.0) ≡ 0 + run.0 = omega arith in
    ap (λ k. run_text 0 k plain ++ runs_text k runs) sum ∙ ap (λ f. run_text 0 (0 + run.0) f ++ runs_text (0 + run.0) runs) (face-told plain run.1 e)
before_plain_at run runs false e = refl

before_plain : (runs : List (ℕ × Attributes)) → runs_text 0 (with_columns 0 plain runs) ≡ runs_text 0 runs
before_plain [] = refl
before_plain (run ∷ runs) = before_plain_at run runs (same_face plain run.1) refl

-- a row's runs, found in one pass
pub open_text-row : (faces : List Attributes) → open_text 0 0 plain faces ≡ runs_text 0 (maximal_runs faces)
open_text-row faces = open_text-runs 0 0 plain faces ∙ before_plain (maximal_runs faces)

-- a cell's step of the pass
open-step_at : (first column : ℕ) (face next : Attributes) (cells : List Cell) (same : Bool) → same_face next face ≡ same
    → (if same then open_text first (column + 1) face (faces_of next cells) else run_text first column face ++ open_text column (column + 1) next (faces_of next cells))
    ≡ (if same then [] else run_text first column face)
    ++ open_text (if same then first else column) (column + 1) (if same then face else next) (faces_of (if same then face else next) cells)
open-step_at first column face next cells true e = ap (λ f. open_text first (column + 1) face (faces_of f cells)) (face-told next face e)
open-step_at first column face next cells false e = refl

-- what is left of a row, by its next cell
pub runs-step : (first column first' i : ℕ) (face next face' : Attributes) (cell : Cell) (cells : List Cell) → i < length cells → cell ≡ get_or cells i cell → next ≡ face_after face cell
    → first' ≡ (if same_face next face then first else column) → face' ≡ (if same_face next face then face else next)
    → open_text first column face (faces_of face (drop i cells)) ≡ ended_text first column face next ++ open_text first' (column + 1) face' (faces_of face' (drop (i + 1) cells))
runs-step first column first' i face next face' cell cells less is of p q =
    let left = drop (i + 1) cells in
    ap (λ l. open_text first column face (faces_of face l)) (drop-read cells i cell less is)
    ∙ ap (λ f. open_text first column face (f ∷ faces_of f left)) (sym of)
    ∙ open-step_at first column face next left (same_face next face) refl
    ∙ ap (λ k. ended_text first column face next ++ open_text k (column + 1) (if same_face next face then face else next) (faces_of (if same_face next face then face else next) left)) (sym p)
    ∙ ap (λ f. ended_text first column face next ++ open_text first' (column + 1) f (faces_of f left)) (sym q)

-- what is left of a face's numbers, by the next one
pub numbers-step : (any now : Bool) (i : ℕ) (number : Option ℕ) (numbers : List (Option ℕ)) → i < length numbers → number ≡ get_or numbers i number → now ≡ (any || is_some number)
    → numbers_behind any (drop i numbers) ≡ number_text any number ++ numbers_behind now (drop (i + 1) numbers)
numbers-step any now i number numbers less is of =
    ap (numbers_behind any) (drop-read numbers i number less is) ∙ ap (λ b. number_text any number ++ numbers_behind b (drop (i + 1) numbers)) (sym of)

-- what is left of the rows, by the next one
pub rows-step : (rows : List (List Cell)) (i : ℕ) → i < length rows → rows_text i (drop i rows) ≡ row_line i (get_or rows i []) ++ rows_text (i + 1) (drop (i + 1) rows)
rows-step rows i less = ap (rows_text i) (drop_more rows i [] less)

-- a run's text, where the last column is told by an equation
pub run_text-last : (first end last : ℕ) (face : Attributes) → same_face face plain ≡ false → last ≡ end - 1
    → concat (codes " " ∷ decimal first ∷ codes "-" ∷ decimal last ∷ []) ++ numbers_text face ≡ run_text first end face
run_text-last first end last face shown is =
    ap (λ n. concat (codes " " ∷ decimal first ∷ codes "-" ∷ decimal n ∷ []) ++ numbers_text face) is ∙ sym (cond-false (same_face face plain) [] _ shown)

-- the next of a face's numbers was not written, so neither is the whole
pub numbers-failed : {U F : Type 0} (a b c : Option (List ℕ)) (f g h : ℕ) (all : List ℕ) (any : Bool) (i : ℕ) (number : Option ℕ) (numbers : List (Option ℕ)) (s : Result U F)
    → Prints b c g h (number_text any number) s → Going a b f g all (numbers_behind any (drop i numbers)) → i < length numbers → IsErr s → number ≡ get_or numbers i number → Prints a c f h all s
numbers-failed a b c f g h all any i number numbers s p going less bad is =
    going-stop a b c f g h all _ (number_text any number) _ s going (numbers-step any (any || is_some number) i number numbers less is refl) p bad
