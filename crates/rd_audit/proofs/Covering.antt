-- The runs of faces of a row, read back.
use Rattle.std.proofs.Common.{◌≡◌, ◌==◌, ℕ, ◌+◌, ◌-◌, ◌<◌, ◌≤◌, ◌&&◌, not, Bool, true, false, if◌then◌else◌, None, Some, option_and_then, decimal, List, [], ◌∷◌, ◌++◌, length, refl, sym, ap, ap₂, subst, ◌∙◌, arith, append_assoc, append-nil, length-append, true≢false}
use Rattle.std.specs.List.{AllByRecursion, concat}
use Rattle.std.specs.Prelude.{All}
use Rattle.std.proofs.lemmas.Bool.Decides.{nat_tests}
use Rattle.std.proofs.lemmas.List.{get_or_past, length-map, map-append}
use Rattle.std.proofs.lemmas.List.Elements.{All-head, All-tail}
use Rattle.std.proofs.Math.Seq.{take-append_seam, drop-append_seam, get_or-append_seam}
use Rattle.rd_base.specs.Cells.{HasColours, IsColoured, face_after}
use Rattle.rd_base.specs.Equals.{same_face}
use Rattle.rd_base.specs.Faces.{Attributes, plain}
use Rattle.rd_base.specs.Glyphs.{IsRowAfter}
use Rattle.rd_base.specs.declared.cell.Cell.{Cell}
use Rattle.rd_base.specs.declared.cell.Cell.TheVariants.{Blank, First, Rest}
use Rattle.rd_base.proofs.Choices.{either}
use Rattle.rd_base.proofs.Equals.{face-told, face-itself}
use Rattle.rd_base.proofs.Colours.{plain-coloured}
use Rattle.rd_term.specs.Pictures.{blank}
use Rattle.rd_update.specs.Updates.{is_rest}
use Rattle.rd_dump.specs.Dumps.{faces_of, with_columns, maximal_runs, runs_text, runs_of_row, numbers_text}
use Rattle.rd_audit.specs.Cuts.{pieces}
use Rattle.rd_audit.specs.FaceRuns.{is_edge, fits, with_face, faced, painted_by, with_face_run, painted, runs_over}
use Rattle.rd_audit.specs.declared.run.SaidFaceRun.{SaidFaceRun}
use Rattle.rd_audit.proofs.Faces.{run_piece, piece-lacks, run-read}
use Rattle.rd_audit.proofs.Lacking.{AllLack, lacks, lacks-append, pieces-seam, pieces-one}
use Rattle.rd_audit.proofs.Spelling.{plainly}

abbrev pub Stretch : Type 0
Stretch = ℕ × Attributes

-- ---- runs over cells

-- cells of a face
abbrev pub AreOf : Attributes → List Cell → Type 0
AreOf face cells = AllByRecursion (λ (cell : Cell). with_face face cell ≡ cell) cells

-- no character goes on at the first of these cells
abbrev pub is_start : List Cell → Bool
is_start [] = true
is_start (cell ∷ cells) = not (is_rest cell)

-- runs that stand one after the other over cells and cut no character
abbrev pub Covers : List Stretch → List Cell → Type 0
Covers [] cells = cells ≡ []
Covers (run ∷ runs) cells =
    (front : List Cell) × (back : List Cell) × (cells ≡ front ++ back) × (length front ≡ run.0) × (0 < run.0) × AreOf run.1 front × HasColours run.1
    × (is_start back ≡ true) × Covers runs back

-- whether the first run has a face
abbrev is_headed : Attributes → List Stretch → Bool
is_headed face [] = true
is_headed face (run ∷ runs) = same_face face run.1

headed : (n : ℕ) (face : Attributes) (runs : List Stretch) → is_headed face (with_columns n face runs) ≡ true
headed n face [] = face-itself face
headed n face (run ∷ runs) =
    either (λ l. is_headed face l ≡ true) (same_face face run.1) ((n + run.0, face) ∷ runs) ((n, face) ∷ run ∷ runs) (face-itself face) (face-itself face)

covers-more_at : (cell : Cell) (face : Attributes) (run : Stretch) (runs : List Stretch) (cells : List Cell) (t : Bool) → same_face face run.1 ≡ t → with_face face cell ≡ cell → HasColours face
    → (t ≡ false → is_start cells ≡ true) → Covers (run ∷ runs) cells → Covers (if t then (1 + run.0, face) ∷ runs else (1, face) ∷ run ∷ runs) (cell ∷ cells)
covers-more_at cell face run runs cells true e own range start h =
    (cell ∷ h.0, h.1, ap (λ l. cell ∷ l) h.2, omega (arith, h.3), omega arith, (own, subst (λ f. AreOf f h.0) (sym (face-told face run.1 e)) h.5), range, h.7, h.8)
covers-more_at cell face run runs cells false e own range start h =
    (cell ∷ [], cells, refl, refl, omega arith, (own, tt), range, start refl, h)

covers-more : (cell : Cell) (face : Attributes) (runs : List Stretch) (cells : List Cell) → with_face face cell ≡ cell → HasColours face
    → (is_headed face runs ≡ false → is_start cells ≡ true) → Covers runs cells → Covers (with_columns 1 face runs) (cell ∷ cells)
covers-more cell face [] cells own range start h = (cell ∷ [], [], ap (λ l. cell ∷ l) h, refl, omega arith, (own, tt), range, refl, refl)
covers-more cell face (run ∷ runs) cells own range start h = covers-more_at cell face run runs cells (same_face face run.1) refl own range start h

own-face : (before : Attributes) (cell : Cell) → with_face (face_after before cell) cell ≡ cell
own-face before (Blank f) = refl
own-face before (First g f) = refl
own-face before Rest = refl

own-colours : (before : Attributes) (cell : Cell) → HasColours before → IsColoured cell → HasColours (face_after before cell)
own-colours before (Blank f) p q = q
own-colours before (First g f) p q = q
own-colours before Rest p q = p

-- a run that ends does so at a cell at which no character goes on
start-by : (face : Attributes) (cells : List Cell) → is_headed face (maximal_runs (faces_of face cells)) ≡ false → is_start cells ≡ true
start-by face [] e = refl
start-by face (Blank f ∷ cells) e = refl
start-by face (First g f ∷ cells) e = refl
start-by face (Rest ∷ cells) e = absurd (true≢false (sym (headed 1 face (maximal_runs (faces_of face cells))) ∙ e))

pub covered : (before : Attributes) (cells : List Cell) → HasColours before → All IsColoured cells → Covers (maximal_runs (faces_of before cells)) cells
covered before [] p q = refl
covered before (cell ∷ cells) p q =
    let face = face_after before cell in
    let range = own-colours before cell p (All-head IsColoured cell cells q) in
    covers-more cell face (maximal_runs (faces_of face cells)) cells (own-face before cell) range (start-by face cells) (covered face cells range (All-tail IsColoured cell cells q))

-- ---- the texts of runs

-- the texts of runs that are not plain
abbrev pub texts : ℕ → List Stretch → List (List ℕ)
texts column [] = []
texts column (run ∷ runs) =
    if same_face run.1 plain then texts (column + run.0) runs
    else run_piece column (column + run.0 - 1) run.1 ∷ texts (column + run.0) runs

-- texts, each behind a space
abbrev pub spaced : List (List ℕ) → List ℕ
spaced [] = []
spaced (text ∷ more) = 32 ∷ (text ++ spaced more)

spaced_at : (column end : ℕ) (face : Attributes) (runs : List Stretch) (t : Bool) → runs_text end runs ≡ spaced (texts end runs)
    → (if t then [] else concat ((32 ∷ []) ∷ decimal column ∷ (45 ∷ []) ∷ decimal (end - 1) ∷ []) ++ numbers_text face) ++ runs_text end runs
    ≡ spaced (if t then texts end runs else run_piece column (end - 1) face ∷ texts end runs)
spaced_at column end face runs true e = e
spaced_at column end face runs false e =
    ap (λ l. 32 ∷ ((decimal column ++ 45 ∷ l) ++ numbers_text face) ++ runs_text end runs) (append-nil (decimal (end - 1)))
    ∙ ap (λ l. 32 ∷ (run_piece column (end - 1) face ++ l)) e

runs-spaced : (column : ℕ) (runs : List Stretch) → runs_text column runs ≡ spaced (texts column runs)
runs-spaced column [] = refl
runs-spaced column (run ∷ runs) = spaced_at column (column + run.0) run.1 runs (same_face run.1 plain) (runs-spaced (column + run.0) runs)

texts-lack : (byte column : ℕ) (runs : List Stretch) → ((first last : ℕ) (face : Attributes) → lacks byte (run_piece first last face) ≡ true) → AllLack byte (texts column runs)
texts-lack byte column [] h = tt
texts-lack byte column (run ∷ runs) h =
    let more = texts-lack byte (column + run.0) runs h in
    either (AllLack byte) (same_face run.1 plain) (texts (column + run.0) runs) (run_piece column (column + run.0 - 1) run.1 ∷ texts (column + run.0) runs)
    more (h column (column + run.0 - 1) run.1, more)

spaced-lacks : (byte : ℕ) (more : List (List ℕ)) → not (32 == byte) ≡ true → AllLack byte more → lacks byte (spaced more) ≡ true
spaced-lacks byte [] p h = refl
spaced-lacks byte (text ∷ more) p h = ap (λ t. t && lacks byte (text ++ spaced more)) p ∙ lacks-append byte text (spaced more) h.0 (spaced-lacks byte more p h.1)

-- a newline and a `|` are in no text of a row's runs
pub runs-lack : (byte : ℕ) (cells : List Cell) → ((first last : ℕ) (face : Attributes) → lacks byte (run_piece first last face) ≡ true) → not (32 == byte) ≡ true
    → lacks byte (runs_of_row cells) ≡ true
runs-lack byte cells h p =
    let runs = maximal_runs (faces_of plain cells) in
    ap (lacks byte) (runs-spaced 0 runs) ∙ spaced-lacks byte (texts 0 runs) p (texts-lack byte 0 runs h)

pieces-spaced : (text : List ℕ) (more : List (List ℕ)) → lacks 32 text ≡ true → AllLack 32 more → pieces 32 (text ++ spaced more) ≡ text ∷ more
pieces-spaced text [] p h = ap (pieces 32) (append-nil text) ∙ pieces-one 32 text p
pieces-spaced text (next ∷ more) p h = pieces-seam 32 text (next ++ spaced more) p ∙ ap (λ l. text ∷ l) (pieces-spaced next more h.0 h.1)

over-spaced : (cells : List Cell) (more : List (List ℕ)) → AllLack 32 more → runs_over (spaced more) cells ≡ painted 0 cells more
over-spaced cells [] h = refl
over-spaced cells (text ∷ more) h = ap (painted 0 cells) (pieces-spaced text more h.0 h.1)

-- ---- cells that are painted

plain-alike : (front : List Cell) → AreOf plain front → plainly front ≡ front
plain-alike [] h = refl
plain-alike (cell ∷ cells) h = ap₂ (λ x xs. x ∷ xs) h.0 (plain-alike cells h.1)

face-last : (face : Attributes) (cell : Cell) → with_face face (with_face plain cell) ≡ with_face face cell
face-last face (Blank f) = refl
face-last face (First g f) = refl
face-last face Rest = refl

faced-again : (face : Attributes) (front back : List Cell) → AreOf face front → faced (length front) face (plainly (front ++ back)) ≡ front ++ plainly back
faced-again face [] back h = refl
faced-again face (cell ∷ cells) back h = ap₂ (λ x xs. x ∷ xs) (face-last face cell ∙ h.0) (faced-again face cells back h.1)

later-alike : (cell : Cell) → is_rest (with_face plain cell) ≡ is_rest cell
later-alike (Blank f) = refl
later-alike (First g f) = refl
later-alike Rest = refl

edge-seam : (done cells : List Cell) → is_start cells ≡ true → is_edge (done ++ plainly cells) (length done) ≡ true
edge-seam done [] h = ap (λ c. not (is_rest c)) (get_or_past (done ++ []) (length done) blank (omega (arith, length-append done [])))
edge-seam done (cell ∷ cells) h =
    ap (λ c. not (is_rest c)) (get_or-append_seam done (with_face plain cell) (plainly cells) blank) ∙ ap not (later-alike cell) ∙ h

abbrev run_at : ℕ → ℕ → Attributes → SaidFaceRun
run_at first last face = record { first = first; last = last; face = face }

fits-there : (from n : ℕ) (face : Attributes) (done front back : List Cell) → from ≤ length done → length front ≡ n → 0 < n → is_start (front ++ back) ≡ true → is_start back ≡ true
    → fits from (done ++ plainly (front ++ back)) (run_at (length done) (length done + n - 1) face) ≡ true
fits-there from n face done front back less size some start next =
    let cells = done ++ plainly (front ++ back) in
    let last = length done + n - 1 in
    let within : last < length cells = omega (arith, length-append done (plainly (front ++ back)), length-map (front ++ back) (with_face plain), length-append front back, size, some) in
    let d : is_edge cells (length done) ≡ true = edge-seam done (front ++ back) start in
    let behind : length (done ++ plainly front) ≡ last + 1 = omega (arith, length-append done (plainly front), length-map front (with_face plain), size, some) in
    let whole : (done ++ plainly front) ++ plainly back ≡ cells = append_assoc done (plainly front) (plainly back) ∙ ap (λ l. done ++ l) (sym (map-append (with_face plain) front back)) in
    let e : is_edge cells (last + 1) ≡ true = sym (ap₂ is_edge whole behind) ∙ edge-seam (done ++ plainly front) back next in
    grind (arith, nat_tests)

painted-there : (n : ℕ) (face : Attributes) (done front back : List Cell) → length front ≡ n → 0 < n → AreOf face front
    → painted_by (run_at (length done) (length done + n - 1) face) (done ++ plainly (front ++ back)) ≡ (done ++ front) ++ plainly back
painted-there n face done front back size some h =
    let count : length done + n - 1 + 1 - length done ≡ length front = omega (arith, size, some) in
    ap₂ (λ x y. x ++ faced (length done + n - 1 + 1 - length done) face y) (take-append_seam done (plainly (front ++ back))) (drop-append_seam done (plainly (front ++ back)))
    ∙ ap (λ k. done ++ faced k face (plainly (front ++ back))) count
    ∙ ap (λ l. done ++ l) (faced-again face front back h)
    ∙ sym (append_assoc done front (plainly back))

run-there : (from n : ℕ) (face : Attributes) (done front back : List Cell) → from ≤ length done → length done + n < 1000 → length front ≡ n → 0 < n → AreOf face front → HasColours face
    → same_face face plain ≡ false → is_start (front ++ back) ≡ true → is_start back ≡ true
    → with_face_run from (done ++ plainly (front ++ back)) (run_piece (length done) (length done + n - 1) face) ≡ Some (length done + n - 1 + 1, (done ++ front) ++ plainly back)
run-there from n face done front back less small size some own range other start next =
    let cells = done ++ plainly (front ++ back) in
    let run = run_at (length done) (length done + n - 1) face in
    ap (option_and_then (λ (r : SaidFaceRun). if fits from cells r then Some (r.last + 1, painted_by r cells) else None))
    (run-read (length done) (length done + n - 1) face (omega (arith, small)) (omega (arith, small)) range other)
    ∙ ap (λ t. if t then Some (run.last + 1, painted_by run cells) else None) (fits-there from n face done front back less size some start next)
    ∙ ap (λ l. Some (run.last + 1, l)) (painted-there n face done front back size some own)

abbrev Painted : ℕ → List Cell → List Cell → List Stretch → Type 0
Painted from done cells runs = painted from (done ++ plainly cells) (texts (length done) runs) ≡ Some (done ++ cells)

paint-run : (from : ℕ) (done front back : List Cell) (run : Stretch) (runs : List Stretch) (t : Bool) → same_face run.1 plain ≡ t → from ≤ length done → length done + length (front ++ back) < 1000
    → length front ≡ run.0 → 0 < run.0 → AreOf run.1 front → HasColours run.1 → is_start (front ++ back) ≡ true → is_start back ≡ true
    → ((later : ℕ) → later ≤ length (done ++ front) → Painted later (done ++ front) back runs)
    → painted from (done ++ plainly (front ++ back))
    (if t then texts (length done + run.0) runs else run_piece (length done) (length done + run.0 - 1) run.1 ∷ texts (length done + run.0) runs)
    ≡ Some (done ++ (front ++ back))
paint-run from done front back run runs true e less small size some own range start next so =
    let same : plainly front ≡ front = plain-alike front (subst (λ f. AreOf f front) (face-told run.1 plain e) own) in
    let ends : length done + run.0 ≡ length (done ++ front) = omega (arith, length-append done front, size) in
    ap (λ l. painted from (done ++ l) (texts (length done + run.0) runs)) (map-append (with_face plain) front back ∙ ap (λ l. l ++ plainly back) same)
    ∙ ap₂ (λ l k. painted from l (texts k runs)) (sym (append_assoc done front (plainly back))) ends
    ∙ so from (omega (arith, less, length-append done front))
    ∙ ap Some (append_assoc done front back)
paint-run from done front back run runs false e less small size some own range start next so =
    let ends : length done + run.0 ≡ length (done ++ front) = omega (arith, length-append done front, size) in
    let behind : length done + run.0 - 1 + 1 ≤ length (done ++ front) = omega (arith, ends, some) in
    let few : length done + run.0 < 1000 = omega (arith, small, length-append front back, size) in
    ap (option_and_then (λ (r : ℕ × List Cell). painted r.0 r.1 (texts (length done + run.0) runs)))
    (run-there from run.0 run.1 done front back less few size some own range e start next)
    ∙ ap (λ k. painted (length done + run.0 - 1 + 1) ((done ++ front) ++ plainly back) (texts k runs)) ends
    ∙ so (length done + run.0 - 1 + 1) behind
    ∙ ap Some (append_assoc done front back)

paint-all : (runs : List Stretch) (from : ℕ) (done cells : List Cell) → from ≤ length done → length done + length cells < 1000 → is_start cells ≡ true → Covers runs cells → Painted from done cells runs
paint-all [] from done cells less small start h = ap (λ c. Some (done ++ plainly c)) h ∙ sym (ap (λ c. Some (done ++ c)) h)
paint-all (run ∷ runs) from done cells less small start h =
    let front = h.0 in
    let back = h.1 in
    let begins : is_start (front ++ back) ≡ true = subst (λ c. is_start c ≡ true) h.2 start in
    let size : length cells ≡ length (front ++ back) = ap length h.2 in
    let total : length (done ++ front) + length back < 1000 = omega (arith, small, size, length-append front back, length-append done front) in
    subst (λ c. Painted from done c (run ∷ runs)) (sym h.2)
    (paint-run from done front back run runs (same_face run.1 plain) refl less (omega (arith, small, size)) h.3 h.4 h.5 h.6 begins h.7
    (λ later le. paint-all runs later (done ++ front) back le total h.7 h.8))

row-starts : (cells : List Cell) → IsRowAfter 0 cells → is_start cells ≡ true
row-starts [] h = refl
row-starts (Blank f ∷ cells) h = refl
row-starts (First g f ∷ cells) h = refl
row-starts (Rest ∷ cells) h = absurd h

-- the runs of a row say its faces
pub runs-read : (cells : List Cell) → IsRowAfter 0 cells → All IsColoured cells → length cells < 1000 → runs_over (runs_of_row cells) (plainly cells) ≡ Some cells
runs-read cells h colours small =
    let runs = maximal_runs (faces_of plain cells) in
    ap (λ l. runs_over l (plainly cells)) (runs-spaced 0 runs)
    ∙ over-spaced (plainly cells) (texts 0 runs) (texts-lack 32 0 runs (λ first last face. piece-lacks 32 first last face refl))
    ∙ paint-all runs 0 [] cells (omega arith) (omega (arith, small)) (row-starts cells h) (covered plain cells plain-coloured colours)
