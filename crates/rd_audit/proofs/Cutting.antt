-- Pieces of bytes, as the code finds them.
use Rattle.std.proofs.Common.{◌≡◌, ◌≢◌, ℕ, zero, suc, ◌+◌, ◌<◌, ◌≤◌, if◌then◌else◌, None, Some, List, [], ◌∷◌, ◌++◌, length, get_or, take, drop, refl, sym, ap, ◌∙◌, subst, arith}
use Rattle.std.proofs.Math.Seq.{take-append_seam, drop-append_seam}
use Rattle.std.proofs.lemmas.Bool.{ne_eqb}
use Rattle.std.proofs.lemmas.Bool.Decides.{Decides-eqb}
use Rattle.std.proofs.lemmas.Slice.Eq.{bytes_eq-Decides}
use Rattle.rd_io.specs.Lines.{lines_of}
use Rattle.rd_io.proofs.Cuts.{lines-whole, lines-rest, last-some}
use Rattle.rd_base.proofs.Cutting.{IsCut, cut-is}
use Rattle.rd_base.specs.Cuts.{cut}
use Rattle.rd_audit.specs.Cuts.{stripped, cut_last_or, cut_last}

-- ---- a front

pub stripped-behind : (f s rest : List ℕ) → s ≡ f ++ rest → Some rest ≡ stripped f s
stripped-behind f s rest e = rw (e, take-append_seam f rest, (bytes_eq-Decides f f).1 refl, drop-append_seam f rest) refl

-- ---- the last of a byte

-- bytes none of which is this one have no cut at it
pub last-none : (byte : ℕ) (bs : List ℕ) → ((k : ℕ) → k < length bs → get_or bs k 0 ≢ byte) → None ≡ cut_last byte bs
last-none byte [] none = refl
last-none byte (b ∷ bs) none =
    sym (ap (λ t. if t then Some ([], bs) else None) (ne_eqb b byte (none 0 (omega arith))))
    ∙ ap (cut_last_or byte b bs) (last-none byte bs (λ k less. none (suc k) (omega (arith, less))))

-- the cut stands at a place that has it, where no place behind does
pub last-here : (byte i : ℕ) (bs : List ℕ) → i < length bs → get_or bs i 0 ≡ byte → ((k : ℕ) → i + 1 ≤ k → k < length bs → get_or bs k 0 ≢ byte)
    → Some (take i bs, drop 1 (drop i bs)) ≡ cut_last byte bs
last-here byte i [] less found none = absurd (omega (arith, less))
last-here byte zero (b ∷ bs) less found none =
    sym (ap (λ t. if t then Some ([], bs) else None) ((Decides-eqb b byte).1 found))
    ∙ ap (cut_last_or byte b bs) (last-none byte bs (λ k within. none (suc k) (omega arith) (omega (arith, within))))
last-here byte (suc i) (b ∷ bs) less found none =
    ap (cut_last_or byte b bs) (last-here byte i bs (omega (arith, less)) found (λ k more within. none (suc k) (omega (arith, more)) (omega (arith, within))))

-- ---- lines

pub lines-cut : (bs f k : List ℕ) → cut 10 bs ≡ Some (f, k) → lines_of bs ≡ f ∷ lines_of k
lines-cut bs f k e = let h = subst (IsCut 10 bs) e (cut-is 10 bs) in ap lines_of h.1 ∙ lines-whole f k h.0

pub lines-uncut : (bs : List ℕ) → cut 10 bs ≡ None → 0 < length bs → lines_of bs ≡ bs ∷ []
lines-uncut bs e some = lines-rest bs (subst (IsCut 10 bs) e (cut-is 10 bs)) ∙ last-some bs some
