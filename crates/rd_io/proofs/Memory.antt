-- Counts of files in memory.
use Rattle.std.proofs.Common.{◌≡◌, ℕ, ◌+◌, ◌<◌, ◌≤◌, ◌==◌, inl, cond, List, [], ◌∷◌, ◌++◌, Option, None, Some, refl, sym, ap, ◌∙◌, subst, arith}
use Rattle.std.proofs.lemmas.List.Sums.{sum_by_push}
use Rattle.std.proofs.lemmas.Bool.{eq-eqb}
use Rattle.std.specs.List.{count_by}
use Rattle.rd_io.specs.Devices.{Rose, Fetches}
use Rattle.std.proofs.Common.{length, take, drop, Ok, String, Vec, Global}
use Rattle.rd_io.specs.Memory.{faults_at, bytes_at}

-- a failure at a name without a file is counted
pub rose-missing : (o : Option ℕ) (failed : List ℕ) (m n : ℕ) → o ≡ None → Rose m n → Rose (faults_at o failed m) (faults_at o failed n)
rose-missing None failed m n none rose = rose
rose-missing (Some place) failed m n none rose = absurd (let no : Some place ≡ None = none in cc)

-- a failure at a file is noted
pub rose-place : (o : Option ℕ) (failed new : List ℕ) (m place : ℕ) → o ≡ Some place → new ≡ failed ++ place ∷ [] → Rose (faults_at o failed m) (faults_at o new m)
rose-place None failed new m place e is = absurd (let no : None ≡ Some place = e in cc)
rose-place (Some p) failed new m place e is =
    let same : p ≡ place = cc in
    let more : count_by (λ q. q == place) new ≡ count_by (λ q. q == place) failed + 1 =
    ap (count_by (λ q. q == place)) is ∙ sum_by_push (λ q. cond (q == place) 1 0) failed place ∙ ap (λ b. count_by (λ q. q == place) failed + cond b 1 0) (eq-eqb place place refl) in
    let P : ℕ → Type 0 = λ k. Rose (count_by (λ q. q == k) failed) (count_by (λ q. q == k) new) in
    subst P (sym same) (inl (omega arith))

-- what is fetched from a file that is held
pub fetched-held : (files : List (String Global × Vec ℕ Global)) (o : Option ℕ) (place : ℕ) (file : List ℕ) (E : Type 0) (from n : ℕ) (buffer : List ℕ)
    → o ≡ Some place → bytes_at files (Some place) ≡ Some file → take n buffer ≡ take n (drop from file) → (n ≡ 0 → 0 < length buffer → length file ≤ from)
    → Fetches {E = E} (bytes_at files o) from (Ok n) buffer
fetched-held files o place file E from n buffer e at copied end =
    let Gives : Option (List ℕ) → Type 0 = λ told. Fetches {E = E} told from (Ok n) buffer in
    let told : bytes_at files o ≡ Some file = ap (bytes_at files) e ∙ at in
    subst Gives (sym told) (copied, end)
