-- Which index stands at which place of the visual order that L2 makes, level by level.
use Rattle.std.specs.Prelude.{◌≡◌, ℕ, zero, suc, ◌+◌, ◌≤◌, ◌<◌, ◌%◌, ◌⊎◌, Option, None, Some}

-- for L2, each level from a to b - 1 is at least k
abbrev pub AreHigh : (ℕ → ℕ) → ℕ → ℕ → ℕ → Type 0
AreHigh level k a b = (q : ℕ) → a ≤ q → q < b → k ≤ level q

-- for L2, the level just before a, where there is one, is below k
abbrev pub BeginsLow : (ℕ → ℕ) → ℕ → ℕ → Type 0
BeginsLow level k a = (q : ℕ) → suc q ≡ a → level q < k

-- for L2, from a to b - 1 stands a maximal run, among n places, of levels of at least k
pub record IsLevelRun (level : ℕ → ℕ) (n k a b : ℕ) : Type 0 where
  pub order : a < b
  pub within : b ≤ n
  pub high : AreHigh level k a b
  pub before : BeginsLow level k a
  pub after : b < n → level b < k

-- for L2, q lies in a maximal run, and r is its image where the run is turned round
pub record Reverses (level : ℕ → ℕ) (n k q r : ℕ) : Type 0 where
  pub a : ℕ
  pub b : ℕ
  pub run : IsLevelRun level n k a b
  pub from : a ≤ q
  pub to : q < b
  pub image : suc (q + r) ≡ a + b

-- for L2, a reversal at level k brings what stands at r to q
abbrev pub Moves : (ℕ → ℕ) → ℕ → ℕ → ℕ → ℕ → Type 0
Moves level n k q r = ((level q < k) × (r ≡ q)) ⊎ Reverses level n k q r

-- for L2, what stands at place p of the whole order stands at q after the reversals of the levels above base + m alone
abbrev pub Comes : (ℕ → ℕ) → ℕ → ℕ → ℕ → ℕ → ℕ → Type 0
Comes level n base zero p q = q ≡ p
Comes level n base (suc m) p q = (r : ℕ) × Comes level n base m p r × Moves level n (base + suc m) r q

-- for L2, r is beside q in the direction in which a run at level base + m is read: forwards where m is even, backwards where it is odd
pub record IsNextTo (m q r : ℕ) : Type 0 where
  pub forwards : m % 2 ≡ 0 → r ≡ suc q
  pub backwards : m % 2 ≡ 1 → suc r ≡ q

-- for L2, what is found beside place q as a run at level base + m is read, and None where the line ends there or the run does
abbrev pub IsBeside : (ℕ → ℕ) → ℕ → ℕ → ℕ → ℕ → Option ℕ → Type 0
IsBeside level n base m q (Some r) = IsNextTo m q r × (r < n) × (0 < m → base + m ≤ level r)
IsBeside level n base m q None = (r : ℕ) → IsNextTo m q r → r < n → (0 < m) × (level r < base + m)
