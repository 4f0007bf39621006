-- The generated script: a text of 3,000 lines put in piece by piece, then keys, scrolling, and keys in one of two windows.
use Rattle.std.specs.Prelude.{ℕ, zero, suc, ◌+◌, ◌*◌, ◌/◌, ◌%◌, ◌==◌, if◌then◌else◌, List, [], ◌∷◌, ◌++◌, replicate, get_or, codes}
use Rattle.std.specs.Fmt.{decimal}
use Rattle.std.specs.List.{flat_map, range_with_len}
-- handed on for the proofs of this crate, which compute them
pub use Rattle.std.specs.Char.{encode_utf8}
pub use Rattle.std.specs.Fmt.{digits}

-- ---- the numbers

-- the number behind another one
abbrev pub after : ℕ → ℕ
after x = (1103515245 * x + 12345) % 2147483648

-- the k-th number behind this one
unfoldable pub number : ℕ → ℕ → ℕ
number seed zero = seed
number seed (suc k) = after (number seed k)

-- which template a number chooses
abbrev pub choice : ℕ → ℕ
choice x = (x / 65536) % 8

-- ---- the text, by its characters

-- the templates, each of 20 characters: the fourth has Hebrew letters from Alef on, and the fifth a Chinese character
abbrev pub templates : List (List ℕ)
templates = codes "let total = base + 1"
    ∷ codes "if counted > limit {"
    ∷ codes "return value + other"
    ∷ (codes "// " ++ range_with_len 1488 17)
    ∷ (codes "// " ++ replicate 17 20013)
    ∷ (codes "call(" ++ 9 ∷ codes "argument, one)")
    ∷ codes "end_of_the_block_one"
    ∷ replicate 20 45
    ∷ []

-- a line of the text: up to 8 spaces, a template and a newline
abbrev pub text_line : ℕ → ℕ → List ℕ
text_line k x = replicate (2 * (k % 5)) 32 ++ get_or templates (choice x) [] ++ 10 ∷ []

-- so many lines from the k-th on, where the number before the first of them is x
unfoldable pub lines_from : ℕ → ℕ → ℕ → List ℕ
lines_from k x n = flat_map (λ i. text_line (k + i) (number x (i + 1))) (range_with_len 0 n)

-- ---- the ops, as JSON

-- a character in a text of JSON
abbrev pub spelled : ℕ → List ℕ
spelled c = if c == 9 then codes "\\t" else if c == 10 then codes "\\n" else encode_utf8 c

abbrev pub spelling : List ℕ → List ℕ
spelling text = flat_map spelled text

abbrev pub redisplay : List ℕ
redisplay = codes "{\"op\":\"redisplay\"}"

-- an op and a redisplay, so many times
unfoldable pub shown : ℕ → List ℕ → List (List ℕ)
shown times op = flat_map (λ line. line ∷ redisplay ∷ []) (replicate times op)

-- the text of the j-th hundred of lines
abbrev pub hundred : ℕ → ℕ → List ℕ
hundred seed j = lines_from (100 * j) (number seed (100 * j)) 100

-- the op that puts in the j-th hundred of lines: a hundred lines have 2,500 characters
abbrev pub insertion : ℕ → List ℕ → List ℕ
insertion j text = codes "{\"op\":\"insert\",\"buffer\":\"main\",\"pos\":" ++ decimal (2500 * j + 1) ++ codes ",\"text\":\"" ++ spelling text ++ codes "\"}"

unfoldable pub hundreds : ℕ → ℕ → List (List ℕ)
hundreds seed n = flat_map (λ j. insertion j (hundred seed j) ∷ redisplay ∷ []) (range_with_len 0 n)

-- 3,000 lines, a hundred at a time
abbrev pub insertions : ℕ → List (List ℕ)
insertions seed = hundreds seed 30

abbrev pub opening : List (List ℕ)
opening = codes "{\"op\":\"frame\",\"width\":80,\"height\":24}"
    ∷ codes "{\"op\":\"mode_line\",\"window\":0,\"format\":\"%* %b %l %p\"}"
    ∷ codes "{\"op\":\"wrap\",\"window\":0,\"mode\":\"continue\"}"
    ∷ []

abbrev pub ending : List (List ℕ)
ending = shown 200 (codes "{\"op\":\"type\",\"text\":\"x\"}")
    ++ shown 50 (codes "{\"op\":\"scroll\",\"window\":0,\"rows\":22}")
    ++ shown 1 (codes "{\"op\":\"split\",\"window\":0,\"side\":\"below\",\"size\":11}")
    ++ shown 20 (codes "{\"op\":\"type\",\"text\":\"y\"}")

-- the lines of the script
abbrev pub script : ℕ → List (List ℕ)
script seed = opening ++ insertions seed ++ ending
