-- The numbers that change a pen (ECMA-48, select graphic rendition).
use Rattle.std.specs.Prelude.{ℕ, zero, suc, ◌+◌, ◌-◌, ◌==◌, nat_lt, nat_le, Bool, true, if◌then◌else◌, ◌&&◌, ◌||◌, List, [], ◌∷◌, Option, None, Some}
use Rattle.std.specs.List.{list_all}
use Rattle.rd_base.specs.Faces.{Attributes, plain}
use Rattle.rd_base.specs.declared.limits.TheConstants.{COLOURS}

-- 0 plain, 1 bold, 4 underline, 7 inverse, 30 to 37 the colour of characters, 40 to 47 the colour behind them
abbrev pub is_rendition : ℕ → Bool
is_rendition n = n == 0 || n == 1 || n == 4 || n == 7 || (nat_le 30 n && nat_le n 37) || (nat_le 40 n && nat_le n 47)

abbrev pub are_renditions : List ℕ → Bool
are_renditions numbers = list_all is_rendition numbers

-- a face after the number of a rendition
abbrev pub dressed : ℕ → Attributes → Attributes
dressed n f =
    if n == 0 then plain
    else if n == 1 then record f { bold = true }
    else if n == 4 then record f { underline = true }
    else if n == 7 then record f { inverse = true }
    else if nat_lt n 40 then record f { fg = n - 30 }
    else record f { bg = n - 40 }

-- the number of a flag that is set
abbrev pub flag_number : Bool → ℕ → Option ℕ
flag_number flag number = if flag then Some number else None

-- the number of a colour that is not the terminal's own
abbrev pub colour_number : ℕ → ℕ → Option ℕ
colour_number colour base = if colour == COLOURS then None else Some (base + colour)

-- the numbers that make a plain face this one
abbrev pub numbers_of_face : Attributes → List (Option ℕ)
numbers_of_face f = flag_number f.bold 1 ∷ flag_number f.underline 4 ∷ flag_number f.inverse 7 ∷ colour_number f.fg 30 ∷ colour_number f.bg 40 ∷ []

-- a pen after the number of a rendition: only 0 makes an unknown pen known
abbrev pub pen_after : ℕ → Option Attributes → Option Attributes
pen_after n (Some f) = Some (dressed n f)
pen_after zero None = Some plain
pen_after (suc n) None = None

-- a pen after the numbers of renditions, one after another
abbrev pub pen_by : List ℕ → Option Attributes → Option Attributes
pen_by [] pen = pen
pen_by (n ∷ ns) pen = pen_by ns (pen_after n pen)
