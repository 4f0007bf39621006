-- What is kept of a stretch of a text, so that a search can pass over it.
use Rattle.std.specs.Prelude.{ℕ, Bool, false, ◌&&◌, ◌||◌, List, [], ◌∷◌, count_by}
use Rattle.std.specs.List.{list_all, list_any}
use Rattle.rd_text.specs.Texts.{is_newline, is_blank, is_ink}
use Rattle.rd_text.specs.declared.stretch.Stretch.{Stretch}

-- whether a list begins with blanks and a newline behind them
abbrev pub opens : List ℕ → Bool
opens [] = false
opens (c ∷ cs) = is_newline c || (is_blank c && opens cs)

-- whether a list ends with a newline and blanks behind it
abbrev pub closes : List ℕ → Bool
closes [] = false
closes (c ∷ cs) = (is_newline c && list_all is_blank cs) || closes cs

-- whether somewhere blanks alone stand between two newlines
abbrev pub separated : List ℕ → Bool
separated [] = false
separated (c ∷ cs) = (is_newline c && opens cs) || separated cs

abbrev pub summary : List ℕ → Stretch
summary codes = record {
  newlines = count_by is_newline codes;
  inked = list_any is_ink codes;
  blank = list_all is_blank codes;
  opens = opens codes;
  closes = closes codes;
  separated = separated codes;
}
