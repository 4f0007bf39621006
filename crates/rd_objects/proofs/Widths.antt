-- How many columns characters have.
use Rattle.std.proofs.Common.{ℕ, ◌≤◌, false, None, unwrap_or, arith}
use Rattle.unicode_width.specs.Width.{char_width}
use Rattle.unicode_width.proofs.Rules.{width_or_zero-le}
use Rattle.rd_base.specs.Chars.{is_scalar}
use Rattle.rd_base.proofs.Choices.{either}
use Rattle.rd_objects.specs.Widths.{columns}

pub few-columns : (code : ℕ) → columns code ≤ 3
few-columns code = either (λ o. unwrap_or o 0 ≤ 3) (is_scalar code) (char_width false code) None (width_or_zero-le false code) (omega arith)
