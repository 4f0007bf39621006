-- Each character of a text with a gap has a code.
use Rattle.std.proofs.Common.{ℕ, take, drop}
use Rattle.std.specs.Prelude.{All, IsTrue}
use Rattle.std.proofs.lemmas.List.Elements.{All-append, All-take, All-drop, All-from_get_or}
use Rattle.rd_base.specs.Chars.{is_code}
use Rattle.rd_text.specs.Gaps.{text_of, IsGapText}
use Rattle.rd_text.specs.declared.gap.GapText.{GapText}

pub text_codes : (g : GapText) → IsGapText g → All (λ c. IsTrue (is_code c)) (text_of g)
text_codes g right =
    let C : ℕ → Type 0 = λ c. IsTrue (is_code c) in
    let all = All-from_get_or C g.codes.items 0 (λ i inside. right.are_codes i) in
    All-append C (take g.front g.codes.items) (drop g.back g.codes.items) (All-take C g.front g.codes.items all) (All-drop C g.back g.codes.items all)
