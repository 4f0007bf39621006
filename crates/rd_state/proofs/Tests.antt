-- What the tests of ops mean.
use Rattle.std.proofs.Common.{◌≡◌, ℕ, ◌+◌, ◌&&◌, true, nat_le, length, List, IsTrue}
use Rattle.std.proofs.lemmas.Bool.{and_parts, leb-true, or_left}
use Rattle.std.proofs.lemmas.List.Elements.{All-weaker}
use Rattle.std.proofs.lemmas.List.Sums.{AllPass-from_list_all}
use Rattle.rd_base.specs.Chars.{is_scalar, is_code}
use Rattle.rd_text.specs.Texts.{TextValue, IsAccessible}
use Rattle.rd_text.specs.Answers.{IsAccessibleRange, IsRangeOfAll}
use Rattle.rd_objects.specs.Sound.{AreCodes}
use Rattle.rd_script.specs.Forms.{is_text}
use Rattle.rd_state.specs.Edits.{is_accessible, is_accessible_range, is_range_of_all}

pub text-codes : (text : List ℕ) → is_text text ≡ true → AreCodes text
text-codes text h = All-weaker (λ c. IsTrue (is_scalar c)) (λ c. IsTrue (is_code c)) (λ c yes. or_left (is_scalar c) _ yes) text (AllPass-from_list_all is_scalar text h)

pub is_accessible-means : (t : TextValue) (pos : ℕ) → is_accessible t pos ≡ true → IsAccessible t pos
is_accessible-means t pos h =
    let parts = and_parts (nat_le t.begin pos) (nat_le pos t.end) h in
    (leb-true t.begin pos parts.0, leb-true pos t.end parts.1)

pub is_accessible_range-means : (t : TextValue) (from to : ℕ) → is_accessible_range t from to ≡ true → IsAccessibleRange t from to
is_accessible_range-means t from to h =
    let parts = and_parts (nat_le t.begin from && nat_le from to) (nat_le to t.end) h in
    let low = and_parts (nat_le t.begin from) (nat_le from to) parts.0 in
    record { first = leb-true t.begin from low.0; ordered = leb-true from to low.1; last = leb-true to t.end parts.1 }

pub is_range_of_all-means : (t : TextValue) (from to : ℕ) → is_range_of_all t from to ≡ true → IsRangeOfAll t from to
is_range_of_all-means t from to h =
    let parts = and_parts (nat_le 1 from && nat_le from to) (nat_le to (length t.text + 1)) h in
    let low = and_parts (nat_le 1 from) (nat_le from to) parts.0 in
    record { first = leb-true 1 from low.0; ordered = leb-true from to low.1; last = leb-true to (length t.text + 1) parts.1 }
