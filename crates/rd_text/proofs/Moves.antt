-- The gap moves, and what is kept of the stretches goes with it.
use Rattle.std.proofs.Common.{◌≡◌, ℕ, ◌+◌, ◌-◌, ◌*◌, ◌<◌, ◌≤◌, List, ◌++◌, length, get_or, take, drop, refl, sym, ap, subst, ◌∙◌, arith}
use Rattle.std.specs.Prelude.{IsTrue, slice_range}
use Rattle.std.specs.Simd.Lanes.{put_chunk}
use Rattle.std.proofs.lemmas.Bool.{cases_lt}
use Rattle.std.proofs.Common.{inl, inr}
use Rattle.std.proofs.lemmas.List.{ext_get_or, take_at, drop_at, drop-drop, length-take-le}
use Rattle.std.proofs.lemmas.Simd.{put_chunk_is, length-put_chunk, get_or-put_chunk_below, get_or-put_chunk_above}
use Rattle.std.proofs.lemmas.Slice.{take-put_mid, drop-put_mid}
use Rattle.rd_base.specs.Chars.{is_code}
use Rattle.rd_base.proofs.Choices.{by-range}
use Rattle.rd_text.specs.declared.gap.TheConstants.{STRETCH}
use Rattle.rd_text.specs.Stretches.{summary}
use Rattle.rd_text.specs.Gaps.{IsGapped, IsCopied, IsRecounted}
use Rattle.rd_text.specs.declared.stretch.Stretch.{Stretch}
use Rattle.rd_text.proofs.Ranges.{range_same, length-gap, gap_front, gap_back}

-- a stretch whose codes stay
stays : (old new : List ℕ) (k : ℕ) → length new ≡ length old → k * STRETCH + STRETCH ≤ length old → ((i : ℕ) → k * STRETCH ≤ i → i < k * STRETCH + STRETCH → get_or new i 0 ≡ get_or old i 0)
    → summary (slice_range old (k * STRETCH) (k * STRETCH + STRETCH)) ≡ summary (slice_range new (k * STRETCH) (k * STRETCH + STRETCH))
stays old new k size within same =
    ap summary (sym (range_same new old (k * STRETCH) (k * STRETCH + STRETCH) (k * STRETCH) (k * STRETCH + STRETCH) (omega arith) (omega arith) (omega arith) (omega arith) within
    (λ i less. same (k * STRETCH + i) (omega arith) (omega arith))))

-- codes that were copied are codes
copied_codes : (old new : List ℕ) (src dest n : ℕ) → IsCopied old new src dest n
    → ((k : ℕ) → IsTrue (is_code (get_or old k 0))) → (k : ℕ) → IsTrue (is_code (get_or new k 0))
copied_codes old new src dest n is codes k =
    let C : ℕ → Type 0 = λ x. IsTrue (is_code x) in
    by-range dest (dest + n) k
    (λ less. subst C (sym (is.below k 0 less)) (codes k))
    (λ more inside. subst C (sym (is.copied k 0 more inside)) (codes (src + (k - dest))))
    (λ more past. subst C (sym (is.from k 0 past)) (codes k))

-- a list without a gap is another one without another gap, where what stands between the places of the two gaps stands on the other side
gap_moved : (xs ys : List ℕ) (at dest front back : ℕ) → at ≤ dest → at ≤ front → dest + (front - at) ≡ back → back ≤ length ys → length xs ≡ length ys
    → ((k : ℕ) → k < at → get_or xs k 0 ≡ get_or ys k 0) → ((k : ℕ) → at ≤ k → k < front → get_or xs (dest + (k - at)) 0 ≡ get_or ys k 0)
    → ((k : ℕ) → back ≤ k → get_or xs k 0 ≡ get_or ys k 0) → take at xs ++ drop dest xs ≡ take front ys ++ drop back ys
gap_moved xs ys at dest front back gap left moved within size below between behind =
    let lx = length-gap xs at dest gap (omega arith) in
    let ly = length-gap ys front back (omega arith) within in
    ext_get_or 0 (take at xs ++ drop dest xs) (take front ys ++ drop back ys) (omega arith)
    (λ k less. elim (cases_lt k at) [
      | inl near ↦ gap_front xs at dest gap (omega arith) k 0 near ∙ below k near ∙ sym (gap_front ys front back (omega arith) within k 0 (omega arith))
      | inr far ↦ gap_back xs at dest gap (omega arith) k 0 far ∙ elim (cases_lt k front) [
        | inl inside ↦ between k far inside ∙ sym (gap_front ys front back (omega arith) within k 0 inside)
        | inr past ↦ behind (dest + (k - at)) (omega arith) ∙ (let e : dest + (k - at) ≡ back + (k - front) = omega arith in ap (λ (n : ℕ). get_or ys n 0) e)
            ∙ sym (gap_back ys front back (omega arith) within k 0 past)
      ]
    ])

-- to the left: what stood between goes behind the gap
module _ (old new : List ℕ) (olds news : List Stretch) (front back at first last : ℕ) (right : IsGapped old olds front back) (place : at < front)
    (is : IsCopied old new at (back - (front - at)) (front - at)) where
  pub left_text : take at new ++ drop (back - (front - at)) new ≡ take front old ++ drop back old
  left_text =
      let order = right.order in
      let within = right.within in
      let size = is.size in
      let dest : ℕ = back - (front - at) in
      gap_moved new old at dest front back (omega arith) (omega arith) (omega arith) within size (λ k less. is.below k 0 (omega arith))
      (λ k far inside. is.copied (dest + (k - at)) 0 (omega arith) (omega arith) ∙ (let e : at + (dest + (k - at) - dest) ≡ k = omega arith in ap (λ (n : ℕ). get_or old n 0) e))
      (λ k past. is.from k 0 (omega arith))

  pub left_right : IsRecounted new olds news first last → back - (front - at) ≤ first * STRETCH → first * STRETCH < back - (front - at) + STRETCH
      → ((k : ℕ) → k * STRETCH < back → k * STRETCH + STRETCH ≤ length old → k < last) → ((k : ℕ) → back ≤ k * STRETCH → last ≤ k)
      → IsGapped new news at (back - (front - at))
  left_right again low high reach past =
      let order = right.order in
      let within = right.within in
      let size = is.size in
      let short = right.short in
      let covered = right.covered in
      let many = again.size in
      record {
        order = omega arith;
        within = omega arith;
        short = omega arith;
        covered = omega arith;
        are_codes = copied_codes old new at (back - (front - at)) (front - at) is right.are_codes;
        before = λ k d l h. again.below k d (omega arith) ∙ right.before k d l (omega arith)
            ∙ stays old new k size (omega arith) (λ i low' high'. is.below i 0 (omega arith));
        behind = λ k d l h. elim (cases_lt (k * STRETCH) back) [
          | inl near ↦ again.counted k d (omega arith) (reach k near (omega arith))
          | inr far ↦ again.above k d (past k far) ∙ right.behind k d far (omega arith)
              ∙ stays old new k size (omega arith) (λ i low' high'. is.from i 0 (omega arith))
        ];
      }

-- stretches counted anew where places before the gap came to be, or were written
gapped-on : (old new : List ℕ) (olds news : List Stretch) (front back at behind first last : ℕ) → IsGapped old olds front back → front ≤ at → back ≤ behind → at ≤ behind → behind ≤ length old
    → length new ≡ length old → ((k : ℕ) → IsTrue (is_code (get_or new k 0)))
    → ((k : ℕ) → k < front → get_or new k 0 ≡ get_or old k 0) → ((k : ℕ) → at ≤ k → get_or new k 0 ≡ get_or old k 0) → IsRecounted new olds news first last
    → first * STRETCH ≤ front → front < first * STRETCH + STRETCH → last * STRETCH ≤ at → at < last * STRETCH + STRETCH → IsGapped new news at behind
gapped-on old new olds news front back at behind first last right on off order within size codes below from again fl fh ll lh =
    let short = right.short in
    let covered = right.covered in
    let many = again.size in
    record {
      order = order;
      within = omega arith;
      short = omega arith;
      covered = omega arith;
      are_codes = codes;
      before = λ k d l h. elim (cases_lt k first) [
        | inl near ↦ again.below k d near ∙ right.before k d l (omega arith) ∙ stays old new k size (omega arith) (λ i low' high'. below i (omega arith))
        | inr far ↦ again.counted k d far (omega arith)
      ];
      behind = λ k d l h. again.above k d (omega arith) ∙ right.behind k d (omega arith) (omega arith)
          ∙ stays old new k size (omega arith) (λ i low' high'. from i (omega arith));
    }

-- to the right: what stood between goes before the gap
module _ (old new : List ℕ) (olds news : List Stretch) (front back at first last : ℕ) (right : IsGapped old olds front back) (place : front ≤ at) (room : at ≤ front + (length old - back))
    (is : IsCopied old new back front (at - front)) where
  pub right_text : take at new ++ drop (back + (at - front)) new ≡ take front old ++ drop back old
  right_text =
      let order = right.order in
      let within = right.within in
      let size = is.size in
      sym (gap_moved old new front back at (back + (at - front)) order place refl (omega arith) (sym size) (λ k less. sym (is.below k 0 less))
      (λ k low less. sym (is.copied k 0 low (omega arith))) (λ k past. sym (is.from k 0 (omega arith))))

  pub right_right : IsRecounted new olds news first last → first * STRETCH ≤ front → front < first * STRETCH + STRETCH → last * STRETCH ≤ at → at < last * STRETCH + STRETCH
      → IsGapped new news at (back + (at - front))
  right_right again fl fh ll lh =
      let order = right.order in
      let within = right.within in
      let size = is.size in
      gapped-on old new olds news front back at (back + (at - front)) first last right place (omega arith) (omega arith) (omega arith) size
      (copied_codes old new back front (at - front) is right.are_codes) (λ k less. is.below k 0 less) (λ k more. is.from k 0 (omega arith)) again fl fh ll lh

-- a text is written into the gap
module _ (old new : List ℕ) (olds news : List Stretch) (at back first last : ℕ) (text : List ℕ) (right : IsGapped old olds at back) (room : at + length text ≤ back)
    (is : new ≡ take at old ++ (text ++ drop (at + length text) old)) where
  put_is : new ≡ take at old ++ (text ++ drop (length text) (drop at old))
  put_is = is ∙ ap (λ (xs : List ℕ). take at old ++ (text ++ xs)) (sym (drop-drop (length text) at old))

  stored : new ≡ put_chunk at old text
  stored = let within = right.within in put_is ∙ sym (put_chunk_is at old text (omega arith))

  pub written_size : length new ≡ length old
  written_size = ap length stored ∙ length-put_chunk at old text

  written_below : (k : ℕ) → k < at → get_or new k 0 ≡ get_or old k 0
  written_below k less = ap (λ (xs : List ℕ). get_or xs k 0) stored ∙ get_or-put_chunk_below at old text k 0 less

  written_from : (k : ℕ) → at + length text ≤ k → get_or new k 0 ≡ get_or old k 0
  written_from k more = ap (λ (xs : List ℕ). get_or xs k 0) stored ∙ get_or-put_chunk_above at old text k 0 more

  pub put_right : ((k : ℕ) → IsTrue (is_code (get_or new k 0))) → IsRecounted new olds news first last → first * STRETCH ≤ at → at < first * STRETCH + STRETCH
      → last * STRETCH ≤ at + length text → at + length text < last * STRETCH + STRETCH → IsGapped new news (at + length text) back
  put_right codes again fl fh ll lh =
      gapped-on old new olds news at back (at + length text) back first last right (omega arith) (omega arith) room right.within written_size codes
      (λ k less. written_below k less) (λ k more. written_from k more) again fl fh ll lh

  pub put_text : (whole : List ℕ) → whole ≡ take at old ++ drop back old → take (at + length text) new ++ drop back new ≡ take at whole ++ text ++ drop at whole
  put_text whole e =
      let order = right.order in
      let within = right.within in
      let size : length (take at old) ≡ at = length-take-le at old (omega arith) in
      let front : take (at + length text) new ≡ take at old ++ text
      = ap (take (at + length text)) put_is ∙ take-put_mid at (length text) old text (at + length text) refl (omega arith) in
      let rest : drop back new ≡ drop back old = ap (drop back) put_is ∙ drop-put_mid at (length text) old text back room (omega arith) refl in
      let fore : take at whole ≡ take at old = ap (take at) e ∙ take_at (take at old) (drop back old) at size in
      let aft : drop at whole ≡ drop back old = ap (drop at) e ∙ drop_at (take at old) (drop back old) at size in
      ap (λ (xs : List ℕ). xs ++ drop back new) front ∙ ap (λ (xs : List ℕ). take at old ++ text ++ xs) rest
      ∙ ap (λ (xs : List ℕ). xs ++ text ++ drop back old) (sym fore) ∙ ap (λ (xs : List ℕ). take at whole ++ text ++ xs) (sym aft)

-- characters behind the gap are taken away
pub taken_text : (codes whole : List ℕ) (from to back : ℕ) → from ≤ length codes → from ≤ to → whole ≡ take from codes ++ drop back codes
    → take from codes ++ drop (back + (to - from)) codes ≡ take from whole ++ drop to whole
taken_text codes whole from to back within order e =
    let size : length (take from codes) ≡ from = length-take-le from codes within in
    let fore : take from whole ≡ take from codes = ap (take from) e ∙ take_at (take from codes) (drop back codes) from size in
    let aft : drop from whole ≡ drop back codes = ap (drop from) e ∙ drop_at (take from codes) (drop back codes) from size in
    let past : from + (to - from) ≡ to = omega arith in
    let rest : drop to whole ≡ drop (back + (to - from)) codes
    = ap (λ (n : ℕ). drop n whole) (sym past) ∙ sym (drop-drop (to - from) from whole) ∙ ap (drop (to - from)) aft ∙ drop-drop (to - from) back codes in
    ap (λ (xs : List ℕ). xs ++ drop (back + (to - from)) codes) (sym fore) ∙ ap (λ (xs : List ℕ). take from whole ++ xs) (sym rest)
