-- Where point's row is, as seen from rows in view.
use Rattle.std.proofs.Common.{◌≡◌, ℕ, ◌+◌, ◌<◌, ◌≤◌, ◌⊎◌, inl, inr, cond, ltb, min, length, Option, None, Some, sym, ap, subst, ◌∙◌, arith}
use Rattle.std.proofs.lemmas.Bool.{cases_Bool, le-ltb, lt-ltb, ltb-false, ltb-true}
use Rattle.std.specs.List.{slice_get}
use Rattle.rd_matrix.specs.Sources.{SourceValues}
use Rattle.rd_start.specs.Strips.{IsStrip, Reaches, count_in, first_row, point_row, seen_from, side_in, side_of, unseen_from}
use Rattle.rd_start.specs.declared.strip.PointSide.{PointSide}
use Rattle.rd_start.specs.declared.strip.PointSide.TheVariants.{Above, Below, Within}
use Rattle.rd_start.specs.declared.strip.Strip.{Strip}
use Rattle.rd_start.proofs.Rows.{find_point, whereabouts}

-- what a side tells of a row, seen from the view of a height that starts with another
abbrev pub Sees : PointSide → ℕ → ℕ → ℕ → Type 0
Sees Above start height row = row < start
Sees Within start height row = (start ≤ row) × (row < start + height)
Sees Below start height row = start + height ≤ row

sees-place : (from to first height row p : ℕ) → (row < to → row < from + height) → (to ≤ row → from + height ≤ row) → p ≡ first + row → Sees (seen_from from to row) (first + from) height p
sees-place from to first height row p inside outside place =
    elim (cases_Bool (ltb row from)) [
      | inl above ↦
          let low = ltb-true row from above in
          subst (λ (s : PointSide). Sees s (first + from) height p) (sym (ap (λ t. cond t Above (cond (ltb row to) Within Below)) above)) (omega arith)
      | inr from_on ↦ elim (cases_Bool (ltb row to)) [
        | inl within ↦
            let low = ltb-false row from from_on in
            let high = ltb-true row to within in
            let end = inside high in
            let same = ap (λ t. cond t Above (cond (ltb row to) Within Below)) from_on ∙ ap (λ t. cond t Within Below) within in
            subst (λ (s : PointSide). Sees s (first + from) height p) (sym same) (omega arith, omega arith)
        | inr below ↦
            let high = ltb-false row to below in
            let end = outside high in
            let same = ap (λ t. cond t Above (cond (ltb row to) Within Below)) from_on ∙ ap (λ t. cond t Within Below) below in
            subst (λ (s : PointSide). Sees s (first + from) height p) (sym same) (omega arith)
      ]
    ]

sees : (m : SourceValues) (s : Strip) (from to height : ℕ) → IsStrip m s → Reaches m s (from + height) → from < length s.strip_rows.items → to ≡ min (from + height) (length s.strip_rows.items)
    → Sees (side_in s from to) (first_row m s + from) height (point_row m s.sweep)
sees m s from to height h reached inside end =
    let p = point_row m s.sweep in
    elim (whereabouts m s.sweep s.blocks.items s.strip_rows.items s.home h) [
      | inl above ↦
          let t = lt-ltb s.sweep.point above.first.start above.low in
          let same = ap (λ o. side_of from to (unseen_from s.sweep.point (slice_get s.blocks.items 0)) o) above.none
          ∙ (ap (unseen_from s.sweep.point) above.here ∙ ap (λ b. cond b Above Below) t) in
          let row = above.row in
          subst (λ (x : PointSide). Sees x (first_row m s + from) height p) (sym same) (omega arith)
      | inr other ↦ elim other [
        | inl among ↦
            let same = ap (λ o. side_of from to (unseen_from s.sweep.point (slice_get s.blocks.items 0)) o) among.here in
            let low = among.inside in
            let place = among.place in
            let home = h.home in
            subst (λ (x : PointSide). Sees x (first_row m s + from) height p) (sym same)
            (sees-place from to (first_row m s) height among.row p (λ e. omega arith) (λ e. omega arith) (omega arith))
        | inr below ↦
            let t = le-ltb s.sweep.point below.first.start below.high in
            let same = ap (λ o. side_of from to (unseen_from s.sweep.point (slice_get s.blocks.items 0)) o) below.none
            ∙ (ap (unseen_from s.sweep.point) below.here ∙ ap (λ b. cond b Above Below) t) in
            let row = below.row in
            let home = h.home in
            let last = below.inside in
            subst (λ (x : PointSide). Sees x (first_row m s + from) height p) (sym same) (elim reached [ inl far ↦ omega arith | inr all ↦ omega arith ])
      ]
    ]

pub seen : (m : SourceValues) (s : Strip) (from to height : ℕ) (side : PointSide) → IsStrip m s → Reaches m s (from + height) → from < length s.strip_rows.items → to ≡ min (from + height) (length s.strip_rows.items)
    → side_in s from to ≡ side → Sees side (first_row m s + from) height (point_row m s.sweep)
seen m s from to height side h reached inside end is = subst (λ (x : PointSide). Sees x (first_row m s + from) height (point_row m s.sweep)) is (sees m s from to height h reached inside end)

-- what point's place among the rows of a strip, or that it has none there, tells of point's row
abbrev pub IsTold : SourceValues → Strip → Option ℕ → Type 0
IsTold m s (Some row) = (row < length s.strip_rows.items) × (first_row m s + row ≡ point_row m s.sweep)
IsTold m s None = (point_row m s.sweep < first_row m s) ⊎ ((first_row m s + length s.strip_rows.items ≤ point_row m s.sweep) × (point_row m s.sweep < count_in m s.sweep m.blocks))

pub point-told : (m : SourceValues) (s : Strip) (found : Option ℕ) → IsStrip m s → find_point s.strip_rows.items ≡ found → IsTold m s found
point-told m s found h is =
    let home = h.home in
    subst (IsTold m s) is (elim (whereabouts m s.sweep s.blocks.items s.strip_rows.items s.home h) [
      | inl above ↦ let row = above.row in subst (IsTold m s) (sym above.none) (inl (omega arith))
      | inr other ↦ elim other [
        | inl among ↦
            let inside = among.inside in
            let place = among.place in
            subst (IsTold m s) (sym among.here) (omega arith, omega arith)
        | inr below ↦ let row = below.row in subst (IsTold m s) (sym below.none) (inr (omega arith, below.inside))
      ]
    ])
