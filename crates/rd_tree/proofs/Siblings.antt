-- What a removal gives the sibling.
use Rattle.std.proofs.Common.{◌≡◌, ℕ, ◌≤◌, true, Option, refl, ap, ◌∙◌, arith}
use Rattle.rd_base.proofs.Choices.{or-first}
use Rattle.std.specs.Option.{option_or}
use Rattle.rd_tree.specs.declared.rect.Rect.{Rect}
use Rattle.rd_tree.specs.declared.placed.Placed.{Placed}
use Rattle.rd_tree.specs.Windows.{Windows, Window, Split, first_part, second_part, resized, window_at, holds, sibling, removed, times}
use Rattle.rd_tree.specs.Places.{shared_place}
use Rattle.rd_tree.proofs.Keeping.{found_held, by_way}
use Rattle.rd_tree.proofs.Standing.{resized_held, sibling_held, not_found, once_in_first, two_lists}

-- the sibling shares the rectangle that it had with the removed window
pub removed_sibling : (v n : ℕ) (windows : Windows) (rect : Rect) → times v windows ≤ 1 → holds v (sibling n windows) ≡ true → window_at v (removed n windows rect) rect ≡ window_at v (resized (sibling n windows) (shared_place n windows rect)) (shared_place n windows rect)
removed_sibling v n (Window number mode margins) rect once = λ _. refl
removed_sibling v n (Split side size first second) rect once =
    let a = first_part side size rect in
    let b = second_part side size rect in
    by_way (λ left beside place. holds v beside ≡ true → window_at v left rect ≡ window_at v (resized beside place) place)
    n side size first second rect
    (λ _ _. refl)
    (λ _ _. refl)
    (λ _ _ e.
    let place = shared_place n first a in
    let there = resized (sibling n first) place in
    two_lists v side size (removed n first a) second rect
    ∙ (ap (λ (o : Option Placed). option_or o (window_at v second b)) (removed_sibling v n first a (omega arith) e)
    ∙ or-first (window_at v there place) (window_at v second b) (found_held v there place ∙ (resized_held v (sibling n first) place ∙ e))))
    (λ _ _ e.
    let away = once_in_first v first second once (sibling_held v n second b e).1 in
    two_lists v side size first (removed n second b) rect
    ∙ (ap (λ (o : Option Placed). option_or o (window_at v (removed n second b) b)) (not_found v first a away)
    ∙ removed_sibling v n second b (omega arith) e))
