-- A window that lives behind a change lived before it.
use Rattle.std.proofs.Common.{◌≡◌, ◌≢◌, ℕ, ◌==◌, if◌then◌else◌, None, Some, List, [], ◌∷◌, ◌++◌, map, ap, ◌∙◌}
use Rattle.std.proofs.lemmas.Bool.{cond-false, ne_eqb}
use Rattle.std.specs.Option.{option_or}
use Rattle.std.specs.Prelude.{option_map}
use Rattle.rd_state.specs.Moves.{moved_by, moved_in}
use Rattle.rd_state.specs.Windows.{window_of, changed_under, removed_under, NumberedWindow}
use Rattle.rd_state.proofs.ByNumber.{none-past, some-before, window-each, window-end}
use Rattle.rd_state.specs.declared.moves.Move.{Move}
use Rattle.rd_state.specs.declared.window.WindowState.{WindowState}

abbrev pub Lives : ℕ → List NumberedWindow → Type 0
Lives n ws = (w : WindowState) × (window_of n ws ≡ Some w)

pub lives-moved : (i : ℕ) (how : Move) (n : ℕ) (ws : List NumberedWindow) → Lives n (map (moved_in i how) ws) → Lives n ws
lives-moved i how n ws = some-before n ws (map (moved_in i how) ws) (λ none. window-each n (moved_by i how) ws ∙ ap (option_map (moved_by i how)) none)

pub lives-with : (m : ℕ) (f : WindowState → WindowState) (n : ℕ) (ws : List NumberedWindow) → Lives n (changed_under m f ws) → Lives n ws
lives-with m f n ws = some-before n ws (changed_under m f ws) (none-past m n (λ w. Some (f w)) ws)

pub lives-without : (m n : ℕ) (ws : List NumberedWindow) → Lives n (removed_under m ws) → Lives n ws
lives-without m n ws = some-before n ws (removed_under m ws) (none-past m n (λ w. None) ws)

pub lives-end : (n : ℕ) (d : NumberedWindow) (ws : List NumberedWindow) → d.0 ≢ n → Lives n (ws ++ d ∷ []) → Lives n ws
lives-end n d ws other =
    let new = if d.0 == n then Some d.1 else None in
    some-before n ws (ws ++ d ∷ []) (λ none. window-end n ws d ∙ (ap (λ o. option_or o new) none ∙ cond-false (d.0 == n) (Some d.1) None (ne_eqb d.0 n other)))
