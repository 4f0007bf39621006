-- Windows found by number.
use Rattle.std.proofs.Common.{◌≡◌, ℕ, ◌<◌, Result, Ok, List, length, set, get_or, refl, ap, subst, sym, ◌∙◌}
use Rattle.rd_state.specs.declared.refused.Refused.{Refused}
use Rattle.rd_state.specs.declared.refused.Refused.TheVariants.{NoWindow}
use Rattle.rd_state.specs.declared.window.WindowState.{WindowState}
use Rattle.rd_state.specs.States.{StateValue}
use Rattle.rd_state.specs.Steps.{with_found, in_window, changing, setting}
use Rattle.rd_state.specs.Windows.{place_in, changed_under, NumberedWindow}
use Rattle.rd_state.proofs.ByNumber.{IsFound, found-at, found-under}

-- what `find` answers, of the windows of a state
pub found-in : (s : StateValue) (ws : List NumberedWindow) (n i : ℕ) (e : NumberedWindow) → ws ≡ s.windows → i ≡ place_in n ws → i < length ws → e ≡ get_or s.windows i e → IsFound n i s.windows e
found-in s ws n i e shown is less at =
    found-under n i s.windows e (subst (λ xs. i ≡ place_in n xs) shown is) (subst (λ xs. i < length xs) shown less) at

-- what is done to a window that was found
pub at-window : (s t : StateValue) (n i : ℕ) (e : NumberedWindow) (g : StateValue → WindowState → Result StateValue Refused) → t ≡ s → IsFound n i t.windows e → in_window s n (g s) ≡ g t e.1
at-window s t n i e g same there =
    ap (λ x. in_window x n (g x)) (sym same) ∙ ap (λ o. with_found NoWindow o (g t)) there.stands

-- a window that becomes another
pub changes-window : (s t : StateValue) (n i : ℕ) (e : NumberedWindow) (f : WindowState → WindowState) → t ≡ s → IsFound n i t.windows e
    → record s { windows = changed_under n f s.windows } ≡ record t { windows = set t.windows i (e.0, f e.1) }
changes-window s t n i e f same there =
    ap (λ (x : StateValue). record x { windows = changed_under n f x.windows }) (sym same) ∙ ap (λ xs. record t { windows = xs }) (sym (there.changed f))

pub sets-window : (s t : StateValue) (n i : ℕ) (e : NumberedWindow) (f : WindowState → WindowState) → t ≡ s → IsFound n i t.windows e → setting s n f ≡ Ok (record t { windows = set t.windows i (e.0, f e.1) })
sets-window s t n i e f same there = at-window s t n i e (λ x w. changing n f (Ok x)) same there ∙ ap (λ x. Ok x) (changes-window t t n i e f refl there)

-- a window that was found stands under its number
pub some-found : (s : StateValue) (ws : List NumberedWindow) (n i : ℕ) → ws ≡ s.windows → i ≡ place_in n ws → i < length ws → (e : NumberedWindow) × IsFound n i s.windows e
some-found s ws n i shown is less = found-at n i s.windows (subst (λ xs. i ≡ place_in n xs) shown is) (subst (λ xs. i < length xs) shown less)
