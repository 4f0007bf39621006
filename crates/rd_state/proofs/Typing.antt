-- Texts put in: that the windows can move with them, and what is typed at the selected window's point.
use Rattle.std.proofs.Common.{◌≡◌, ℕ, ◌+◌, ◌<◌, ◌==◌, not, cond, Some, Result, Ok, Err, List, [], ◌∷◌, length, map, set, get_or, sym, ap, refl, ◌∙◌, arith}
use Rattle.std.proofs.lemmas.List.{length-map}
use Rattle.std.specs.Prelude.{slice_get, unwrap_or}
use Rattle.rd_state.specs.declared.moves.Move.{Move}
use Rattle.rd_state.specs.declared.moves.Move.TheVariants.{Inserted}
use Rattle.rd_state.specs.declared.refused.Refused.{Refused}
use Rattle.rd_state.specs.declared.refused.Refused.TheVariants.{NoBuffer}
use Rattle.rd_state.specs.declared.window.WindowState.{WindowState}
use Rattle.rd_state.specs.States.{BufferValue, ContentValue, StateValue, opening_window}
use Rattle.rd_state.specs.Edits.{insertion}
use Rattle.rd_state.specs.Movable.{CanMove}
use Rattle.rd_state.specs.Moves.{moved_in}
use Rattle.rd_state.specs.Effects.{inserted_effect}
use Rattle.rd_state.specs.Steps.{with_found, content_replaced, moving, changing, typed, typing}
use Rattle.rd_state.specs.Valid.{IsValid}
use Rattle.rd_state.specs.Windows.{place_in, changed_under, selected_window, NumberedWindow}
use Rattle.rd_state.proofs.ByName.{AnswersAt}
use Rattle.rd_state.proofs.ByNumber.{IsFound, found-under}
use Rattle.rd_state.proofs.Finding.{at-window}
use Rattle.rd_state.proofs.Stepping.{insertion-means}

-- ---- insertions

-- the positions of the windows that show a buffer stay small when a text is put in
pub can-insert : (s : StateValue) (i place : ℕ) (new : List ℕ) (bs : List BufferValue) → IsValid s → AnswersAt (Ok tt) (insertion place new) i s.buffers bs
    → (k : ℕ) (e : NumberedWindow) → slice_get s.windows k ≡ Some e → CanMove i (Inserted place (length new)) e
can-insert s i place new bs valid (b, c, at, gives, is) k e there shows =
    let means = insertion-means place new b.content c gives in
    let room = means.1 in
    let window = valid.windows.each k e there in
    let here : slice_get s.buffers e.1.buffer ≡ Some b = ap (slice_get s.buffers) shows ∙ at in
    let text = (valid.buffers.contents i b at).text in
    let last = text.last in
    let point = (window.point b here).1 in
    let anchor = (window.anchor b here).1 in
    (omega arith, omega arith)

-- ---- typing

-- the place of a number among the windows that moved
place-moved : (n i : ℕ) (how : Move) (ws : List NumberedWindow) → place_in n (map (moved_in i how) ws) ≡ place_in n ws
place-moved n i how [] = refl
place-moved n i how (e ∷ ws) = ap (λ k. cond (not (e.0 == n)) (1 + k) 0) (place-moved n i how ws)

-- the selected window among those that moved
pub found-moved : (n i j : ℕ) (how : Move) (ws moved : List NumberedWindow) (e : NumberedWindow) → moved ≡ map (moved_in j how) ws → i ≡ place_in n ws → i < length ws → e ≡ get_or moved i e → IsFound n i moved e
found-moved n i j how ws moved e is place less at =
    found-under n i moved e (place ∙ (sym (place-moved n j how ws) ∙ ap (place_in n) (sym is))) (omega (arith, less, ap length is, length-map ws (moved_in j how))) at

typed-ok : (s : StateValue) (new : List ℕ) (w : WindowState) (bs : List BufferValue) → AnswersAt (Ok tt) (insertion w.point new) w.buffer s.buffers bs
    → typed s new w ≡ Ok (record s { buffers = bs; windows = changed_under s.selected (λ old. record old { point = w.point + length new }) (map (moved_in w.buffer (Inserted w.point (length new))) s.windows) })
typed-ok s new w bs (b, c, at, gives, is) =
    let f : WindowState → WindowState = λ old. record old { point = w.point + length new } in
    let done : Result ContentValue Refused → Result StateValue Refused = λ r. changing s.selected f (moving w.buffer (Inserted w.point (length new)) (content_replaced s w.buffer b r)) in
    ap (λ o. with_found NoBuffer o (λ x. changing s.selected f (moving w.buffer (Inserted w.point (length new)) (content_replaced s w.buffer x (insertion w.point new x.content))))) at
    ∙ (ap done gives
    ∙ ap (λ (xs : List BufferValue). Ok (record s { buffers = xs; windows = changed_under s.selected f (map (moved_in w.buffer (Inserted w.point (length new))) s.windows) })) (sym is))

typed-err : (s : StateValue) (new : List ℕ) (w : WindowState) (refused : Refused) → (b : BufferValue) × (slice_get s.buffers w.buffer ≡ Some b) × (insertion w.point new b.content ≡ Err refused)
    → typed s new w ≡ Err refused
typed-err s new w refused (b, at, gives) =
    let f : WindowState → WindowState = λ old. record old { point = w.point + length new } in
    ap (λ o. with_found NoBuffer o (λ x. changing s.selected f (moving w.buffer (Inserted w.point (length new)) (content_replaced s w.buffer x (insertion w.point new x.content))))) at
    ∙ ap (λ r. changing s.selected f (moving w.buffer (Inserted w.point (length new)) (content_replaced s w.buffer b r))) gives

-- the selected window as it was found, and as it stands among those that moved
pub typing-ok : (s t : StateValue) (new : List ℕ) (i : ℕ) (e d : NumberedWindow) (bs : List BufferValue) (ws : List NumberedWindow) → t ≡ s → IsFound t.selected i t.windows e
    → AnswersAt (Ok tt) (insertion e.1.point new) e.1.buffer t.buffers bs → ws ≡ map (moved_in e.1.buffer (Inserted e.1.point (length new))) t.windows → IsFound t.selected i ws d
    → typing s new ≡ Ok (record t { buffers = bs; windows = set ws i (d.0, record d.1 { point = e.1.point + length new }) })
typing-ok s t new i e d bs ws same there inserted moved there_2 =
    let f : WindowState → WindowState = λ old. record old { point = e.1.point + length new } in
    sym (ap (λ (x : StateValue). typing x new) same)
    ∙ (at-window t t t.selected i e (λ x w. typed t new w) refl there
    ∙ (typed-ok t new e.1 bs inserted
    ∙ (ap (λ (xs : List NumberedWindow). Ok (record t { buffers = bs; windows = changed_under t.selected f xs })) (sym moved)
    ∙ ap (λ (xs : List NumberedWindow). Ok (record t { buffers = bs; windows = xs })) (sym (there_2.changed f)))))

pub typing-err : (s t : StateValue) (new : List ℕ) (i : ℕ) (e : NumberedWindow) (refused : Refused) → t ≡ s → IsFound t.selected i t.windows e
    → (b : BufferValue) × (slice_get t.buffers e.1.buffer ≡ Some b) × (insertion e.1.point new b.content ≡ Err refused) → typing s new ≡ Err refused
typing-err s t new i e refused same there said =
    sym (ap (λ (x : StateValue). typing x new) same)
    ∙ (at-window t t t.selected i e (λ x w. typed t new w) refl there
    ∙ typed-err t new e.1 refused said)

-- the effect tells the selected window's buffer and its point
pub typing-effect : (s t : StateValue) (new : List ℕ) (i : ℕ) (e : NumberedWindow) → t ≡ s → IsFound t.selected i t.windows e
    → inserted_effect e.1.buffer e.1.point new ≡ inserted_effect (selected_window s).buffer (selected_window s).point new
typing-effect s t new i e same there =
    let is : e.1 ≡ selected_window s = sym (ap (λ o. unwrap_or o opening_window) there.stands) ∙ ap selected_window same in
    ap (λ (w : WindowState). inserted_effect w.buffer w.point new) is
