-- What stays valid where one part of a state becomes another.
use Rattle.std.proofs.Common.{◌≡◌, ◌≢◌, ◌⊎◌, ℕ, ◌<◌, ◌≤◌, inl, inr, ◌==◌, Bool, true, false, if◌then◌else◌, Some, List, [], ◌∷◌, ◌++◌, length, map, get_or, pos, subst, sym, ap, refl, ◌∙◌, arith, length-append}
use Rattle.std.proofs.lemmas.Bool.{eqb-true, eqb-false, cases_eq}
use Rattle.std.proofs.lemmas.List.{length-set}
use Rattle.std.proofs.lemmas.List.Sums.{fails_before_first}
use Rattle.std.proofs.lemmas.Option.{slice_get_within, get_or_from_slice_get}
use Rattle.std.proofs.lemmas.Slice.Eq.{bytes_eq-Decides}
use Rattle.rd_base.proofs.Lists.{get-set, get-end, get-map}
use Rattle.rd_base.proofs.Choices.{either, some-mapped}
use Rattle.std.specs.Prelude.{slice_get, slice_set, option_map, IsTrue, IsSome, IfSome}
use Rattle.std.specs.Str.{bytes_eq}
use Rattle.rd_base.specs.declared.settings.Anchor.{Anchor}
use Rattle.rd_base.specs.declared.limits.TheConstants.{BUFFERS, HSCROLL_COLUMNS, NUMBER_COLUMNS, PENDING_ROWS, STRING_COLUMNS}
use Rattle.rd_text.specs.Texts.{IsAccessible}
use Rattle.rd_objects.specs.Things.{ObjectLists}
use Rattle.rd_script.specs.Forms.{is_buffer_name}
use Rattle.rd_script.specs.Numbers.{is_near_zero}
use Rattle.rd_tree.specs.Calls as tree
use Rattle.rd_state.specs.declared.moves.Move.{Move}
use Rattle.rd_state.specs.declared.window.WindowState.{WindowState}
use Rattle.rd_state.specs.States.{BufferValue, ContentValue, new_buffer, new_content, number_of}
use Rattle.rd_state.specs.Windows.{window_of, changed_under, leaf_at, leaf_of, NumberedWindow}
use Rattle.rd_state.specs.Valid.{AreBuffers, IsContent, IsGoodFormat, IsWindow, AreWindows}
use Rattle.rd_state.specs.Moves.{place_after, moved, moved_by, moved_in}
use Rattle.rd_state.proofs.ByNumber.{Hands, became, each-under, each-with, under-became, apart-became, window-same, under-other, some-with, none-past, apart-becoming}
use Rattle.rd_state.proofs.Options.{map-map}

-- ---- buffers

-- a buffer that holds something else
abbrev pub holding : BufferValue → ContentValue → BufferValue
holding b content = record b { content = content }

-- buffers of which each is an old one in its place, or the one at a place, which is good and has a name of its own
buffers-with : (o : ObjectLists) (bs cs : List BufferValue) (i : ℕ) (c : BufferValue) → AreBuffers o bs → length cs ≤ BUFFERS
    → ((k : ℕ) (x : BufferValue) → slice_get cs k ≡ Some x → (slice_get bs k ≡ Some x) ⊎ ((k ≡ i) × (x ≡ c)))
    → ((k : ℕ) (x : BufferValue) → slice_get bs k ≡ Some x → c.name ≡ x.name → i ≡ k) → IsTrue (is_buffer_name c.name) → IsContent o c.content → AreBuffers o cs
buffers-with o bs cs i c v few from own name content = record {
  few = few;
  told = λ j k x y hx hy e. elim (from j x hx) [
    | inl p ↦ elim (from k y hy) [
      | inl q ↦ v.told j k x y p q e
      | inr q ↦ sym (q.0 ∙ own j x p (sym (ap (λ z. z.name) q.1) ∙ sym e))
    ]
    | inr p ↦ elim (from k y hy) [
      | inl q ↦ p.0 ∙ own k y q (sym (ap (λ z. z.name) p.1) ∙ e)
      | inr q ↦ p.0 ∙ sym q.0
    ]
  ];
  names = λ k x hx. elim (from k x hx) [
    | inl p ↦ v.names k x p
    | inr p ↦ subst (λ (z : BufferValue). IsTrue (is_buffer_name z.name)) (sym p.1) name
  ];
  contents = λ k x hx. elim (from k x hx) [
    | inl p ↦ v.contents k x p
    | inr p ↦ subst (λ (z : BufferValue). IsContent o z.content) (sym p.1) content
  ];
}

pub buffers-replaced : (o : ObjectLists) (bs : List BufferValue) (i : ℕ) (b : BufferValue) (c : ContentValue) → AreBuffers o bs → slice_get bs i ≡ Some b → IsContent o c
    → AreBuffers o (slice_set bs i (holding b c))
buffers-replaced o bs i b c v at new =
    buffers-with o bs (slice_set bs i (holding b c)) i (holding b c) v (rw length-set v.few)
    (λ k x hx. elim (get-set bs i k (holding b c) x hx) [ inl p ↦ inr p | inr p ↦ inl p.1 ]) (λ k x h e. v.told i k b x at h e) (v.names i b at) new

-- no buffer before the number has the name
none_named : (name : List ℕ) (bs : List BufferValue) (k : ℕ) (b : BufferValue) → k < number_of name bs → slice_get bs k ≡ Some b → name ≡ b.name → ⊥
none_named name bs k b p at e =
    let fails = fails_before_first (λ z. bytes_eq name z.name) bs k b p in
    let here : get_or bs k b ≡ b = get_or_from_slice_get bs k b b at in
    let no : bytes_eq name b.name ≡ false = ap (λ z. bytes_eq name z.name) (sym here) ∙ fails in
    grind (arith, bytes_eq-Decides name b.name, no, e)

pub buffers-appended : (o : ObjectLists) (bs : List BufferValue) (name : List ℕ) → AreBuffers o bs → IsContent o new_content → IsTrue (is_buffer_name name)
    → length bs < BUFFERS → length bs ≤ number_of name bs → AreBuffers o (bs ++ new_buffer name ∷ [])
buffers-appended o bs name v new form room free =
    buffers-with o bs (bs ++ new_buffer name ∷ []) (length bs) (new_buffer name) v (omega (arith, room, length-append bs (new_buffer name ∷ [])))
    (λ k x hx. get-end bs (new_buffer name) k x hx) (λ k x h e. absurd (none_named name bs k x (omega (arith, slice_get_within bs k x h, free)) h e)) form new

-- ---- windows over other buffers

-- a window is one of some buffers where its point and the beginning of its view are accessible in the one that it shows, and its numbers
-- are in range
pub window-still : (bs : List BufferValue) (x : WindowState) → x.buffer < length bs
    → ((b : BufferValue) → slice_get bs x.buffer ≡ Some b → IsAccessible b.content.text x.point)
    → ((b : BufferValue) → slice_get bs x.buffer ≡ Some b → IsAccessible b.content.text x.anchor.pos) → IsTrue (is_near_zero (pos PENDING_ROWS) x.pending)
    → x.hscroll ≤ HSCROLL_COLUMNS → IfSome x.format IsGoodFormat → x.numbers ≤ NUMBER_COLUMNS → x.strings ≤ STRING_COLUMNS → IsWindow bs x
window-still bs x made point anchor pending hscroll format numbers strings = record {
  made = made;
  point = point;
  anchor = anchor;
  pending = pending;
  hscroll = hscroll;
  format = format;
  numbers = numbers;
  strings = strings;
}

-- a window of some buffers is one of others where it shows one of these, with point and the beginning of its view accessible there
pub window-placed : (bs cs : List BufferValue) (w : WindowState) (buffer place : ℕ) (anchor : Anchor) → IsWindow bs w → buffer < length cs
    → ((c : BufferValue) → slice_get cs buffer ≡ Some c → IsAccessible c.content.text place)
    → ((c : BufferValue) → slice_get cs buffer ≡ Some c → IsAccessible c.content.text anchor.pos) → IsWindow cs (record w { buffer = buffer; point = place; anchor = anchor })
window-placed bs cs w buffer place anchor v made point start =
    window-still cs (record w { buffer = buffer; point = place; anchor = anchor }) made point start v.pending v.hscroll v.format v.numbers v.strings

-- a window of some buffers is one of others where each position that was accessible in its buffer is accessible there
pub window-over : (bs cs : List BufferValue) (w : WindowState) → length bs ≤ length cs
    → ((c : BufferValue) → slice_get cs w.buffer ≡ Some c → (b : BufferValue) × (slice_get bs w.buffer ≡ Some b) × ((p : ℕ) → IsAccessible b.content.text p → IsAccessible c.content.text p))
    → IsWindow bs w → IsWindow cs w
window-over bs cs w more old v =
    let made = v.made in
    window-placed bs cs w w.buffer w.point w.anchor v (omega arith)
    (λ c h. let o = old c h in o.2 w.point (v.point o.0 o.1))
    (λ c h. let o = old c h in o.2 w.anchor.pos (v.anchor o.0 o.1))

-- windows over other buffers, in a tree with the same leaves
pub windows-over : (bs cs : List BufferValue) (c d : tree.Configuration) (ws : List NumberedWindow) (n m : ℕ) → tree.IsValid d
    → ((k : ℕ) → leaf_at k d.windows ≡ leaf_at k c.windows) → IsSome (window_of m ws) → ((w : WindowState) → IsWindow bs w → IsWindow cs w)
    → AreWindows bs c ws n → AreWindows cs d ws m
windows-over bs cs c d ws n m valid same lives keep v = record {
  tree = valid;
  leaves = λ k. same k ∙ v.leaves k;
  apart = v.apart;
  each = λ k e h. keep e.1 (v.each k e h);
  selected = lives;
}

pub windows-appended : (bs : List BufferValue) (name : List ℕ) (c : tree.Configuration) (ws : List NumberedWindow) (n : ℕ) → AreWindows bs c ws n → AreWindows (bs ++ new_buffer name ∷ []) c ws n
windows-appended bs name c ws n v =
    windows-over bs (bs ++ new_buffer name ∷ []) c c ws n n v.tree (λ k. refl) v.selected (λ w o.
    let made = o.made in
    window-over bs (bs ++ new_buffer name ∷ []) w (omega (arith, length-append bs (new_buffer name ∷ [])))
    (λ x h. elim (get-end bs (new_buffer name) w.buffer x h) [ inl p ↦ (x, p, λ p a. a) | inr p ↦ absurd (omega (arith, p.0)) ]) o) v

-- windows that become others under their numbers, with the leaves that they had
pub windows-became : (bs cs : List BufferValue) (c : tree.Configuration) (f : ℕ → WindowState → WindowState) (ws : List NumberedWindow) (n : ℕ) → ((k : ℕ) (w : WindowState) → leaf_of (f k w) ≡ leaf_of w)
    → ((k : ℕ) (w : WindowState) → IsWindow bs w → IsWindow cs (f k w)) → AreWindows bs c ws n → AreWindows cs c (map (became f) ws) n
windows-became bs cs c f ws n same keep v = record {
  tree = v.tree;
  leaves = λ k. v.leaves k ∙ sym (ap (option_map leaf_of) (under-became f k ws) ∙ map-map (f k) leaf_of leaf_of (window_of k ws) (same k));
  apart = apart-became f ws v.apart;
  each = λ k e at.
      let d = get-map (became f) ws k e at in
      subst (λ (x : NumberedWindow). IsWindow cs x.1) d.2 (keep d.0.0 d.0.1 (v.each k d.0 d.1));
  selected = subst IsSome (sym (under-became f n ws)) (some-mapped (f n) (window_of n ws) ∙ v.selected);
}

-- where a position of one buffer and each position of the others go
pub windows-replaced : (bs : List BufferValue) (i : ℕ) (b : BufferValue) (d : ContentValue) (c : tree.Configuration) (ws : List NumberedWindow) (n : ℕ) → slice_get bs i ≡ Some b
    → ((p : ℕ) → IsAccessible b.content.text p → IsAccessible d.text p) → AreWindows bs c ws n → AreWindows (slice_set bs i (holding b d)) c ws n
windows-replaced bs i b d c ws n at keep v =
    windows-over bs (slice_set bs i (holding b d)) c c ws n n v.tree (λ k. refl) v.selected (λ w o.
    window-over bs (slice_set bs i (holding b d)) w (rw length-set (omega arith))
    (λ x h. elim (get-set bs i w.buffer (holding b d) x h) [
      | inl p ↦ (b, ap (slice_get bs) p.0 ∙ at, λ q a. subst (λ (z : BufferValue). IsAccessible z.content.text q) (sym p.1) (keep q a))
      | inr p ↦ (x, p.1, λ q a. a)
    ]) o) v

moved-window : (bs : List BufferValue) (i : ℕ) (b : BufferValue) (d : ContentValue) (how : Move) (w : WindowState) (t : Bool) → (w.buffer == i) ≡ t → slice_get bs i ≡ Some b
    → ((p : ℕ) → IsAccessible b.content.text p → IsAccessible d.text (place_after how p)) → IsWindow bs w
    → IsWindow (slice_set bs i (holding b d)) (if t then moved how w else w)
moved-window bs i b d how w true e at keep v =
    let same = eqb-true w.buffer i e in
    let here : slice_get bs w.buffer ≡ Some b = ap (slice_get bs) same ∙ at in
    let at_new : (p : ℕ) → IsAccessible b.content.text p → (x : BufferValue) → slice_get (slice_set bs i (holding b d)) w.buffer ≡ Some x → IsAccessible x.content.text (place_after how p)
    = λ p a x hx. elim (get-set bs i w.buffer (holding b d) x hx) [
      | inl q ↦ subst (λ (z : BufferValue). IsAccessible z.content.text (place_after how p)) (sym q.1) (keep p a)
      | inr q ↦ absurd (q.0 same)
    ] in
    window-placed bs (slice_set bs i (holding b d)) w w.buffer (place_after how w.point) (record { pos = place_after how w.anchor.pos; row = w.anchor.row }) v (rw length-set v.made)
    (at_new w.point (v.point b here)) (at_new w.anchor.pos (v.anchor b here))
moved-window bs i b d how w false e at keep v =
    let other = eqb-false w.buffer i e in
    window-over bs (slice_set bs i (holding b d)) w (rw length-set (omega arith))
    (λ x h. elim (get-set bs i w.buffer (holding b d) x h) [ inl p ↦ absurd (other p.0) | inr p ↦ (x, p.1, λ q a. a) ]) v

leaf-moved : (i : ℕ) (how : Move) (w : WindowState) → leaf_of (moved_by i how w) ≡ leaf_of w
leaf-moved i how w = either (λ (x : WindowState). leaf_of x ≡ leaf_of w) (w.buffer == i) (moved how w) w refl refl

pub windows-moved : (bs : List BufferValue) (i : ℕ) (b : BufferValue) (d : ContentValue) (how : Move) (c : tree.Configuration) (ws : List NumberedWindow) (n : ℕ) → slice_get bs i ≡ Some b
    → ((p : ℕ) → IsAccessible b.content.text p → IsAccessible d.text (place_after how p)) → AreWindows bs c ws n
    → AreWindows (slice_set bs i (holding b d)) c (map (moved_in i how) ws) n
windows-moved bs i b d how c ws n at keep v =
    windows-became bs (slice_set bs i (holding b d)) c (λ k. moved_by i how) ws n (λ k. leaf-moved i how) (λ k w old. moved-window bs i b d how w (w.buffer == i) refl at keep old) v

-- ---- one window

-- a window that becomes another with the mode line and the margins that the tree has then
pub windows-changed : (bs : List BufferValue) (c d : tree.Configuration) (ws : List NumberedWindow) (n number : ℕ) (f : WindowState → WindowState) → tree.IsValid d
    → leaf_at number d.windows ≡ option_map (λ w. leaf_of (f w)) (window_of number ws)
    → ((k : ℕ) → k ≢ number → leaf_at k d.windows ≡ leaf_at k c.windows)
    → ((w : WindowState) → window_of number ws ≡ Some w → IsWindow bs w → IsWindow bs (f w)) → AreWindows bs c ws n → AreWindows bs d (changed_under number f ws) n
windows-changed bs c d ws n number f valid here others keep v = record {
  tree = valid;
  leaves = λ k. elim (cases_eq k number) [
    | inl p ↦
        ap (λ (x : ℕ). leaf_at x d.windows) p
        ∙ (here ∙ (sym (map-map f leaf_of (λ w. leaf_of (f w)) (window_of number ws) (λ w. refl))
        ∙ (sym (ap (option_map leaf_of) (window-same number f ws)) ∙ ap (λ (x : ℕ). option_map leaf_of (window_of x (changed_under number f ws))) (sym p))))
    | inr q ↦ others k q ∙ (v.leaves k ∙ sym (ap (option_map leaf_of) (under-other number k f ws q)))
  ];
  apart = apart-becoming number (λ w. Some (f w)) ws v.apart;
  each = each-under (IsWindow bs) (IsWindow bs) ws (changed_under number f ws) (apart-becoming number (λ w. Some (f w)) ws v.apart) (λ k. none-past number k (λ w. Some (f w)) ws)
      (each-with (Hands (IsWindow bs) (IsWindow bs) ws) (λ k w lives old. old) number f ws keep) v.each;
  selected = some-with number n f ws v.selected;
}
