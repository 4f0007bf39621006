-- What it means that an effect tells no change: the same is seen of a buffer, and a window keeps its buffer and its start.
use Rattle.std.proofs.Common.{◌≡◌, ◌⊎◌, inl, inr, ℕ, ◌+◌, ◌-◌, ◌<◌, ◌==◌, ◌&&◌, ◌||◌, true, false, nat_le, min, max, pos, ◌+ℤ◌, is_some, Option, None, Some, List, [], ◌∷◌, ◌++◌, map, set, sym, ap, refl, subst, ◌∙◌, arith}
use Rattle.std.proofs.lemmas.Bool.{cases_eq, eqb-true, cond-false, cond-true, eq-eqb, ne_eqb, and_parts}
use Rattle.std.proofs.lemmas.Option.{slice_get_within}
use Rattle.std.specs.Ordering.{int_eq}
use Rattle.std.specs.Prelude.{ℤ, ◌-ℤ◌, slice_get}
use Rattle.rd_base.specs.Lists.{moved}
use Rattle.rd_base.proofs.Choices.{either}
use Rattle.rd_base.proofs.Lists.{get-first, get-set}
use Rattle.rd_overlays.specs.declared.overlay.Overlay.{Overlay}
use Rattle.rd_reuse.specs.Changes.{all, change_of, edit, is_all, is_none, is_small, join, none}
use Rattle.rd_reuse.specs.declared.change.Change.{Change}
use Rattle.rd_state.specs.Effects.{covered_effect, moved_effect}
use Rattle.rd_state.specs.Moves.{moved as moved_window, moved_by, moved_in}
use Rattle.rd_state.specs.States.{BufferValue, ContentValue, seen}
use Rattle.rd_state.specs.Windows.{AreApart, window_of, changed_under, removed_under, NumberedWindow}
use Rattle.rd_state.specs.declared.effect.Effect.{Effect}
use Rattle.rd_state.specs.declared.effect.Effect.TheVariants.{Edit, Moved, All}
use Rattle.rd_state.specs.declared.moves.Move.{Move}
use Rattle.rd_state.specs.declared.window.WindowState.{WindowState}
use Rattle.rd_layout.specs.Changes.{change_by, if_shown, restyled}
use Rattle.rd_layout.proofs.ByNumber.{Lives, lives-end, lives-moved, lives-with, lives-without}
use Rattle.rd_state.proofs.ByNumber.{Each, each-same, each-with, each-moved, each-end, each-without, under-other}
use Rattle.rd_state.proofs.Options.{one-value}

-- an effect tells no change of a window that shows a buffer
abbrev pub Quiet : Effect → ℕ → ℕ → Type 0
Quiet effect number k = is_none (change_by effect number k) ≡ true

-- ---- changes that are never none

-- a change that has a tail is not none
pub tail-told : (c : Change) → 0 < c.tail → is_none c ≡ true → ⊥
tail-told c some h =
    let parts = and_parts (c.head == 4294967295) (c.tail == 0) (and_parts ((c.head == 4294967295) && (c.tail == 0)) (int_eq c.added (pos 0)) h).0 in
    let is : c.tail ≡ 0 = eqb-true c.tail 0 parts.1 in
    absurd (omega (arith, is, some))

-- a change that was given a tail has one: its own, or that of `all` where its fields have no room
change-tail : (head tail : ℕ) (added : ℤ) → 0 < tail → 0 < (change_of head tail added).tail
change-tail head tail added some = either (λ (c : Change). 0 < c.tail) (nat_le tail 4294967295 && is_small added) _ _ some (omega arith)

pub edit-tail : (from removed added : ℕ) → 0 < (edit from removed added).tail
edit-tail from removed added = change-tail from (from + added + 1) (pos added -ℤ pos removed) (omega arith)

-- what is combined with a change that has a tail has one
pub combined-tail : (x y : Change) → 0 < y.tail → 0 < (join x y).tail
combined-tail x y some =
    either (λ (c : Change). 0 < c.tail) (is_all x || is_all y) _ _ (omega arith) (change-tail (min x.head y.head) (max (moved y.added x.tail) y.tail) (x.added +ℤ y.added) (omega arith))

pub moved-tail : (before after : ℕ × ℕ) → 0 < (join (restyled before) (restyled after)).tail
moved-tail before after = combined-tail (restyled before) (restyled after) (edit-tail after.0 (after.1 - after.0) (after.1 - after.0))

-- an effect tells a change of each window that shows a buffer
abbrev pub Loud : Effect → ℕ → Type 0
Loud effect i = (number k : ℕ) → k ≡ i → Quiet effect number k → ⊥

shown-loud : (i : ℕ) (change : Change) → 0 < change.tail → (number k : ℕ) → k ≡ i → is_none (if_shown i k change) ≡ true → ⊥
shown-loud i change some number k is h = tail-told change some (sym (ap is_none (cond-true (i == k) change none (eq-eqb i k (sym is)))) ∙ h)

pub loud-edit : (i from removed added : ℕ) → Loud (Edit i from removed added) i
loud-edit i from removed added = shown-loud i (edit from removed added) (edit-tail from removed added)

pub loud-all : (i : ℕ) → Loud (All i) i
loud-all i = shown-loud i all (omega arith)

loud-moved : (i : ℕ) (before after : ℕ × ℕ) → Loud (Moved i before after) i
loud-moved i before after = shown-loud i (join (restyled before) (restyled after)) (moved-tail before after)

pub covered-loud : (i : ℕ) (o : Option Overlay) → is_some o ≡ true → Loud (covered_effect i o) i
covered-loud i None h = absurd (cc)
covered-loud i (Some o) h = loud-edit i o.from (o.to - o.from) (o.to - o.from)

pub moved-loud : (i from to : ℕ) (o : Option Overlay) → is_some o ≡ true → Loud (moved_effect i from to o) i
moved-loud i from to None h = absurd (cc)
moved-loud i from to (Some o) h = loud-moved i (o.from, o.to) (from, to)

-- ---- what stays

-- a window that shows what it showed, and starts where it started unless its start is set by command
abbrev pub Same : WindowState → WindowState → Type 0
Same old new = (new.buffer ≡ old.buffer) × (new.forced ≡ false → (old.forced ≡ false) × (new.anchor ≡ old.anchor))

same : (old new : WindowState) → old ≡ new → Same old new
same old new is = subst (Same old) is (refl, λ h. (h, refl))

-- ---- buffers

abbrev pub Contents : Effect → List BufferValue → List BufferValue → Type 0
Contents effect bs cs = (number k : ℕ) (b c : BufferValue) → slice_get bs k ≡ Some b → slice_get cs k ≡ Some c → Quiet effect number k → seen c.content ≡ seen b.content

same-content : (b c : BufferValue) → b ≡ c → seen c.content ≡ seen b.content
same-content b c is = ap (λ (x : BufferValue). seen x.content) (sym is)

pub contents-same : (effect : Effect) (bs : List BufferValue) → Contents effect bs bs
contents-same effect bs number k b c hb hc quiet = same-content b c (one-value (slice_get bs k) b c hb hc)

pushed : (bs : List BufferValue) (x : BufferValue) (k : ℕ) (b : BufferValue) → slice_get bs k ≡ Some b → slice_get (bs ++ x ∷ []) k ≡ Some b
pushed bs x k b h = get-first bs (x ∷ []) k (slice_get_within bs k b h) ∙ h

pub contents-pushed : (effect : Effect) (bs : List BufferValue) (x : BufferValue) → Contents effect bs (bs ++ x ∷ [])
contents-pushed effect bs x number k b c hb hc quiet = same-content b c (one-value (slice_get (bs ++ x ∷ []) k) b c (pushed bs x k b hb) hc)

-- one buffer holds something else: the effect tells it, or the same is seen of it
abbrev pub Kept : Effect → ℕ → ContentValue → ContentValue → Type 0
Kept effect i old new = Loud effect i ⊎ (seen new ≡ seen old)

pub contents-set : (effect : Effect) (bs : List BufferValue) (i : ℕ) (x : BufferValue) (content : ContentValue) → slice_get bs i ≡ Some x → Kept effect i x.content content
    → Contents effect bs (set bs i (record x { content = content }))
contents-set effect bs i x content at kept number k b c hb hc quiet = elim (get-set bs i k (record x { content = content }) c hc) [
  | inl p ↦ elim kept [
    | inl loud ↦ absurd (loud number k p.0 quiet)
    | inr is ↦
        let there : b ≡ x = one-value (slice_get bs i) b x (ap (slice_get bs) (sym p.0) ∙ hb) at in
        ap (λ (y : BufferValue). seen y.content) p.1 ∙ (is ∙ sym (ap (λ (y : BufferValue). seen y.content) there))
  ]
  | inr p ↦ same-content b c (one-value (slice_get bs k) b c hb p.1)
]

-- ---- windows

-- a window of which an effect tells no change
abbrev pub IsCalm : Effect → ℕ → WindowState → WindowState → Type 0
IsCalm effect number old new = Quiet effect number old.buffer → Same old new

itself : (effect : Effect) (number : ℕ) (w : WindowState) → IsCalm effect number w w
itself effect number w quiet = same w w refl

-- windows that became others: none that was made before comes to live, and those of which an effect tells no change are calm
pub record Became (effect : Effect) (made : ℕ) (ws vs : List NumberedWindow) : Type 0 where
  pub lives : (n : ℕ) → n < made → Lives n vs → Lives n ws
  pub calm : AreApart ws → Each (IsCalm effect) ws vs

pub became-same : (effect : Effect) (made : ℕ) (ws : List NumberedWindow) → Became effect made ws ws
became-same effect made ws = record { lives = λ n _ l. l; calm = λ _. each-same (IsCalm effect) (itself effect) ws }

-- windows of which one becomes another
pub became-with : (effect : Effect) (made : ℕ) (ws : List NumberedWindow) (n : ℕ) (f : WindowState → WindowState) → ((w : WindowState) → Quiet effect n w.buffer → Same w (f w))
    → Became effect made ws (changed_under n f ws)
became-with effect made ws n f good = record { lives = λ k _ l. lives-with n f k ws l; calm = λ _. each-with (IsCalm effect) (itself effect) n f ws good }

-- where all that show a buffer of which the effect tells move
calm-moved : (effect : Effect) (ws : List NumberedWindow) (i : ℕ) (how : Move) → Loud effect i → Each (IsCalm effect) ws (map (moved_in i how) ws)
calm-moved effect ws i how loud = each-moved (IsCalm effect) (moved_by i how) ws (λ number old quiet. elim (cases_eq old.buffer i) [
  | inl p ↦ absurd (loud number old.buffer p quiet)
  | inr q ↦ same old (moved_by i how old) (sym (cond-false (old.buffer == i) (moved_window how old) old (ne_eqb old.buffer i q)))
])

pub became-moved : (effect : Effect) (made : ℕ) (ws : List NumberedWindow) (i : ℕ) (how : Move) → Loud effect i → Became effect made ws (map (moved_in i how) ws)
became-moved effect made ws i how loud = record { lives = λ n _ l. lives-moved i how n ws l; calm = λ _. calm-moved effect ws i how loud }

-- windows that move with a buffer's text, of which one becomes another besides
pub became-typed : (effect : Effect) (made : ℕ) (ws : List NumberedWindow) (i : ℕ) (how : Move) (n : ℕ) (f : WindowState → WindowState) (w : WindowState) → Loud effect i
    → window_of n ws ≡ Some w → w.buffer ≡ i → Became effect made ws (changed_under n f (map (moved_in i how) ws))
became-typed effect made ws i how n f w loud at there = record {
  lives = λ k _ l. lives-moved i how k ws (lives-with n f k (map (moved_in i how) ws) l);
  calm = λ _ number old new h k quiet. elim (cases_eq number n) [
    | inl p ↦
        let is : old ≡ w = one-value (window_of n ws) old w (ap (λ j. window_of j ws) (sym p) ∙ h) at in
        absurd (loud number old.buffer (ap (λ (x : WindowState). x.buffer) is ∙ there) quiet)
    | inr q ↦ calm-moved effect ws i how loud number old new h (sym (under-other n number f (map (moved_in i how) ws) q) ∙ k) quiet
  ];
}

-- a window more leaves the others as they were
pub became-end : (effect : Effect) (ws : List NumberedWindow) (e : NumberedWindow) → Became effect e.0 ws (ws ++ e ∷ [])
became-end effect ws e = record { lives = λ n low l. lives-end n e ws (λ same. omega arith) l; calm = λ _. each-end (IsCalm effect) (itself effect) ws e }

-- a window less leaves the others as they were
pub became-without : (effect : Effect) (made : ℕ) (ws : List NumberedWindow) (n : ℕ) → Became effect made ws (removed_under n ws)
became-without effect made ws n = record { lives = λ k _ l. lives-without n k ws l; calm = λ apart. each-without (IsCalm effect) (itself effect) n ws apart }
