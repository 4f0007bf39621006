-- Rows of a strip that suit as a start.
use Rattle.std.proofs.Common.{◌≡◌, ℕ, ◌+◌, ◌-◌, ◌<◌, ◌≤◌, ◌⊎◌, inl, inr, Bool, true, false, cond, [], ◌∷◌, Option, None, Some, Result, Ok, Err, refl, sym, ap, subst, ◌∙◌, arith}
use Rattle.std.proofs.lemmas.Bool.{le-leb, lt-leb}
use Rattle.std.proofs.lemmas.Bool.Decides.{nat_tests}
use Rattle.std.specs.List.{find}
use Rattle.rd_matrix.specs.Sources.{SourceValues}
use Rattle.rd_matrix.specs.declared.block.Block.{Block}
use Rattle.rd_start.specs.Chosen.{anchor_row, places_of, row_of}
use Rattle.rd_start.specs.Starts.{above_at, around, both_at, margin_of, suits}
use Rattle.rd_start.specs.Strips.{Finds, IsFor, IsStrip, BeginsAbove, EndsAt, Reaches, StandsBeyond, count_in, first_row, hides_edge, home_row, point_row, row_at, rows_in, wanted_at}
use Rattle.rd_start.specs.declared.strip.Edge.{Edge}
use Rattle.rd_start.specs.declared.strip.Edge.TheVariants.{Bottom, Top}
use Rattle.rd_matrix.specs.Entries.{all_rows}
use Rattle.rd_start.specs.declared.strip.Strip.{Strip}
use Rattle.rd_start.specs.declared.strip.Sweep.{Sweep}
use Rattle.rd_start.specs.declared.wanted.Wanted.{Wanted}
use Rattle.rd_start.specs.declared.window.Window.{Window}
use Rattle.rd_base.specs.declared.settings.Anchor.{Anchor}
use Rattle.std.proofs.lemmas.List.Folds.{find-append}
use Rattle.std.specs.Option.{option_map, option_or}
use Rattle.std.specs.Prelude.{IfOk, IfSome, SomeIff}
use Rattle.rd_base.specs.declared.memory.Memory.{Memory}
use Rattle.rd_start.proofs.Lists.{find-far, find-kept, find-none}
use Rattle.rd_start.proofs.Reaching.{more-above, more-below}
use Rattle.rd_start.proofs.Rows.{all-inside, find_point}
use Rattle.rd_start.proofs.Sides.{point-told}

pub old-is : (m : SourceValues) (w : Wanted) (sweep : Sweep) → IsFor w sweep → (places_of m sweep.shape w).old ≡ home_row m sweep
old-is m w sweep h = ap (λ (a : Anchor). anchor_row (rows_in m sweep) a m.blocks) (sym h.anchor)

pub point-is : (m : SourceValues) (w : Wanted) (sweep : Sweep) → sweep.point ≡ w.point → (places_of m sweep.shape w).point ≡ point_row m sweep
point-is m w sweep e = ap (λ p. row_of p (all_rows (rows_in m sweep) m.blocks)) (sym e)

-- the rows that are wanted at an edge of a view: all of the margin where the strip's row there is hidden or a block stands beyond it,
-- and none where the text ends
pub wanted-zero : (edge : Edge) (w : Wanted) (count start : ℕ) → margin_of w ≡ 0 → margin_of w ≡ wanted_at edge w count start
wanted-zero Top w count start none = grind (arith, nat_tests)
wanted-zero Bottom w count start none = grind (arith, nat_tests)

pub wanted-inside : (edge : Edge) (m : SourceValues) (s : Strip) (w : Wanted) (start : ℕ) → IsStrip m s → hides_edge edge w s start ≡ true
    → margin_of w ≡ wanted_at edge w (count_in m s.sweep m.blocks) (first_row m s + start)
wanted-inside Top m s w start h hidden = grind (arith, nat_tests)
wanted-inside Bottom m s w start h hidden = let all = all-inside m s h in grind (arith, nat_tests)

pub wanted-none : (edge : Edge) (m : SourceValues) (s : Strip) (w : Wanted) (start : ℕ) → hides_edge edge w s start ≡ false → EndsAt edge m s
    → 0 ≡ wanted_at edge w (count_in m s.sweep m.blocks) (first_row m s + start)
wanted-none Top m s w start shown ends = grind (arith, nat_tests)
wanted-none Bottom m s w start shown ends = grind (arith, nat_tests)

pub wanted-some : (edge : Edge) (m : SourceValues) (s : Strip) (w : Wanted) (start : ℕ) (b : Block) → IsStrip m s → Reaches m s (start + w.height) → StandsBeyond m s edge b
    → margin_of w ≡ wanted_at edge w (count_in m s.sweep m.blocks) (first_row m s + start)
wanted-some Top m s w start b h reached next = let low = more-above m s b h next in grind (arith, nat_tests)
wanted-some Bottom m s w start b h reached next =
    let more = more-below m s b h next in
    elim reached [ inl far ↦ grind (arith, nat_tests) | inr all ↦ grind (arith, nat_tests) ]

unseen : (w : Wanted) (m : SourceValues) (sweep : Sweep) (j : ℕ) → sweep.point ≡ w.point → (point_row m sweep < j) ⊎ (j + w.height ≤ point_row m sweep) → suits w (places_of m sweep.shape w) j ≡ false
unseen w m sweep j same away =
    let point = point-is m w sweep same in
    elim away [ inl above ↦ grind (arith, nat_tests) | inr below ↦ grind (arith, nat_tests) ]

-- where the strip has not point's row, no row suits from which it reaches the end of the view
pub lost-suits : (m : SourceValues) (s : Strip) (w : Wanted) (start : ℕ) → IsStrip m s → IsFor w s.sweep → find_point s.strip_rows.items ≡ None → Reaches m s (start + w.height)
    → suits w (places_of m s.sweep.shape w) (first_row m s + start) ≡ false
lost-suits m s w start h of lost reached =
    unseen w m s.sweep (first_row m s + start) of.point
    (elim (point-told m s None h lost) [
      | inl above ↦ inl (omega arith)
      | inr below ↦
          let low = below.0 in
          let inside = below.1 in
          inr (elim reached [ inl far ↦ omega arith | inr all ↦ omega arith ])
    ])

reaches-less : (m : SourceValues) (s : Strip) (far near : ℕ) → Reaches m s far → near ≤ far → Reaches m s near
reaches-less m s far near reached low = elim reached [ inl more ↦ inl (omega arith) | inr text ↦ inr text ]

pub lost-nearest : (m : SourceValues) (s : Strip) (w : Wanted) → IsStrip m s → IsFor w s.sweep → find_point s.strip_rows.items ≡ None → BeginsAbove m s w.conservatively
    → Reaches m s (s.home + w.conservatively + w.height + 1) → find (suits w (places_of m s.sweep.shape w)) (around (first_row m s + s.home) w.conservatively) ≡ None
lost-nearest m s w h of lost begins reached =
    let home = h.home in
    find-none (suits w (places_of m s.sweep.shape w)) (first_row m s + s.home) w.conservatively (λ k low high.
    let from : first_row m s ≤ k = elim begins [ inl far ↦ omega arith | inr all ↦ omega arith ] in
    let place : k ≡ first_row m s + (k - first_row m s) = omega arith in
    ap (suits w (places_of m s.sweep.shape w)) place
    ∙ lost-suits m s w (k - first_row m s) h of lost (reaches-less m s (s.home + w.conservatively + w.height + 1) (k - first_row m s + w.height) reached (omega arith)))

one-found : (p : ℕ → Bool) (row : ℕ) → p row ≡ true → find p (row ∷ []) ≡ Some row
one-found p row fits = rw fits refl

one-lost : (p : ℕ → Bool) (row : ℕ) → p row ≡ false → find p (row ∷ []) ≡ None
one-lost p row fails = rw fails refl

-- the row at a place, where it suits
pub found-row : (p : ℕ → Bool) (first place : ℕ) (o : Option ℕ) → o ≡ Some place → p (first + place) ≡ true → Some (first + place) ≡ find p (row_at first o)
found-row p first place o is fits = sym (ap (λ (x : Option ℕ). find p (row_at first x)) is ∙ one-found p (first + place) fits)

pub lost-row : (p : ℕ → Bool) (first place : ℕ) (o : Option ℕ) → o ≡ Some place → p (first + place) ≡ false → None ≡ find p (row_at first o)
lost-row p first place o is fails = sym (ap (λ (x : Option ℕ). find p (row_at first x)) is ∙ one-lost p (first + place) fails)

-- the row so many rows above the anchor's
pub place-above : (m : SourceValues) (s : Strip) (far : ℕ) (o : Option ℕ) → SomeIff o (far ≤ s.home) (s.home - far) → IsStrip m s → BeginsAbove m s far
    → row_at (first_row m s) o ≡ above_at (first_row m s + s.home) far
place-above m s far None below h begins =
    let low : s.home < far = omega (arith, below) in
    let t = lt-leb far (first_row m s + s.home) (elim begins [ inl more ↦ absurd (below more) | inr text ↦ omega arith ]) in
    sym (ap (λ b. cond b ((first_row m s + s.home - far) ∷ []) []) t)
place-above m s far (Some place) is h begins =
    let low = is.0 in
    let same = is.1 in
    let t = le-leb far (first_row m s + s.home) (omega arith) in
    let row : first_row m s + place ≡ first_row m s + s.home - far = omega arith in
    ap (λ n. n ∷ []) row ∙ sym (ap (λ b. cond b ((first_row m s + s.home - far) ∷ []) []) t)

pub reached-above : (m : SourceValues) (s : Strip) (far height : ℕ) (o : Option ℕ) → SomeIff o (far ≤ s.home) (s.home - far) → Reaches m s (s.home + far + height)
    → IfSome o (λ place. Reaches m s (place + height))
reached-above m s far height None below reached = tt
reached-above m s far height (Some place) is reached =
    let same = is.1 in
    reaches-less m s (s.home + far + height) (place + height) reached (omega arith)

-- of the two rows at a distance from the anchor's the lesser is asked first
pub at-lesser : (row far x : ℕ) (p : ℕ → Bool) (o : Option ℕ) → o ≡ find p (above_at row far) → o ≡ Some x → Some x ≡ find p (both_at row far)
at-lesser row far x p o found is =
    sym (find-append p (above_at row far) ((row + far) ∷ []) ∙ ap (λ r. option_or r (find p ((row + far) ∷ []))) (sym found ∙ is))

at-greater : (row far next : ℕ) (p : ℕ → Bool) (o found : Option ℕ) → o ≡ find p (above_at row far) → o ≡ None → next ≡ row + far → found ≡ find p (next ∷ []) → found ≡ find p (both_at row far)
at-greater row far next p o found e none same here =
    here ∙ (ap (λ n. find p (n ∷ [])) same
    ∙ sym (find-append p (above_at row far) ((row + far) ∷ []) ∙ ap (λ r. option_or r (find p ((row + far) ∷ []))) (sym e ∙ none)))

pub lesser-found : (m : SourceValues) (win : Window) (far start : ℕ) (o lesser : Option ℕ) → row_at (first_row m win.strip) lesser ≡ above_at (first_row m win.strip + win.strip.home) far
    → Finds m win o (row_at (first_row m win.strip) lesser) → o ≡ Some start → Finds m win (Some start) (both_at (first_row m win.strip + win.strip.home) far)
lesser-found m win far start o lesser above found is =
    let p = suits win.wanted (places_of m win.strip.sweep.shape win.wanted) in
    let f = λ (n : ℕ). first_row m win.strip + n in
    at-lesser (first_row m win.strip + win.strip.home) far (first_row m win.strip + start) p (option_map f o) (found ∙ ap (find p) above) (ap (option_map f) is)

pub greater-found : (r : Result (Option ℕ) Memory) (m other : SourceValues) (win : Window) (far next : ℕ) (o lesser : Option ℕ) → other ≡ m
    → row_at (first_row m win.strip) lesser ≡ above_at (first_row m win.strip + win.strip.home) far → Finds m win o (row_at (first_row m win.strip) lesser) → o ≡ None → next ≡ win.strip.home + far
    → IfOk r (λ f. Finds other win f (row_at (first_row other win.strip) (Some next))) → IfOk r (λ f. Finds m win f (both_at (first_row m win.strip + win.strip.home) far))
greater-found (Ok f) m other win far next o lesser e above found none same told =
    let p = suits win.wanted (places_of m win.strip.sweep.shape win.wanted) in
    let g = λ (n : ℕ). first_row m win.strip + n in
    let here = subst (λ (x : SourceValues). Finds x win f (row_at (first_row x win.strip) (Some next))) e told in
    let place : first_row m win.strip + next ≡ first_row m win.strip + win.strip.home + far = omega (arith, same) in
    at-greater (first_row m win.strip + win.strip.home) far (first_row m win.strip + next) p (option_map g o) (option_map g f) (found ∙ ap (find p) above) (ap (option_map g) none) place here
greater-found (Err x) m other win far next o lesser e above found none same told = tt

-- a search by steps
pub nearest-here : (p : ℕ → Bool) (row step c x : ℕ) → step < c → find p (around row step) ≡ None → Some x ≡ find p (both_at row (step + 1)) → Some x ≡ find p (around row c)
nearest-here p row step c x low before here =
    let found = find-kept p row step (Some x) before (sym here) in
    let more : step + 1 + (c - (step + 1)) ≡ c = omega arith in
    sym (find-far p row (step + 1) (c - (step + 1)) x found) ∙ ap (λ n. find p (around row n)) more

pub nearest-later : (p : ℕ → Bool) (row step : ℕ) → find p (around row step) ≡ None → None ≡ find p (both_at row (step + 1)) → find p (around row (step + 1)) ≡ None
nearest-later p row step before here = find-kept p row step None before (sym here)
