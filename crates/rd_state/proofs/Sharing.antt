-- What the ops leave that change how the windows share the frame.
use Rattle.std.proofs.Common.{◌≡◌, ◌≢◌, ℕ, ◌+◌, ◌-◌, ◌<◌, ◌≤◌, ◌==◌, Bool, true, false, inl, inr, is_some, if◌then◌else◌, nat_le, min, pos, Option, None, Result, Ok, Err, List, [], ◌∷◌, ◌++◌, length, set, get_or, ap, subst, sym, refl, ◌∙◌, arith}
use Rattle.std.proofs.lemmas.Bool.{cases_lt, and_left, and_right}
use Rattle.std.proofs.lemmas.Bool.Decides.{nat_tests}
use Rattle.std.specs.List.{remove}
use Rattle.std.specs.Prelude.{IsErr, IfErr}
use Rattle.std.specs.Result.{IsErrAnd}
use Rattle.rd_base.proofs.Choices.{some-of}
use Rattle.rd_script.specs.declared.op.Op.{Op}
use Rattle.rd_script.specs.declared.op.Op.TheVariants.{Split as SplitWindow}
use Rattle.rd_tree.proofs.Keeping.{found_held, replaced_fits}
use Rattle.rd_tree.proofs.Standing.{stands_in}
use Rattle.rd_tree.specs.Calls.{Configuration, frame_of, is_full, split_tree, remove_tree, mode_tree, Splits}
use Rattle.rd_tree.specs.Calls as tree
use Rattle.rd_tree.specs.Windows.{Windows, fits, first_leaf, halves, holds, sibling, split_at, window_at}
use Rattle.rd_tree.specs.declared.fault.TreeFault.{TreeFault}
use Rattle.rd_tree.specs.declared.fault.TreeFault.TheVariants as tree_faults
use Rattle.rd_tree.specs.declared.rect.Rect.{Rect}
use Rattle.rd_tree.specs.declared.side.Side.{Side}
use Rattle.rd_tree.specs.declared.side.Side.TheVariants.{Below, Right}
use Rattle.rd_state.specs.declared.effect.Effect.{Effect}
use Rattle.rd_state.specs.declared.refused.Refused.{Refused}
use Rattle.rd_state.specs.declared.refused.Refused.TheVariants.{Memory}
use Rattle.rd_state.specs.declared.window.WindowState.{WindowState}
use Rattle.rd_state.specs.Answers.{Applies}
use Rattle.rd_state.specs.Shown.{ChecksFormat}
use Rattle.rd_state.specs.States.{StateValue}
use Rattle.rd_state.specs.Steps.{changing, format_fault, in_window, mode_lining, on_tree, refused_tree, removing, splitting, step, unless_bad, without_window}
use Rattle.rd_state.specs.Valid.{IsValid}
use Rattle.rd_state.specs.Windows.{place_in, NumberedWindow}
use Rattle.rd_state.proofs.ByNumber.{IsFound}
use Rattle.rd_state.proofs.Finding.{at-window, found-in}

-- ---- refusals

-- a refusal that was said, or want of memory, that leaves the state as it was
pub refuses-unless : (r : Result Effect Refused) (op : Op) (s t : StateValue) (e : Refused) → IsErr r → IsErrAnd r (λ x. x ≡ e) → t ≡ s → (e ≢ Memory → step s op ≡ Err e) → Applies r op s t
refuses-unless (Ok x) op s t e is and same said = absurd (cc)
refuses-unless (Err x) op s t e is and same said = (same, λ ne. said (λ m. ne (and ∙ m)) ∙ ap (λ y. Err y) (sym and))

-- a refusal that was said, and that leaves the state as it was
pub refuses : (r : Result Effect Refused) (op : Op) (s t : StateValue) (e : Refused) → IsErr r → IsErrAnd r (λ x. x ≡ e) → t ≡ s → step s op ≡ Err e → Applies r op s t
refuses r op s t e is and same said = refuses-unless r op s t e is and same (λ _. said)

-- what holds of the reason that was said
pub if-refused : {A : Type 0} (r : Result A Refused) (e : Refused) (P : Refused → Type 0) → IsErrAnd r (λ x. x ≡ e) → P e → IfErr r P
if-refused (Ok x) e P and h = absurd and
if-refused (Err x) e P and h = subst P (sym and) h

-- the tree is asked by the number that stands beside the window
pub asked : {X : Type 0} (q : ℕ → X) (n i : ℕ) (ws : List NumberedWindow) (e : NumberedWindow) (x : X) → IsFound n i ws e → q e.0 ≡ x → q n ≡ x
asked q n i ws e x there said = ap q (sym there.number) ∙ said

-- what a window's tree refuses
pub tree-refuses : (r : Result Effect Refused) (op : Op) (s t : StateValue) (n i : ℕ) (e : NumberedWindow) (d : Configuration) (q : Configuration → ℕ → Result Configuration TreeFault)
    (g : StateValue → WindowState → Result Configuration TreeFault → Result StateValue Refused) (fault : TreeFault) → IsErr r → IsErrAnd r (λ x. x ≡ refused_tree fault) → t ≡ s → IsFound n i t.windows e
    → (d ≡ t.tree) × (q t.tree e.0 ≡ Err fault) → g t e.1 (Err fault) ≡ Err (refused_tree fault) → step s op ≡ in_window s n (λ w. g s w (q s.tree n)) → Applies r op s (record t { tree = d })
tree-refuses r op s t n i e d q g fault is and same there said gives asks =
    refuses r op s (record t { tree = d }) (refused_tree fault) is and (ap (λ c. record t { tree = c }) said.0 ∙ same)
    (asks ∙ (at-window s t n i e (λ x w. g x w (q x.tree n)) same there ∙ (ap (g t e.1) (asked (q t.tree) n i t.windows e (Err fault) there said.1) ∙ gives)))

-- ---- a window taken away

pub removes-window : (s t : StateValue) (n i : ℕ) (e : NumberedWindow) (d : Configuration) (ws : List NumberedWindow) (heir : ℕ) → t ≡ s → IsFound n i t.windows e → remove_tree t.tree n ≡ Ok d
    → ws ≡ remove t.windows i → heir ≡ (if t.selected == n then first_leaf (sibling n t.tree.windows) else t.selected)
    → removing s n ≡ Ok (record t { tree = d; windows = ws; selected = heir })
removes-window s t n i e d ws heir same there said is chosen_is =
    at-window s t n i e (λ x w. on_tree (remove_tree x.tree n) (without_window n x)) same there
    ∙ (ap (λ r. on_tree r (without_window n t)) said
    ∙ (ap (λ xs. Ok (record t { tree = d; windows = xs; selected = if t.selected == n then first_leaf (sibling n t.tree.windows) else t.selected })) (sym there.removed ∙ sym is)
    ∙ ap (λ k. Ok (record t { tree = d; windows = ws; selected = k })) (sym chosen_is)))

pub heir-selected : (old n e heir selected : ℕ) (ws : Windows) → e ≡ n → heir ≡ first_leaf (sibling e ws) → selected ≡ (if old == e then heir else old)
    → selected ≡ (if old == n then first_leaf (sibling n ws) else old)
heir-selected old n e heir selected ws number is chosen =
    chosen ∙ (ap (λ h. if old == e then h else old) is ∙ ap (λ k. if old == k then first_leaf (sibling k ws) else old) number)

-- ---- a window that changes with the tree

-- the tree is asked by the number that stands beside the window, and then the window is found again
pub changes-with-tree : (s t : StateValue) (ws : List NumberedWindow) (n i : ℕ) (asks e : NumberedWindow) (f : WindowState → WindowState) (q : Configuration → ℕ → Result Configuration TreeFault) (d : Configuration)
    → t ≡ s → ws ≡ t.windows → i ≡ place_in n ws → i < length ws → asks ≡ get_or t.windows i asks → e ≡ get_or t.windows i e → q t.tree asks.0 ≡ Ok d
    → in_window s n (λ w. changing n f (on_tree (q s.tree n) (λ c. record s { tree = c }))) ≡ Ok (record t { tree = d; windows = set t.windows i (e.0, f e.1) })
changes-with-tree s t ws n i asks e f q d same shown is less asked_at at said =
    let there = found-in t ws n i e shown is less at in
    at-window s t n i e (λ x w. changing n f (on_tree (q x.tree n) (λ c. record x { tree = c }))) same there
    ∙ (ap (λ r. changing n f (on_tree r (λ c. record t { tree = c }))) (asked (q t.tree) n i t.windows asks (Ok d) (found-in t ws n i asks shown is less asked_at) said)
    ∙ ap (λ xs. Ok (record t { tree = d; windows = xs })) (sym (there.changed f)))

-- ---- splits

no-columns : (margins width size : ℕ) → width ≤ size → nat_le (11 + margins) (width - size) ≡ false
no-columns margins width size h = grind (arith, nat_tests)

no-rows : (mode : Bool) (height size : ℕ) → height ≤ size → nat_le (if mode then 2 else 1) (height - size) ≡ false
no-rows true height size h = grind (arith, nat_tests)
no-rows false height size h = grind (arith, nat_tests)

-- a window that keeps all of its rectangle leaves no room for a new one
too-small : (n size new margins : ℕ) (side : Side) (mode : Bool) (rect : Rect) → rect.width ≤ size → rect.height ≤ size → fits (halves n side size new mode margins) rect ≡ false
too-small n size new margins Right mode rect wide high = and_right _ _ (and_left _ _ (no-columns margins rect.width size wide))
too-small n size new margins Below mode rect wide high = and_right _ _ (and_right _ _ (no-rows mode rect.height size high))

-- a split in which the old window keeps 400 columns or rows, or more, leaves no room for a new one
never-fits : (c : Configuration) (n size new : ℕ) (side : Side) → tree.IsValid c → 400 ≤ size → holds n c.windows ≡ true
    → fits (split_at n side size new c.windows) (frame_of c) ≡ false
never-fits c n size new side valid large held =
    let at = some-of (window_at n c.windows (frame_of c)) (found_held n c.windows (frame_of c) ∙ held) in
    let within = (stands_in n c.windows (frame_of c) at.0 valid.room at.1).0 in
    let wide = within.1 in
    let high = within.3 in
    let columns = valid.wide in
    let rows = valid.high in
    replaced_fits n (halves n side size new) c.windows (frame_of c) at.0 valid.room at.1
    ∙ too-small n size new at.0.margins side at.0.mode at.0.rect (omega (arith, wide, columns, large)) (omega (arith, high, rows, large))

both-refuse : (held a b full : Bool) (x y : Configuration) → (held ≡ true → a ≡ false) → (held ≡ true → b ≡ false)
    → ◌≡◌ {A = Result Configuration TreeFault}
    (if held then (if a then (if full then Err tree_faults.TooMany else Ok x) else Err tree_faults.TooSmall) else Err tree_faults.NoWindow)
    (if held then (if b then (if full then Err tree_faults.TooMany else Ok y) else Err tree_faults.TooSmall) else Err tree_faults.NoWindow)
both-refuse false a b full x y f g = refl
both-refuse true true b full x y f g = absurd (let no : true ≡ false = f refl in cc)
both-refuse true false true full x y f g = absurd (let no : true ≡ false = g refl in cc)
both-refuse true false false full x y f g = refl

-- a size of 64 bits is asked for in 32
pub split-clamped : (c : Configuration) (n size short : ℕ) (side : Side) → tree.IsValid c → short ≡ min size 4294967295
    → split_tree c n side size ≡ split_tree c n side short
unfolding split_tree
split-clamped c n size short side valid is = elim (cases_lt size 4294967296) [
  | inl less ↦ ap (λ k. split_tree c n side k) (omega (arith, is, less))
  | inr more ↦
      both-refuse (holds n c.windows) (fits (split_at n side size c.made c.windows) (frame_of c)) (fits (split_at n side short c.made c.windows) (frame_of c)) (is_full c) _ _
      (never-fits c n size c.made side valid (omega (arith, more)))
      (never-fits c n short c.made side valid (omega (arith, is, more)))
]

-- the window that is split, found again after room was made for one more, and what the tree is asked by the number that stands beside it
pub split-found : (s t : StateValue) (ws roomy : List NumberedWindow) (n i size short : ℕ) (side : Side) (e : NumberedWindow) → t ≡ s → IsValid s
    → ws ≡ t.windows → i ≡ place_in n ws → i < length ws → roomy ≡ t.windows → e ≡ get_or roomy i e → short ≡ min size 4294967295
    → IsFound n i t.windows e × (split_tree t.tree n side size ≡ split_tree t.tree e.0 side short)
split-found s t ws roomy n i size short side e same valid shown is less made at clamped =
    let there = found-in t ws n i e shown is less (at ∙ ap (λ xs. get_or xs i e) made) in
    let right : IsValid t = subst IsValid (sym same) valid in
    (there, split-clamped t.tree n size short side right.windows.tree clamped ∙ ap (λ k. split_tree t.tree k side short) (sym there.number))

pub splits-window : (s t : StateValue) (n i : ℕ) (e : NumberedWindow) (side : Side) (size : ℕ) (d : Configuration) (w : WindowState) (made : ℕ) (ws : List NumberedWindow) → t ≡ s → IsFound n i t.windows e
    → split_tree t.tree n side size ≡ Ok d → made ≡ t.tree.made → w ≡ record e.1 { forced = false; pending = pos 0 } → ws ≡ t.windows ++ (made, w) ∷ []
    → splitting s n side size ≡ Ok (record t { tree = d; windows = ws })
splits-window s t n i e side size d w made ws same there said number copy is =
    let twin : WindowState → WindowState = λ x. record x { forced = false; pending = pos 0 } in
    let after : (x : StateValue) → WindowState → Configuration → StateValue = λ x v c. record x { tree = c; windows = x.windows ++ (x.tree.made, twin v) ∷ [] } in
    at-window s t n i e (λ x v. on_tree (split_tree x.tree n side size) (after x v)) same there
    ∙ (ap (λ r. on_tree r (after t e.1)) said
    ∙ (ap (λ k. Ok (record t { tree = d; windows = t.windows ++ (k, twin e.1) ∷ [] })) (sym number)
    ∙ (ap (λ v. Ok (record t { tree = d; windows = t.windows ++ (made, v) ∷ [] })) (sym copy) ∙ ap (λ xs. Ok (record t { tree = d; windows = xs })) (sym is))))

split-said : (x : Refused) (fault : TreeFault) (said : Result Configuration TreeFault) (s t u : StateValue) (n i : ℕ) (e : NumberedWindow) (side : Side) (size : ℕ) (d : Configuration)
    → x ≡ refused_tree fault → t ≡ s → IsFound n i t.windows e → split_tree t.tree n side size ≡ said → (d ≡ t.tree) × (said ≡ Err fault) → u ≡ record t { tree = d }
    → Applies (Err x) (SplitWindow n side size) s u
unfolding step
split-said x fault said s t u n i e side size d and same there asks splits leaves =
    let after : StateValue → WindowState → Configuration → StateValue = λ y v c. record y { tree = c; windows = y.windows ++ (y.tree.made, record v { forced = false; pending = pos 0 }) ∷ [] } in
    subst (Applies (Err x) (SplitWindow n side size) s) (sym leaves)
    (tree-refuses (Err x) (SplitWindow n side size) s t n i e d (λ c k. split_tree c n side size) (λ y v r. on_tree r (after y v)) fault refl and same there (splits.0, asks ∙ splits.1) refl refl)

-- a split that the tree refuses, or that finds no memory
pub split-refused : (r : Result Effect Refused) (fault : TreeFault) (said : Result Configuration TreeFault) (s t u : StateValue) (n i : ℕ) (e : NumberedWindow) (side : Side) (size : ℕ) (d : Configuration)
    → IsErr r → IsErrAnd r (λ x. x ≡ refused_tree fault) → t ≡ s → IsFound n i t.windows e → split_tree t.tree n side size ≡ said → Splits (Err fault) said t.tree d → u ≡ record t { tree = d }
    → Applies r (SplitWindow n side size) s u
unfolding step
split-refused (Ok x) fault said s t u n i e side size d is and same there asks splits leaves = absurd (cc)
split-refused (Err x) tree_faults.Memory said s t u n i e side size d is and same there asks splits leaves =
    (leaves ∙ (ap (λ c. record t { tree = c }) splits ∙ same), λ not. absurd (not and))
split-refused (Err x) fault said s t u n i e side size d is and same there asks splits leaves = split-said x fault said s t u n i e side size d and same there asks splits leaves

-- ---- mode lines

-- where a format is bad a window's mode line does not change
pub format-refuses : (s t : StateValue) (n i : ℕ) (e : NumberedWindow) (format : Option (List ℕ)) (x : Refused) → t ≡ s → IsFound n i t.windows e → ChecksFormat {A = Unit {0}} (Err x) (format_fault format)
    → mode_lining s n format ≡ Err x
format-refuses s t n i e format x same there bad =
    let done : StateValue → Result StateValue Refused = λ y. changing n (λ old. record old { format = format }) (on_tree (mode_tree y.tree n (is_some format)) (λ c. record y { tree = c })) in
    at-window s t n i e (λ y w. unless_bad (format_fault format) (done y)) same there
    ∙ (ap (λ o. unless_bad o (done t)) bad.2 ∙ ap (λ y. Err y) (sym bad.1))

-- where a format is good a window's mode line changes with the tree
pub good-format : (s : StateValue) (n : ℕ) (format : Option (List ℕ)) → format_fault format ≡ None
    → mode_lining s n format ≡ in_window s n (λ w. changing n (λ old. record old { format = format }) (on_tree (mode_tree s.tree n (is_some format)) (λ c. record s { tree = c })))
good-format s n format good =
    ap (λ o. in_window s n (λ w. unless_bad o (changing n (λ old. record old { format = format }) (on_tree (mode_tree s.tree n (is_some format)) (λ c. record s { tree = c }))))) good
