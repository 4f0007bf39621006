-- The last layouts are put in place of those of windows that were not laid out anew.
use Rattle.std.proofs.Common.{◌≡◌, ◌≢◌, inl, inr, ℕ, ◌+◌, ◌<◌, None, List, [], ◌∷◌, ◌++◌, length, set, get_or, take, drop, sym, ap, refl, subst, ◌∙◌, arith, append_assoc}
use Rattle.std.proofs.lemmas.Bool.{cases_eq}
use Rattle.std.proofs.lemmas.List.{drop_more, drop-set-lt, take_more_set}
use Rattle.std.proofs.lemmas.Option.{none-some}
use Rattle.rd_layout.specs.Sessions.{layout_of}
use Rattle.rd_layout.proofs.Known.{Last}
use Rattle.rd_state.proofs.ByNumber.{under-here, under-there}
use Rattle.rd_views.specs.Layings.{AreOnce, layout_taken, layouts_taken, nobody, taken_at}
use Rattle.rd_views.specs.declared.desired.LaidWindow.{LaidWindow}

-- the last layout of a window that is not among these counts for nothing
same-taken : (m : ℕ) (lasts others : List Last) (xs : List LaidWindow) (es : List Last) → ((n : ℕ) → n ≢ m → layout_of n others ≡ layout_of n lasts) → layout_of m es ≡ None
    → layouts_taken others xs es ≡ layouts_taken lasts xs es
same-taken m lasts others [] es same none = refl
same-taken m lasts others (x ∷ xs) [] same none = refl
same-taken m lasts others (x ∷ xs) (e ∷ es) same none = elim (cases_eq e.0 m) [
  | inl p ↦ absurd (none-some e.1 (sym none ∙ under-here m e es p))
  | inr q ↦
      let first : layout_of e.0 others ≡ layout_of e.0 lasts = same e.0 q in
      let rest = same-taken m lasts others xs es same (sym (under-there m e es q) ∙ none) in
      λ i. (e.0, layout_taken (first i) x e.1) ∷ rest i
]

module _ (xs : List LaidWindow) (es : List Last) (i : ℕ) (d : LaidWindow) (there : i < length xs) (less : i < length es) where
  abbrev x : LaidWindow
  x = get_or xs i d

  abbrev e : Last
  e = get_or es i nobody

  windows-left : drop i xs ≡ x ∷ drop (i + 1) xs
  windows-left = drop_more xs i d there

  layouts-left : drop i es ≡ e ∷ drop (i + 1) es
  layouts-left = drop_more es i nobody less

  behind : (new : Last) → drop (i + 1) (set es i new) ≡ drop (i + 1) es
  behind new = drop-set-lt (i + 1) es i new (omega arith)

  next-once : (new : Last) → AreOnce (drop i es) → AreOnce (drop (i + 1) (set es i new))
  next-once new once = subst AreOnce (sym (behind new)) (subst AreOnce layouts-left once).1

  next-taken : (lasts others : List Last) → AreOnce (drop i es) → ((n : ℕ) → n ≢ e.0 → layout_of n others ≡ layout_of n lasts)
      → take (i + 1) (set es i (taken_at lasts x e)) ++ layouts_taken others (drop (i + 1) xs) (drop (i + 1) (set es i (taken_at lasts x e)))
      ≡ take i es ++ layouts_taken lasts (drop i xs) (drop i es)
  next-taken lasts others once same =
      let new = taken_at lasts x e in
      let alone = (subst AreOnce layouts-left once).0 in
      let rest = same-taken e.0 lasts others (drop (i + 1) xs) (drop (i + 1) es) same alone in
      let left : layouts_taken others (drop (i + 1) xs) (drop (i + 1) (set es i new)) ≡ layouts_taken lasts (drop (i + 1) xs) (drop (i + 1) es) =
      ap (layouts_taken others (drop (i + 1) xs)) (behind new) ∙ rest in
      let front = take_more_set es i new less in
      (λ j. front j ++ left j) ∙ (append_assoc (take i es) (new ∷ []) (layouts_taken lasts (drop (i + 1) xs) (drop (i + 1) es))
      ∙ λ j. take i es ++ layouts_taken lasts (sym windows-left j) (sym layouts-left j))

-- the layout of one window more is taken
pub step-taken : (xs : List LaidWindow) (es new : List Last) (i : ℕ) (d : LaidWindow) (lasts others whole : List Last) → i < length xs → i < length es → AreOnce (drop i es)
    → new ≡ set es i (taken_at lasts (get_or xs i d) (get_or es i nobody)) → ((n : ℕ) → n ≢ (get_or es i nobody).0 → layout_of n others ≡ layout_of n lasts)
    → take i es ++ layouts_taken lasts (drop i xs) (drop i es) ≡ whole
    → AreOnce (drop (i + 1) new) × (take (i + 1) new ++ layouts_taken others (drop (i + 1) xs) (drop (i + 1) new) ≡ whole)
step-taken xs es new i d lasts others whole there less once is same so_far = (
  subst (λ (fs : List Last). AreOnce (drop (i + 1) fs)) (sym is) (next-once xs es i d there less (taken_at lasts (get_or xs i d) (get_or es i nobody)) once),
  ap (λ (fs : List Last). take (i + 1) fs ++ layouts_taken others (drop (i + 1) xs) (drop (i + 1) fs)) is ∙ (next-taken xs es i d there less lasts others once same ∙ so_far),
)
