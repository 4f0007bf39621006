-- Margin strings in a tree are a finite map.
use Rattle.std.proofs.Common.{◌≡◌, ℕ, List, [], ◌∷◌, Option, None, Some, refl, sym, ap, ◌∙◌}
use Rattle.std.specs.Prelude.{Bool, cond}
use Rattle.std.specs.BTreeMap.{is_at}
use Rattle.std.specs.Cmp.{nat_cmp_total}
use Rattle.std.specs.FinMap.{find, get, from_entries, get-from_entries, get-insert, get-remove, same_map, nat_cmp-IsAntisymmetric}
use Rattle.std.specs.Map.{lookup}
use Rattle.std.specs.Ordering.{nat_cmp, eq_by_cmp}
use Rattle.std.proofs.lemmas.Cmp.{eq_by_cmp_equiv}
use Rattle.rd_margins.specs.Marks.{MarkValues, marked}

found : (q : ℕ) (es : List (ℕ × ℕ)) → find nat_cmp q es ≡ lookup (is_at (nat_cmp q)) es
found q [] = refl
found q (e ∷ es) = ap (cond (eq_by_cmp nat_cmp q e.0) (Some e.1)) (found q es)

-- what the map of entries has at a key is what a look-up finds
pub get-found : (es : List (ℕ × ℕ)) (q : ℕ) → get (from_entries {R = nat_cmp} es) q ≡ lookup (is_at (nat_cmp q)) es
get-found es q = get-from_entries nat_cmp_total es q ∙ found q es

get-marked : (m : MarkValues) (k : ℕ) (w : Option ℕ) (q : ℕ) → get (marked m k w) q ≡ cond (eq_by_cmp nat_cmp q k) w (get m q)
get-marked m k (Some v) q = get-insert nat_cmp_total m k v q
get-marked m k None q = get-remove nat_cmp_total m k q

-- entries that changed at one key alone
pub entries-marked : (es fs : List (ℕ × ℕ)) (k : ℕ) (w : Option ℕ)
    → ((q : ℕ) → lookup (is_at (nat_cmp q)) fs ≡ cond (is_at (nat_cmp k) q) w (lookup (is_at (nat_cmp q)) es))
    → from_entries {R = nat_cmp} fs ≡ marked (from_entries es) k w
entries-marked es fs k w changed =
    same_map nat_cmp_total nat_cmp-IsAntisymmetric (from_entries fs) (marked (from_entries es) k w) (λ q.
    get-found fs q ∙ changed q
    ∙ ap (λ (b : Bool). cond b w (lookup (is_at (nat_cmp q)) es)) ((eq_by_cmp_equiv nat_cmp_total).symm k q)
    ∙ ap (cond (eq_by_cmp nat_cmp q k) w) (sym (get-found es q))
    ∙ sym (get-marked (from_entries es) k w q))
