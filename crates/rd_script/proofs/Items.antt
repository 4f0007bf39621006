-- The items of an array, one after the other.
use Rattle.std.proofs.Common.{◌≡◌, ◌≢◌, ℕ, ◌+◌, ◌<◌, ◌≤◌, Bool, true, false, nat_le, if◌then◌else◌, option_and_then, Option, None, Some, List, [], ◌∷◌, ◌++◌, length, drop, get_or, refl, sym, ap, ◌∙◌, append_assoc}
use Rattle.std.proofs.lemmas.Bool.{le-leb, lt-leb}
use Rattle.serde_json.specs.Data.{Data}
use Rattle.serde_json.specs.Events.{items_len}
use Rattle.serde_json.specs.Find.{as_array}
use Rattle.serde_json.specs.View.{view, items_view}
use Rattle.serde_json.specs.declared.value.Value.{Value}
use Rattle.serde_json.proofs.Views.{items_len-items_view}
use Rattle.rd_base.proofs.Choices.{of-choice}
use Rattle.rd_base.proofs.Lists.{drop-read}
use Rattle.rd_script.specs.Fields.{kept_if, consed, each_item, list_of, two_items_of, four_items_of}

-- the items that were found, and behind them the rest, where it is of the kind too
abbrev pub behind_found : {T : Type 0} → List T → Option (List T) → Option (List T)
behind_found xs None = None
behind_found xs (Some ys) = Some (xs ++ ys)

behind_found-push : {T : Type 0} (xs : List T) (x : T) (o : Option (List T)) → behind_found (xs ++ x ∷ []) o ≡ behind_found xs (consed (Some x) o)
behind_found-push xs x None = refl
behind_found-push xs x (Some ys) = ap Some (append_assoc xs (x ∷ []) ys)

-- what is left of the items, by the next one
each-step : {T : Type 0} (kind : Data → Option T) (vs : List Value) (i : ℕ) (v : Value) → i < length vs → v ≡ get_or vs i v
    → each_item kind (items_view (drop i vs)) ≡ consed (kind (view v)) (each_item kind (items_view (drop (i + 1) vs)))
each-step kind vs i v less is = ap (λ l. each_item kind (items_view l)) (drop-read vs i v less is)

pub each-more : {T : Type 0} (kind : Data → Option T) (vs : List Value) (i : ℕ) (v : Value) (list : List T) (x : T) (whole : Option (List T)) → i < length vs → v ≡ get_or vs i v
    → Some x ≡ kind (view v) → behind_found list (each_item kind (items_view (drop i vs))) ≡ whole
    → behind_found (list ++ x ∷ []) (each_item kind (items_view (drop (i + 1) vs))) ≡ whole
each-more kind vs i v list x whole less is found h =
    behind_found-push list x (each_item kind (items_view (drop (i + 1) vs)))
    ∙ (ap (λ o. behind_found list (consed o (each_item kind (items_view (drop (i + 1) vs))))) found ∙ (ap (behind_found list) (sym (each-step kind vs i v less is)) ∙ h))

pub each-fails : {T : Type 0} (kind : Data → Option T) (vs : List Value) (i : ℕ) (v : Value) (list : List T) (whole : Option (List T)) → i < length vs → v ≡ get_or vs i v
    → None ≡ kind (view v) → behind_found list (each_item kind (items_view (drop i vs))) ≡ whole → None ≡ whole
each-fails kind vs i v list whole less is found h =
    ap (λ o. behind_found list (consed o (each_item kind (items_view (drop (i + 1) vs))))) found ∙ (ap (behind_found list) (sym (each-step kind vs i v less is)) ∙ h)

-- ---- an array of at most so many items

pub list-none : {T : Type 0} (most : ℕ) (kind : Data → Option T) (d : Data) → None ≡ as_array d → None ≡ list_of most kind d
list-none most kind d e = ap (λ o. option_and_then (each_item kind) (option_and_then (kept_if (λ ds. nat_le (items_len ds) most)) o)) e

-- whether there are at most so many decides
list-by : {T : Type 0} (most : ℕ) (kind : Data → Option T) (d : Data) (vs : List Value) (few : Bool) → Some (items_view vs) ≡ as_array d → nat_le (length vs) most ≡ few
    → (if few then each_item kind (items_view vs) else None) ≡ list_of most kind d
list-by most kind d vs few e is =
    let items = items_view vs in
    let same : nat_le (items_len items) most ≡ few = ap (λ n. nat_le n most) (items_len-items_view vs) ∙ is in
    sym (of-choice (option_and_then (each_item kind)) few (Some items) None) ∙ ap (λ b. option_and_then (each_item kind) (if b then Some items else None)) (sym same)
    ∙ ap (λ o. option_and_then (each_item kind) (option_and_then (kept_if (λ ds. nat_le (items_len ds) most)) o)) e

pub list-long : {T : Type 0} (most : ℕ) (kind : Data → Option T) (d : Data) (vs : List Value) → Some (items_view vs) ≡ as_array d → most < length vs → None ≡ list_of most kind d
list-long most kind d vs e h = list-by most kind d vs false e (lt-leb (length vs) most h)

pub list-all : {T : Type 0} (most : ℕ) (kind : Data → Option T) (d : Data) (vs : List Value) → Some (items_view vs) ≡ as_array d → length vs ≤ most → each_item kind (items_view vs) ≡ list_of most kind d
list-all most kind d vs e h = list-by most kind d vs true e (le-leb (length vs) most h)

-- ---- arrays of another length

pub not-two : {A B : Type 0} (a : Data → Option A) (b : Data → Option B) (vs : List Value) → length vs ≢ 2 → None ≡ two_items_of a b (items_view vs)
not-two a b (v ∷ w ∷ []) h = absurd (h refl)
not-two a b vs h = refl

pub not-four : {A B C D : Type 0} (a : Data → Option A) (b : Data → Option B) (c : Data → Option C) (d : Data → Option D) (vs : List Value) → length vs ≢ 4
    → None ≡ four_items_of a b c d (items_view vs)
not-four a b c d (v ∷ w ∷ x ∷ y ∷ []) h = absurd (h refl)
not-four a b c d vs h = refl
