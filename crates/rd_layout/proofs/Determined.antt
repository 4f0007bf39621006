-- A redisplay that is sent leaves one session, but for the copies of rows.
use Rattle.std.proofs.Common.{◌≡◌, ℕ, Bool, Option, None, Some, List, [], ◌∷◌, ◌++◌, map, ap, refl, ◌∙◌}
use Rattle.std.specs.List.{flat_map}
use Rattle.rd_matrix.specs.Entries.{shown_entries, made_entry}
use Rattle.rd_matrix.specs.declared.matrix.Entry.{Entry}
use Rattle.rd_state.specs.Windows.{window_of}
use Rattle.rd_state.specs.declared.window.WindowState.{WindowState}
use Rattle.rd_tree.specs.declared.placed.Placed.{Placed}
use Rattle.rd_window.specs.declared.layout.Layout.{Layout}
use Rattle.rd_layout.specs.Copies.{fresh_layout, fresh_layouts, redisplayed, uncopied, uncopied_entry, without_copies}
use Rattle.rd_layout.specs.Redisplays.{AreLaidOut, IsLaidOutBy, IsSent}
use Rattle.rd_layout.specs.Sessions.{SessionValue, layout_of}
use Rattle.rd_layout.specs.Windows.{of_place, of_window, places}

made-anew : (es : List Entry) → map uncopied_entry es ≡ map made_entry (shown_entries es)
made-anew [] = refl
made-anew (e ∷ es) = ap (λ (xs : List Entry). made_entry (record { start = e.start; number = e.number; row = e.row.shown }) ∷ xs) (made-anew es)

-- the layout of one window, as it is from nothing
one-fresh : (v : SessionValue) (last : Option Layout) (p : Placed) (o : Option WindowState) (number : ℕ) (l : Layout) (rest : List (ℕ × Layout)) → number ≡ p.number → IsLaidOutBy v.files v.state last p o l
    → (number, uncopied l) ∷ rest ≡ of_window (fresh_layout v.files v.state) p o ++ rest
one-fresh v last p None number l rest is laid = absurd laid
one-fresh v last p (Some w) number l rest is laid =
    let anew : uncopied l ≡ (fresh_layout v.files v.state p w).1 =
    ap uncopied laid.is
    ∙ ap (λ (es : List Entry). record (fresh_layout v.files v.state p w).1 { matrix = es }) (made-anew l.matrix ∙ ap (map made_entry) laid.rows) in
    λ i. (is i, anew i) ∷ rest

all-fresh : (v : SessionValue) (ps : List Placed) (es : List (ℕ × Layout)) → AreLaidOut v ps es → map (λ (e : ℕ × Layout). (e.0, uncopied e.1)) es ≡ flat_map (of_place (fresh_layout v.files v.state) v.state) ps
all-fresh v [] [] h = refl
all-fresh v [] (e ∷ es) h = absurd h
all-fresh v (p ∷ ps) [] h = absurd h
all-fresh v (p ∷ ps) (e ∷ es) h =
    ap (λ (xs : List (ℕ × Layout)). (e.0, uncopied e.1) ∷ xs) (all-fresh v ps es h.2)
    ∙ one-fresh v (layout_of p.number v.layouts) p (window_of p.number v.state.windows) e.0 e.1 (flat_map (of_place (fresh_layout v.files v.state) v.state) ps) h.0 h.1

pub determined : (rows : ℕ) (done : Bool) (stop : Option ℕ) (old new : SessionValue) (before after : Option (List ℕ)) → IsSent rows done stop old new before after → without_copies new ≡ redisplayed old stop
determined rows done stop old new before after sent =
    let layouts : map (λ (e : ℕ × Layout). (e.0, uncopied e.1)) new.layouts ≡ fresh_layouts old.files old.state = all-fresh old (places old.state) new.layouts sent.layouts in
    λ i. record { files = sent.files i; state = sent.state i; current = sent.current i; layouts = layouts i }
