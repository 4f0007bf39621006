-- A redisplay that is sent leads from a session to a session, whose layouts are those from nothing.
use Rattle.std.proofs.Common.{◌≡◌, ℕ, List, [], ◌∷◌, ◌++◌, map, Option, None, Some, refl, sym, ap, subst}
use Rattle.std.proofs.lemmas.List.Elements.{recursion_from_All}
use Rattle.std.proofs.lemmas.Option.{none-some}
use Rattle.std.specs.List.{AllByRecursion, flat_map}
use Rattle.rd_matrix.specs.Entries.{EntryMeaning, shown_entries, made_entry}
use Rattle.rd_state.proofs.Leaves.{placed-window}
use Rattle.rd_state.specs.States.{StateValue}
use Rattle.rd_state.specs.Valid.{IsValid}
use Rattle.rd_state.specs.Windows.{window_of}
use Rattle.rd_state.specs.declared.window.WindowState.{WindowState}
use Rattle.rd_tree.specs.declared.placed.Placed.{Placed}
use Rattle.rd_ucd.specs.Data.{Data}
use Rattle.rd_window.specs.Layouts.{IsLaidOut}
use Rattle.rd_window.specs.declared.layout.Layout.{Layout}
use Rattle.rd_layout.specs.Copies.{fresh_layout, redisplayed}
use Rattle.rd_layout.specs.Laws.{LeadLaw}
use Rattle.rd_layout.specs.Redisplays.{AreLaidOut, IsLaidOutBy, update_of}
use Rattle.rd_layout.specs.Sessions.{SessionValue}
use Rattle.rd_layout.specs.Since.{IsSession}
use Rattle.rd_layout.specs.Windows.{of_place, of_window, place_of, places, view_in, wanted_of, window_shape, window_source}
use Rattle.rd_layout.proofs.ByNumber.{Lives}
use Rattle.rd_layout.proofs.Placed.{all-places}
use Rattle.rd_layout.proofs.Sending.{sent-anew}

-- ---- one window

shown-made : (rows : List EntryMeaning) → shown_entries (map made_entry rows) ≡ rows
shown-made [] = refl
shown-made (row ∷ rows) = ap (λ es. row ∷ es) (shown-made rows)

-- a window's layout from nothing
fresh-laid : (files : Data) (s : StateValue) (w : WindowState) (p : Placed)
    → IsLaidOut None (window_source files s w) (window_shape s w p) (wanted_of s w p) (fresh_layout files s p w).1
fresh-laid files s w p = record {
  rows = shown-made (view_in files s w p).rows;
  is = refl;
  stays = λ rests. absurd (cc);
  copies = λ rests k d less b o among at kept under. absurd (none-some o under);
}

-- ---- all windows

-- a session in which nothing was laid out
abbrev pub bare : SessionValue → SessionValue
bare v = record v { layouts = [] }

bare-session : (v : SessionValue) → IsSession v → IsSession (bare v)
bare-session v h = record { state = h.state; screen = h.screen; made = λ number l at. absurd (cc); layouts = λ number w l lives at. absurd (cc) }

all-live : (s : StateValue) → IsValid s → AllByRecursion (λ p. Lives p.number s.windows) (places s)
all-live s valid = recursion_from_All _ (places s) (all-places s valid _ lives) where
  lives : (p : Placed) → place_of p.number s ≡ Some p → Lives p.number s.windows
  lives p at =
      let w = placed-window s p.number p valid at in
      (w.0, w.1)

laid-by : (files : Data) (s : StateValue) (p : Placed) (o : Option WindowState) (w : WindowState) (l : Layout) → o ≡ Some w
    → IsLaidOut None (window_source files s w) (window_shape s w p) (wanted_of s w p) l → IsLaidOutBy files s None p o l
laid-by files s p o w l lives h = subst (λ (x : Option WindowState). IsLaidOutBy files s None p x l) (sym lives) h

one-laid : (v : SessionValue) (p : Placed) (ps : List Placed) (es : List (ℕ × Layout)) (o : Option WindowState) (w : WindowState) → window_of p.number v.state.windows ≡ o → o ≡ Some w
    → AreLaidOut (bare v) ps es → AreLaidOut (bare v) (p ∷ ps) (of_window (fresh_layout v.files v.state) p o ++ es)
one-laid v p ps es None w at lives h = absurd (let k : None ≡ Some w = lives in cc)
one-laid v p ps es (Some x) w at lives h = (refl, laid-by v.files v.state p _ x _ at (fresh-laid v.files v.state x p), h)

all-laid : (v : SessionValue) (ps : List Placed) → AllByRecursion (λ p. Lives p.number v.state.windows) ps → AreLaidOut (bare v) ps (flat_map (of_place (fresh_layout v.files v.state) v.state) ps)
all-laid v [] h = tt
all-laid v (p ∷ ps) h = one-laid v p ps (flat_map (of_place (fresh_layout v.files v.state) v.state) ps) (window_of p.number v.state.windows) h.0.0 refl h.0.1 (all-laid v ps h.1)

-- ---- the session

pub leads-on : LeadLaw → (v : SessionValue) (stop : Option ℕ) → IsSession v → IsSession (redisplayed v stop)
leads-on law v stop h =
    law (update_of v stop).rows (update_of v stop).done stop (bare v) (redisplayed v stop) None None (bare-session v h)
    (sent-anew (bare v) stop v.files (redisplayed v stop).state (redisplayed v stop).layouts refl refl (all-laid v (places v.state) (all-live v.state h.state)))
