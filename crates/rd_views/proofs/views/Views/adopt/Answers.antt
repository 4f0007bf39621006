use Rattle.std.proofs.Common.{◌≡◌, List, length, sym, ap, subst, ◌∙◌}
use Rattle.std.proofs.lemmas.List.{with_items_is}
use Rattle.rd_layout.specs.Redisplays.{AreLaidOut}
use Rattle.rd_layout.specs.Sessions.{SessionValue}
use Rattle.rd_layout.specs.Since.{IsSession}
use Rattle.rd_layout.specs.Screens.{laid_out}
use Rattle.rd_layout.specs.Windows.{places}
use Rattle.rd_layout.proofs.Known.{Last}
use Rattle.rd_views.proofs.Desiring.{same-count}
use Rattle.rd_views.proofs.Kept.{adopted, can-as, layouts-as, once-as, state-as}
use Rattle.rd_views.proofs.views.Views.adopt.Goals as goal
use Rattle.rd_views.proofs.views.Views.adopt.Goals.{After-settle, After-take_lasts}

-- the state once the windows are settled, and the last layouts once they are taken
settled : (c : goal.After-settle) → c.settle.new.state ≡ (laid_out c.args.self.now.files c.args.self.now.state).state
settled c =
    let d = c.args.desired in
    state-as c.args.self.now (subst IsSession c.self.view_is c.self.invariant) d.windows d.layouts.items c.requires c.settle.new.state c.self.inside.state c.as_slice.result.now c.as_slice-2.result.now
    (ap (λ (x : SessionValue). x.state) c.self.view_is) c.as_slice.ensures c.as_slice-2.ensures.value c.settle.ensures

taken : (c : goal.After-take_lasts) → (layouts : List Last) → layouts ≡ c.take_lasts.new.layouts → AreLaidOut c.args.self.now (places c.args.self.now.state) layouts
taken c layouts is =
    let v = c.args.self.now in
    let d = c.args.desired in
    let lasts : c.deref_mut-2.result.now ≡ v.layouts = c.deref_mut-2.ensures.value ∙ ap (λ (x : SessionValue). x.layouts) c.self.view_is in
    layouts-as v (subst IsSession c.self.view_is c.self.invariant) d.windows d.layouts.items c.requires layouts c.deref_mut-2.result.now c.as_slice-3.result.now c.deref_mut.result.now lasts c.as_slice-3.ensures c.deref_mut.ensures.value
    (is ∙ c.take_lasts.ensures)

pub settle-requires-clause-same : goal.settle-requires-clause-same
settle-requires-clause-same c =
    let v = c.args.self.now in
    let d = c.args.desired in
    ap length c.as_slice-2.ensures.value ∙ (same-count v (places v.state) d.windows d.layouts.items c.requires ∙ ap length (sym c.as_slice.ensures))

pub settle-requires-clause-can : goal.settle-requires-clause-can
settle-requires-clause-can c =
    let d = c.args.desired in
    can-as c.args.self.now (subst IsSession c.self.view_is c.self.invariant) d.windows d.layouts.items c.requires c.redisplays_keep_states.ensures.chosen c.self.inside.state c.as_slice.result.now c.as_slice-2.result.now
    (ap (λ (x : SessionValue). x.state) c.self.view_is) c.as_slice.ensures c.as_slice-2.ensures.value

pub take_lasts-requires-clause-same : goal.take_lasts-requires-clause-same
take_lasts-requires-clause-same c =
    let v = c.args.self.now in
    let d = c.args.desired in
    ap length c.deref_mut.ensures.value ∙ (same-count v (places v.state) d.windows d.layouts.items c.requires ∙ ap length (sym c.as_slice-3.ensures))

pub take_lasts-requires-clause-once : goal.take_lasts-requires-clause-once
take_lasts-requires-clause-once c =
    let d = c.args.desired in
    once-as c.args.self.now (subst IsSession c.self.view_is c.self.invariant) d.windows d.layouts.items c.requires c.deref_mut.result.now c.deref_mut.ensures.value

pub returns-clause-state : goal.returns-clause-state
returns-clause-state c = settled (goal.at.returns-clause-state c).After-settle

pub returns-clause-layouts : goal.returns-clause-layouts
returns-clause-layouts c =
    taken (goal.at.returns-clause-layouts c).After-take_lasts _ (with_items_is c.args.desired.layouts c.take_lasts.new.layouts (c.take_lasts.auto.layouts ∙ c.deref_mut.ensures.len))

pub invariant_of-self : goal.invariant_of-self
invariant_of-self c =
    let at = goal.at.invariant_of-self c in
    adopted c.redisplays_lead_on.ensures c.args.self.now _ c.settle.new.state _ (subst IsSession c.self.view_is c.self.invariant) (ap (λ (x : SessionValue). x.files) c.self.view_is) (settled at.After-settle)
    (taken at.After-take_lasts _ (with_items_is c.args.desired.layouts c.take_lasts.new.layouts (c.take_lasts.auto.layouts ∙ c.deref_mut.ensures.len)))
