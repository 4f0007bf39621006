use Rattle.std.proofs.Common.{◌≡◌, ◌+◌, ◌≤◌, Some, option_map, sym, ap, subst, ◌∙◌}
use Rattle.std.proofs.lemmas.Option.{none-some}
use Rattle.rd_blocks.specs.Sources.{source_of}
use Rattle.rd_state.specs.States.{StateValue, seen}
use Rattle.rd_state.specs.Windows.{shown_content, window_of}
use Rattle.rd_layout.specs.Redisplays.{allowance_by}
use Rattle.rd_layout.specs.Sessions.{SessionValue, layout_of}
use Rattle.rd_layout.specs.Windows.{wanted_of, window_shape, window_source}
use Rattle.rd_state.proofs.Leaves.{placed-window}
use Rattle.rd_state.proofs.Showing.{window-valid}
use Rattle.rd_views.proofs.Premises.{LookLaws, allowed-steps, anchor-wanted, is-source, kept-right, laid-result, point-wanted, source-is, stands-unchanged}
use Rattle.rd_views.proofs.views.Views.lay_out_window.Given as given
use Rattle.rd_views.proofs.views.Views.lay_out_window.Goals as goal
use Rattle.rd_views.proofs.views.Views.lay_out_window.Goals.{After-lay_out_again, After-new-source, After-shape_of-shape, After-views_are_known, After-wanted_of-wanted, In-Some}

laws : (g : given.Over) → goal.After-views_are_known g → LookLaws
laws g c = record {
  source = c.buffers_are_sources.ensures;
  within = c.accessible_positions_lie_in_blocks.ensures;
  begin = c.blocks_fill_the_text.ensures.begin;
  end = c.blocks_fill_the_text.ensures.end;
  last = c.blocks_fill_the_text.ensures.last;
  kept = c.sessions_stay_known.ensures.kept;
  stands = c.sessions_stay_known.ensures.stands;
}

-- the window lives, and its source, its shape and what it wants are those of the session
lives : (g : given.Over) (c : goal.In-Some g) → window_of c.args.place.number c.args.self.now.state.windows ≡ Some c.in-Some.window.now
lives g c = sym (c.in-Some.ensures ∙ ap (λ (x : SessionValue). window_of c.args.place.number x.state.windows) c.self.view_is)

source : (g : given.Over) (c : goal.After-new-source g) → source_of c.new-source.result ≡ window_source c.args.self.now.files c.args.self.now.state c.in-Some.window.now
source g c =
    let v = c.args.self.now in
    c.new-source.ensures ∙ source-is c.look_at-look.result (seen (shown_content v.state c.in-Some.window.now)) v.state.objects v.files c.look_at-look.ensures.content c.look_at-look.ensures.objects c.look_at-look.ensures.files

shape : (g : given.Over) (c : goal.After-shape_of-shape g) → c.shape_of-shape.result ≡ window_shape c.args.self.now.state c.in-Some.window.now c.args.place
shape g c =
    subst (λ (s : StateValue). c.shape_of-shape.result ≡ window_shape s c.in-Some.window.now c.args.place) (ap (λ (x : SessionValue). x.state) c.self.view_is) c.shape_of-shape.ensures

wanted : (g : given.Over) (c : goal.After-wanted_of-wanted g) → c.wanted_of-wanted.result ≡ wanted_of c.args.self.now.state c.in-Some.window.now c.args.place
wanted g c =
    subst (λ (s : StateValue). c.wanted_of-wanted.result ≡ wanted_of s c.in-Some.window.now c.args.place) (ap (λ (x : SessionValue). x.state) c.self.view_is) c.wanted_of-wanted.ensures

pub unreachable-requires : goal.unreachable-requires
unreachable-requires g c =
    let v = c.args.self.now in
    let n = c.args.place.number in
    let there = placed-window v.state n c.args.place c.views_are_known.ensures.state c.requires.found in
    none-some there.0 (c.in_default.ensures ∙ (ap (λ (x : SessionValue). window_of n x.state.windows) c.self.view_is ∙ there.1))

pub look_at-look-requires : goal.look_at-look-requires
look_at-look-requires g c =
    (window-valid c.args.self.now.state c.args.place.number c.in-Some.window.now c.views_are_known.ensures.state (lives g (goal.at.look_at-look-requires g c).In-Some)).made

pub lay_out_again-requires-clause-source : goal.lay_out_again-requires-clause-source
lay_out_again-requires-clause-source g c =
    let at = goal.at.lay_out_again-requires-clause-source g c in
    is-source (laws g at.After-views_are_known) c.args.self.now c.views_are_known.ensures c.args.place.number c.in-Some.window.now (lives g at.In-Some) (source_of c.new-source.result) (source g at.After-new-source)
    c.ends_of-ends.result (c.ends_of-ends.ensures.begin ∙ ap (λ b. b.text.begin) c.look_at-look.ensures.content) (c.ends_of-ends.ensures.end ∙ ap (λ b. b.text.end) c.look_at-look.ensures.content)

pub lay_out_again-requires-clause-right : goal.lay_out_again-requires-clause-right
lay_out_again-requires-clause-right g c =
    let at = goal.at.lay_out_again-requires-clause-right g c in
    kept-right (laws g at.After-views_are_known) c.args.self.now c.views_are_known.ensures c.args.place.number c.in-Some.window.now (lives g at.In-Some) (source_of c.new-source.result) (source g at.After-new-source)
    (option_map (λ l. l.now) c.layout-last.result) c.shape_of-shape.result c.layout-last.ensures

pub lay_out_again-requires-clause-stands : goal.lay_out_again-requires-clause-stands
lay_out_again-requires-clause-stands g c =
    let at = goal.at.lay_out_again-requires-clause-stands g c in
    stands-unchanged (laws g at.After-views_are_known) c.args.self.now c.views_are_known.ensures c.args.place.number c.in-Some.window.now (lives g at.In-Some) (source_of c.new-source.result) (source g at.After-new-source)
    c.self.inside.state c.args.place (option_map (λ l. l.now) c.layout-last.result) c.wanted_of-wanted.result c.layout-last.ensures c.wanted_of-wanted.ensures

pub lay_out_again-requires-clause-anchor : goal.lay_out_again-requires-clause-anchor
lay_out_again-requires-clause-anchor g c =
    let at = goal.at.lay_out_again-requires-clause-anchor g c in
    anchor-wanted (laws g at.After-views_are_known) c.args.self.now c.views_are_known.ensures c.args.place.number c.in-Some.window.now (lives g at.In-Some) (source_of c.new-source.result) (source g at.After-new-source)
    c.self.inside.state c.args.place c.wanted_of-wanted.result c.wanted_of-wanted.ensures

pub lay_out_again-requires-clause-point : goal.lay_out_again-requires-clause-point
lay_out_again-requires-clause-point g c =
    let at = goal.at.lay_out_again-requires-clause-point g c in
    point-wanted (laws g at.After-views_are_known) c.args.self.now c.views_are_known.ensures c.args.place.number c.in-Some.window.now (lives g at.In-Some) (source_of c.new-source.result) (source g at.After-new-source)
    c.self.inside.state c.args.place c.wanted_of-wanted.result c.wanted_of-wanted.ensures

-- the steps that were taken are within the window's allowance
steps : (g : given.Over) (c : goal.After-lay_out_again g) → let v = c.args.self.now in let window = c.in-Some.window.now in
    source_of c.new-source.result ≡ window_source v.files v.state window → c.shape_of-shape.result ≡ window_shape v.state window c.args.place
    → c.wanted_of-wanted.result ≡ wanted_of v.state window c.args.place → window_of c.args.place.number v.state.windows ≡ Some window
    → c.lay_out_again.new.steps ≤ c.args.steps.now + allowance_by v.files v.state (layout_of c.args.place.number v.layouts) c.args.place (window_of c.args.place.number v.state.windows)
steps g c source_is shape_is wanted_is lives_is =
    let v = c.args.self.now in
    let n = c.args.place.number in
    allowed-steps v.files v.state c.args.place c.in-Some.window.now (layout_of n v.layouts) (option_map (λ l. l.now) c.layout-last.result) (source_of c.new-source.result) c.shape_of-shape.result c.wanted_of-wanted.result
    (window_of n v.state.windows) c.args.steps.now c.lay_out_again.new.steps c.layout-last.ensures source_is shape_is wanted_is lives_is c.lay_out_again.ensures.steps

pub returns-in_err-laying-clause-steps : goal.returns-in_err-laying-clause-steps
returns-in_err-laying-clause-steps g c =
    let at = goal.at.returns-in_err-laying-clause-steps g c in
    steps g at.After-lay_out_again (source g at.After-new-source) (shape g at.After-shape_of-shape) (wanted g at.After-wanted_of-wanted) (lives g at.In-Some)

pub returns : goal.returns
returns g c =
    let at = goal.at.returns g c in
    let v = c.args.self.now in
    let n = c.args.place.number in
    record {
      laid = laid-result v.files v.state c.args.place c.in-Some.window.now (layout_of n v.layouts) (option_map (λ l. l.now) c.layout-last.result) (source_of c.new-source.result) c.shape_of-shape.result c.wanted_of-wanted.result
          (window_of n v.state.windows) (record { laying = c.in_ok-laying.laying; ends = c.ends_of-ends.result }) c.layout-last.ensures (source g at.After-new-source) (shape g at.After-shape_of-shape) (wanted g at.After-wanted_of-wanted)
          (lives g at.In-Some) (c.in_ok-laying.ensures.chosen, c.in_ok-laying.ensures.layout, c.in_ok-laying.ensures.tells, c.in_ok-laying.ensures.anew);
      steps = steps g at.After-lay_out_again (source g at.After-new-source) (shape g at.After-shape_of-shape) (wanted g at.After-wanted_of-wanted) (lives g at.In-Some);
    }
