use Rattle.std.proofs.Common.{ℕ, Option, sym, ap, ◌∙◌, set, ◌==◌, unwrap_or}
use Rattle.rd_window.specs.declared.layout.Layout.{Layout}
use Rattle.rd_layout.specs.Sessions.{layout_of}
use Rattle.rd_layout.proofs.Known.{Last}
use Rattle.rd_state.proofs.ByNumber.{found-under, nowhere, under-other}
use Rattle.rd_state.proofs.Options.{position-is}
use Rattle.rd_views.proofs.lasts.exchange.Goals as goal

pub returns-in-Some : goal.returns-in-Some
returns-in-Some c =
    let es = c.args.layouts.now in
    let i = c.in-Some.i in
    let place = position-is (λ (e : Last). e.0 == c.args.window) es i (sym c.place_of.ensures ∙ c.in-Some.is) in
    let there = found-under c.args.window i es c.index-layouts-i.result place.0 place.1 c.index-layouts-i.is in
    let here = sym c.index-layouts-i.is in
    record {
      taken = c.swap.ensures.y_after ∙ (ap (λ (e : Last). e.1) here ∙ sym (ap (λ (o : Option Layout). unwrap_or o c.args.layout.now) there.stands));
      others = λ n other.
          ap (λ (k : ℕ). layout_of n (set es i (k, c.swap.new.x))) (ap (λ (e : Last). e.0) here)
          ∙ (ap (layout_of n) (there.changed (λ _. c.swap.new.x)) ∙ under-other c.args.window n (λ _. c.swap.new.x) es other);
    }

pub returns-in_default-clause-taken : goal.returns-in_default-clause-taken
returns-in_default-clause-taken c =
    sym (ap (λ (o : Option Layout). unwrap_or o c.args.layout.now) (nowhere c.args.window c.args.layouts.now (sym c.place_of.ensures ∙ c.in_default.is)))
