use Rattle.std.proofs.Common.{◌≡◌, ℕ, ◌+◌, ◌*◌, ◌≤◌, All, ap, ◌∙◌, arith}
use Rattle.rd_matrix.specs.Blocks.{IsWithin}
use Rattle.rd_matrix.specs.Entries.{shown_entries}
use Rattle.rd_matrix.specs.Sources.{IsSource, SourceValues, rows_at}
use Rattle.rd_reuse.specs.Keeping.{AreRight, kept_source}
use Rattle.rd_reuse.specs.Views.{IsCopied, Names}
use Rattle.rd_rows.specs.Shapes.{IsShape}
use Rattle.rd_start.specs.Chosen.{chosen_of}
use Rattle.rd_start.specs.Near.{near_costs}
use Rattle.rd_window.specs.Views.{rows_in_view, start_row}
use Rattle.rd_window.proofs.Starting.{IsStart, at-source, back-at-source, beneath-same, chosen-named, rows-laid, some-laid, spent}
use Rattle.rd_window.proofs.window.lay_out.Given as given
use Rattle.rd_window.proofs.window.lay_out.Goals as goal
use Rattle.rd_window.proofs.window.lay_out.Goals.{After-hand_out, After-new-kept, After-relay, In_ok-matrix}

-- the source whose blocks keep their older rows
same : (g : given.Over) (c : goal.After-new-kept g)
    → kept_source (g.B.BlockSource.meaning c.new-kept.result.0) c.new-kept.result.1 c.new-kept.result.2 c.new-kept.result.3
    ≡ kept_source (g.B.BlockSource.meaning c.args.source) c.args.old.now c.args.change c.args.shape
same g c =
    ap (λ k. kept_source (g.B.BlockSource.meaning k.0) k.1 k.2 k.3) c.new-kept.ensures
    ∙ ap (λ s. kept_source (g.B.BlockSource.meaning s) c.args.old.now c.args.change c.args.shape) c.new-remembered.ensures

-- the start that was chosen
start : (g : given.Over) (c : goal.After-hand_out g) → IsStart (kept_source (g.B.BlockSource.meaning c.args.source) c.args.old.now c.args.change c.args.shape) (kept_source (g.B.BlockSource.meaning c.hand_out.new.self) c.args.old.now c.args.change c.args.shape) c.args.shape c.args.wanted c.in_ok-chosen.chosen
start g c =
    let m = kept_source (g.B.BlockSource.meaning c.args.source) c.args.old.now c.args.change c.args.shape in
    let w = c.args.wanted in
    let shaped : IsShape c.args.shape = record { least = omega arith; most = omega arith } in
    let is = ap (λ k. kept_source (g.B.BlockSource.meaning k.0) k.1 k.2 k.3) c.new-kept.ensures ∙ ap (λ s. kept_source (g.B.BlockSource.meaning s) c.args.old.now c.args.change c.args.shape) c.new-remembered.ensures in
    let source = at-source IsSource m _ is c.choose.ensures.source in
    let chosen = at-source (λ (x : SourceValues). c.in_ok-chosen.chosen ≡ chosen_of x c.args.shape w) m _ is c.in_ok-chosen.ensures.value in
    let low = c.a_start_is_a_row.ensures m c.args.shape w source shaped c.requires.point in
    let named = chosen-named m c.args.shape w c.in_ok-chosen.chosen low chosen in
    record {
      same = beneath-same (g.B.BlockSource.meaning c.hand_out.new.self) (g.B.BlockSource.meaning c.args.source) _ _ _ _ _ _
          (ap (λ s. kept_source (g.B.BlockSource.meaning s) c.choose.new.source.1 c.choose.new.source.2 c.choose.new.source.3) (c.hand_out.ensures ∙ c.into_source-remembered.ensures) ∙ (c.choose.ensures.stays ∙ is));
      shaped = shaped;
      low = low;
      named = named;
    }

-- the steps until the rows are laid out
steps : (g : given.Over) (c : goal.After-relay g) → IsStart (kept_source (g.B.BlockSource.meaning c.args.source) c.args.old.now c.args.change c.args.shape) (kept_source (g.B.BlockSource.meaning c.hand_out.new.self) c.args.old.now c.args.change c.args.shape) c.args.shape c.args.wanted c.in_ok-chosen.chosen
    → c.relay.new.steps ≤ c.args.steps.now + 3 * near_costs (kept_source (g.B.BlockSource.meaning c.args.source) c.args.old.now c.args.change c.args.shape) c.args.shape c.args.wanted
steps g c begun =
    let is = ap (λ k. kept_source (g.B.BlockSource.meaning k.0) k.1 k.2 k.3) c.new-kept.ensures ∙ ap (λ s. kept_source (g.B.BlockSource.meaning s) c.args.old.now c.args.change c.args.shape) c.new-remembered.ensures in
    let chose = at-source (λ (x : SourceValues). c.choose.new.steps ≤ c.args.steps.now + 2 * near_costs x c.args.shape c.args.wanted) (kept_source (g.B.BlockSource.meaning c.args.source) c.args.old.now c.args.change c.args.shape) _ is c.choose.ensures.steps in
    spent (g.B.BlockSource.meaning c.args.source) (g.B.BlockSource.meaning c.hand_out.new.self) c.args.old.now c.args.change c.args.shape c.args.wanted c.in_ok-chosen.chosen c.args.steps.now c.choose.new.steps c.relay.new.steps begun chose c.relay.ensures.steps

-- the rows that were laid out
rows : (g : given.Over) (c : goal.In_ok-matrix g) → IsStart (kept_source (g.B.BlockSource.meaning c.args.source) c.args.old.now c.args.change c.args.shape) (kept_source (g.B.BlockSource.meaning c.hand_out.new.self) c.args.old.now c.args.change c.args.shape) c.args.shape c.args.wanted c.in_ok-chosen.chosen
    → shown_entries c.in_ok-matrix.matrix ≡ rows_in_view (kept_source (g.B.BlockSource.meaning c.args.source) c.args.old.now c.args.change c.args.shape) c.args.shape c.args.wanted
rows g c begun = rows-laid _ _ c.args.shape c.args.wanted c.in_ok-chosen.chosen c.in_ok-matrix.matrix begun c.in_ok-matrix.ensures.rows

pub choose-requires-clause-anchor : goal.choose-requires-clause-anchor
choose-requires-clause-anchor g c =
    back-at-source (λ (x : SourceValues). IsWithin c.args.wanted.anchor.pos x.blocks) _ _ (same g (goal.at.choose-requires-clause-anchor g c).After-new-kept) c.requires.anchor

pub choose-requires-clause-point : goal.choose-requires-clause-point
choose-requires-clause-point g c =
    back-at-source (λ (x : SourceValues). IsWithin c.args.wanted.point x.blocks) _ _ (same g (goal.at.choose-requires-clause-point g c).After-new-kept) c.requires.point

pub returns-in_err-chosen-clause-steps : goal.returns-in_err-chosen-clause-steps
returns-in_err-chosen-clause-steps g c =
    let steps = at-source (λ (x : SourceValues). c.choose.new.steps ≤ c.args.steps.now + 2 * near_costs x c.args.shape c.args.wanted) (kept_source (g.B.BlockSource.meaning c.args.source) c.args.old.now c.args.change c.args.shape) _ (same g (goal.at.returns-in_err-chosen-clause-steps g c).After-new-kept) c.choose.ensures.steps in
    omega (arith, steps)

pub relay-requires : goal.relay-requires
relay-requires g c =
    let begun = start g (goal.at.relay-requires g c).After-hand_out in
    record {
      right = back-at-source (λ (x : SourceValues). AreRight x c.args.old.now c.args.change c.args.shape) _ _ begun.same c.requires.right;
      row = back-at-source (λ (x : SourceValues). (place : ℕ) × Names c.in_ok-chosen.chosen.anchor (rows_at x c.args.shape) place) _ _ begun.same
          (start_row (kept_source (g.B.BlockSource.meaning c.args.source) c.args.old.now c.args.change c.args.shape) c.args.shape c.args.wanted, begun.named);
    }

pub returns-in_err-matrix-clause-steps : goal.returns-in_err-matrix-clause-steps
returns-in_err-matrix-clause-steps g c = let at = goal.at.returns-in_err-matrix-clause-steps g c in steps g at.After-relay (start g at.After-hand_out)

pub returns : goal.returns
returns g c =
    let m = kept_source (g.B.BlockSource.meaning c.args.source) c.args.old.now c.args.change c.args.shape in
    let w = c.args.wanted in
    let at = goal.at.returns g c in
    let begun = start g at.After-hand_out in
    let laid = rows g at.In_ok-matrix begun in
    record {
      chosen = at-source (λ (x : SourceValues). c.in_ok-chosen.chosen ≡ chosen_of x c.args.shape w) m _ (same g at.After-new-kept) c.in_ok-chosen.ensures.value;
      some = some-laid m c.args.shape w c.in_ok-matrix.matrix c.requires.height begun.low laid;
      rows = laid;
      copies = at-source (λ (x : SourceValues). All (IsCopied c.args.old.now c.args.change x.blocks) c.in_ok-matrix.matrix) _ _ begun.same c.in_ok-matrix.ensures.copies;
      steps = steps g at.After-relay begun;
    }
