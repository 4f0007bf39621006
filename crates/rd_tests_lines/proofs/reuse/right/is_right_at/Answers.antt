use Rattle.std.proofs.Common.{◌≡◌, true, option_map, Bor, sym, ap, ◌∙◌}
use Rattle.std.proofs.lemmas.Bool.{OnTrue_at, OnTrue_from}
use Rattle.rd_matrix.specs.declared.matrix.Entry.{Entry}
use Rattle.rd_reuse.specs.Keeping.{has_base}
use Rattle.rd_tests_lines.proofs.Owned.{of-found}
use Rattle.rd_tests_lines.proofs.reuse.right.is_right_at.Goals as goal

pub returns-in-Some : goal.returns-in-Some
returns-in-Some c =
    let x = c.in-Some.entry.now in
    let found = sym c.entry_under.ensures ∙ ap (option_map (λ (e : Bor Entry). e.now)) c.in-Some.is in
    OnTrue_from c.is_one_of.result _ (λ told e is.
    of-found (λ e. has_base c.args.block.now.base e.row.shown ≡ true → e.row.shown ≡ c.args.row.now.shown) _ x e found (OnTrue_at told c.is_one_of.ensures) is)
