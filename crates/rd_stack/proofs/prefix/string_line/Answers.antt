use Rattle.std.proofs.Common.{sym, subst, ap, ◌∙◌}
use Rattle.rd_items.specs.Pieces.{scene_of}
use Rattle.rd_stack.specs.Shown.{before_row_end, AreInside, AreOfOneRow}
use Rattle.rd_stack.proofs.Prefixes.{prefix-none, prefix-some}
use Rattle.rd_stack.proofs.prefix.string_line.Goals as goal

pub returns-in_default-clause-value : goal.returns-in_default-clause-value
returns-in_default-clause-value c =
    c.new-elements.ensures ∙ prefix-none (scene_of c.args.view.now) c.args.base c.args.string c.in_ok-found.found c.in_ok-found.ensures c.in_default.is

pub returns-clause-value : goal.returns-clause-value
returns-clause-value c =
    c.in_ok-put_row.ensures
    ∙ ap before_row_end
    (c.in_ok-walker.ensures ∙ prefix-some (scene_of c.args.view.now) c.args.base c.args.string c.in_ok-found.found c.in_ok-found.ensures c.in-Some.frame c.in-Some.is)

pub returns-clause-inside : goal.returns-clause-inside
returns-clause-inside c =
    subst AreInside (sym (returns-clause-value c))
    (c.prefixes_are_sound.ensures.inside (scene_of c.args.view.now) c.args.base c.args.string c.view_stays_sound.ensures.objects c.view_stays_sound.ensures.parts)

pub returns-clause-row : goal.returns-clause-row
returns-clause-row c = subst AreOfOneRow (sym (returns-clause-value c)) (c.prefixes_are_sound.ensures.row (scene_of c.args.view.now) c.args.base c.args.string)
