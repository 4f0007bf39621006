use Rattle.std.proofs.Common.{ℕ, Option, subst, sym, ap, ◌∙◌}
use Rattle.rd_props.specs.Buffers.{values_of}
use Rattle.rd_props.specs.Edits.{put_on}
use Rattle.rd_state.specs.Edits.{property_putting}
use Rattle.rd_state.proofs.Tables.{AreAlike}
use Rattle.rd_state.proofs.Edited.{putting-is, putting-within}
use Rattle.rd_state.proofs.content.Content.put.Goals as goal

pub invariant_of-self-2 : goal.invariant_of-self-2
invariant_of-self-2 c =
    let b = c.self.inside.state in
    putting-within b c.put_values.new.spans c.args.kind c.args.from c.args.to c.in_ok-value.value c.is_accessible_range.ensures.right c.self.invariant c.requires.kind
    (sym c.is_accessible_range.ensures.value ∙ c.if-not-is_accessible_range.false) c.in_ok-put_values.ensures.ok

pub returns-clause-changes : goal.returns-clause-changes
returns-clause-changes c =
    let b = c.self.inside.state in
    let values = subst (λ (x : Option ℕ). AreAlike (values_of c.put_values.new.spans) (put_on (values_of b.spans) c.args.kind c.args.from c.args.to x))
    c.in_ok-value.ensures.same c.in_ok-put_values.ensures.ok in
    ap (property_putting c.args.objects.now c.args.from c.args.to c.args.kind c.args.value) (sym c.self.view_is)
    ∙ putting-is c.args.objects.now b c.put_values.new.spans c.self.inside.marks c.args.kind c.args.from c.args.to c.args.value c.self.invariant
    (sym c.is_accessible_range.ensures.value ∙ c.if-not-is_accessible_range.false) c.in_ok-value.ensures.made values
