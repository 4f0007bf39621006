use Rattle.std.proofs.Common.{◌∙◌, ℕ, ap, subst, sym}
use Rattle.rd_term.specs.Pictures.{blank_row}
use Rattle.rd_update.specs.Plans.{Prepared, shown, ArePartsOf}
use Rattle.rd_update.proofs.Parts.{parts-of, planned-made}
use Rattle.rd_update.proofs.plan.Plan.prepare.Goals as goal

pub push_parts-requires-clause-blank : goal.push_parts-requires-clause-blank
push_parts-requires-clause-blank c = c.as_slice.ensures ∙ c.in_ok-blank.ensures ∙ ap blank_row c.width.ensures.value

pub invariant_of-result : goal.invariant_of-result
invariant_of-result c =
    let current = shown c.args.current in
    let target = c.args.target.now in
    let made = planned-made current target c.in_ok-bytes.bytes c.push_parts.new.bytes c.push_move.new.bytes c.new-parts.result c.push_parts.new.parts c.cursor-row.result.0 c.cursor-row.result.1
    c.in_ok-bytes.ensures c.in_ok-push_parts.ensures.bytes c.new-parts.ensures c.in_ok-push_parts.ensures.parts (ap (λ (p : ℕ × ℕ). p.0) c.cursor-row.ensures) (ap (λ (p : ℕ × ℕ). p.1) c.cursor-row.ensures) c.in_ok-push_move.ensures in
    subst (λ (p : Prepared). ArePartsOf p.bytes p.parts) (sym made) (parts-of current target c.in_ok-push_parts.ensures.few)

pub returns : goal.returns
returns c =
    let current = shown c.args.current in
    let target = c.args.target.now in
    planned-made current target c.in_ok-bytes.bytes c.push_parts.new.bytes c.push_move.new.bytes c.new-parts.result c.push_parts.new.parts c.cursor-row.result.0 c.cursor-row.result.1
    c.in_ok-bytes.ensures c.in_ok-push_parts.ensures.bytes c.new-parts.ensures c.in_ok-push_parts.ensures.parts (ap (λ (p : ℕ × ℕ). p.0) c.cursor-row.ensures) (ap (λ (p : ℕ × ℕ). p.1) c.cursor-row.ensures) c.in_ok-push_move.ensures
