use Rattle.std.proofs.Common.{◌≡◌, ℕ, ◌≤◌, List, IsTrue, OnOk, Ok, refl, sym, subst, arith, rules}
use Rattle.std.specs.Str.{chars}
use Rattle.rd_layout.specs.Copies.{without_copies}
use Rattle.rd_layout.specs.Examples.{then_done}
use Rattle.rd_script.specs.Forms.{IsWhole, is_buffer_name, is_text}
use Rattle.rd_script.specs.declared.op.Op.TheVariants.{Insert}
use Rattle.rd_state.specs.States.{main_name}
use Rattle.rd_tests_sessions.proofs.sessions.insert.Goals as goal

named : IsTrue (is_buffer_name main_name)
unfolding chars
named = refl

pub apply-requires-clause-form : goal.apply-requires-clause-form
apply-requires-clause-form c =
    let whole : c.args.pos ≤ 18446744073709551615 = first_of (omega (arith, c.ranges.pos.fits), grind (arith, c.ranges.pos.fits), search rules) in
    subst (λ (n : List ℕ). IsTrue (is_buffer_name n) × IsWhole c.args.pos × IsTrue (is_text c.in_ok-text.text)) (sym c.in_ok-buffer.ensures)
    (named, whole, subst (λ (t : List ℕ). IsTrue (is_text t)) (sym c.in_ok-text.ensures) c.requires)

pub returns : goal.returns
returns c =
    subst (λ (n : List ℕ). OnOk c.apply.result (then_done (Ok (without_copies c.args.session.now)) (Insert n c.args.pos c.args.text.now) ≡ Ok (without_copies c.apply.new.session)))
    c.in_ok-buffer.ensures
    (subst (λ (t : List ℕ). OnOk c.apply.result (then_done (Ok (without_copies c.args.session.now)) (Insert c.in_ok-buffer.buffer c.args.pos t) ≡ Ok (without_copies c.apply.new.session)))
    c.in_ok-text.ensures c.apply.ensures)
