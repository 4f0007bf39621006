-- The tests of ways to wrap and of shapes decide equality.
use Rattle.std.proofs.Common.{◌≡◌, true, refl, ap}
use Rattle.std.specs.Bool.{Decides}
use Rattle.std.proofs.lemmas.Bool.Decides.{Decides-and, Decides-eqb, Decides-like}
use Rattle.rd_base.specs.declared.settings.Wrap.{Wrap}
use Rattle.rd_base.specs.declared.settings.Wrap.TheVariants.{Truncate, Continue, Word}
use Rattle.rd_rows.specs.Shapes.{ShapeValues, is_same_shape, is_same_wrap}

wrap-decides : (a b : Wrap) → Decides (is_same_wrap a b) (a ≡ b)
wrap-decides Truncate Truncate = (λ e. refl, λ e. refl)
wrap-decides Continue Continue = (λ e. refl, λ e. refl)
wrap-decides Word Word = (λ e. refl, λ e. refl)
wrap-decides a b = (λ e. absurd (cc), λ e. absurd (cc))

shape-decides : (a b : ShapeValues) → Decides (is_same_shape a b) (a ≡ b)
shape-decides a b =
    let numbers = Decides-and _ _ (Decides-eqb a.width b.width) (Decides-eqb a.hscroll b.hscroll) in
    Decides-like (is_same_shape a b)
    (λ h. λ i. record { width = h.0.0 i; wrap = h.1 i; hscroll = h.0.1 i })
    (λ e. ((ap (λ x. x.width) e, ap (λ x. x.hscroll) e), ap (λ x. x.wrap) e))
    (Decides-and _ _ numbers (wrap-decides a.wrap b.wrap))

pub same-shape : (a b : ShapeValues) → is_same_shape a b ≡ true → a ≡ b
same-shape a b = (shape-decides a b).0

pub shape-itself : (a : ShapeValues) → is_same_shape a a ≡ true
shape-itself a = (shape-decides a a).1 refl
