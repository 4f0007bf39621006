-- The elements of a prefix.
use Rattle.std.proofs.Common.{◌≡◌, ℕ, suc, Bool, true, false, List, [], ◌∷◌, ◌++◌, Option, None, Some, All, arith, refl, sym, subst, ap, ◌∙◌, append_assoc, append-nil}
use Rattle.std.proofs.lemmas.Bool.{cond_both}
use Rattle.std.proofs.lemmas.List.Elements.{All-nil, All-cons}
use Rattle.std.specs.Prelude.{if◌then◌else◌, slice_get, unwrap_or, Ok}
use Rattle.rd_base.specs.Elements.{Takes}
use Rattle.rd_base.specs.declared.element.Element.{Element}
use Rattle.rd_base.specs.Faces.{plain}
use Rattle.rd_items.specs.Pieces.{Scene}
use Rattle.rd_stack.specs.Shown.{display_elements, outside, prefix, is_row_end, before_row_end, AreOpen, AreRight, AreInside, AreOfOneRow, put_text}
use Rattle.rd_stack.specs.Steps.{elements_in, kind_steps}
use Rattle.rd_stack.proofs.Elements.{text-elements}

one-first : (e : Element) (es : List Element) (ends : Bool) → is_row_end e.look ≡ ends → AreOfOneRow es → AreOfOneRow (if ends then [] else e ∷ es)
one-first e es true here rest = λ k d inside. absurd (omega arith)
one-first e es false here rest = All-cons (λ (x : Element). is_row_end x.look ≡ false) e es here rest

-- no element before the first row end ends a row
pub of-one-row : (es : List Element) → AreOfOneRow (before_row_end es)
of-one-row [] = λ k d inside. absurd (omega arith)
of-one-row (e ∷ es) = one-first e (before_row_end es) (is_row_end e.look) refl (of-one-row es)

-- what holds of each element holds of each before the first end of a row
pub before-each : (P : Element → Type 0) (es : List Element) → All P es → All P (before_row_end es)
before-each P [] each = each
before-each P (e ∷ es) each =
    cond_both (is_row_end e.look) [] (e ∷ before_row_end es) (All P) (λ ends. All-nil P)
    (λ goes. All-cons P e (before_row_end es) (each 0 e (omega arith)) (before-each P es (λ k d inside. each (suc k) d (omega arith))))

-- ---- the row that is taken element by element

pub took : (found : Option Element) (e : Element) (old new : List Element) → found ≡ Some e → Takes (Ok found) old new → old ≡ e ∷ new
took found e old new is takes = subst (λ (x : Option Element). Takes (Ok x) old new) is takes

took-none : (found : Option Element) (old new : List Element) → found ≡ None → Takes (Ok found) old new → old ≡ []
took-none found old new is takes = (subst (λ (x : Option Element). Takes (Ok x) old new) is takes).0

pub prefix-goes : (out more : List Element) (e : Element) (old new whole : List Element) → more ≡ out ++ e ∷ [] → old ≡ e ∷ new → is_row_end e.look ≡ false
    → out ++ before_row_end old ≡ whole → more ++ before_row_end new ≡ whole
prefix-goes out more e old new whole pushed taken here all =
    let rest = before_row_end new in
    ap (λ l. l ++ rest) pushed ∙ append_assoc out (e ∷ []) rest
    ∙ sym (ap (λ l. out ++ before_row_end l) taken ∙ ap (λ b. out ++ (if b then [] else e ∷ rest)) here) ∙ all

pub prefix-stops : (out : List Element) (e : Element) (old new whole : List Element) → old ≡ e ∷ new → is_row_end e.look ≡ true → out ++ before_row_end old ≡ whole → out ≡ whole
prefix-stops out e old new whole taken here all =
    sym (ap (λ l. out ++ before_row_end l) taken ∙ ap (λ b. out ++ (if b then [] else e ∷ before_row_end new)) here ∙ append-nil out) ∙ all

pub prefix-ends : (found : Option Element) (out old new whole : List Element) → found ≡ None → Takes (Ok found) old new → out ++ before_row_end old ≡ whole → out ≡ whole
prefix-ends found out old new whole is takes all = sym (ap (λ l. out ++ before_row_end l) (took-none found old new is takes) ∙ append-nil out) ∙ all

module _ (s : Scene) (base number : ℕ) (found : Option (List (List Element))) (made : unwrap_or found [] ≡ put_text kind_steps s base false outside plain (slice_get s.objects.strings number)) where
  pub prefix-none : found ≡ None → [] ≡ prefix s base number
  prefix-none none =
      let nothing : [] ≡ put_text kind_steps s base false outside plain (slice_get s.objects.strings number) = ap (λ f. unwrap_or f []) (sym none) ∙ made in
      ap (λ steps. before_row_end (elements_in steps)) nothing ∙ ap before_row_end (text-elements s base outside false plain (slice_get s.objects.strings number))

  pub prefix-some : (steps : List (List Element)) → found ≡ Some steps → elements_in steps ≡ display_elements s base outside plain (slice_get s.objects.strings number)
  prefix-some steps some =
      let all : steps ≡ put_text kind_steps s base false outside plain (slice_get s.objects.strings number) = ap (λ f. unwrap_or f []) (sym some) ∙ made in
      ap elements_in all ∙ text-elements s base outside false plain (slice_get s.objects.strings number)

pub are-inside : (es : List Element) → AreRight es → AreOpen es → AreInside es
are-inside es right within = λ k d inside. record { sound = (right k d inside).sound; measured = (right k d inside).measured; inside = within k d inside }
