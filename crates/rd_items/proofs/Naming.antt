-- The items of what names made objects alone show made strings alone.
use Rattle.std.proofs.Common.{◌≡◌, ℕ, ◌<◌, List, length, Option, IfSome, subst}
use Rattle.std.proofs.lemmas.List.Elements.{All-from_recursion, recursion_from_All}
use Rattle.rd_objects.specs.declared.run.Spec.{Spec}
use Rattle.rd_objects.specs.declared.run.Spec.TheVariants.{Text}
use Rattle.rd_objects.specs.Sound.{NamesMade, IsClosed}
use Rattle.rd_props.specs.Made.{SeesMade}
use Rattle.rd_props.specs.Seen.{Seen}
use Rattle.rd_items.specs.declared.item.Item.{Item}
use Rattle.rd_items.specs.Pieces.{Scene, spec_in}
use Rattle.rd_items.specs.Items.{items_of}
use Rattle.rd_items.specs.Growing.{ReadsMade, ShowsMade, ShowMade}
use Rattle.rd_items.proofs.EachItem.{kinds-each}
use Rattle.rd_items.proofs.Growing.{spec-named}

module _ (s : Scene) (closed : IsClosed s.objects) where
  -- what a spec that was made names was made
  named : (m : ℕ) (spec : Spec) → m < length s.objects.specs → spec_in s.objects m ≡ spec → NamesMade (length s.objects.strings) spec
  named m spec made is = subst (NamesMade (length s.objects.strings)) is (spec-named s.objects m closed made)

  -- the items of what names made objects alone show made strings alone
  pub items-made : (es : List Seen) → ReadsMade s.objects es → ShowMade s.objects (items_of s es)
  items-made es made =
      All-from_recursion (λ (i : Item). ShowsMade s.objects i.kind) (items_of s es)
      (kinds-each s (ShowsMade s.objects) (SeesMade s.objects) (λ e here. here.strings)
      (λ e here m n shown is. named m (Text n) (subst (λ (o : Option ℕ). IfSome o (λ n. n < length s.objects.specs)) shown here.display) is)
      (λ m spec is. tt) (λ e here c is. tt) (λ g. tt) tt tt es (recursion_from_All (SeesMade s.objects) es made))
