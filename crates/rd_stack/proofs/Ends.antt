-- No element of an item but an ender's ends the line, and none of a prefix.
use Rattle.std.proofs.Common.{◌≡◌, ℕ, Bool, false}
use Rattle.std.specs.Prelude.{slice_get}
use Rattle.std.specs.List.{AllByRecursion}
use Rattle.std.proofs.lemmas.Bool.{both_ways}
use Rattle.std.proofs.lemmas.List.Elements.{All-from_recursion}
use Rattle.rd_base.specs.Elements.{is_line_end}
use Rattle.rd_base.specs.Faces.{Attributes, plain}
use Rattle.rd_base.specs.declared.element.Element.{Element}
use Rattle.rd_base.specs.declared.element.Origin.{Origin}
use Rattle.rd_items.specs.Covers.{is_ender_kind}
use Rattle.rd_items.specs.Pieces.{Scene}
use Rattle.rd_items.specs.declared.item.ItemKind.{ItemKind}
use Rattle.rd_stack.specs.Lines.{put_kind}
use Rattle.rd_stack.specs.Shown.{display_elements, outside, prefix, AreOpen, kind_elements}
use Rattle.rd_stack.proofs.EachElement.{display-each, item-each}
use Rattle.rd_stack.proofs.Prefixes.{before-each}

abbrev pub IsOpen : Element → Type 0
IsOpen e = is_line_end e.look ≡ false

pub item-open : (s : Scene) (base : ℕ) (k : ItemKind) (overlay odd : Bool) (face : Attributes) (origin : Origin) → is_ender_kind k ≡ false → AllByRecursion IsOpen (put_kind kind_elements s base k overlay odd face origin)
item-open s base k overlay odd face origin other =
    item-each s base origin (λ f. Unit {0}) IsOpen (λ n text found i under any. tt) (λ extent l f no_end any. no_end) k overlay odd face (λ ends. absurd (both_ways (is_ender_kind k) other ends)) tt

pub prefix-open : (s : Scene) (base number : ℕ) → AreOpen (prefix s base number)
prefix-open s base number =
    let es = display_elements s base outside plain (slice_get s.objects.strings number) in
    before-each IsOpen es (All-from_recursion IsOpen es
    (display-each s base outside (λ f. Unit {0}) IsOpen (λ n text found i under any. tt) (λ extent l f no_end any. no_end) number plain tt))
