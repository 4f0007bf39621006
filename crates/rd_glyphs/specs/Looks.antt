-- What is put for one character, and what it expands to, as lists.
use Rattle.std.specs.Prelude.{List, [], ◌∷◌}
use Rattle.rd_base.specs.declared.element.Element.{Element}
use Rattle.rd_base.specs.declared.element.Look.{Look}
use Rattle.rd_glyphs.specs.declared.expansion.Expansion.{Expansion}
use Rattle.rd_glyphs.specs.declared.expansion.Expansion.TheVariants as expansion
use Rattle.rd_glyphs.specs.declared.looks.Looks.{Looks}
use Rattle.rd_glyphs.specs.declared.looks.Looks.TheVariants.{One, Two, Four}

abbrev pub list_of : Looks → List Look
list_of (One look) = look ∷ []
list_of (Two looks) = looks
list_of (Four looks) = looks

abbrev pub expanded : Expansion → List Element
expanded (expansion.One element) = element ∷ []
expanded (expansion.Several elements) = elements.items
