-- A window tree as the list of its parts, each behind the parts that it is made of, so that the logic can tell trees apart.
use Rattle.std.specs.Prelude.{◌≡◌, ℕ, Bool, true, false, List, [], ◌∷◌, ◌++◌, refl, ◌⊎◌}
use Rattle.std.proofs.Common.{inl, inr, ap, ◌∙◌}
use Rattle.std.specs.Coded.{Coded, code_by, coded×, coded⊎, coded_ℕ, coded_bool, coded_list}
use Rattle.rd_tree.specs.declared.side.Side.{Side}
use Rattle.rd_tree.specs.declared.side.Side.TheVariants.{Below, Right}
use Rattle.rd_tree.specs.Windows.{Windows, Window, Split}
use Rattle.rd_tree.specs.Calls.{Configuration}

-- a window, or a split
abbrev pub TreePart : Type 0
TreePart = (ℕ × (Bool × ℕ)) ⊎ (ℕ × Bool)

abbrev pub is_right : Side → Bool
is_right Below = false
is_right Right = true

abbrev pub side_of : Bool → Side
side_of false = Below
side_of true = Right

pub side_of-is_right : (side : Side) → side_of (is_right side) ≡ side
side_of-is_right Below = refl
side_of-is_right Right = refl

abbrev pub parts : Windows → List TreePart
parts (Window number mode margins) = inl (number, (mode, margins)) ∷ []
parts (Split side size first second) = parts first ++ (parts second ++ inr (size, is_right side) ∷ [])

-- the last two of what was made so far are joined
abbrev pub split_of_last : ℕ → Bool → List Windows → List Windows
split_of_last size side (second ∷ first ∷ rest) = Split (side_of side) size first second ∷ rest
split_of_last size side few = few

abbrev pub made_onto : List TreePart → List Windows → List Windows
made_onto [] done = done
made_onto (inl window ∷ rest) done = made_onto rest (Window window.0 window.1.0 window.1.1 ∷ done)
made_onto (inr split ∷ rest) done = made_onto rest (split_of_last split.0 split.1 done)

abbrev pub top : List Windows → Windows
top [] = Window 0 false 0
top (windows ∷ _) = windows

abbrev pub from_parts : List TreePart → Windows
from_parts ps = top (made_onto ps [])

pub made_onto-append : (ps qs : List TreePart) (done : List Windows) → made_onto (ps ++ qs) done ≡ made_onto qs (made_onto ps done)
made_onto-append [] qs done = refl
made_onto-append (inl window ∷ ps) qs done = made_onto-append ps qs (Window window.0 window.1.0 window.1.1 ∷ done)
made_onto-append (inr split ∷ ps) qs done = made_onto-append ps qs (split_of_last split.0 split.1 done)

pub made_onto-parts : (windows : Windows) (done : List Windows) → made_onto (parts windows) done ≡ windows ∷ done
made_onto-parts (Window number mode margins) done = refl
made_onto-parts (Split side size first second) done =
    made_onto-append (parts first) (parts second ++ inr (size, is_right side) ∷ []) done
    ∙ (ap (λ (d : List Windows). made_onto (parts second ++ inr (size, is_right side) ∷ []) d) (made_onto-parts first done)
    ∙ (made_onto-append (parts second) (inr (size, is_right side) ∷ []) (first ∷ done)
    ∙ (ap (λ (d : List Windows). made_onto (inr (size, is_right side) ∷ []) d) (made_onto-parts second (first ∷ done))
    ∙ ap (λ (s : Side). Split s size first second ∷ done) (side_of-is_right side))))

pub from_parts-parts : (windows : Windows) → from_parts (parts windows) ≡ windows
from_parts-parts windows = ap top (made_onto-parts windows [])

abbrev pub windows_code : Coded Windows
windows_code =
    code_by (List TreePart) (coded_list (coded⊎ (coded× coded_ℕ (coded× coded_bool coded_ℕ)) (coded× coded_ℕ coded_bool))) parts from_parts from_parts-parts

abbrev pub configuration_code : Coded Configuration
configuration_code =
    code_by (Windows × (ℕ × (ℕ × ℕ))) (coded× windows_code (coded× coded_ℕ (coded× coded_ℕ coded_ℕ)))
    (λ c. (c.windows, (c.width, (c.height, c.made)))) (λ p. record { windows = p.0; width = p.1.0; height = p.1.1.0; made = p.1.1.1 }) (λ _. refl)
