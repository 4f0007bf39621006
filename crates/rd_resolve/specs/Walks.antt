-- How one walk over a sequence keeps the passes: what is left, done from here.
use Rattle.std.specs.Prelude.{◌≡◌, Bool, List, Option, None, Some}
use Rattle.rd_base.specs.declared.class.Class.{Class}
use Rattle.rd_base.specs.declared.class.Class.TheVariants.{ET}
use Rattle.rd_resolve.specs.Neutral.{n1_following}
use Rattle.rd_resolve.specs.Weak.{w1, w2, w3, w4, w5, w6, w7, w5_comes_en}
use Rattle.rd_resolve.specs.declared.weak_walk.Before.{Before}

-- W1 to W7: the seven passes over what is left, each in its own state
abbrev pub weak_left : Before → List Class → List Class
weak_left b cs = w7 b.w7_strong (w6 (w5 b.w5_number (w4 b.w4_before (w3 (w2 b.w2_strong (w1 b.w1_before cs))))))

-- for W5, whether EN comes behind the run of ET that stands before what is left
abbrev pub w5_run_ends : Class → List Class → Bool
w5_run_ends strong cs = w5_comes_en (w4 ET (w3 (w2 strong (w1 ET cs))))

-- for W5, what is known of whether EN comes behind a run of ET, where a character with this type after W4 belongs to one
abbrev pub w5_run_of : Class → Bool → Option Bool
w5_run_of ET ends = Some ends
w5_run_of c ends = None

-- for W5, what is known of whether EN comes behind the run of ET is right
abbrev pub RunIs : Option Bool → Before → List Class → Type 0
RunIs None b cs = Unit {0}
RunIs (Some ends) b cs = (b.w1_before ≡ ET) × (b.w4_before ≡ ET) × (ends ≡ w5_run_ends b.w2_strong cs)

-- for N1, what is known of the direction behind a run of neutrals is so
abbrev pub SideIs : Option Class → Class → List Class → Type 0
SideIs None eos cs = Unit {0}
SideIs (Some side) eos cs = side ≡ n1_following eos cs
