-- Strings with runs of faces and display specs.
use Rattle.std.specs.Prelude.{ℕ, List, [], ◌∷◌, reverse, slice_index_or, Option, None, Some, option_map, unwrap_or}
use Rattle.std.specs.List.{find}
use Rattle.rd_base.specs.Faces.{Attributes, plain}
use Rattle.rd_base.specs.Lists.{is_between}
use Rattle.rd_objects.specs.declared.run.Run.{Run}
use Rattle.rd_objects.specs.declared.run.RunKind.{RunKind}
use Rattle.rd_objects.specs.declared.run.RunKind.TheVariants.{Face, Display}
use Rattle.rd_objects.specs.declared.run.RunOf.{RunOf}

-- a string, as contracts see it: its characters, its runs of faces and its runs of display specs
pub record TextValue : Type 0 where
  pub chars : List ℕ
  pub faces : List (RunOf Attributes)
  pub specs : List (RunOf ℕ)

-- what a run gives, where it gives something, before others
abbrev pub with_run : {T : Type 0} → Run → Option T → List (RunOf T) → List (RunOf T)
with_run run None runs = runs
with_run run (Some value) runs = record { from = run.from; to = run.to; value = value } ∷ runs

abbrev pub runs_by : {T : Type 0} → (Run → Option T) → List Run → List (RunOf T)
runs_by gives [] = []
runs_by gives (run ∷ runs) = with_run run (gives run) (runs_by gives runs)

-- the face that a run names by its number, and the display spec
abbrev pub face_by : RunKind → List Attributes → ℕ → Option Attributes
face_by Face faces value = Some (slice_index_or faces value plain)
face_by Display faces value = None

abbrev pub spec_by : RunKind → ℕ → Option ℕ
spec_by Face value = None
spec_by Display value = Some value

abbrev pub face_runs : List Attributes → List Run → List (RunOf Attributes)
face_runs faces runs = runs_by (λ run. face_by run.kind faces run.value) runs

abbrev pub spec_runs : List Run → List (RunOf ℕ)
spec_runs runs = runs_by (λ run. spec_by run.kind run.value) runs

abbrev pub text_of : List ℕ → List Run → List Attributes → TextValue
text_of chars runs faces = record { chars = chars; faces = face_runs faces runs; specs = spec_runs runs }

-- what the last of the runs that covers the place gives
abbrev pub given_at : {T : Type 0} → List (RunOf T) → ℕ → Option T
given_at runs i = option_map (λ run. run.value) (find (λ run. is_between run.from run.to i) (reverse runs))

-- the face and the display spec at a place of a string
abbrev pub face_of : TextValue → ℕ → Attributes
face_of text i = unwrap_or (given_at text.faces i) plain

abbrev pub spec_of : TextValue → ℕ → Option ℕ
spec_of text i = given_at text.specs i
