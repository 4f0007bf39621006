-- A short run, on which recordings are worked out.
use Rattle.std.specs.Prelude.{ℕ, Bool, false, List, [], ◌∷◌, ◌++◌, None, Some, codes}
use Rattle.rd_io.specs.Lines.{text_of_lines}
use Rattle.rd_run.specs.Alike.{End}
use Rattle.rd_run.specs.Ends.{drawn, lines_in, placed, sunk}
use Rattle.rd_run.specs.Given.{Given}
use Rattle.rd_run.specs.Runs.{Input, Mode, input_of}
use Rattle.rd_run.specs.declared.status.Status.TheVariants.{Done}

-- a frame, two letters, and a redisplay, which finds memory
abbrev pub before_redisplay : List Input
before_redisplay = input_of (codes "{\"op\":\"frame\",\"width\":12,\"height\":2}") false ∷ input_of (codes "{\"op\":\"type\",\"text\":\"ab\"}") false ∷ []

abbrev pub redisplay : Input
redisplay = input_of (codes "{\"op\":\"redisplay\"}") false

abbrev pub short_inputs : List Input
short_inputs = before_redisplay ++ redisplay ∷ []

-- the mode of a run over files without an entry, with dumps or without
abbrev pub short_mode : Bool → Mode
short_mode dumps = record { files = record { classes = []; mirrors = []; brackets = [] }; dumps = dumps; generated = None }

abbrev pub empty_files : Bool → Given
empty_files dumps = record {
  words = Some (record { class_file = codes "classes"; mirror_file = codes "mirrors"; bracket_file = None; generate = None; dumps = dumps });
  contents = λ name. Some [];
  faults_before = λ name. 0;
  faults_after = λ name. 0;
}

-- what the screen has behind the short inputs, before which it was empty
abbrev pub short_stream : List ℕ
short_stream = 27 ∷ codes "[0m" ++ 27 ∷ codes "[2J" ++ 27 ∷ codes "[1;1Hab" ++ 27 ∷ codes "[1;3H"

abbrev pub short_end : Bool → List ℕ → End
short_end dumps report = record {
  given = empty_files dumps;
  mode = Some (short_mode dumps);
  status = Done;
  inputs = short_inputs;
  bytes = text_of_lines (lines_in short_inputs);
  source = drawn (Some []) 0 0;
  screen = sunk (Some []) (Some short_stream) 0 0;
  report = sunk (Some []) (Some report) 0 0;
  steps = placed 0 0;
}

abbrev pub short_report : List ℕ
short_report = codes "3: shown 1 rows\nwindow 0 at 0,0 size 12x1 start 1.0 point 3 cursor 0,2\nrow 0 |ab          |\nrow 1 |            |\ncursor 0,2\ndone 3 lines\n"

abbrev pub report_without_dumps : List ℕ
report_without_dumps = codes "3: shown 1 rows\ndone 3 lines\n"
