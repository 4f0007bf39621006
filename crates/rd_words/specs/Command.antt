-- The command as `clap` is told of it, and what a reader of the words answers.
use Rattle.std.specs.Prelude.{◌≡◌, Bool, true, false, List, [], ◌∷◌, map, Option, None, Some, is_some, option_map, codes, String, string_bytes, Result, Ok, Err}
use Rattle.std.specs.Global.{Global}
use Rattle.std.specs.Option.{option_map_or}
use Rattle.clap.specs.Words.{App, Kinds, Row, Rule, fault_of as faults_of, first_of, matches_of, new_app, new_rule}
use Rattle.clap.specs.Simple.{on_top}
use Rattle.clap.specs.declared.builder.action.ArgAction.TheVariants.{Set, SetTrue}
use Rattle.clap.specs.declared.builder.action.ArgAction.{ArgAction}
use Rattle.clap.specs.declared.builder.value_parser.ValueParser.{ValueParser}
use Rattle.clap.specs.declared.builder.value_parser.ValueParser.TheVariants.{Unsigned}
use Rattle.clap.specs.declared.error.kind.ErrorKind.{ErrorKind}
use Rattle.clap.specs.declared.error.kind.ErrorKind.TheVariants.{OutOfMemory}
use Rattle.rd_base.specs.declared.limits.TheConstants.{GENERATED_NUMBER}
use Rattle.rd_words.specs.Words.{Text, Setting, class_file, mirror_file, bracket_file, generate, dump, settings, name_of, is_number, is_true, WordValues, values_by}
use Rattle.rd_words.specs.declared.words.Words.{Words}
use Rattle.rd_words.specs.declared.words.WordsFault.{WordsFault}
use Rattle.rd_words.specs.declared.words.WordsFault.TheVariants.{Usage, Memory}

abbrev pub is_required : Setting → Bool
is_required class_file = true
is_required mirror_file = true
is_required s = false

abbrev pub action_for : Setting → ArgAction
action_for dump = SetTrue
action_for s = Set

abbrev pub parser_for : Setting → Option ValueParser
parser_for generate = Some (Unsigned 0 GENERATED_NUMBER)
parser_for s = None

-- an option of a name that takes a value
abbrev pub option_of : Text → Rule
option_of name = record (new_rule name) { long = Some name; action = Some Set }

-- the option or the flag of a setting
abbrev pub asked : Setting → Rule
asked s = record (new_rule (name_of s)) {
  long = Some (name_of s);
  action = Some (action_for s);
  required = is_required s;
  parser = parser_for s;
}

abbrev pub command : App
command = on_top (λ s. record s { no_binary_name = true; disable_help_flag = true; rules = map asked settings }) (new_app (codes "redisplay"))

-- what the matches of the command say
abbrev pub values_of_rows : List Row → Option WordValues
values_of_rows rows =
    values_by (first_of (name_of class_file) rows) (first_of (name_of mirror_file) rows) (first_of (name_of bracket_file) rows)
    (first_of (name_of generate) rows) (is_true (first_of (name_of dump) rows))

-- rows in which both data files are named, and a generated script by no number but one that it may have
abbrev pub AreWhole : List Row → Type 0
AreWhole rows =
    (is_some (first_of (name_of class_file) rows) ≡ true) × (is_some (first_of (name_of mirror_file) rows) ≡ true)
    × (option_map_or is_number (first_of (name_of generate) rows) true ≡ true)

-- what is said where there is no fault to tell
abbrev pub unless : {T : Type 0} → Kinds → Option T → Option T
unless [] said = said
unless (kind ∷ kinds) said = None

-- what `clap` makes of the words: what its matches say, where it has no fault to tell
abbrev pub values_by_clap : List Text → Option WordValues
values_by_clap words = unless (faults_of command words) (values_of_rows (matches_of command words))

-- the words as texts
abbrev pub texts : List (String Global) → List Text
texts words = map (λ word. string_bytes word) words

abbrev pub meaning : Words → WordValues
meaning words = record {
  class_file = words.class_file.now;
  mirror_file = words.mirror_file.now;
  bracket_file = option_map (λ name. name.now) words.bracket_file;
  generate = words.generate;
  dumps = words.dumps;
}

-- the fault that an error of `clap` is: want of memory, or faulty words
abbrev pub fault_of : ErrorKind → WordsFault
fault_of OutOfMemory = Memory
fault_of kind = Usage

-- what a reader of the words answers, by what the words say
abbrev pub ReadsWords : Result Words WordsFault → Option WordValues → Type 0
ReadsWords (Ok words) said = said ≡ Some (meaning words)
ReadsWords (Err Usage) said = said ≡ None
ReadsWords (Err Memory) said = Unit {0}
