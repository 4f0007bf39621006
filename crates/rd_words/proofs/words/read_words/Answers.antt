use Rattle.std.proofs.Common.{◌≡◌, ◌⊎◌, ◌∙◌, true, List, [], ◌∷◌, Option, None, Some, Err, refl, sym, ap, subst, inl, inr}
use Rattle.clap.specs.Words.{App, Kinds, Row, IsAmong, HasKind, app_of, fault_of as faults_of, found_of, is_simple, is_simple_and_free, matches_of, rows_of}
use Rattle.clap.proofs.OnLiterals.{clap_on_literals}
use Rattle.clap.specs.declared.error.kind.ErrorKind.{ErrorKind}
use Rattle.clap.specs.declared.error.kind.ErrorKind.TheVariants.{OutOfMemory}
use Rattle.rd_words.specs.Words.{Text, WordValues, values_of}
use Rattle.rd_words.specs.Command.{ReadsWords, command, fault_of, texts}
use Rattle.rd_words.specs.declared.words.WordsFault.{WordsFault}
use Rattle.rd_words.specs.declared.words.WordsFault.TheVariants.{Usage, Memory}
use Rattle.rd_words.proofs.Exact.{rows-say}
use Rattle.rd_words.proofs.Uses.{Say}
use Rattle.rd_words.proofs.words.read_words.Goals as goal

simple : is_simple command ≡ true
unfolding clap_on_literals
simple = refl

free : is_simple_and_free command ≡ true
unfolding clap_on_literals
free = refl

refused : (words : List Text) (k : ErrorKind) (kinds : Kinds) → faults_of command words ≡ kinds → IsAmong k kinds → values_of words ≡ None
refused words k [] is among = absurd among
refused words k (x ∷ xs) is among = rw is at (rows-say words)

told : (f : WordsFault) (said : Option WordValues) → said ≡ None → ReadsWords (Err f) said
told Usage said e = e
told Memory said e = tt

faulty : (words : List Text) (k : ErrorKind) → (k ≡ OutOfMemory) ⊎ IsAmong k (faults_of command words) → ReadsWords (Err (fault_of k)) (values_of words)
faulty words k (inl e) = rw e tt
faulty words k (inr among) = told (fault_of k) (values_of words) (refused words k (faults_of command words) refl among)

-- where `clap` has matches there is no fault, so that their rows are whole and say what the words do
met : (a : App) (words : List Text) (rows : List Row) → a ≡ command → (is_simple_and_free a ≡ true → faults_of a words ≡ [])
    → (is_simple a ≡ true → rows ≡ matches_of a words) → Say (Some rows) (values_of words)
met a words rows app kinds matches =
    let none : faults_of command words ≡ [] = ap (λ (a : App). faults_of a words) (sym app) ∙ kinds (ap is_simple_and_free app ∙ free) in
    let found : rows ≡ matches_of command words = matches (ap is_simple app ∙ simple) ∙ ap (λ (a : App). matches_of a words) app in
    subst (λ (rs : List Row). Say (Some rs) (values_of words)) (sym found) (rw none at (rows-say words))

pub words_of-requires : goal.words_of-requires
words_of-requires c =
    (met (app_of c.in_ok-command.command) (texts c.args.words.now) (rows_of (found_of c.in-Ok.matches)) c.in_ok-command.ensures
    c.in-Ok.ensures.kinds (λ s. (c.in-Ok.ensures.matches s).0)).1

pub returns-in-Ok : goal.returns-in-Ok
returns-in-Ok c =
    sym (met (app_of c.in_ok-command.command) (texts c.args.words.now) (rows_of (found_of c.in-Ok.matches)) c.in_ok-command.ensures
    c.in-Ok.ensures.kinds (λ s. (c.in-Ok.ensures.matches s).0)).0
    ∙ c.words_of.ensures

pub returns-in-Err : goal.returns-in-Err
returns-in-Err c =
    let words = texts c.args.words.now in
    let app = c.in_ok-command.ensures in
    let kinds = c.in-Err.ensures.kinds (ap is_simple_and_free app ∙ free) in
    rw (c.fault_of.ensures, c.kind.ensures) (faulty words c.in-Err.error.kind (subst (λ (a : App). HasKind (faults_of a words) c.in-Err.error) app kinds))
