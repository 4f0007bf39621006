use Rattle.std.proofs.Common.{◌≡◌, ◌∙◌, Bool, Option, Some, option_map, refl, sym, ap}
use Rattle.std.specs.Borrow.{Bor}
use Rattle.std.specs.Prelude.{codes}
use Rattle.clap.proofs.CallerLemmas.{some_of_text}
use Rattle.clap.proofs.WalkLemmas.{first_value-rows}
use Rattle.clap.specs.Words.{first_of, first_value, found_of, rows_of}
use Rattle.clap.specs.declared.parser.matches.Found.{Found}
use Rattle.rd_words.specs.Words.{Text, is_true, values_by}
use Rattle.rd_words.specs.Command.{values_of_rows}
use Rattle.rd_words.proofs.words.words_of.Goals as goal

same_values : (d e m n b c g h : Option Text) (t u : Bool) → d ≡ e → m ≡ n → b ≡ c → g ≡ h → t ≡ u → values_by d m b g t ≡ values_by e n c h u
same_values d e m n b c g h t u classes mirrors brackets number flag = rw (classes, mirrors, brackets, number, flag) refl

-- the first value of each argument says what the rows say
said : (f : Found) (d m b g u : Option Text) → d ≡ first_value f (codes "data") → m ≡ first_value f (codes "mirror") → b ≡ first_value f (codes "brackets")
    → g ≡ first_value f (codes "generate") → u ≡ first_value f (codes "dump") → values_of_rows (rows_of f) ≡ values_by d m b g (is_true u)
said f d m b g u classes mirrors brackets number flag =
    sym (same_values d (first_of (codes "data") (rows_of f)) m (first_of (codes "mirror") (rows_of f)) b (first_of (codes "brackets") (rows_of f))
    g (first_of (codes "generate") (rows_of f)) (is_true u) (is_true (first_of (codes "dump") (rows_of f)))
    (classes ∙ first_value-rows f (codes "data")) (mirrors ∙ first_value-rows f (codes "mirror")) (brackets ∙ first_value-rows f (codes "brackets"))
    (number ∙ first_value-rows f (codes "generate")) (ap is_true (flag ∙ first_value-rows f (codes "dump"))))

pub given-requires : goal.given-requires
given-requires c = some_of_text _ c.get_str.result _ (c.get_str.ensures ∙ first_value-rows (found_of c.args.matches.now) (codes "data")) c.requires.0

pub given-requires-2 : goal.given-requires-2
given-requires-2 c = some_of_text _ c.get_str-2.result _ (c.get_str-2.ensures ∙ first_value-rows (found_of c.args.matches.now) (codes "mirror")) c.requires.1

pub number_in-requires : goal.number_in-requires
number_in-requires c = rw (c.get_str-4.ensures ∙ first_value-rows (found_of c.args.matches.now) (codes "generate")) c.requires.2

pub returns : goal.returns
returns c =
    said (found_of c.args.matches.now) (Some c.given.result.now) (Some c.given-2.result.now) _ _ _
    (ap (λ (o : Option (Bor Text)). option_map (λ t. t.now) o) (sym c.given.ensures) ∙ c.get_str.ensures)
    (ap (λ (o : Option (Bor Text)). option_map (λ t. t.now) o) (sym c.given-2.ensures) ∙ c.get_str-2.ensures)
    c.get_str-3.ensures c.get_str-4.ensures c.get_str-5.ensures
    ∙ rw (c.number_in.ensures, c.is_true.ensures) refl
