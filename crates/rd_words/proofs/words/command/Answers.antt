use Rattle.std.proofs.Common.{rules, ◌≡◌, ◌∙◌, true, ap, ap₂}
use Rattle.std.proofs.lemmas.Result.{IfOk-weaker}
use Rattle.clap.specs.Words.{rule_of, with_rule}
use Rattle.clap.specs.Simple.{app_of_fields, on_top}
use Rattle.rd_words.specs.Words.{class_file, mirror_file, bracket_file, generate, dump}
use Rattle.rd_words.specs.Command.{asked}
use Rattle.rd_words.proofs.words.command.Goals as goal

pub returns : goal.returns
returns c =
    let classes : rule_of c.required.result ≡ asked class_file = search rules in
    let mirrors : rule_of c.required-2.result ≡ asked mirror_file = search rules in
    let brackets : rule_of c.option-3.result ≡ asked bracket_file = search rules in
    let number : rule_of c.value_parser.result ≡ asked generate = search rules in
    let flag : rule_of c.action.result ≡ asked dump = search rules in
    let bare = ap app_of_fields c.disable_help_flag.ensures ∙ (ap (λ f. app_of_fields (record f { disable_help_flag = true })) c.no_binary_name.ensures
    ∙ ap (λ a. on_top (λ s. record s { no_binary_name = true; disable_help_flag = true }) a) c.new.ensures.app) in
    let one = c.in_ok-arg.ensures.shape (search rules) ∙ ap₂ with_rule bare classes in
    let two = c.in_ok-arg-2.ensures.shape (search rules) ∙ ap₂ with_rule one mirrors in
    let three = c.in_ok-arg-3.ensures.shape (search rules) ∙ ap₂ with_rule two brackets in
    let four = c.in_ok-arg-4.ensures.shape (search rules) ∙ ap₂ with_rule three number in
    IfOk-weaker c.arg-5.result _ _ (λ new added. added.shape (search rules) ∙ ap₂ with_rule four flag) c.arg-5.ensures
