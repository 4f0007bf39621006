use Rattle.std.proofs.Common.{◌≤◌, ◌∙◌, ℕ, List, Option, Ok, option_map, subst, le_trans, refl, rules}
use Rattle.std.proofs.lemmas.Result.{err_from_is_err_and}
use Rattle.rd_ucd.specs.ClassFile.{classes_of}
use Rattle.rd_ucd.specs.MirrorFile.{mirrors_of}
use Rattle.rd_files.specs.DataFiles.{Gives, Named, mirrors_in}
use Rattle.rd_files.proofs.Numbers.{classes-within, line-fits, mirrors-within}
use Rattle.rd_files.proofs.Orders.{stops_first, stops_second, stops_third}
use Rattle.rd_files.proofs.files.read_data.Goals as goal

pub read_judged-requires-clause-lines : goal.read_judged-requires-clause-lines
read_judged-requires-clause-lines g c = λ bytes fault small judged. line-fits (classes_of bytes.now) bytes.now fault small (classes-within bytes.now) judged.1

pub read_judged-requires-2-clause-lines : goal.read_judged-requires-2-clause-lines
read_judged-requires-2-clause-lines g c = λ bytes fault small judged. line-fits (mirrors_of bytes.now) bytes.now fault small (mirrors-within bytes.now) judged.1

pub returns-in_err-classes-clause-read : goal.returns-in_err-classes-clause-read
returns-in_err-classes-clause-read g c =
    let names : Named = record { class_file = c.args.class_file.now; mirror_file = c.args.mirror_file.now; bracket_file = option_map (λ name. name.now) c.args.bracket_file } in
    let passed = err_from_is_err_and c.from_residual.result c.from_residual.ensures.1 in
    rw (passed.1, passed.2) (stops_first (g.F.Files.contents c.args.files.now) (g.F.Files.faults c.args.files.now) names (g.F.Files.faults c.read_judged.new.files) c.in_err-classes.field-0.0
    (c.in_err-classes.ensures.read classes_of (λ bytes answer judged. judged.1)))

pub returns-in_err-mirrors-clause-read : goal.returns-in_err-mirrors-clause-read
returns-in_err-mirrors-clause-read g c =
    let passed = err_from_is_err_and c.from_residual-in_err-mirrors.result c.from_residual-in_err-mirrors.ensures.1 in
    rw (passed.1, passed.2) (stops_second _ _ _ _ _ (g.F.Files.faults c.read_judged-2.new.files) c.in_ok-classes.classes c.in_err-mirrors.field-0.0
    c.in_ok-classes.ensures.contents c.in_ok-classes.ensures.never_falls (c.in_ok-classes.ensures.read classes_of (λ bytes answer judged. judged.1))
    (c.in_err-mirrors.ensures.read mirrors_of (λ bytes answer judged. judged.1)))

pub returns-in_err-brackets-clause-read : goal.returns-in_err-brackets-clause-read
returns-in_err-brackets-clause-read g c =
    let faults = g.F.Files.faults in
    let low : (file : List ℕ) → faults c.args.files.now file ≤ faults c.read_judged-2.new.files file =
    λ file. le_trans (c.in_ok-classes.ensures.never_falls file) (c.in_ok-mirrors.ensures.never_falls file) in
    let passed = err_from_is_err_and c.from_residual-in_err-brackets.result c.from_residual-in_err-brackets.ensures.1 in
    rw (passed.1, passed.2) (stops_third _ _ _ _ _ (faults c.read_brackets.new.files) c.in_ok-classes.classes c.in_ok-mirrors.mirrors c.in_err-brackets.field-0.0
    (λ file. c.in_ok-mirrors.ensures.contents file ∙ c.in_ok-classes.ensures.contents file) low (c.in_ok-classes.ensures.read classes_of (λ bytes answer judged. judged.1))
    (subst (λ (t : Option (List ℕ)). Gives mirrors_in t (Ok c.in_ok-mirrors.mirrors)) (c.in_ok-classes.ensures.contents c.args.mirror_file.now)
    (c.in_ok-mirrors.ensures.read mirrors_of (λ bytes answer judged. judged.1)))
    c.in_err-brackets.ensures.read)

pub returns-clause-read : goal.returns-clause-read
returns-clause-read g c =
    let classes = c.in_ok-classes.ensures.read classes_of (λ bytes answer judged. judged.1) in
    let mirrors = c.in_ok-mirrors.ensures.read mirrors_of (λ bytes answer judged. judged.1) in
    let brackets = c.in_ok-brackets.ensures.read in
    (classes.0, mirrors.0, brackets.0, classes.1, search rules, search rules, rw (classes.2, mirrors.2, brackets.2) refl)
