-- No fault of a data file, by the definitions, is want of memory.
use Rattle.std.proofs.Common.{◌≡◌, ◌≢◌, ℕ, List, length, nat_lt, suc, Result, Ok, Err, ap, ◌∙◌, arith}
use Rattle.rd_base.proofs.Choices.{either}
use Rattle.rd_base.specs.declared.limits.TheConstants.{FILE_BYTES}
use Rattle.rd_files.proofs.Numbers.{IsWithin, brackets-within, classes-within, mirrors-within}
use Rattle.rd_files.specs.DataFiles.{bad, brackets_in, classes_in, data_of, judged, line_of, mirrors_in, or_bad, too_large, whole}
use Rattle.rd_files.specs.declared.fault.BadFile.{BadFile}
use Rattle.rd_files.specs.declared.fault.DataFile.{DataFile}
use Rattle.rd_files.specs.declared.fault.DataFile.TheVariants.{BracketFile, ClassFile, MirrorFile}
use Rattle.rd_files.specs.declared.fault.DataKind.TheVariants.{Bad, TooLarge}
use Rattle.rd_ucd.specs.BracketFile.{brackets_of}
use Rattle.rd_ucd.specs.ClassFile.{classes_of}
use Rattle.rd_ucd.specs.MirrorFile.{mirrors_of}
use Rattle.rd_ucd.specs.declared.fault.UcdFault.{UcdFault}
use Rattle.rd_ucd.specs.declared.fault.UcdFault.TheVariants.{Memory}
use Rattle.rd_ucd.specs.declared.spans.BracketEntry.{BracketEntry}
use Rattle.rd_ucd.specs.declared.spans.Pair.{Pair}
use Rattle.rd_ucd.specs.declared.spans.Span.{Span}

-- no bad file is one for want of memory
abbrev pub ReadsFree : {T : Type 0} → Result T BadFile → Type 0
ReadsFree r = (bad : BadFile) → r ≡ Err bad → bad.kind ≢ Bad Memory

or-free : {T : Type 0} (file : DataFile) (most : ℕ) (r : Result T UcdFault) → IsWithin most r → ReadsFree (or_bad file r)
or-free file most (Ok x) h = λ b e. absurd (let q : Ok x ≡ Err b = e in cc)
or-free file most (Err fault) h = λ b e k.
    let same : bad file fault ≡ b = (let q : Err (bad file fault) ≡ Err b = e in cc) in
    let kind : Bad fault ≡ Bad Memory = ap (λ (x : BadFile). x.kind) same ∙ k in
    let memory : fault ≡ Memory = cc in
    let none : line_of fault ≡ 0 = ap line_of memory in
    absurd (omega (arith, h.0, none))

large-free : {T : Type 0} (file : DataFile) → ReadsFree {T = T} (Err (too_large file))
large-free file b e k =
    let same : too_large file ≡ b = (let q : Err (too_large file) ≡ Err b = e in cc) in
    let kind : TooLarge ≡ Bad Memory = ap (λ (x : BadFile). x.kind) same ∙ k in
    cc

judged-free : {T : Type 0} (file : DataFile) (form : List ℕ → Result T UcdFault) (bytes : List ℕ) → IsWithin (suc (length bytes)) (form bytes) → ReadsFree (judged file form bytes)
judged-free file form bytes h = either ReadsFree (nat_lt FILE_BYTES (length bytes)) (Err (too_large file)) (or_bad file (form bytes)) (large-free file) (or-free file (suc (length bytes)) (form bytes) h)

whole-free : (classes : Result (List Span) BadFile) (mirrors : Result (List Pair) BadFile) (brackets : Result (List BracketEntry) BadFile) → ReadsFree classes → ReadsFree mirrors → ReadsFree brackets
    → ReadsFree (whole classes mirrors brackets)
whole-free (Ok classes) (Ok mirrors) (Ok brackets) c m b = λ f e. cc
whole-free (Ok classes) (Ok mirrors) (Err fault) c m b = λ f e. b f (cc)
whole-free (Ok classes) (Err fault) brackets c m b = λ f e. m f (cc)
whole-free (Err fault) mirrors brackets c m b = λ f e. c f (cc)

pub data-free : (classes mirrors brackets : List ℕ) → ReadsFree (data_of classes mirrors brackets)
data-free classes mirrors brackets = whole-free (classes_in classes) (mirrors_in mirrors) (brackets_in brackets) (judged-free ClassFile classes_of classes (classes-within classes))
    (judged-free MirrorFile mirrors_of mirrors (mirrors-within mirrors)) (judged-free BracketFile brackets_of brackets (brackets-within brackets))
