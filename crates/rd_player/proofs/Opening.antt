-- How a run begins: the words, and the files that they name.
use Rattle.std.proofs.Common.{◌≡◌, ℕ, List, [], Option, None, Some, Result, Ok, Err, refl, sym, ap, subst}
use Rattle.rd_files.specs.DataFiles.{GivesData, Keeps, ReadsData}
use Rattle.rd_files.specs.declared.files.DataFiles.{DataFiles}
use Rattle.rd_files.specs.declared.fault.DataFault.{DataFault}
use Rattle.rd_files.specs.declared.fault.DataFault.TheVariants.{Bad, Memory, Read}
use Rattle.rd_ucd.specs.Data.{Data}
use Rattle.rd_words.specs.Command.{ReadsWords}
use Rattle.rd_words.specs.Words.{WordValues}
use Rattle.rd_words.specs.declared.words.WordsFault.{WordsFault}
use Rattle.rd_words.specs.declared.words.WordsFault.TheVariants as words_fault
use Rattle.rd_run.specs.Ends.{Comes, Drawn, IsCalm, KeepsCounts}
use Rattle.rd_run.specs.Given.{names_of}
use Rattle.rd_run.specs.Runs.{Mode}
use Rattle.rd_run.specs.declared.status.Status.{Status}
use Rattle.rd_run.specs.declared.status.Status.TheVariants.{Usage}
use Rattle.rd_player.specs.Acts.{Begins, IsOpened, status_of}
use Rattle.rd_player.specs.Devices.{given}
use Rattle.rd_player.specs.declared.act.Playing.{Playing}

-- the bytes of files, and how often the file of a name failed
abbrev pub Contents : Type 0
Contents = List ℕ → Option (List ℕ)

abbrev pub Counts : Type 0
Counts = List ℕ → ℕ

-- the files are good
pub opened-begins : (result : Result Playing Status) (files : Data) (words : WordValues) (contents : Contents) (before after : Counts) → IsOpened result files words
    → GivesData contents (names_of words) (Ok files) → ((file : List ℕ) → after file ≡ before file) → Begins result (given (Some words) contents before after)
opened-begins (Ok r) files words contents before after h gives kept = (
  record {
    words = words;
    said = refl;
    files = subst (λ f. GivesData contents (names_of words) (Ok f)) (sym (ap (λ (m : Mode). m.files) h.0)) gives;
    dumps = ap (λ (m : Mode). m.dumps) h.0;
    generated = ap (λ (m : Mode). m.generated) h.0;
  },
  h.1,
  kept,
)
opened-begins (Err status) files words contents before after h gives kept = λ source calm.
    subst (λ s. Comes (given (Some words) contents before after) None s [] [] source × KeepsCounts (given (Some words) contents before after) None s source) (sym h) ((refl, refl), (kept, calm))

-- a file is bad, one failed, or memory was wanting
pub fault-begins : (fault : DataFault) (status : Status) (words : WordValues) (contents : Contents) (before after : Counts) → status ≡ status_of fault → ReadsData contents before after (names_of words) (Err fault)
    → ((file : List ℕ) → Keeps {T = DataFiles} (Err fault) (before file) (after file)) → Begins (Err status) (given (Some words) contents before after)
fault-begins fault status words contents before after told h kept = λ source calm. subst (Opens source) (sym told) (opens fault h kept source calm) where
  Opens : Drawn → Status → Type 0
  Opens source s = Comes (given (Some words) contents before after) None s [] [] source × KeepsCounts (given (Some words) contents before after) None s source

  opens : (f : DataFault) → ReadsData contents before after (names_of words) (Err f) → ((file : List ℕ) → Keeps {T = DataFiles} (Err f) (before file) (after file)) → (source : Drawn) → IsCalm source
      → Opens source (status_of f)
  opens (Bad bad) h kept source calm = ((record { words = words; said = refl; files = h }, (refl, refl)), (kept, calm))
  opens Read h kept source calm = ((record { words = words; said = refl; failed = h }, (refl, refl)), calm)
  opens Memory h kept source calm = ((refl, refl), (kept, calm))

-- the words are faulty
pub faulty-begins : (fault : WordsFault) (said : Option WordValues) (contents : Contents) (before : Counts) → fault ≡ words_fault.Usage → ReadsWords (Err fault) said
    → Begins (Err Usage) (given said contents before before)
faulty-begins fault said contents before e h =
    let none : said ≡ None = subst (λ f. ReadsWords (Err f) said) e h in
    λ source calm. ((none, (refl, refl)), (λ file. refl, calm))

-- the words may be said otherwise
pub begins-as : (result : Result Playing Status) (said same : Option WordValues) (contents : Contents) (before after : Counts) → said ≡ same → Begins result (given same contents before after)
    → Begins result (given said contents before after)
begins-as result said same contents before after e h = subst (λ o. Begins result (given o contents before after)) (sym e) h
