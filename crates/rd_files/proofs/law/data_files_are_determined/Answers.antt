use Rattle.std.proofs.Common.{◌≡◌, ◌∙◌, Err, refl, sym}
use Rattle.rd_files.specs.DataFiles.{data_of}
use Rattle.rd_files.proofs.Orders.{whole-data}
use Rattle.rd_files.proofs.law.data_files_are_determined.Goals as goal

pub returns : goal.returns
returns c = record {
  whole = whole-data;
  first = λ told names classes fault answer ec e h.
      let first : h.0 ≡ classes = rw ec at h.3 in
      let bad : data_of h.0 h.1 h.2 ≡ Err fault = rw (first, e) refl in
      sym h.6 ∙ bad;
}
