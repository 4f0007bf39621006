-- The answers of one file, and of the three one after the other.
use Rattle.std.proofs.Common.{◌≡◌, ◌<◌, ◌≤◌, ℕ, zero, suc, List, [], ◌∷◌, length, Option, None, Some, Result, Ok, Err, arith, refl, sym, ap, subst, inl, inr}
use Rattle.std.specs.Prelude.{IfSome}
use Rattle.std.proofs.lemmas.Bool.{lt-ltb}
use Rattle.rd_io.proofs.Bytes.{rose-after}
use Rattle.rd_ucd.specs.Data.{Data}
use Rattle.rd_ucd.specs.declared.fault.UcdFault.{UcdFault}
use Rattle.rd_ucd.specs.declared.spans.Span.{Span}
use Rattle.rd_ucd.specs.declared.spans.Pair.{Pair}
use Rattle.rd_files.specs.declared.fault.BadFile.{BadFile}
use Rattle.rd_files.specs.declared.fault.DataFile.{DataFile}
use Rattle.rd_files.specs.declared.fault.DataFault.{DataFault}
use Rattle.rd_files.specs.declared.fault.DataFault.TheVariants.{Bad, Read, Memory}
use Rattle.rd_files.specs.DataFiles.{AreBytes, FailedAt, FailedAtSome, Gives, GivesData, Named, ReadsBytes, ReadsData, ReadsFile, brackets_in, classes_in, data_of, judged, mirrors_in, told_or_empty, too_large}

-- ---- one file

module _ {T : Type 0} (file : DataFile) (form : List ℕ → Result T UcdFault) where
  judged-large : (bytes : List ℕ) → 8388608 < length bytes → judged file form bytes ≡ Err (too_large file)
  judged-large bytes large = rw (lt-ltb 8388608 (length bytes) large) refl

  long : (n : ℕ) → (bytes : List ℕ) × (length bytes ≡ n)
  long zero = ([], refl)
  long (suc n) = let rest = long n in (0 ∷ rest.0, ap suc rest.1)

  large : (told : Option (List ℕ)) → IfSome told (λ all. 8388608 < length all) → Gives (judged file form) told (Err (too_large file))
  large (Some all) h = (all, refl, judged-large all h)
  large None h =
      let bytes = long 8388609 in
      let size : length bytes.0 ≡ 8388609 = bytes.1 in
      (bytes.0, tt, judged-large bytes.0 (omega arith))

  -- a file that was not read
  pub unread : (told : Option (List ℕ)) (Failed : Type 0) (fault : DataFault) → ReadsBytes file told Failed (Err fault) → ReadsFile (judged file form) told Failed (Err fault)
  unread told Failed (Bad fault) h = rw h.0 (large told h.1)
  unread told Failed Read h = h
  unread told Failed Memory h = tt

-- ---- the three files

any_bytes : (told : Option (List ℕ)) → (bytes : List ℕ) × AreBytes bytes told
any_bytes None = ([], tt)
any_bytes (Some file) = (file, refl)

module _ (told : List ℕ → Option (List ℕ)) (names : Named) where
  bad_classes : (fault : BadFile) → Gives classes_in (told names.class_file) (Err fault) → GivesData told names (Err fault)
  bad_classes fault c =
      let m = any_bytes (told names.mirror_file) in
      let b = any_bytes (told_or_empty told names.bracket_file) in
      (c.0, m.0, b.0, c.1, m.1, b.1, rw c.2 refl)

  bad_mirrors : (classes : List Span) (fault : BadFile) → Gives classes_in (told names.class_file) (Ok classes)
      → Gives mirrors_in (told names.mirror_file) (Err fault) → GivesData told names (Err fault)
  bad_mirrors classes fault c m =
      let b = any_bytes (told_or_empty told names.bracket_file) in
      (c.0, m.0, b.0, c.1, m.1, b.1, rw (c.2, m.2) refl)

  bad_brackets : (classes : List Span) (mirrors : List Pair) (fault : BadFile) → Gives classes_in (told names.class_file) (Ok classes)
      → Gives mirrors_in (told names.mirror_file) (Ok mirrors) → Gives brackets_in (told_or_empty told names.bracket_file) (Err fault)
      → GivesData told names (Err fault)
  bad_brackets classes mirrors fault c m b = (c.0, m.0, b.0, c.1, m.1, b.1, rw (c.2, m.2, b.2) refl)

  -- where the bytes of all three are known, the answer is what they stand for
  pub whole-data : (classes mirrors brackets : List ℕ) (answer : Result Data BadFile) → told names.class_file ≡ Some classes → told names.mirror_file ≡ Some mirrors
      → told_or_empty told names.bracket_file ≡ Some brackets → GivesData told names answer → answer ≡ data_of classes mirrors brackets
  whole-data classes mirrors brackets answer ec em eb h =
      let c : h.0 ≡ classes = rw ec at h.3 in
      let m : h.1 ≡ mirrors = rw em at h.4 in
      let b : h.2 ≡ brackets = rw eb at h.5 in
      rw (c, m, b) at (sym h.6)

same_brackets : (told now : List ℕ → Option (List ℕ)) (name : Option (List ℕ)) → ((file : List ℕ) → now file ≡ told file)
    → told_or_empty now name ≡ told_or_empty told name
same_brackets told now None same = refl
same_brackets told now (Some name) same = same name

failed_later : (before between after : List ℕ → ℕ) (name : Option (List ℕ)) → ((file : List ℕ) → before file ≤ between file)
    → FailedAtSome between after name → FailedAtSome before after name
failed_later before between after None low h = h
failed_later before between after (Some name) low h = rose-after (before name) (between name) (after name) (low name) h

module _ (told : List ℕ → Option (List ℕ)) (before : List ℕ → ℕ) (names : Named) where
  -- the class file ends it
  pub stops_first : (after : List ℕ → ℕ) (fault : DataFault) → ReadsFile classes_in (told names.class_file) (FailedAt before after names.class_file) (Err fault)
      → ReadsData told before after names (Err fault)
  stops_first after (Bad fault) h = bad_classes told names fault h
  stops_first after Read h = inl h
  stops_first after Memory h = tt

  -- the class file is good, and the mirror file ends it
  pub stops_second : (now : List ℕ → Option (List ℕ)) (between after : List ℕ → ℕ) (classes : List Span) (fault : DataFault) → ((file : List ℕ) → now file ≡ told file)
      → ((file : List ℕ) → before file ≤ between file) → Gives classes_in (told names.class_file) (Ok classes)
      → ReadsFile mirrors_in (now names.mirror_file) (FailedAt between after names.mirror_file) (Err fault) → ReadsData told before after names (Err fault)
  stops_second now between after classes (Bad fault) same low c h =
      bad_mirrors told names classes fault c (subst (λ (t : Option (List ℕ)). Gives mirrors_in t (Err fault)) (same names.mirror_file) h)
  stops_second now between after classes Read same low c h =
      inr (inl ((classes, c), rose-after (before names.mirror_file) (between names.mirror_file) (after names.mirror_file) (low names.mirror_file) h))
  stops_second now between after classes Memory same low c h = tt

  -- the class file and the mirror file are good, and the bracket file ends it
  pub stops_third : (now : List ℕ → Option (List ℕ)) (between after : List ℕ → ℕ) (classes : List Span) (mirrors : List Pair) (fault : DataFault)
      → ((file : List ℕ) → now file ≡ told file) → ((file : List ℕ) → before file ≤ between file) → Gives classes_in (told names.class_file) (Ok classes)
      → Gives mirrors_in (told names.mirror_file) (Ok mirrors) → ReadsFile brackets_in (told_or_empty now names.bracket_file) (FailedAtSome between after names.bracket_file) (Err fault)
      → ReadsData told before after names (Err fault)
  stops_third now between after classes mirrors (Bad fault) same low c m h =
      bad_brackets told names classes mirrors fault c m
      (subst (λ (t : Option (List ℕ)). Gives brackets_in t (Err fault)) (same_brackets told now names.bracket_file same) h)
  stops_third now between after classes mirrors Read same low c m h =
      inr (inr ((classes, c), (mirrors, m), failed_later before between after names.bracket_file low h))
  stops_third now between after classes mirrors Memory same low c m h = tt
