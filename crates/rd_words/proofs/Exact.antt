-- The words as `clap` reads them are the words as the definition reads them.
use Rattle.std.proofs.Common.{◌≡◌, ◌∙◌, Bool, true, false, List, [], ◌∷◌, ◌++◌, Option, None, Some, option_map, refl, sym, ap}
use Rattle.std.specs.Prelude.{if◌then◌else◌, find, not, option_and_then, codes}
use Rattle.std.specs.Option.{option_map_or}
use Rattle.std.specs.Str.{bytes_eq}
use Rattle.clap.proofs.FaultLemmas.{leaf_fault}
use Rattle.clap.proofs.SimpleLemmas.{is_nil}
use Rattle.clap.proofs.WalkLemmas.{both}
use Rattle.clap.specs.Kinds.{Kinds}
use Rattle.clap.specs.Walk.{Held, Row, Rule, arg_by_id, arg_by_long, is_empty, nothing_held, reacted, settled, used, walk_from}
use Rattle.clap.specs.Simple.{built, matches_of}
use Rattle.clap.specs.Faults.{fault_of, react_fault, settle_fault, use_fault}
use Rattle.rd_words.specs.Words.{Text, Setting, generate, dump, name_of, named, named_in, has_value, Use, with_use, begun, last, uses_from, fits, is_flag, is_in_form, is_number, is_of, is_used, values_from, values_of}
use Rattle.rd_words.specs.Command.{command, unless, values_of_rows}
use Rattle.rd_words.proofs.WordByWord.{awaiting, at_end, held, later, met, outcome, outcome-is, outcome-word, rule, shape, unless-first, waits}
use Rattle.rd_words.proofs.Uses.{HaveNumber, Say, ended-is, ended_rows, ended-say, flag-fits, flag-used, named-is, rows, value-fits, value-used}

-- the rows that uses make behind those that were met
abbrev rows_from : List Use → List Use → Option (List Row)
rows_from us [] = ended_rows us
rows_from us (v ∷ vs) = if fits us v then rows_from (us ++ v ∷ []) vs else None

abbrev after : List Use → Option (List Use) → Option (List Row)
after us o = option_and_then (rows_from us) o

after-use : (us : List Use) (u : Use) (o : Option (List Use)) → after us (with_use u o) ≡ (if fits us u then after (us ++ u ∷ []) o else None)
after-use us u None = go (fits us u)
  where
    go : (b : Bool) → after us (with_use u None) ≡ (if b then after (us ++ u ∷ []) None else None)
    go true = refl
    go false = refl
after-use us u (Some vs) = refl

-- where a use fits what is behind it counts, and nothing where it does not
unless-fits : (k : Kinds) (b : Bool) (x y : Option (List Row)) → is_empty k ≡ b → (b ≡ true → x ≡ y) → unless k x ≡ (if b then y else None)
unless-fits k true x y e h = rw (is_nil k e) (h refl)
unless-fits [] false x y e h = cc
unless-fits (k ∷ ks) false x y e h = refl

-- the option of a setting, by its name
by_name : (s : Setting) → arg_by_id shape.rules (name_of s) ≡ Some (rule s)
by_name dump = refl
by_name s = refl

unsettled : (us : List Use) (s : Setting) → has_value s ≡ true → is_empty (settle_fault shape.rules false (held (rows us) (Some (name_of s, [])))) ≡ false
unsettled us dump e = cc
unsettled us s e = refl

pending-fits : (us : List Use) (s : Setting) (v : Text) → has_value s ≡ true
    → is_empty (settle_fault shape.rules false (held (rows us) (Some (name_of s, v ∷ [])))) ≡ fits us (s, v)
pending-fits us s v e =
    ap (λ (a : Option Rule). is_empty (option_map_or (λ a. use_fault false a (v ∷ []) (rows us)) a [])) (by_name s) ∙ value-fits us s v e

pending-used : (us : List Use) (s : Setting) (v : Text) → has_value s ≡ true → fits us (s, v) ≡ true
    → settled shape.rules (held (rows us) (Some (name_of s, v ∷ []))) ≡ held (rows (us ++ (s, v) ∷ [])) None
pending-used us s v e f = rw (by_name s) (ap (λ (rs : List Row). held rs None) (value-used us s v e f))

abbrev start : List Use → List Text → Option (List Row)
start us words = outcome (walk_from (held (rows us) None)) words

abbrev wait : List Use → Setting → List Text → Option (List Row)
wait us s words = outcome (awaiting (held (rows us) None) (name_of s)) words

-- what words make behind an option and its value, each a word
pending : (us : List Use) (s : Setting) (v : Text) (words : List Text) → has_value s ≡ true
    → outcome (walk_from (held (rows us) (Some (name_of s, v ∷ [])))) words ≡ (if fits us (s, v) then start (us ++ (s, v) ∷ []) words else None)
pending us s v words e =
    later (rows us) (Some (name_of s, v ∷ [])) words
    ∙ unless-fits (settle_fault shape.rules false (held (rows us) (Some (name_of s, v ∷ [])))) (fits us (s, v)) _ _ (pending-fits us s v e)
    (λ f. ap (λ (h : Held). outcome (walk_from h) words) (pending-used us s v e f))

-- a use in one word
used-once : (us : List Use) (a : Rule) (vs : List Text) (u : Use) (words : List Text) → is_empty (use_fault false a vs (rows us)) ≡ fits us u
    → (fits us u ≡ true → used a vs (rows us) ≡ rows (us ++ u ∷ []))
    → unless (react_fault shape.rules false a vs (held (rows us) None)) (outcome (walk_from (reacted shape.rules a vs (held (rows us) None))) words)
    ≡ (if fits us u then start (us ++ u ∷ []) words else None)
used-once us a vs u words fault row =
    unless-fits (use_fault false a vs (rows us)) (fits us u) _ _ fault (λ f. ap (λ (rs : List Row). outcome (walk_from (held rs None)) words) (row f))

-- one more use, and then what the words say behind it
used-then : (us : List Use) (u : Use) (words : List Text) → ((vs : List Use) → start vs words ≡ after vs (uses_from None words))
    → (if fits us u then start (us ++ u ∷ []) words else None) ≡ after us (with_use u (uses_from None words))
used-then us u words rest =
    ap (λ (o : Option (List Row)). if fits us u then o else None) (rest (us ++ u ∷ [])) ∙ sym (after-use us u (uses_from None words))

-- a word that begins with two hyphens
met-is : (us : List Use) (words : List Text) (o : Option Setting) (v : Option Text)
    → ((vs : List Use) → start vs words ≡ after vs (uses_from None words))
    → ((s : Setting) → has_value s ≡ true → wait us s words ≡ after us (uses_from (Some s) words))
    → met (held (rows us) None) (option_map rule o) v words ≡ after us (begun o v (uses_from None words) (λ s. uses_from (Some s) words))
met-is us words None v rest waiting = refl
met-is us words (Some dump) (Some v) rest waiting = refl
met-is us words (Some dump) None rest waiting =
    used-once us (rule dump) [] (dump, codes "true") words (flag-fits us) (flag-used us) ∙ used-then us (dump, codes "true") words rest
met-is us words (Some s) (Some v) rest waiting = used-once us (rule s) (v ∷ []) (s, v) words (value-fits us s v refl) (value-used us s v refl) ∙ used-then us (s, v) words rest
met-is us words (Some s) None rest waiting = waiting s refl

end-is : (us : List Use) (words : List Text) → at_end (held (rows us) None) words ≡ after us (last words)
end-is us [] = ended-is us
end-is us (word ∷ words) = refl

word-is : (us : List Use) (words : List Text) (b : Bool) (l : Option (Text × Option Text))
    → ((vs : List Use) → start vs words ≡ after vs (uses_from None words))
    → ((s : Setting) → has_value s ≡ true → wait us s words ≡ after us (uses_from (Some s) words))
    → (if b then at_end (held (rows us) None) words else option_and_then (λ p. met (held (rows us) None) (arg_by_long shape.rules p.0) p.1 words) l)
    ≡ after us (if b then last words else option_and_then (λ p. begun (named p.0) p.1 (uses_from None words) (λ s. uses_from (Some s) words)) l)
word-is us words true l rest waiting = end-is us words
word-is us words false None rest waiting = refl
word-is us words false (Some p) rest waiting = rw (named-is p.0) (met-is us words (named p.0) p.1 rest waiting)

-- the next word is no flag, and so the value
value-is : (us : List Use) (s : Setting) (word : Text) (words : List Text) (b : Bool) → has_value s ≡ true
    → ((vs : List Use) → start vs words ≡ after vs (uses_from None words))
    → (if b then None else outcome (walk_from (held (rows us) (Some (name_of s, word ∷ [])))) words)
    ≡ after us (if b then None else with_use (s, word) (uses_from None words))
value-is us s word words true e rest = refl
value-is us s word words false e rest = pending us s word words e ∙ used-then us (s, word) words rest

mutual
  pub starts : (words : List Text) (us : List Use) → start us words ≡ after us (uses_from None words)
  starts [] us = ended-is us
  starts (word ∷ words) us =
      outcome-word (rows us) None word words
      ∙ word-is us words (bytes_eq word (45 ∷ 45 ∷ [])) (named_in word) (starts words) (waits-is words us)

  waits-is : (words : List Text) (us : List Use) (s : Setting) → has_value s ≡ true → wait us s words ≡ after us (uses_from (Some s) words)
  waits-is [] us s e = unless-first (settle_fault shape.rules false (held (rows us) (Some (name_of s, [])))) _ _ (unsettled us s e)
  waits-is (word ∷ words) us dump e = cc
  waits-is (word ∷ words) us s e = waits (rows us) (name_of s) word words refl refl ∙ value-is us s word words (is_flag word) refl (starts words)

-- the rows of the command are those of the uses that the words are, and it faults where there are none
rows-are : (words : List Text) → unless (fault_of command words) (Some (matches_of command words)) ≡ after [] (uses_from None words)
rows-are words =
    ap (λ (k : Kinds). unless k (Some (matches_of command words))) (leaf_fault (built command) nothing_held words refl)
    ∙ (outcome-is (walk_from nothing_held) words ∙ starts words [])

-- ---- what the rows say

number-more : (us : List Use) (u : Use) → HaveNumber us → is_in_form u ≡ true → HaveNumber (us ++ u ∷ [])
number-more [] (generate, text) number form = form
number-more [] u number form = refl
number-more (v ∷ vs) u number form = go (is_of generate v) number (λ behind. number-more vs u behind form)
  where
    go : (b : Bool) → option_map_or is_number (option_map (λ u. u.1) (if b then Some v else find (is_of generate) vs)) true ≡ true
        → (HaveNumber vs → HaveNumber (vs ++ u ∷ []))
        → option_map_or is_number (option_map (λ u. u.1) (if b then Some v else find (is_of generate) (vs ++ u ∷ []))) true ≡ true
    go true number rest = number
    go false number rest = rest number

say-from : (us vs : List Use) → HaveNumber us → Say (rows_from us vs) (values_from us vs)
say-from us [] number = ended-say us number
say-from us (v ∷ vs) number = go (fits us v) refl (λ f. say-from (us ++ v ∷ []) vs (number-more us v number (both (not (is_used v.0 us)) (is_in_form v) f).1))
  where
    go : (b : Bool) → fits us v ≡ b → (fits us v ≡ true → Say (rows_from (us ++ v ∷ []) vs) (values_from (us ++ v ∷ []) vs))
        → Say (if b then rows_from (us ++ v ∷ []) vs else None) (if b then values_from (us ++ v ∷ []) vs else None)
    go true f rest = rest f
    go false f rest = refl

say : (o : Option (List Use)) → Say (after [] o) (option_and_then (values_from []) o)
say None = refl
say (Some us) = say-from [] us refl

-- where the command has no fault its rows are whole and say what the words do, and other words are faulty
pub rows-say : (words : List Text) → Say (unless (fault_of command words) (Some (matches_of command words))) (values_of words)
rows-say words = rw (rows-are words) (say (uses_from None words))

-- what the command faults, and what else it finds
pub exact : (words : List Text) → unless (fault_of command words) (values_of_rows (matches_of command words)) ≡ values_of words
exact words = go (fault_of command words) (rows-say words)
  where
    go : (k : Kinds) → Say (unless k (Some (matches_of command words))) (values_of words) → unless k (values_of_rows (matches_of command words)) ≡ values_of words
    go [] s = s.0
    go (k ∷ ks) s = sym s
