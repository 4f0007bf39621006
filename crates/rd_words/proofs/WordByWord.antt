-- How `clap` reads the words of the command, one after the other, and what it makes of them.
use Rattle.std.proofs.Common.{◌≡◌, ◌∙◌, ℕ, ◌==◌, ◌&&◌, Bool, true, false, List, [], ◌∷◌, length, Option, None, Some, is_some, refl, sym, ap}
use Rattle.std.proofs.lemmas.Bool.{eqb-true}
use Rattle.std.specs.Prelude.{if◌then◌else◌, fold, slice_get, option_and_then}
use Rattle.std.specs.Option.{option_map_or}
use Rattle.std.specs.Str.{bytes_eq, chars}
use Rattle.clap.specs.Lexer.{long_of, long_of_rest, short_of, short_of_rest, strip_byte}
use Rattle.clap.specs.Kinds.{Kinds, or_else}
use Rattle.clap.specs.Walk.{Held, Outcome, Row, Rule, Step, Walk, after_flag, after_step, bundle_met, bundle_step, finished, flag_met, idle, is_empty, long_met, long_or_other, option, option_met, plain, plain_word, reacted, settled, settled_rows, short_or_plain, takes_values, trailing, walk_from, walked}
use Rattle.clap.specs.Walk.{arg_by_long}
use Rattle.clap.specs.Simple.{Shape, built, filled}
use Rattle.clap.specs.Faults.{bundle_fault, bundle_step_fault, check_fault, defaults_fault, flag_word_fault, flags_fault, long_fault, option_fault, react_fault, settle_fault, step_fault, turn_fault, walk_fault}
use Rattle.clap.specs.declared.error.kind.ErrorKind.TheVariants as kind
use Rattle.rd_words.specs.Words.{Text, Setting, is_flag, named_in}
use Rattle.rd_words.proofs.OwnWords.{named_in-is}
use Rattle.rd_words.specs.Command.{asked, command, unless}

-- the command as it is built
abbrev pub shape : Shape
shape = (built command).top

abbrev pub rule : Setting → Rule
rule s = filled (asked s)

abbrev pub held : List Row → Option (Text × List Text) → Held
held rows pending = record { rows = rows; pending = pending; skip = 0 }

-- what the end of the words makes of what is held, and the rows that are then there
abbrev pub ends : Held → Kinds
ends h = or_else (settle_fault shape.rules false h) (or_else (defaults_fault (settled shape.rules h).rows shape.rules) (check_fault shape (finished shape.rules h) false))

abbrev pub ended : Held → Option (List Row)
ended h = unless (ends h) (Some (finished shape.rules h))

-- what words come to behind a walk, word by word
abbrev pub outcome : Walk → List Text → Option (List Row)
outcome w [] = ended w.held
outcome w (word ∷ words) = unless (turn_fault shape [] w word) (outcome (walked shape.rules [] w word) words)

pub unless-none : (a : Kinds) → unless {T = List Row} a None ≡ None
unless-none [] = refl
unless-none (k ∷ ks) = refl

pub unless-or : (a b : Kinds) (x : Option (List Row)) → unless (or_else a b) x ≡ unless a (unless b x)
unless-or [] b x = refl
unless-or (k ∷ ks) b x = refl

pub unless-first : (a b : Kinds) (x : Option (List Row)) → is_empty a ≡ false → unless (or_else a b) x ≡ None
unless-first [] b x e = cc
unless-first (k ∷ ks) b x e = refl

none-first : (a b : Kinds) → is_empty a ≡ false → is_empty (or_else a b) ≡ false
none-first [] b e = cc
none-first (k ∷ ks) b e = e

or_else-nil : (a : Kinds) → or_else a [] ≡ a
or_else-nil [] = refl
or_else-nil (k ∷ ks) = refl

unless-nil : (a : Kinds) (x : Option (List Row)) → unless (or_else a []) x ≡ unless a x
unless-nil a x = ap (λ (k : Kinds). unless k x) (or_else-nil a)

unless-both : (a b c : Kinds) (x : Option (List Row)) → unless (or_else (or_else a b) c) x ≡ unless a (unless (or_else b c) x)
unless-both [] b c x = refl
unless-both (k ∷ ks) b c x = refl

abbrev pub whole : Walk → List Text → Option (List Row)
whole w words =
    unless (or_else (walk_fault shape [] w words) (ends (fold (walked shape.rules []) w words).held))
    (Some (finished shape.rules (fold (walked shape.rules []) w words).held))

-- the walk over all the words, word by word
pub outcome-is : (w : Walk) (words : List Text) → whole w words ≡ outcome w words
unfolding walk_fault
outcome-is w [] = refl
outcome-is w (word ∷ words) =
    unless-both (turn_fault shape [] w word) (walk_fault shape [] (walked shape.rules [] w word) words)
    (ends (fold (walked shape.rules []) (walked shape.rules [] w word) words).held)
    (Some (finished shape.rules (fold (walked shape.rules []) (walked shape.rules [] w word) words).held))
    ∙ ap (λ (o : Option (List Row)). unless (turn_fault shape [] w word) o) (outcome-is (walked shape.rules [] w word) words)

-- ---- one word

-- a word with this fault and this meaning, and then the rest
abbrev pub after_word : Walk → Text → List Text → Kinds → Held × Step → Option (List Row)
after_word w word rest fault m = unless (or_else fault (step_fault shape 1 m.0 m.1)) (outcome (after_step shape.rules word w m.0 m.1) rest)

-- a word that names flags or an option, with this fault and this meaning, and then the rest
abbrev pub flagged : Walk → Text → List Text → Kinds → Held × Outcome → Option (List Row)
flagged w word rest fault m = after_word w word rest fault (after_flag shape.rules w.waiting word m.0 m.1)

-- where a walk stands behind an option whose value is still to come, and behind `--`
abbrev pub awaiting : Held → Text → Walk
awaiting h id = record (walk_from (record h { pending = Some (id, []) })) { waiting = option id }

abbrev trailing_at : Walk → Walk
trailing_at w = record w { position = 1; is_trailing = true }

-- what a word makes of what is held, where nothing waits for a value
abbrev pub met_option : Held → Rule → Option Text → List Text → Option (List Row)
met_option h a (Some v) rest = unless (react_fault shape.rules false a (v ∷ []) h) (outcome (walk_from (reacted shape.rules a (v ∷ []) h)) rest)
met_option h a None rest = unless (settle_fault shape.rules false h) (outcome (awaiting (settled shape.rules h) a.id) rest)

abbrev pub met_flag : Held → Rule → Option Text → List Text → Option (List Row)
met_flag h a (Some v) rest = None
met_flag h a None rest = unless (react_fault shape.rules false a [] h) (outcome (walk_from (reacted shape.rules a [] h)) rest)

abbrev pub met : Held → Option Rule → Option Text → List Text → Option (List Row)
met h None v rest = None
met h (Some a) v rest = if takes_values a then met_option h a v rest else met_flag h a v rest

abbrev pub at_end : Held → List Text → Option (List Row)
at_end h [] = ended h
at_end h (word ∷ words) = None

abbrev pub met_word : Held → Text → List Text → Option (List Row)
met_word h word rest =
    if bytes_eq word (45 ∷ 45 ∷ []) then at_end h rest
    else option_and_then (λ p. met h (arg_by_long shape.rules p.0) p.1 rest) (named_in word)

dashes : (h : Held) (rest : List Text) → outcome (trailing_at (walk_from h)) rest ≡ at_end h rest
dashes h [] = refl
dashes h (word ∷ words) = refl

module _ (rows : List Row) (pending : Option (Text × List Text)) (word : Text) (rest : List Text) where
  bundled : (k : ℕ) (flags : Text) (o : Option ℕ)
      → flagged (walk_from (held rows pending)) word rest (bundle_step_fault shape.rules false o flags 0 (held rows pending) (flags_fault shape.rules false k))
      (bundle_step shape.rules o flags 0 plain (held rows pending) (bundle_met shape.rules k)) ≡ None
  bundled k flags None = refl
  bundled k flags (Some x) = refl

  stray : (short : Option Text)
      → after_word (walk_from (held rows pending)) word rest (option_map_or (λ flags. bundle_fault shape.rules false flags (held rows pending)) short [])
      (short_or_plain shape.rules idle word short (held rows pending)) ≡ None
  unfolding flags_fault bundle_met
  stray None = refl
  stray (Some []) = refl
  stray (Some (x ∷ xs)) = bundled (length xs) (x ∷ xs) (slice_get (chars (x ∷ xs)) 0)

  by_kind : (a : Rule) (v : Option Text) (t : Bool)
      → flagged (walk_from (held rows pending)) word rest
      (if t then option_fault shape.rules false a v (held rows pending) else (if is_some v then kind.TooManyValues ∷ [] else react_fault shape.rules false a [] (held rows pending)))
      (if t then option_met shape.rules a v (held rows pending) else flag_met shape.rules a v (held rows pending))
      ≡ (if t then met_option (held rows pending) a v rest else met_flag (held rows pending) a v rest)
  by_kind a (Some v) true = unless-nil (react_fault shape.rules false a (v ∷ []) (held rows pending)) _
  by_kind a None true = unless-nil (settle_fault shape.rules false (held rows pending)) _
  by_kind a (Some v) false = refl
  by_kind a None false = unless-nil (react_fault shape.rules false a [] (held rows pending)) _

  long : (a : Option Rule) (v : Option Text)
      → flagged (walk_from (held rows pending)) word rest (long_fault shape.rules false a v (held rows pending)) (long_met shape.rules a v (held rows pending)) ≡ met (held rows pending) a v rest
  long None v = refl
  long (Some a) v = by_kind a v (takes_values a)

  by_word : (b : Bool) (l : Option (Text × Option Text))
      → after_word (walk_from (held rows pending)) word rest (if b then [] else flag_word_fault shape.rules false l word (held rows pending))
      (if b then (held rows pending, trailing 1) else long_or_other shape.rules idle word l (held rows pending))
      ≡ (if b then at_end (held rows pending) rest else option_and_then (λ p. met (held rows pending) (arg_by_long shape.rules p.0) p.1 rest) l)
  by_word true l = dashes (held rows pending) rest
  by_word false None = stray (short_of word)
  by_word false (Some p) = long (arg_by_long shape.rules p.0) p.1

  -- a word behind what is held
  pub outcome-word : outcome (walk_from (held rows pending)) (word ∷ rest) ≡ met_word (held rows pending) word rest
  unfolding walked
  outcome-word =
      by_word (bytes_eq word (45 ∷ 45 ∷ [])) (long_of word)
      ∙ ap (λ (l : Option (Text × Option Text)). if bytes_eq word (45 ∷ 45 ∷ []) then at_end (held rows pending) rest else option_and_then (λ p. met (held rows pending) (arg_by_long shape.rules p.0) p.1 rest) l)
      (named_in-is word)

-- ---- what is pending is used by the next word, or by the end

module _ (rows : List Row) (pending : Option (Text × List Text)) where
  abbrev pub late : Option (List Row) → Option (List Row)
  late o = unless (settle_fault shape.rules false (held rows pending)) o

  abbrev pub then_held : Held
  then_held = settled shape.rules (held rows pending)

  late_end : ended (held rows pending) ≡ late (ended then_held)
  late_end = unless-or (settle_fault shape.rules false (held rows pending))
      (or_else (defaults_fault then_held.rows shape.rules) (check_fault shape (finished shape.rules then_held) false)) _

  late_dashes : (rest : List Text) → at_end (held rows pending) rest ≡ late (at_end then_held rest)
  late_dashes [] = late_end
  late_dashes (word ∷ words) = sym (unless-none (settle_fault shape.rules false (held rows pending)))

  late_kind : (a : Rule) (v : Option Text) (rest : List Text) (t : Bool)
      → (if t then met_option (held rows pending) a v rest else met_flag (held rows pending) a v rest)
      ≡ late (if t then met_option then_held a v rest else met_flag then_held a v rest)
  late_kind a (Some v) rest true = unless-or (settle_fault shape.rules false (held rows pending)) _ _
  late_kind a None rest true = refl
  late_kind a (Some v) rest false = sym (unless-none (settle_fault shape.rules false (held rows pending)))
  late_kind a None rest false = unless-or (settle_fault shape.rules false (held rows pending)) _ _

  late_met : (a : Option Rule) (v : Option Text) (rest : List Text) → met (held rows pending) a v rest ≡ late (met then_held a v rest)
  late_met None v rest = sym (unless-none (settle_fault shape.rules false (held rows pending)))
  late_met (Some a) v rest = late_kind a v rest (takes_values a)

  late_word : (rest : List Text) (b : Bool) (l : Option (Text × Option Text))
      → (if b then at_end (held rows pending) rest else option_and_then (λ p. met (held rows pending) (arg_by_long shape.rules p.0) p.1 rest) l)
      ≡ late (if b then at_end then_held rest else option_and_then (λ p. met then_held (arg_by_long shape.rules p.0) p.1 rest) l)
  late_word rest true l = late_dashes rest
  late_word rest false None = sym (unless-none (settle_fault shape.rules false (held rows pending)))
  late_word rest false (Some p) = late_met (arg_by_long shape.rules p.0) p.1 rest

  pub later : (words : List Text) → outcome (walk_from (held rows pending)) words ≡ late (outcome (walk_from then_held) words)
  later [] = late_end
  later (word ∷ rest) =
      outcome-word rows pending word rest
      ∙ (late_word rest (bytes_eq word (45 ∷ 45 ∷ [])) (named_in word)
      ∙ ap (λ (o : Option (List Row)). late o) (sym (outcome-word (settled_rows shape.rules pending rows) None word rest)))

-- ---- a word behind an option whose value is still to come

-- what a word looks like, by whether it is `--`, its long name, its short flags, and whether it is a flag
abbrev Seen : Bool → Option (Text × Option Text) → Option Text → Bool → Type 0
Seen true long short flag = flag ≡ true
Seen false (Some p) short flag = flag ≡ true
Seen false None None flag = flag ≡ false
Seen false None (Some flags) flag = flag ≡ is_some (slice_get (chars flags) 0)

dashed : (c : ℕ) (cs : Text) → c ≡ 45 → Seen (true && bytes_eq cs []) (long_of_rest cs) None (is_some (slice_get (chars (c ∷ cs)) 0))
unfolding chars
dashed c [] e = rw e refl
dashed c (d ∷ ds) e = rw e refl

hyphened : (bs : Text) → Seen (bytes_eq bs (45 ∷ [])) (option_and_then long_of_rest (strip_byte 45 bs)) (short_of_rest bs) (is_some (slice_get (chars bs) 0))
unfolding chars
hyphened [] = refl
hyphened (c ∷ cs) = go (c == 45) refl
  where
    go : (t : Bool) → (c == 45) ≡ t
        → Seen (t && bytes_eq cs []) (option_and_then long_of_rest (if t then Some cs else None)) (if t then None else Some (c ∷ cs)) (is_some (slice_get (chars (c ∷ cs)) 0))
    go false e = refl
    go true e = dashed c cs (eqb-true c 45 e)

seen : (word : Text) → Seen (bytes_eq word (45 ∷ 45 ∷ [])) (long_of word) (short_of word) (is_flag word)
seen [] = refl
seen (b ∷ bs) = go (b == 45)
  where
    go : (t : Bool) → Seen (t && bytes_eq bs (45 ∷ [])) (option_and_then long_of_rest (option_and_then (strip_byte 45) (if t then Some bs else None)))
        (option_and_then short_of_rest (if t then Some bs else None)) (t && is_some (slice_get (chars bs) 0))
    go false = refl
    go true = hyphened bs

module _ (rows : List Row) (id : Text) (word : Text) (rest : List Text) where
  abbrev pub waiting_held : Held
  waiting_held = held rows (Some (id, []))

  abbrev pub waiting_walk : Walk
  waiting_walk = awaiting waiting_held id

  abbrev fault_by : Option (Text × Option Text) → Option Text → Kinds
  fault_by (Some p) short = long_fault shape.rules false (arg_by_long shape.rules p.0) p.1 waiting_held
  fault_by None short = option_map_or (λ flags. bundle_fault shape.rules false flags waiting_held) short []

  abbrev met_by : Option (Text × Option Text) → Option Text → Held × Step
  met_by (Some p) short = after_flag shape.rules (option id) word (long_met shape.rules (arg_by_long shape.rules p.0) p.1 waiting_held).0
      (long_met shape.rules (arg_by_long shape.rules p.0) p.1 waiting_held).1
  met_by None short = short_or_plain shape.rules (option id) word short waiting_held

  abbrev waits_by : Bool → Option (Text × Option Text) → Option Text → Option (List Row)
  waits_by b l short = after_word waiting_walk word rest (if b then [] else fault_by l short) (if b then (waiting_held, trailing 1) else met_by l short)

  split : (b : Bool) (l : Option (Text × Option Text))
      → after_word waiting_walk word rest (if b then [] else flag_word_fault shape.rules false l word waiting_held)
      (if b then (waiting_held, trailing 1) else long_or_other shape.rules (option id) word l waiting_held)
      ≡ waits_by b l (short_of word)
  split true l = refl
  split false None = refl
  split false (Some p) = refl

  waits_split : outcome waiting_walk (word ∷ rest) ≡ waits_by (bytes_eq word (45 ∷ 45 ∷ [])) (long_of word) (short_of word)
  unfolding walked
  waits_split = split (bytes_eq word (45 ∷ 45 ∷ [])) (long_of word)

  -- the option has no value yet, and takes the word
  module _ (unsettled : is_empty (settle_fault shape.rules false waiting_held) ≡ false)
      (takes : after_word waiting_walk word rest [] (plain_word shape.rules (option id) word waiting_held) ≡ outcome (walk_from (held rows (Some (id, word ∷ [])))) rest) where
    waits_dashes : (words : List Text) → outcome (trailing_at waiting_walk) words ≡ None
    waits_dashes [] = unless-first (settle_fault shape.rules false waiting_held) _ _ unsettled
    waits_dashes (w ∷ ws) = refl

    refused_kind : (a : Rule) (v : Option Text) (t : Bool)
        → is_empty (if t then option_fault shape.rules false a v waiting_held else (if is_some v then kind.TooManyValues ∷ [] else react_fault shape.rules false a [] waiting_held)) ≡ false
    refused_kind a (Some v) true = none-first (settle_fault shape.rules false waiting_held) _ unsettled
    refused_kind a None true = unsettled
    refused_kind a (Some v) false = refl
    refused_kind a None false = none-first (settle_fault shape.rules false waiting_held) _ unsettled

    refused_long : (a : Option Rule) (v : Option Text) → is_empty (long_fault shape.rules false a v waiting_held) ≡ false
    refused_long None v = refl
    refused_long (Some a) v = refused_kind a v (takes_values a)

    waits_bundled : (k : ℕ) (flags : Text) (o : Option ℕ)
        → flagged waiting_walk word rest (bundle_step_fault shape.rules false o flags 0 waiting_held (flags_fault shape.rules false k))
        (bundle_step shape.rules o flags 0 plain waiting_held (bundle_met shape.rules k))
        ≡ (if is_some o then None else outcome (walk_from (held rows (Some (id, word ∷ [])))) rest)
    waits_bundled k flags None = takes
    waits_bundled k flags (Some x) = refl

    waits_flags : (flags : Text) → waits_by false None (Some flags) ≡ (if is_some (slice_get (chars flags) 0) then None else outcome (walk_from (held rows (Some (id, word ∷ [])))) rest)
    unfolding flags_fault bundle_met chars
    waits_flags [] = takes
    waits_flags (x ∷ xs) = waits_bundled (length xs) (x ∷ xs) (slice_get (chars (x ∷ xs)) 0)

    waits_seen : (b : Bool) (l : Option (Text × Option Text)) (short : Option Text) (flag : Bool) → Seen b l short flag
        → waits_by b l short ≡ (if flag then None else outcome (walk_from (held rows (Some (id, word ∷ [])))) rest)
    waits_seen true l short flag e = rw e (waits_dashes rest)
    waits_seen false (Some p) short flag e = rw e (unless-first (long_fault shape.rules false (arg_by_long shape.rules p.0) p.1 waiting_held) _ _ (refused_long (arg_by_long shape.rules p.0) p.1))
    waits_seen false None None flag e = rw e takes
    waits_seen false None (Some flags) flag e = rw e (waits_flags flags)

    pub waits : outcome waiting_walk (word ∷ rest) ≡ (if is_flag word then None else outcome (walk_from (held rows (Some (id, word ∷ [])))) rest)
    waits = waits_split ∙ waits_seen (bytes_eq word (45 ∷ 45 ∷ [])) (long_of word) (short_of word) (is_flag word) (seen word)
