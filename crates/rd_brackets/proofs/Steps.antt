-- One place more of a sequence (BD16), and a sequence without pairs.
use Rattle.std.proofs.Common.{◌≡◌, ℕ, suc, ◌+◌, Bool, true, false, List, [], ◌∷◌, length, get_or, slice_get, drop, Option, None, Some, refl, sym, ap, ◌∙◌, arith}
use Rattle.std.specs.Prelude.{if◌then◌else◌, unwrap_or}
use Rattle.std.proofs.lemmas.List.{set-get_or}
use Rattle.std.proofs.lemmas.Option.{get_or_from_slice_get}
use Rattle.rd_base.proofs.Lists.{drop-at}
use Rattle.rd_base.specs.declared.class.Class.{Class}
use Rattle.rd_base.specs.declared.class.Class.TheVariants.{L, ON}
use Rattle.rd_base.specs.declared.line.Seq.{Seq}
use Rattle.rd_ucd.specs.declared.spans.BracketEntry.{BracketEntry}
use Rattle.rd_resolve.specs.Places.{types_at, put_at}
use Rattle.rd_brackets.specs.Pairs.{bd14_bd15_role, roles, bd16_pairs_from, bd16_pairs_of, closings}
use Rattle.rd_brackets.specs.Sides.{n0_with_pairs, n0_with_marks, n0_bracket_types, codes_at, embedding_of, n0_brackets_in}
use Rattle.rd_brackets.specs.Matchings.{all_pairs}
use Rattle.rd_brackets.specs.declared.role.Role.{Role}
use Rattle.rd_brackets.specs.declared.role.Role.TheVariants.{Other}
use Rattle.rd_brackets.specs.declared.matching.Opened.{Opened}
use Rattle.rd_brackets.specs.declared.matching.Pair.{Pair}
use Rattle.rd_brackets.specs.declared.matching.Matching.{Matching}
use Rattle.rd_brackets.proofs.Closings.{none-taken, none-marked}

-- what is left begins with the role that was read
pub roles-read : (entries : List BracketEntry) (is : List ℕ) (k i : ℕ) (ts : List Class) (codes : List ℕ) (class : Class) → slice_get is k ≡ Some i
    → slice_get ts i ≡ Some class
    → roles entries (types_at (drop k is) ts) (codes_at (drop k is) codes) ≡ bd14_bd15_role entries class (get_or codes i 0) ∷ roles entries (types_at (drop (k + 1) is) ts) (codes_at (drop (k + 1) is) codes)
roles-read entries is k i ts codes class read here =
    let front : drop k is ≡ i ∷ drop (k + 1) is = drop-at is k i read in
    ap (λ js. roles entries (types_at js ts) (codes_at js codes)) front
    ∙ ap (λ c. bd14_bd15_role entries c (get_or codes i 0) ∷ roles entries (types_at (drop (k + 1) is) ts) (codes_at (drop (k + 1) is) codes)) (get_or_from_slice_get ts i class L here)

module _ (old new : Matching) (place : ℕ) (role : Role) (goes_on : Bool)
    (added : (rs : List Role) → all_pairs old place (role ∷ rs) ≡ (if goes_on then all_pairs new (suc place) rs else None)) where
  pub pairs-next : goes_on ≡ true → (all rs : List Role) (whole : Option (List Pair)) → all ≡ role ∷ rs → all_pairs old place all ≡ whole → all_pairs new (place + 1) rs ≡ whole
  pairs-next on all rs whole read is =
      let next : place + 1 ≡ suc place = omega arith in
      ap (λ n. all_pairs new n rs) next ∙ sym (added rs ∙ ap (λ b. if b then all_pairs new (suc place) rs else None) on)
      ∙ sym (ap (all_pairs old place) read) ∙ is

  pub no-pairs : goes_on ≡ false → (all rs whole : List Role) → all ≡ role ∷ rs → all_pairs old place all ≡ bd16_pairs_from 0 [] whole → bd16_pairs_of whole ≡ []
  no-pairs off all rs whole read is =
      let none : bd16_pairs_from 0 [] whole ≡ None = sym is ∙ ap (all_pairs old place) read ∙ added rs ∙ ap (λ b. if b then all_pairs new (suc place) rs else None) off in
      ap (λ o. unwrap_or o []) none

put-same : (is : List ℕ) (ts : List Class) → put_at is (types_at is ts) ts ≡ ts
put-same [] ts = refl
put-same (i ∷ is) ts = ap (put_at is (types_at is ts)) (set-get_or ts i L) ∙ put-same is ts

-- without pairs the types of the line stay
pub without-pairs : (entries : List BracketEntry) (embedding sos : Class) (is : List ℕ) (cs : List Class) (codes : List ℕ) (ts : List Class)
    → bd16_pairs_of (roles entries (types_at is ts) codes) ≡ [] → put_at is (n0_bracket_types entries embedding sos cs codes (types_at is ts)) ts ≡ ts
without-pairs entries embedding sos is cs codes ts none =
    let us = types_at is ts in
    ap (λ pairs. put_at is (n0_with_marks None cs us (n0_with_pairs embedding sos 0 (closings pairs (length us)) us)) ts) none
    ∙ ap (λ vs. put_at is (n0_with_marks None cs us vs) ts) (none-taken embedding sos 0 0 (length us) us)
    ∙ ap (λ vs. put_at is vs ts) (none-marked cs us)
    ∙ put-same is ts

no-role : (t : Class) (code : ℕ) → bd14_bd15_role [] t code ≡ Other
no-role ON code = refl
no-role t code = refl

no-roles : (place : ℕ) (os : List Opened) (ts : List Class) (codes : List ℕ) → bd16_pairs_from place os (roles [] ts codes) ≡ Some []
no-roles place os [] codes = refl
no-roles place os (t ∷ ts) [] = refl
no-roles place os (t ∷ ts) (code ∷ codes) = ap (λ r. bd16_pairs_from place os (r ∷ roles [] ts codes)) (no-role t code) ∙ no-roles (suc place) os ts codes

-- without brackets there are no pairs
pub without-brackets : (cs : List Class) (codes levels : List ℕ) (s : Seq) (ts : List Class) → n0_brackets_in [] cs codes levels s ts ≡ ts
without-brackets cs codes levels s ts =
    let is = s.indexes in
    without-pairs [] (embedding_of is levels) s.sos is (types_at is cs) (codes_at is codes) ts
    (ap (λ o. unwrap_or o []) (no-roles 0 [] (types_at is ts) (codes_at is codes)))
