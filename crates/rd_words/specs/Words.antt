-- The words of the command line, and what they say.
use Rattle.std.specs.Prelude.{ℕ, ◌==◌, ◌&&◌, Bool, true, false, not, nat_le, if◌then◌else◌, List, [], ◌∷◌, ◌++◌, find, slice_get, Option, None, Some, is_some, option_map, option_and_then, codes}
use Rattle.std.specs.List.{list_any}
use Rattle.std.specs.Option.{option_map_or}
use Rattle.std.specs.Str.{all_ascii_digits, bytes_eq, chars}
use Rattle.std.specs.Str.Parse.{digits_value, without_leading_plus}
use Rattle.rd_base.specs.Cuts.{cut}
use Rattle.rd_base.specs.declared.limits.TheConstants.{GENERATED_NUMBER}

abbrev pub Text : Type 0
Text = List ℕ

-- what the words can set: three files, the number of a generated script, and that dumps are asked for
pub data Setting : Type 0 where
  class_file : Setting
  mirror_file : Setting
  bracket_file : Setting
  generate : Setting
  dump : Setting

abbrev pub settings : List Setting
settings = class_file ∷ mirror_file ∷ bracket_file ∷ generate ∷ dump ∷ []

abbrev pub name_of : Setting → Text
name_of class_file = codes "data"
name_of mirror_file = codes "mirror"
name_of bracket_file = codes "brackets"
name_of generate = codes "generate"
name_of dump = codes "dump"

abbrev pub named : Text → Option Setting
named name = find (λ s. bytes_eq (name_of s) name) settings

-- all but the flag have a value
abbrev pub has_value : Setting → Bool
has_value dump = false
has_value s = true

-- one use of a setting, with its value; that of the flag is `true`
abbrev pub Use : Type 0
Use = Setting × Text

-- a hyphen and a character behind it: such a word is no value
abbrev pub is_flag : Text → Bool
is_flag [] = false
is_flag (c ∷ cs) = c == 45 && is_some (slice_get (chars cs) 0)

-- what stands before a first `=` (61), and what stands behind it; the whole text where it has none
abbrev pub name_and_value : Text → Text × Option Text
name_and_value text = option_map_or (λ parts. (parts.0, Some parts.1)) (cut 61 text) (text, None)

-- what stands behind two hyphens (45), where something does
abbrev pub behind_hyphens : Text → Option Text
behind_hyphens (a ∷ b ∷ c ∷ cs) = if a == 45 && b == 45 then Some (c ∷ cs) else None
behind_hyphens word = None

-- the name and the value in a word `--name` or `--name=VALUE`
abbrev pub named_in : Text → Option (Text × Option Text)
named_in word = option_map name_and_value (behind_hyphens word)

abbrev pub with_use : Use → Option (List Use) → Option (List Use)
with_use u us = option_map (λ rest. u ∷ rest) us

-- Uses that begin with a word `--name` or `--name=VALUE`: the value of a setting stands in the word or is the next word, and a flag
-- has none. What follows is read by `after`, or behind a name whose value is still to come by `awaiting`.
abbrev pub begun : Option Setting → Option Text → Option (List Use) → (Setting → Option (List Use)) → Option (List Use)
begun None value after awaiting = None
begun (Some s) (Some value) after awaiting = if has_value s then with_use (s, value) after else None
begun (Some s) None after awaiting = if has_value s then awaiting s else with_use (s, codes "true") after

-- a last word `--` says nothing
abbrev pub last : List Text → Option (List Use)
last [] = Some []
last words = None

-- the uses that the words are, where the first word is the value of a setting that waits for it
abbrev pub uses_from : Option Setting → List Text → Option (List Use)
uses_from None [] = Some []
uses_from (Some s) [] = None
uses_from (Some s) (word ∷ words) = if is_flag word then None else with_use (s, word) (uses_from None words)
uses_from None (word ∷ words) =
    if bytes_eq word (45 ∷ 45 ∷ [])
    then last words
    else option_and_then (λ p. begun (named p.0) p.1 (uses_from None words) (λ s. uses_from (Some s) words)) (named_in word)

-- decimal digits, one or more
abbrev pub is_decimal : Text → Bool
is_decimal [] = false
is_decimal digits = all_ascii_digits digits

-- the number of a generated script: decimal digits, before which a plus may stand, of at most `GENERATED_NUMBER`
abbrev pub is_number : Text → Bool
is_number text =
    is_decimal (without_leading_plus text) && nat_le (digits_value 10 (without_leading_plus text)) GENERATED_NUMBER

abbrev pub number_of : Text → Option ℕ
number_of text = if is_number text then Some (digits_value 10 (without_leading_plus text)) else None

abbrev pub is_of : Setting → Use → Bool
is_of s u = bytes_eq (name_of u.0) (name_of s)

abbrev pub is_used : Setting → List Use → Bool
is_used s uses = list_any (is_of s) uses

abbrev pub value_of : Setting → List Use → Option Text
value_of s uses = option_map (λ u. u.1) (find (is_of s) uses)

-- whether a setting was used with the value `true`, as the flag is
abbrev pub is_true : Option Text → Bool
is_true value = option_map_or (λ text. bytes_eq text (codes "true")) value false

abbrev pub is_in_form : Use → Bool
is_in_form (generate, text) = is_number text
is_in_form u = true

-- a use may stand behind others: its setting has no other use, and its value is in form
abbrev pub fits : List Use → Use → Bool
fits before u = not (is_used u.0 before) && is_in_form u

-- what the words say
pub record WordValues : Type 0 where
  pub class_file : Text
  pub mirror_file : Text
  pub bracket_file : Option Text
  pub generate : Option ℕ
  pub dumps : Bool

-- the class file and the mirror file have to be named
abbrev pub values_by : Option Text → Option Text → Option Text → Option Text → Bool → Option WordValues
values_by (Some classes) (Some mirrors) brackets number dumps = Some (record {
  class_file = classes;
  mirror_file = mirrors;
  bracket_file = brackets;
  generate = option_and_then number_of number;
  dumps = dumps;
})
values_by classes mirrors brackets number dumps = None

abbrev pub values_in : List Use → Option WordValues
values_in uses =
    values_by (value_of class_file uses) (value_of mirror_file uses) (value_of bracket_file uses) (value_of generate uses) (is_true (value_of dump uses))

-- what uses say that stand behind those of `before`
abbrev pub values_from : List Use → List Use → Option WordValues
values_from before [] = values_in before
values_from before (u ∷ uses) = if fits before u then values_from (before ++ u ∷ []) uses else None

-- what the words say, and None where they are faulty
abbrev pub values_of : List Text → Option WordValues
values_of words = option_and_then (values_from []) (uses_from None words)
