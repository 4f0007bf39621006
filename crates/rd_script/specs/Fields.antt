-- Fields of an object: which keys are asked for, and what is read of their values.
use Rattle.std.specs.Prelude.{ℕ, ◌≡◌, ◌&&◌, Bool, ℤ, nat_le, bytes_eq, if◌then◌else◌, List, [], ◌∷◌, ◌++◌, Option, None, Some, option_and_then, option_map, is_some, unwrap_or, ok_or, Result, Ok, Err, OnOk, String, codes}
use Rattle.std.specs.Option.{option_zip}
use Rattle.std.specs.Str.{chars}
use Rattle.std.specs.declared.alloc.Global.{Global}
use Rattle.serde_json.specs.Data.{Data, Items, no_items, item, Members}
use Rattle.serde_json.specs.Events.{items_len}
use Rattle.serde_json.specs.Find.{get_member, as_null, as_number, as_u64, as_i64, as_str, as_array}
use Rattle.serde_json.specs.View.{members_view}
use Rattle.serde_json.specs.declared.value.Value.{Value}
use Rattle.rd_script.specs.declared.fault.OpFault.{OpFault}
use Rattle.rd_script.specs.declared.fault.OpFault.TheVariants.{Missing, BadField, Memory}
use Rattle.rd_script.specs.Forms.{is_text, is_plain_text, is_buffer_name}
use Rattle.rd_script.specs.Numbers.{is_near_zero}

-- ---- kinds of values

abbrev pub kept_if : {T : Type 0} → (T → Bool) → T → Option T
kept_if test x = if test x then Some x else None

-- a whole number of a range, both ends of which count
abbrev pub within : ℕ → ℕ → Data → Option ℕ
within least greatest d = option_and_then (kept_if (λ n. nat_le least n && nat_le n greatest)) (option_and_then as_u64 (as_number d))

-- a whole number of 64 bits
abbrev pub whole : Data → Option ℕ
whole = within 0 18446744073709551615

-- a whole number that may be below 0, from one of this size below 0 up to the same above
abbrev pub signed : ℤ → Data → Option ℤ
signed most d = option_and_then (kept_if (is_near_zero most)) (option_and_then as_i64 (as_number d))

-- a text, as the list of its characters
abbrev pub text : Data → Option (List ℕ)
text d = option_and_then (kept_if is_text) (option_map chars (as_str d))

-- a text that a mode line or the echo area can show
abbrev pub plain_text : Data → Option (List ℕ)
plain_text d = option_and_then (kept_if is_plain_text) (option_map chars (as_str d))

-- a buffer's name, as its bytes in UTF-8
abbrev pub buffer_name : Data → Option (List ℕ)
buffer_name d = option_and_then (kept_if is_buffer_name) (as_str d)

-- what stands beside a text in a list
abbrev pub beside : {T : Type 0} → List (List ℕ × T) → List ℕ → Option T
beside [] name = None
beside (entry ∷ entries) name = if bytes_eq name entry.0 then Some entry.1 else beside entries name

-- a word of a list, and what it stands for
abbrev pub word : {T : Type 0} → List (List ℕ × T) → Data → Option T
word words d = option_and_then (beside words) (as_str d)

-- an item and those behind it, where there are both
abbrev pub consed : {T : Type 0} → Option T → Option (List T) → Option (List T)
consed (Some x) (Some xs) = Some (x ∷ xs)
consed (Some x) None = None
consed None xs = None

-- what each item of an array is, where all are of this kind
abbrev pub each_item : {T : Type 0} → (Data → Option T) → Items → Option (List T)
each_item kind no_items = Some []
each_item kind (item d ds) = consed (kind d) (each_item kind ds)

-- an array of at most so many items of a kind
abbrev pub list_of : {T : Type 0} → ℕ → (Data → Option T) → Data → Option (List T)
list_of most kind d = option_and_then (each_item kind) (option_and_then (kept_if (λ ds. nat_le (items_len ds) most)) (as_array d))

-- an array of items of a kind
abbrev pub items_of : {T : Type 0} → (Data → Option T) → Data → Option (List T)
items_of kind d = option_and_then (each_item kind) (as_array d)

-- an array of two items of these kinds
abbrev pub two_items_of : {A B : Type 0} → (Data → Option A) → (Data → Option B) → Items → Option (A × B)
two_items_of first second (item d (item e no_items)) = option_zip (first d) (second e)
two_items_of first second ds = None

abbrev pub two_items : {A B : Type 0} → (Data → Option A) → (Data → Option B) → Data → Option (A × B)
two_items first second d = option_and_then (two_items_of first second) (as_array d)

-- an array of four
abbrev pub four_items_of : {A B C D : Type 0} → (Data → Option A) → (Data → Option B) → (Data → Option C) → (Data → Option D) → Items → Option (A × (B × (C × D)))
four_items_of a b c d (item w (item x (item y (item z no_items)))) = option_zip (a w) (option_zip (b x) (option_zip (c y) (d z)))
four_items_of a b c d ds = None

abbrev pub four_items : {A B C D : Type 0} → (Data → Option A) → (Data → Option B) → (Data → Option C) → (Data → Option D) → Data → Option (A × (B × (C × D)))
four_items a b c d e = option_and_then (four_items_of a b c d) (as_array e)

-- ---- fields

-- keys, and what is read of the members of an object at these keys
pub record Fields (T : Type 0) : Type 0 where
  pub keys : List (List ℕ)
  pub taken : Members → Result T OpFault

abbrev pub or_bad : {T : Type 0} → List ℕ → Option T → Result T OpFault
or_bad key o = ok_or o (BadField (chars key))

abbrev pub required_of : {T : Type 0} → List ℕ → (Data → Option T) → Option Data → Result T OpFault
required_of key kind None = Err (Missing (chars key))
required_of key kind (Some d) = or_bad key (kind d)

-- a member's value, where it is there and is not null
abbrev pub present : Option Data → Option Data
present None = None
present (Some d) = if is_some (as_null d) then None else Some d

abbrev pub optional_of : {T : Type 0} → List ℕ → (Data → Option T) → Option Data → Result (Option T) OpFault
optional_of key kind None = Ok None
optional_of key kind (Some d) = or_bad key (option_map Some (kind d))

-- a field that is asked for
abbrev pub required : {T : Type 0} → List ℕ → (Data → Option T) → Fields T
required key kind = record { keys = key ∷ []; taken = λ ms. required_of key kind (get_member key ms) }

-- a field that may be absent or null
abbrev pub optional : {T : Type 0} → List ℕ → (Data → Option T) → Fields (Option T)
optional key kind = record { keys = key ∷ []; taken = λ ms. optional_of key kind (present (get_member key ms)) }

abbrev pub and_then : {A B : Type 0} → (A → Result B OpFault) → Result A OpFault → Result B OpFault
and_then f (Ok a) = f a
and_then f (Err e) = Err e

-- what is made of what was read
abbrev pub made : {A B : Type 0} → (A → B) → Fields A → Fields B
made f fields = record { keys = fields.keys; taken = λ ms. and_then (λ a. Ok (f a)) (fields.taken ms) }

-- a field that may be absent or null, and then is this
abbrev pub defaulted : {T : Type 0} → T → List ℕ → (Data → Option T) → Fields T
defaulted default key kind = made (λ found. unwrap_or found default) (optional key kind)

-- fields, and then others of these keys, which may depend on what was read
abbrev pub then_by : {A B : Type 0} → Fields A → List (List ℕ) → (A → Fields B) → Fields B
then_by first keys second = record {
  keys = first.keys ++ keys;
  taken = λ ms. and_then (λ a. (second a).taken ms) (first.taken ms);
}

-- fields and then others
abbrev pub both : {A B : Type 0} → Fields A → Fields B → Fields (A × B)
both first second = then_by first second.keys (λ a. made (λ b. (a, b)) second)

-- the key of what a property or a display spec is
abbrev pub kind_key : List ℕ
kind_key = codes "kind"

-- the key of the name of a buffer or a setting
abbrev pub name_key : List ℕ
name_key = codes "name"

-- the key of the row to which a start is forced, or that is hit
abbrev pub row_key : List ℕ
row_key = codes "row"

-- the key of the side on which a split puts the new window, or to which point goes
abbrev pub side_key : List ℕ
side_key = codes "side"

-- the key of a text
abbrev pub text_key : List ℕ
text_key = codes "text"

-- the key of a value whose form depends on the field before it
abbrev pub value_key : List ℕ
value_key = codes "value"

-- a field, and then the value at that key, of a form that depends on what the field says
abbrev pub then_value : {A B : Type 0} → Fields A → (A → List ℕ → Fields B) → Fields B
then_value first form = then_by first (value_key ∷ []) (λ a. form a value_key)

-- ---- answers

-- an answer is what is said, or want of memory
abbrev pub IsRead : {T : Type 0} → Result T OpFault → Result T OpFault → Type 0
IsRead (Ok x) said = said ≡ Ok x
IsRead (Err Memory) said = Unit {0}
IsRead (Err fault) said = said ≡ Err fault

-- an answer is what is said, with its value seen as another, or want of memory
abbrev pub IsReadAs : {A T : Type 0} → (A → T) → Result A OpFault → Result T OpFault → Type 0
IsReadAs f (Ok x) said = said ≡ Ok (f x)
IsReadAs f (Err Memory) said = Unit {0}
IsReadAs f (Err fault) said = said ≡ Err fault

-- ---- asking

-- the members of an op's object, and the keys that were asked for so far
pub record Asking : Type 0 where
  pub members : List (String Global × Value)
  pub keys : List (List ℕ)

-- what is asked of an op's object, where these keys were asked for too
abbrev pub asked_too : List (List ℕ) → Asking → Asking
asked_too keys asking = record { members = asking.members; keys = asking.keys ++ keys }

-- an answer is what fields say of the members, or want of memory; where there is one their keys were asked for
abbrev pub IsTaken : {T : Type 0} → Result T OpFault → Fields T → Asking → Asking → Type 0
IsTaken result fields before after = IsRead result (fields.taken (members_view before.members)) × OnOk result (after ≡ asked_too fields.keys before)
