-- What a line of a script says: an op, or the first fault.
use Rattle.std.specs.Prelude.{ℕ, ◌||◌, Bool, false, bytes_eq, if◌then◌else◌, List, [], ◌∷◌, Option, None, Some, ok_or, Result, Ok, Err, codes}
use Rattle.std.specs.Str.{chars, is_utf8}
use Rattle.serde_json.specs.Data.{Data, Members, no_members, member}
use Rattle.serde_json.specs.Find.{get_member, as_object, as_str}
use Rattle.serde_json.specs.Read.{read}
use Rattle.rd_script.specs.declared.fault.OpFault.{OpFault}
use Rattle.rd_script.specs.declared.fault.OpFault.TheVariants.{NotJson, NotObject, NoSuchOp, Extra}
use Rattle.rd_script.specs.declared.name.Name.{Name}
use Rattle.rd_script.specs.declared.op.Op.{Op}
use Rattle.rd_script.specs.Fields.{Fields, and_then, required_of}
use Rattle.rd_script.specs.Table.{name_of, row}

-- the value that a line is in JSON, where its bytes are UTF-8
abbrev pub json_of : List ℕ → Result Data OpFault
json_of line = ok_or (if is_utf8 line then read line else None) NotJson

-- the key of the op that an object says
abbrev pub op_key : List ℕ
op_key = codes "op"

-- which op an object says
abbrev pub reading_name : Members → Result Name OpFault
reading_name ms = and_then (λ text. ok_or (name_of text) NoSuchOp) (required_of op_key as_str (get_member op_key ms))

abbrev pub is_among : List (List ℕ) → List ℕ → Bool
is_among [] key = false
is_among (k ∷ ks) key = bytes_eq key k || is_among ks key

-- the first key that is not among these; members stand in the byte order of their keys
abbrev pub extra_key : List (List ℕ) → Members → Option (List ℕ)
extra_key keys no_members = None
extra_key keys (member key d ms) = if is_among keys key then extra_key keys ms else Some key

abbrev pub unless_extra : {T : Type 0} → Option (List ℕ) → T → Result T OpFault
unless_extra None op = Ok op
unless_extra (Some key) op = Err (Extra (chars key))

-- an op, unless its object has a key that is not among these
abbrev pub closed : {T : Type 0} → List (List ℕ) → Members → T → Result T OpFault
closed keys ms op = unless_extra (extra_key keys ms) op

-- an op by the fields of its row, beside which there is only the key `op`
abbrev pub reading_fields : Members → Fields Op → Result Op OpFault
reading_fields ms fields = and_then (closed (op_key ∷ fields.keys) ms) (fields.taken ms)

abbrev pub reading_row : Members → Name → Result Op OpFault
reading_row ms name = reading_fields ms (row name)

-- the object that a line is
abbrev pub object_of : List ℕ → Result Members OpFault
object_of line = and_then (λ d. ok_or (as_object d) NotObject) (json_of line)

-- what an object says
abbrev pub reading_members : Members → Result Op OpFault
reading_members ms = and_then (reading_row ms) (reading_name ms)

-- what a line says
unfoldable pub reading : List ℕ → Result Op OpFault
reading line = and_then reading_members (object_of line)
