-- What a line says is never want of memory.
use Rattle.std.proofs.Common.{ℕ, Option, None, Some, List, ◌∷◌, refl, ok_or, if◌then◌else◌}
use Rattle.std.specs.Str.{is_utf8}
use Rattle.serde_json.specs.Data.{Members}
use Rattle.serde_json.specs.Find.{get_member, as_str, as_object}
use Rattle.serde_json.specs.Read.{read}
use Rattle.rd_script.specs.declared.fault.OpFault.TheVariants.{Memory, NotJson, NotObject, NoSuchOp}
use Rattle.rd_script.specs.declared.name.Name.{Name}
use Rattle.rd_script.specs.declared.op.Op.{Op}
use Rattle.rd_script.specs.Fields.{and_then}
use Rattle.rd_script.specs.Reading.{op_key, reading, reading_name, reading_row, reading_members, object_of, json_of, closed, extra_key, unless_extra}
use Rattle.rd_script.specs.Table.{row, name_of}
use Rattle.rd_base.proofs.Choices.{IsFreeOf, goes-on-free, ok-free}
use Rattle.rd_script.proofs.InForm.{ok_or-free, required_of-free, row-gives}

unless_extra-free : (key : Option (List ℕ)) (op : Op) → IsFreeOf Memory (unless_extra key op)
unless_extra-free None op = ok-free op
unless_extra-free (Some key) op = λ e. cc

row-is_free : (ms : Members) (n : Name) → IsFreeOf Memory (reading_row ms n)
row-is_free ms n = goes-on-free (and_then (closed (op_key ∷ (row n).keys) ms)) ((row n).taken ms) (λ e. refl)
    (λ op e. unless_extra-free (extra_key (op_key ∷ (row n).keys) ms) op) ((row-gives n).free ms)

name-free : (ms : Members) → IsFreeOf Memory (reading_name ms)
name-free ms = goes-on-free (and_then (λ text. ok_or (name_of text) NoSuchOp)) _ (λ e. refl)
    (λ text e. ok_or-free NoSuchOp (name_of text) (λ e. cc)) (required_of-free op_key as_str (get_member op_key ms))

object_of-free : (line : List ℕ) → IsFreeOf Memory (object_of line)
object_of-free line = goes-on-free (and_then (λ d. ok_or (as_object d) NotObject)) (json_of line) (λ e. refl)
    (λ d e. ok_or-free NotObject (as_object d) (λ e. cc)) (ok_or-free NotJson (if is_utf8 line then read line else None) (λ e. cc))

pub reading-free : (line : List ℕ) → IsFreeOf Memory (reading line)
unfolding reading
reading-free line = goes-on-free (and_then reading_members) (object_of line) (λ e. refl)
    (λ ms e. goes-on-free (and_then (reading_row ms)) (reading_name ms) (λ e. refl) (λ n e. row-is_free ms n) (name-free ms)) (object_of-free line)
