-- The end of a text that was put in is a position.
use Rattle.std.proofs.Common.{◌≡◌, ℕ, ◌+◌, ◌≤◌, Some, Ok, List, length, arith}
use Rattle.std.specs.Prelude.{String, slice_get}
use Rattle.std.specs.Map.{values_of}
use Rattle.std.specs.declared.alloc.Global.{Global}
use Rattle.rd_base.specs.declared.limits.TheConstants.{LAST_POSITION}
use Rattle.rd_objects.specs.Things.{ObjectLists}
use Rattle.rd_state.specs.Edits.{insertion}
use Rattle.rd_state.specs.States.{ContentValue, buffers_of}
use Rattle.rd_state.specs.Valid.{AreBuffers}
use Rattle.rd_state.proofs.ByName.{name_at, there}
use Rattle.rd_state.proofs.Stepping.{insertion-means}

pub inserted-small : (o : ObjectLists) (es : List (String Global × ContentValue)) (i : ℕ) (b d : ContentValue) → AreBuffers o (buffers_of es) → slice_get (values_of es) i ≡ Some b
    → (pos : ℕ) (new : List ℕ) → insertion pos new b ≡ Ok d → pos + length new ≤ LAST_POSITION
inserted-small o es i b d valid at pos new h =
    let text = (valid.contents i (record { name = name_at es i; content = b }) (there es i b at)).text in
    let means = insertion-means pos new b d h in
    let last = text.last in
    let high = means.0.1 in
    let room = means.1 in
    omega arith
