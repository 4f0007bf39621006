use Rattle.std.proofs.Common.{◌≡◌, ◌++◌, ◌∷◌, [], List, ℕ, length, ap, ◌∙◌}
use Rattle.std.specs.Prelude.{string_bytes}
use Rattle.rd_state.specs.States.{ContentValue, buffers_of, number_of}
use Rattle.rd_state.proofs.ByName.{added}
use Rattle.rd_state.proofs.buffers.add.Goals as goal

pub returns-clause-ok : goal.returns-clause-ok
returns-clause-ok c =
    let es = c.args.buffers.now.entries in
    let key = c.into_string.result in
    let buffer = c.in_ok-buffer.buffer in
    let name : string_bytes key ≡ c.args.name = c.into_string.ensures in
    let free : number_of (string_bytes key) (buffers_of es) ≡ length (buffers_of es) = ap (λ n. number_of n (buffers_of es)) name ∙ c.requires in
    ap buffers_of c.in_ok-insert.ensures.entries
    ∙ (added es key buffer free
    ∙ (ap (λ (n : List ℕ). buffers_of es ++ record { name = n; content = buffer } ∷ []) name
    ∙ ap (λ (b : ContentValue). buffers_of es ++ record { name = c.args.name; content = b } ∷ []) c.in_ok-buffer.ensures))
