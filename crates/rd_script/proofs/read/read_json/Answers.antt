use Rattle.std.proofs.Common.{sym, true≢false}
use Rattle.rd_script.proofs.Json.{json_of-value, json_of-none}
use Rattle.rd_script.proofs.read.read_json.Goals as goal

pub returns-in-Ok : goal.returns-in-Ok
returns-in-Ok c = json_of-value _ _ c.in-Ok.ensures.ok.0 c.in-Ok.ensures.ok.1

pub returns-else-is_memory : goal.returns-else-is_memory
returns-else-is_memory c = json_of-none _ (c.in-Err.ensures.err (λ e. true≢false (sym (c.if-is_memory.ensures.1 e))))
