use Rattle.std.proofs.Common.{◌≡◌}
use Rattle.serde_json.specs.View.{members_view}
use Rattle.rd_script.specs.Reading.{extra_key}
use Rattle.rd_script.proofs.asked.Asked.extra_key.Given as goal

abbrev pub invariant-loop-key : goal.invariant-loop-key
invariant-loop-key l = extra_key l.fn.self.keys (members_view l.fn.self.members) ≡ extra_key l.fn.self.keys (members_view l.key-iterator)
