-- States on which the definitions are worked out.
use Rattle.std.specs.Prelude.{Result, Ok, Err, List, [], ◌∷◌}
use Rattle.rd_text.specs.Texts.{TextValue}
use Rattle.rd_script.specs.declared.op.Op.{Op}
use Rattle.rd_state.specs.declared.refused.Refused.{Refused}
use Rattle.rd_state.specs.States.{StateValue, opening}
use Rattle.rd_state.specs.Steps.{step}
use Rattle.rd_state.specs.Windows.{selected_window, shown_content}

-- what a step makes of what was reached, and of it by ops, one after the other, or the first refusal
abbrev pub then_by : {S : Type 0} → (S → Op → Result S Refused) → Result S Refused → Op → Result S Refused
then_by stepped (Err refusal) op = Err refusal
then_by stepped (Ok s) op = stepped s op

abbrev pub all_by : {S : Type 0} → (S → Op → Result S Refused) → Result S Refused → List Op → Result S Refused
all_by stepped r [] = r
all_by stepped r (op ∷ ops) = all_by stepped (then_by stepped r op) ops

-- the state after ops
abbrev pub after : List Op → Result StateValue Refused
after ops = all_by step (Ok opening) ops

-- what is asked of a state or a session, where ops lead to it
abbrev pub told : {S A : Type 0} → (S → A) → Result S Refused → Result A Refused
told f (Err refusal) = Err refusal
told f (Ok s) = Ok (f s)

-- the selected window's buffer
abbrev pub shown_text : StateValue → TextValue
shown_text s = (shown_content s (selected_window s)).text
