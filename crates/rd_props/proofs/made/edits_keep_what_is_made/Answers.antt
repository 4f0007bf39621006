use Rattle.rd_props.proofs.Names.{made-inserted, made-deleted, made-put, made-making, made-dropping, made-giving, made-moving, made-extended}
use Rattle.rd_props.proofs.made.edits_keep_what_is_made.Goals as goal

pub returns : goal.returns
returns c = record {
  inserted = λ old new objects place chars made settings edit. made-inserted old new objects made settings place chars edit;
  deleted = λ old new objects from to made settings edit. made-deleted old new objects made settings from to edit;
  put = λ old new objects kind from to value made settings all edit. made-put old new objects made settings kind from to value all edit;
  made = λ old new objects overlay made settings all edit. made-making old new objects made settings overlay all edit;
  dropped = λ old new objects number made settings edit. made-dropping old new objects made settings number edit;
  given = λ old new objects number kind value made settings all edit. made-giving old new objects made settings number kind value all edit;
  moved = λ old new objects number from to made settings edit. made-moving old new objects made settings number from to edit;
  extended = λ s old new made extends. made-extended s old new made extends;
}
