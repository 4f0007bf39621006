use Rattle.rd_text.proofs.Keeping.{inserted-is_text, deleted-is_text, narrowed-is_text, widened-is_text}
use Rattle.rd_text.proofs.laws.edits_keep_texts.Goals as goal

pub returns : goal.returns
returns c = record { inserted = inserted-is_text; deleted = deleted-is_text; narrowed = narrowed-is_text; widened = widened-is_text }
