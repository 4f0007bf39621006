use Rattle.std.proofs.Common.{◌≡◌, Some, IsTrue, rules, subst}
use Rattle.std.specs.Prelude.{IfSome}
use Rattle.rd_objects.specs.Tables.{entry_glyphs, is_glyph_text}
use Rattle.rd_objects.proofs.Entries.{entry-text}
use Rattle.rd_objects.proofs.table.Table.entry.Goals as goal

pub returns-clause-text : goal.returns-clause-text
returns-clause-text c =
    let value : entry_glyphs c.args.self.now.entries c.args.code ≡ Some c.as_slice-2.result.now = search rules in
    subst (λ o. IfSome o (λ text. IsTrue (is_glyph_text text))) value
    (entry-text c.args.self.now.entries c.args.code c.tables_are_valid.ensures.entries)
