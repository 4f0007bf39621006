use Rattle.std.proofs.Common.{◌≡◌, true, List, length, nat_le, subst, sym, rules}
use Rattle.std.proofs.lemmas.Bool.{and_parts}
use Rattle.std.proofs.lemmas.List.Sums.{AllPass-from_list_all}
use Rattle.std.proofs.lemmas.Result.{IfOk-weaker}
use Rattle.std.specs.List.{list_all}
use Rattle.rd_base.proofs.Lists.{all-at}
use Rattle.rd_base.specs.declared.cell.Glyph.{Glyph}
use Rattle.rd_objects.specs.Tables as tables
use Rattle.rd_script.specs.Forms.{is_glyph, is_glyph_text}
use Rattle.rd_state.specs.Making.{glyph_of}
use Rattle.rd_state.proofs.Slots.{text-right}
use Rattle.rd_state.proofs.table.glyphs.Goals as goal

pub mapped-requires : goal.mapped-requires
mapped-requires c = λ i x at _ _ _ _ _.
    let text = c.args.text.now in
    all-at (λ ch. is_glyph ch ≡ true) text i x.now (AllPass-from_list_all is_glyph text (and_parts (nat_le (length text) 16) (list_all is_glyph text) c.requires).1) at

pub returns-clause-value : goal.returns-clause-value
returns-clause-value c = c.mapped.ensures glyph_of (λ x y told. search rules)

pub returns-clause-right : goal.returns-clause-right
returns-clause-right c =
    IfOk-weaker c.mapped.result _ _ (λ list is. subst (λ (glyphs : List Glyph). tables.is_glyph_text glyphs ≡ true) (sym is) (text-right c.args.text.now c.requires)) (returns-clause-value c)
