use Rattle.std.proofs.Common.{rules, ◌∙◌}
use Rattle.std.proofs.lemmas.Result.{IfOk-weaker}
use Rattle.rd_glyphs.proofs.Elements.{few-elements, of-character}
use Rattle.rd_glyphs.proofs.parts.expand.Goals as goal

pub returns : goal.returns
returns c =
    let parts = c.args.parts.now in
    let all = of-character parts c.args.ch c.args.odd c.args.face c.args.origin c.parts_are_sound.ensures (search rules) in
    let value = IfOk-weaker c.into_list.result _ _ (λ v same. same ∙ c.in_ok-expansion.ensures.value) c.into_list.ensures.value in
    record {
      value = value;
      sound = IfOk-weaker c.into_list.result _ _ (λ v same. rw same all.sound) value;
      columns = IfOk-weaker c.into_list.result _ _ (λ v same. rw same all.short) value;
      measured = IfOk-weaker c.into_list.result _ _ (λ v same. rw same all.measured) value;
      count = IfOk-weaker c.into_list.result _ _ (λ v same. rw same all.count) value;
      few = λ none. IfOk-weaker c.into_list.result _ _ (λ v same. rw same (few-elements parts c.args.ch c.args.odd c.args.face c.args.origin none)) value;
      inline = λ none. c.into_list.ensures.inline;
    }
