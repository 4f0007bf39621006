use Rattle.std.proofs.Common.{◌≡◌, Bool, ◌&&◌, ◌||◌, List, ◌++◌, ℕ, sym, ap, ◌∙◌}
use Rattle.std.specs.List.{list_all}
use Rattle.rd_text.specs.Texts.{is_blank}
use Rattle.rd_text.specs.Stretches.{opens, summary}
use Rattle.rd_text.specs.declared.stretch.Stretch.{Stretch}
use Rattle.rd_text.proofs.Summaries.{opens-append}
use Rattle.rd_text.proofs.stretch.Stretch.opens_before.Goals as goal

-- whether codes with more behind them open, by what is kept of the codes and whether what follows opens
opens-before : (s : Stretch) (codes rest : List ℕ) (opened : Bool) → s ≡ summary codes → opens rest ≡ opened → opens (codes ++ rest) ≡ (s.opens || (s.blank && opened))
opens-before s codes rest opened is e =
    opens-append codes rest ∙ ap (λ (b : Bool). opens codes || (list_all is_blank codes && b)) e ∙ ap (λ (t : Stretch). t.opens || (t.blank && opened)) (sym is)

pub returns-then-self : goal.returns-then-self
returns-then-self c codes rest is e =
    let s = c.args.self.now in
    opens-before s codes rest c.args.opened is e ∙ ap (λ (b : Bool). b || (s.blank && c.args.opened)) c.if-self.true ∙ sym c.if-self.true

pub returns-then-self-2 : goal.returns-then-self-2
returns-then-self-2 c codes rest is e =
    let s = c.args.self.now in
    opens-before s codes rest c.args.opened is e ∙ ap (λ (b : Bool). b || (s.blank && c.args.opened)) c.if-self.false ∙ ap (λ (b : Bool). b && c.args.opened) c.if-self-2.true

pub returns-else-self-2 : goal.returns-else-self-2
returns-else-self-2 c codes rest is e =
    let s = c.args.self.now in
    opens-before s codes rest c.args.opened is e ∙ ap (λ (b : Bool). b || (s.blank && c.args.opened)) c.if-self.false ∙ ap (λ (b : Bool). b && c.args.opened) c.if-self-2.false ∙ sym c.if-self-2.false
