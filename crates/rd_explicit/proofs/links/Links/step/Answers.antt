use Rattle.std.proofs.Common.{◌≡◌, ◌<◌, ◌+◌, ◌&&◌, true, false, length, drop, set, max, IfSome, is_none, ap, sym, ◌∙◌, refl, arith}
use Rattle.std.proofs.lemmas.Option.{IfSome_then}
use Rattle.rd_base.specs.Classes.{is_initiator, direction_of}
use Rattle.rd_explicit.specs.declared.links.Link.{Link}
use Rattle.rd_explicit.specs.Follow.{bd13_follower, x10_level_behind}
use Rattle.rd_explicit.specs.Links.{beginning, without_beginning}
use Rattle.rd_explicit.proofs.Joining.{joins-removed, joins-item, follows-within, beginning-within, leads-on}
use Rattle.rd_explicit.proofs.links.Links.step.Goals as goal

pub returns-then-x9_is_removed-clause-joins : goal.returns-then-x9_is_removed-clause-joins
returns-then-x9_is_removed-clause-joins c =
    let line = c.args.line.now in
    let rest = c.bd9_partner.ensures.rest in
    joins-removed line.base c.args.i line.classes line.levels c.at-class.result c.at-level.result c.args.self.now _
    c.requires.within line.same_levels c.at-class.ensures c.at-level.ensures c.requires.links c.requires.begins c.requires.joins
    (c.in_ok-partner.ensures.pdis (drop (c.args.i + 1) line.classes) c.requires.joins.pdis)
    (sym c.x9_is_removed.ensures ∙ c.if-x9_is_removed.true) rest.links (c.set.ensures ∙ ap (λ bs. set bs c.args.i false) rest.begins) rest.first

pub bd13_lead_on-next-requires : goal.bd13_lead_on-next-requires
bd13_lead_on-next-requires c =
    let line = c.args.line.now in
    let rest = c.bd9_partner.ensures.rest in
    let size = sym (ap length rest.begins ∙ c.requires.begins) in
    IfSome_then c.bd13_follower.result
    (follows-within line.base c.args.i c.at-level.result c.at-class.result line.classes line.levels c.args.self.now c.in_ok-partner.partner c.bd13_follower.result
    c.requires.within c.requires.joins (c.in_ok-partner.ensures.partner (drop (c.args.i + 1) line.classes) c.requires.joins.pdis)
    (c.bd13_follower.ensures ∙ ap (λ o. bd13_follower o c.at-level.result c.in_ok-partner.partner) rest.first))
    (λ w lies. let less = lies.1 in omega arith)

pub returns-clause-leads : goal.returns-clause-leads
returns-clause-leads c =
    let line = c.args.line.now in
    let rest = c.bd9_partner.ensures.rest in
    let behind = follows-within line.base c.args.i c.at-level.result c.at-class.result line.classes line.levels c.args.self.now c.in_ok-partner.partner c.bd13_follower.result
    c.requires.within c.requires.joins (c.in_ok-partner.ensures.partner (drop (c.args.i + 1) line.classes) c.requires.joins.pdis)
    (c.bd13_follower.ensures ∙ ap (λ o. bd13_follower o c.at-level.result c.in_ok-partner.partner) rest.first) in
    let next : IfSome c.bd13_lead_on-next.result (λ w. (c.args.i < w) × (w < length line.classes)) =
    rw c.bd13_lead_on-next.ensures.next (beginning-within c.args.i (length line.classes) c.bd13_follower.result _ behind) in
    let within : c.args.i < length c.args.self.now.links = rw c.requires.links c.requires.within in
    rw (c.set-3.ensures, c.bd13_lead_on-next.ensures.links, rest.links) (leads-on (length line.classes) c.args.self.now.links c.args.i _ c.requires.leads within next)

pub returns-clause-joins : goal.returns-clause-joins
returns-clause-joins c =
    let line = c.args.line.now in
    let rest = c.bd9_partner.ensures.rest in
    let f = c.bd13_follower.result in
    let l = c.at-level.result in
    let partner = c.in_ok-partner.partner in
    let k : Link = record { next = c.bd13_lead_on-next.result; eos = c.of_level.result } in
    let eos : c.of_level.result ≡ direction_of (max l (x10_level_behind c.args.self.now.first line.base (is_initiator c.at-class.result && is_none partner))) =
    rw (c.of_level.ensures, c.max.ensures, c.x10_level_behind-after.ensures, c.is_unmatched.ensures, c.bd13_lead_on-next.ensures.first, rest.first) refl in
    joins-item line.base c.args.i line.classes line.levels c.at-class.result l c.args.self.now _
    c.requires.within line.same_levels c.at-class.ensures c.at-level.ensures c.requires.links c.requires.begins c.requires.joins
    (c.bd13_lead_on-next.ensures.pdis ∙ c.in_ok-partner.ensures.pdis (drop (c.args.i + 1) line.classes) c.requires.joins.pdis)
    partner f k (sym c.x9_is_removed.ensures ∙ c.if-x9_is_removed.false)
    (c.in_ok-partner.ensures.partner (drop (c.args.i + 1) line.classes) c.requires.joins.pdis)
    (c.bd13_follower.ensures ∙ ap (λ o. bd13_follower o l partner) rest.first)
    (c.bd13_lead_on-next.ensures.next ∙ ap (beginning f) rest.begins) eos
    (c.set-3.ensures ∙ ap (λ ks. set ks c.args.i k) (c.bd13_lead_on-next.ensures.links ∙ rest.links))
    (c.set-2.ensures ∙ ap (λ bs. set bs c.args.i true) (c.bd13_lead_on-next.ensures.begins ∙ ap (without_beginning f) rest.begins))
    refl
