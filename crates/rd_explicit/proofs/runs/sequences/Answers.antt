use Rattle.std.proofs.Common.{◌≡◌, ℕ, Bool, ◌<◌, ◌≤◌, ◌++◌, ◌∷◌, [], List, max, if◌then◌else◌, false, length, drop, get_or, ap, sym, ◌∙◌, arith}
use Rattle.std.proofs.lemmas.List.{append_assoc, append-nil, drop_all}
use Rattle.rd_base.specs.Classes.{direction_of}
use Rattle.rd_base.specs.declared.class.Class.{Class}
use Rattle.rd_base.specs.declared.line.Seq.{Seq}
use Rattle.rd_explicit.specs.declared.links.Link.{Link}
use Rattle.rd_explicit.specs.Links.{gathered, seq_at}
use Rattle.rd_explicit.proofs.Joining.{gathered-next}
use Rattle.rd_explicit.proofs.Chains.{Ascends, gathered-ascends, ascends-pairs, ascends-within}
use Rattle.rd_explicit.proofs.runs.sequences.Goals as goal

pub loop-i-preserved : goal.loop-i-preserved
loop-i-preserved c =
    let line = c.args.line.now in
    let links = c.in_ok-links.links in
    let i = c.loop-i.i in
    let l = c.at-level.result in
    let before = c.loop-i.before in
    let within : i < length line.classes = omega (arith, c.loop-i-test.true, c.len-i-end.ensures) in
    let next = gathered-next before i line.classes line.levels links.links links.begins c.at.result l within line.same_levels c.in_ok-links.ensures.links.0 c.in_ok-links.ensures.begins c.at.ensures c.at-level.ensures in
    let added : List Seq = if get_or links.begins i false then seq_at links.links i (direction_of (max l before)) ∷ [] else [] in
    let found : c.add_sequence.new.found ≡ c.loop-i.found ++ added = c.in_ok-add_sequence.ensures ∙ rw c.x10_sos.ensures in
    rw (found, c.level_behind-before.ensures) (append_assoc c.loop-i.found added _ ∙ ap (λ rest. c.loop-i.found ++ rest) (sym next) ∙ c.loop-i.invariant)

-- where nothing of the line is left, what is found ascends
ascends : (cs : List Class) (ls : List ℕ) (ks : List Link) (bs : List Bool) (base before i : ℕ) (found : List Seq) → length cs ≤ i → length ks ≤ length cs
    → found ++ gathered before i (drop i cs) (drop i ls) (drop i ks) (drop i bs) ≡ gathered base 0 cs ls ks bs
    → (k : ℕ) (d : Seq) → k < length found → Ascends 0 (length cs) (get_or found k d).indexes
ascends cs ls ks bs base before i found past fits whole =
    let done : found ≡ gathered base 0 cs ls ks bs =
    sym (ap (λ rest. found ++ gathered before i rest (drop i ls) (drop i ks) (drop i bs)) (drop_all i cs past) ∙ append-nil found) ∙ whole in
    rw done (gathered-ascends cs ls ks bs base 0 (length cs) (omega arith))

pub returns-clause-within : goal.returns-clause-within
returns-clause-within c = λ k d h j e g. (ascends-within 0 _ _ (
    ascends _ _ _ _ _ _ c.loop-i.i _ (omega (arith, c.loop-i-test.false, c.len-i-end.ensures)) (omega (arith, c.in_ok-links.ensures.links.0)) c.loop-i.invariant k d h) j e g).1

pub returns-clause-ascend : goal.returns-clause-ascend
returns-clause-ascend c = λ k d h. ascends-pairs 0 _ _ (
    ascends _ _ _ _ _ _ c.loop-i.i _ (omega (arith, c.loop-i-test.false, c.len-i-end.ensures)) (omega (arith, c.in_ok-links.ensures.links.0)) c.loop-i.invariant k d h)
