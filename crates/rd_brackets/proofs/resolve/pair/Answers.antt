use Rattle.std.proofs.Common.{◌≡◌, [], length, ap, sym, ◌∙◌}
use Rattle.std.proofs.lemmas.Bool.{eqb-true}
use Rattle.std.proofs.lemmas.List.{length-map, nil_from_length}
use Rattle.std.proofs.lemmas.List.FromFn.{length-map-range_with_len}
use Rattle.rd_resolve.specs.Places.{types_at}
use Rattle.rd_brackets.specs.Pairs.{closing_of}
use Rattle.rd_brackets.specs.Sides.{codes_at, embedding_of}
use Rattle.rd_brackets.proofs.Steps.{without-pairs}
use Rattle.rd_brackets.proofs.resolve.pair.Goals as goal

pub returns-then-is_empty-clause-types : goal.returns-then-is_empty-clause-types
returns-then-is_empty-clause-types c =
    let is = c.args.seq.now.indexes in
    let line = c.args.line.now in
    let none : c.in_ok-pairs.pairs ≡ [] = nil_from_length c.in_ok-pairs.pairs (eqb-true _ 0 (sym c.is_empty.ensures ∙ c.if-is_empty.true)) in
    sym (without-pairs c.args.brackets.now (embedding_of is line.levels) c.args.seq.now.sos is (types_at is line.classes) (codes_at is c.args.codes.now) line.types
    (sym c.in_ok-pairs.ensures.pairs ∙ none))

pub n0_take_pairs-requires-clause-count : goal.n0_take_pairs-requires-clause-count
n0_take_pairs-requires-clause-count c =
    let is = c.args.seq.now.indexes in
    ap length (c.as_slice-2.ensures ∙ c.in_ok-closings.ensures.value)
    ∙ length-map-range_with_len (closing_of c.as_slice.result.now) 0 c.len.result
    ∙ c.len.ensures
    ∙ sym (ap length c.in_ok-types.ensures ∙ length-map is _)
