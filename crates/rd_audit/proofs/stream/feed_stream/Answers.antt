use Rattle.std.proofs.Common.{◌≡◌, ◌<◌, ◌+◌, ◌++◌, length, take, ◌∙◌, arith, length-append}
use Rattle.std.proofs.KnownBytes.{Consumes-trans}
use Rattle.rd_audit.proofs.Streams.{fed-more}
use Rattle.rd_audit.proofs.stream.feed_stream.Goals as goal

pub returns-then-n-taken-clause-fed : goal.returns-then-n-taken-clause-fed
returns-then-n-taken-clause-fed g c =
    let r = c.loop-n.invariant.read in
    let n = c.in_ok-n.n in
    let piece = take n c.read.new.buf in
    let bound = c.in_ok-n.ensures.bound in
    let long : 16777216 < length (r.0 ++ piece) = omega (arith, c.if-n-taken.true, r.3, length-append r.0 piece, bound.1) in
    (r.0 ++ piece, Consumes-trans _ _ _ r.0 piece r.1 c.in_ok-n.ensures.bytes.0, long)

pub loop-n-preserved : goal.loop-n-preserved
loop-n-preserved g c =
    let r = c.loop-n.invariant.read in
    let n = c.in_ok-n.n in
    let piece = take n c.read.new.buf in
    let bound = c.in_ok-n.ensures.bound in
    let size : length (r.0 ++ piece) ≡ c.loop-n.taken + n = omega (arith, r.3, length-append r.0 piece, bound.1) in
    record {
      read = (r.0 ++ piece, Consumes-trans _ _ _ r.0 piece r.1 c.in_ok-n.ensures.bytes.0, fed-more _ _ _ r.0 _ piece r.2 c.feed.ensures c.split_at.ensures.front, size);
      few = omega (arith, c.if-n-taken.false, c.loop-n.invariant.few);
      kept = c.in_ok-n.ensures.kept ∙ c.loop-n.invariant.kept;
    }
