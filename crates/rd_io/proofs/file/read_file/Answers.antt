use Rattle.std.proofs.Common.{rules, ◌≡◌, ◌<◌, ◌≤◌, ◌++◌, ◌∙◌, ℕ, List, length, refl, sym, ap, subst, arith}
use Rattle.rd_base.specs.declared.limits.TheConstants.{FILE_BYTES}
use Rattle.rd_io.proofs.Bytes.{IsFront, front-begins, none-fits, front-grows, fetched-told}
use Rattle.rd_io.proofs.file.read_file.Goals as goal

pub loop-n-init : goal.loop-n-init
loop-n-init g c = record {
  room = omega (arith, ap length c.as_mut_slice-buffer.ensures.value, c.in_ok-held.ensures);
  small = none-fits c.new-bytes.result.items c.new-bytes.ensures.items;
  front = front-begins _ c.new-bytes.result.items c.new-bytes.ensures.items;
  same = λ file. refl;
  count = λ file. refl;
}

pub loop-n-preserved : goal.loop-n-preserved
loop-n-preserved g c =
    let bytes = c.loop-n.bytes.items in
    let came = c.fetch.new.buf in
    let n : ℕ = c.in-Ok.n in
    let from : ℕ = c.len.result in
    let told = g.F.Files.contents c.loop-n.files c.args.name.now in
    let before = c.loop-n.invariant in
    let alike = before.same c.args.name.now in
    let at : from ≡ length bytes = search rules in
    let put : (c.put_within.new.bytes.items ≡ bytes ++ c.split_at.result.0.now) × (length c.put_within.new.bytes.items ≤ FILE_BYTES) = search rules in
    let some : 0 < n = omega arith in
    record {
      room = omega (arith, some, c.in-Ok.ensures.bound);
      small = put.1;
      front = subst (IsFront c.put_within.new.bytes.items) alike
          (front-grows told bytes c.put_within.new.bytes.items came from n at (fetched-told _ told from n came c.in-Ok.ensures.bytes)
          (put.0 ∙ ap (λ (l : List ℕ). bytes ++ l) c.split_at.ensures.front) (subst (IsFront bytes) (sym alike) before.front));
      same = λ file. c.fetch.ensures.contents file ∙ before.same file;
      count = λ file. c.in-Ok.ensures.kept file ∙ before.count file;
    }
