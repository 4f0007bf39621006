use Rattle.std.proofs.Common.{IsTrue}
use Rattle.rd_base.specs.Chars.{is_code}
use Rattle.rd_glyphs.proofs.Measures.{ShowsMeasured, shown_as-measured, role-measured}
use Rattle.rd_glyphs.proofs.parts.Parts.mark_role.Goals as goal

pub returns-clause-measured : goal.returns-clause-measured
returns-clause-measured c =
    let is : IsTrue (is_code c.code-2.result) = rw c.code-2.ensures.value c.code-2.ensures.right in
    let shown : ShowsMeasured c.shown_as.result = rw c.shown_as.ensures.value (shown_as-measured c.settings.inside.ctl_arrow c.class.result c.code-2.result is) in
    rw c.mark_role_of_shown.ensures (role-measured c.shown_as.result shown)
