use Rattle.std.proofs.Common.{◌+◌, ◌<◌, ◌∙◌, length, drop, None, subst, sym, arith}
use Rattle.rd_base.specs.Faces.{plain}
use Rattle.rd_base.specs.Glyphs.{IsRowAfter}
use Rattle.rd_base.proofs.Rows.{blanks-whole}
use Rattle.rd_term.specs.Pictures.{width_of}
use Rattle.rd_update.specs.Updates.{differs, start, row_bytes, rows_bytes}
use Rattle.rd_update.specs.Plans.{shown, parts_from}
use Rattle.rd_update.proofs.Parts.{start-row, start-length, pushed, bytes-chosen, parts-chosen}
use Rattle.rd_update.proofs.plan.push_parts.Goals as goal

pub old_row-old-requires-clause-blank : goal.old_row-old-requires-clause-blank
old_row-old-requires-clause-blank c = subst (IsRowAfter 0) (sym c.requires.blank) (blanks-whole (width_of c.args.target.now.rows) plain)

pub loop-row-preserved : goal.loop-row-preserved
loop-row-preserved c =
    let current = shown c.args.current in
    let target = c.args.target.now in
    let olds = (start (shown c.args.current) c.args.target.now).rows in
    let row = c.loop-row.row in
    let h = c.loop-row.invariant in
    let same = start-length current target c.requires.size in
    let here : c.loop-row.row < length c.args.target.now.rows = omega arith in
    let there : c.loop-row.row < length olds = omega (arith, same) in
    let old = c.old_row-old.ensures.cells ∙ start-row current target c.args.blank.now row here c.requires.blank c.width-width.ensures.screen.size.each in
    let o = c.old_row-old.result.now in
    let n = c.whole_cells_of-new.result.now in
    let new = c.whole_cells_of-new.ensures.cells in
    let os = drop (c.loop-row.row + 1) olds in
    let ns = drop (c.loop-row.row + 1) target.rows in
    let added = c.in_ok-push_part.ensures in (
      pushed (rows_bytes row None) olds target.rows row o n c.loop-row.bytes _ c.push_part.new.bytes _ _ there here old new
          (bytes-chosen (differs o n) (row_bytes row o n) (rows_bytes (row + 1) None os ns)) added.bytes h.0,
      pushed (parts_from row (length c.loop-row.bytes)) olds target.rows row o n c.loop-row.parts _ c.push_part.new.parts _ _ there here old new
          (parts-chosen (differs o n) row c.loop-row.bytes c.push_part.new.bytes (row_bytes row o n) os ns added.bytes) added.parts h.1,
    )
