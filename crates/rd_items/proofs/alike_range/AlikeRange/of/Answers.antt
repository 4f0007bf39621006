use Rattle.std.proofs.Common.{ap, ap₂, ◌∙◌}
use Rattle.rd_base.specs.Settings.{SettingValues}
use Rattle.rd_props.specs.Buffers.{meaning}
use Rattle.rd_items.specs.Readings.{showing_by}
use Rattle.rd_items.proofs.Alike.{range-from}
use Rattle.rd_items.proofs.alike_range.AlikeRange.of.Goals as goal

pub returns-clause-shown : goal.returns-clause-shown
returns-clause-shown c =
    let s = meaning c.args.view.now.state.now in
    range-from c.nothing_changes_before_the_next_stop.ensures s c.args.view.now.objects.now c.args.pos c.stop_behind.result c.stop_behind.ensures c.showing_by.result
    (c.showing_by.ensures ∙ ap₂ showing_by (ap (λ (v : SettingValues). v.invisible) (c.settings.view_is ∙ c.settings-settings.ensures)) c.requires.appearance)
