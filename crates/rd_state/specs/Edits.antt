-- What an op does to what one buffer holds.
use Rattle.std.specs.Prelude.{ℕ, ◌+◌, nat_lt, nat_le, ◌&&◌, ◌||◌, Bool, true, is_some, if◌then◌else◌, ℤ, Option, Some, None, Result, Ok, Err, List, [], ◌∷◌, ◌++◌, length}
use Rattle.std.specs.Option.{option_map, unwrap_or}
use Rattle.rd_base.specs.declared.limits.TheConstants.{OVERLAYS, TEXT_CHARACTERS}
use Rattle.rd_base.specs.Settings.{SettingValues}
use Rattle.rd_text.specs.Texts.{TextValue, narrowed, widened}
use Rattle.rd_overlays.specs.declared.overlay.Kind.{Kind}
use Rattle.rd_overlays.specs.Overlays.{overlay_at, new_overlay, moved, dropped, given}
use Rattle.rd_objects.specs.Things.{ObjectLists}
use Rattle.rd_props.specs.Buffers as props
use Rattle.rd_props.specs.Edits.{put_on, with_more, with_less}
use Rattle.rd_props.specs.Made.{object_count}
use Rattle.rd_margins.specs.Marks as marks
use Rattle.rd_script.specs.declared.setting.Setting.{Setting}
use Rattle.rd_script.specs.declared.setting.Setting.TheVariants as setting
use Rattle.rd_state.specs.declared.refused.Refused.{Refused}
use Rattle.rd_state.specs.declared.refused.Refused.TheVariants.{NoObject, NoOverlay, OutOfRange, TextTooLarge, TooManyOverlays}
use Rattle.rd_state.specs.States.{ContentValue, seen, value_in, values_on}

-- ---- tests

-- a position of the accessible range, its end included
abbrev pub is_accessible : TextValue → ℕ → Bool
is_accessible t pos = nat_le t.begin pos && nat_le pos t.end

-- whether a range lies in the accessible one, and does not end before it begins
abbrev pub is_accessible_range : TextValue → ℕ → ℕ → Bool
is_accessible_range t from to = nat_le t.begin from && nat_le from to && nat_le to t.end

-- whether a range lies in the whole text, and does not end before it begins
abbrev pub is_range_of_all : TextValue → ℕ → ℕ → Bool
is_range_of_all t from to = nat_le 1 from && nat_le from to && nat_le to (length t.text + 1)

-- whether a text has room for these characters more
abbrev pub has_room : TextValue → List ℕ → Bool
has_room t new = nat_le (length t.text + length new) TEXT_CHARACTERS

-- whether the object of a number was made, of which there are so many, or none is named
abbrev pub is_number_made : ℕ → Option ℕ → Bool
is_number_made count None = true
is_number_made count (Some number) = nat_lt number count

-- whether the object that a value of a kind names was made, where it names one
abbrev pub is_value_made : ObjectLists → Kind → Option ℕ → Bool
is_value_made objects kind value = unwrap_or (option_map (λ count. is_number_made count value) (object_count objects kind)) true

-- whether the object that a setting names was made, where it names one
abbrev pub is_setting_made : ObjectLists → Setting → Bool
is_setting_made objects (setting.Table number) = is_number_made (length objects.tables) number
is_setting_made objects (setting.LinePrefix number) = is_number_made (length objects.strings) number
is_setting_made objects (setting.WrapPrefix number) = is_number_made (length objects.strings) number
is_setting_made objects setting = true

-- ---- the text

-- the settings after an edit, which sets `modified` where it changed anything
abbrev pub marked_modified : Bool → SettingValues → SettingValues
marked_modified changed s = record s { modified = changed || s.modified }

-- what a buffer holds where this is seen of it
abbrev pub with_seen : ContentValue → props.BufferValue → ContentValue
with_seen c b = record c { text = b.text; properties = values_on b.text b.properties; overlays = b.overlays; settings = b.settings }

-- a buffer with a text put in before a position
abbrev pub seen_grown : ContentValue → ℕ → List ℕ → props.BufferValue
seen_grown c pos new = record (with_more (seen c) pos new) { settings = marked_modified (nat_lt 0 (length new)) c.settings }

abbrev pub content_grown : ContentValue → ℕ → List ℕ → ContentValue
content_grown c pos new = with_seen c (seen_grown c pos new)

abbrev pub insertion : ℕ → List ℕ → ContentValue → Result ContentValue Refused
insertion pos new c = if is_accessible c.text pos then (if has_room c.text new then Ok (content_grown c pos new) else Err TextTooLarge) else Err OutOfRange

-- a buffer with a range taken away
abbrev pub seen_shrunk : ContentValue → ℕ → ℕ → props.BufferValue
seen_shrunk c from to = record (with_less (seen c) from to) { settings = marked_modified (nat_lt from to) c.settings }

abbrev pub content_shrunk : ContentValue → ℕ → ℕ → ContentValue
content_shrunk c from to = with_seen c (seen_shrunk c from to)

abbrev pub deletion : ℕ → ℕ → ContentValue → Result ContentValue Refused
deletion from to c = if is_accessible_range c.text from to then Ok (content_shrunk c from to) else Err OutOfRange

abbrev pub narrowing : ℕ → ℕ → ContentValue → Result ContentValue Refused
narrowing from to c = if is_range_of_all c.text from to then Ok (record c { text = narrowed c.text from to }) else Err OutOfRange

abbrev pub widening : ContentValue → Result ContentValue Refused
widening c = Ok (record c { text = widened c.text })

-- ---- the properties and the overlays

-- a text property with another value from one position up to another
abbrev pub property_putting : ObjectLists → ℕ → ℕ → Kind → Option ℕ → ContentValue → Result ContentValue Refused
property_putting objects from to kind value c =
    if is_accessible_range c.text from to
    then (if is_value_made objects kind value
    then Ok (record c { properties = values_on c.text (put_on (value_in c.properties) kind from to value) })
    else Err NoObject)
    else Err OutOfRange

-- one more overlay, without values
abbrev pub overlay_making : ℕ → ℕ → ℤ → Bool → Bool → ContentValue → Result ContentValue Refused
overlay_making from to priority front rear c =
    if is_range_of_all c.text from to
    then (if nat_le OVERLAYS (length c.overlays)
    then Err TooManyOverlays
    else Ok (record c { overlays = c.overlays ++ Some (new_overlay from to priority front rear) ∷ [] }))
    else Err OutOfRange

-- an overlay with another range
abbrev pub overlay_moving : ℕ → ℕ → ℕ → ContentValue → Result ContentValue Refused
overlay_moving number from to c =
    if is_some (overlay_at c.overlays number)
    then (if is_range_of_all c.text from to then Ok (record c { overlays = moved c.overlays number from to }) else Err OutOfRange)
    else Err NoOverlay

-- an overlay taken away
abbrev pub overlay_dropping : ℕ → ContentValue → Result ContentValue Refused
overlay_dropping number c =
    if is_some (overlay_at c.overlays number) then Ok (record c { overlays = dropped c.overlays number }) else Err NoOverlay

-- an overlay with another value of a kind
abbrev pub overlay_putting : ObjectLists → ℕ → Kind → Option ℕ → ContentValue → Result ContentValue Refused
overlay_putting objects number kind value c =
    if is_some (overlay_at c.overlays number)
    then (if is_value_made objects kind value then Ok (record c { overlays = given c.overlays number kind value }) else Err NoObject)
    else Err NoOverlay

-- an overlay with another margin string
abbrev pub margin_putting : ObjectLists → ℕ → Option ℕ → ContentValue → Result ContentValue Refused
margin_putting objects number string c =
    if is_some (overlay_at c.overlays number)
    then (if is_number_made (length objects.strings) string then Ok (record c { marks = marks.marked c.marks number string }) else Err NoObject)
    else Err NoOverlay

-- ---- the settings

abbrev pub with_setting : Setting → SettingValues → SettingValues
with_setting (setting.TabWidth n) s = record s { tab_width = n }
with_setting (setting.CtlArrow flag) s = record s { ctl_arrow = flag }
with_setting (setting.Direction direction) s = record s { direction = direction }
with_setting (setting.Reorder flag) s = record s { reorder = flag }
with_setting (setting.Table number) s = record s { table = number }
with_setting (setting.Invisible invisible) s = record s { invisible = invisible }
with_setting (setting.LinePrefix number) s = record s { line_prefix = number }
with_setting (setting.WrapPrefix number) s = record s { wrap_prefix = number }
with_setting (setting.Modified flag) s = record s { modified = flag }
with_setting (setting.ReadOnly flag) s = record s { read_only = flag }

abbrev pub setting_putting : ObjectLists → Setting → ContentValue → Result ContentValue Refused
setting_putting objects setting c =
    if is_setting_made objects setting then Ok (record c { settings = with_setting setting c.settings }) else Err NoObject
