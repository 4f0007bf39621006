-- The overlays of a buffer as a list: each stands at its number, and nothing stands where one was dropped.
use Rattle.std.specs.Prelude.{◌≡◌, ℕ, suc, ◌+◌, ◌-◌, ◌<◌, ◌≤◌, min, max, ℤ, nat_le, nat_lt, ◌==◌, Bool, ◌&&◌, ◌||◌, if◌then◌else◌, is_some, List, [], ◌∷◌, ◌++◌, length, map, replicate, slice_get, slice_set, Option, None, Some, Result, Ok, Err, ⊤}
use Rattle.std.specs.Option.{option_map, unwrap_or}
use Rattle.std.specs.Ordering.{is_lt, ordering_then, int_cmp, nat_cmp}
use Rattle.rd_base.specs.Lists.{is_between}
use Rattle.rd_base.specs.declared.limits.TheConstants.{LAST_POSITION, OVERLAYS}
use Rattle.rd_overlays.specs.declared.fault.OverlayFault.{OverlayFault}
use Rattle.rd_overlays.specs.declared.fault.OverlayFault.TheVariants.{NoOverlay, OutOfRange, TooMany, Memory}
use Rattle.rd_overlays.specs.declared.overlay.Overlay.{Overlay}
use Rattle.rd_overlays.specs.declared.overlay.Living.{Living}
use Rattle.rd_overlays.specs.declared.overlay.Kind.{Kind}
use Rattle.rd_overlays.specs.declared.overlay.Kind.TheVariants.{Face, Display, Invisible, LinePrefix, WrapPrefix, Before, After}
use Rattle.rd_overlays.specs.declared.overlay.Meeting.{Meeting}
use Rattle.rd_overlays.specs.declared.overlay.Meeting.TheVariants.{Covers, Starts, Ends}
use Rattle.rd_overlays.specs.declared.listing.Rank.{Rank}
use Rattle.rd_overlays.specs.declared.way.Way.{Way}
use Rattle.rd_overlays.specs.declared.way.Way.TheVariants.{Next, Last}

-- the overlay of a number where it lives
abbrev pub overlay_at : List (Option Overlay) → ℕ → Option Overlay
overlay_at slots number = unwrap_or (slice_get slots number) None

-- an overlay lives and has this number
abbrev pub IsLiving : List (Option Overlay) → Living → Type 0
IsLiving slots living = (living.number < length slots) × (overlay_at slots living.number ≡ Some living.overlay)

abbrev pub new_overlay : ℕ → ℕ → ℤ → Bool → Bool → Overlay
new_overlay from to priority front rear =
    record { from = from; to = to; priority = priority; front = front; rear = rear; values = replicate 7 None }

-- why an overlay is not made
abbrev pub make_fault : List (Option Overlay) → ℕ → ℕ → Option OverlayFault
make_fault slots from to = if nat_lt to from then Some OutOfRange else (if nat_le OVERLAYS (length slots) then Some TooMany else None)

-- an overlay is made with the next number, unless there is a fault, and where it is not nothing changes
abbrev pub Makes : Result ℕ OverlayFault → Option OverlayFault → List (Option Overlay) → List (Option Overlay) → Overlay → Type 0
Makes (Ok number) fault old new overlay = (fault ≡ None) × (number ≡ length old) × (new ≡ old ++ Some overlay ∷ [])
Makes (Err Memory) fault old new overlay = new ≡ old
Makes (Err cause) fault old new overlay = (fault ≡ Some cause) × (new ≡ old)

-- why a call on the overlay of a number is refused
abbrev pub number_fault : List (Option Overlay) → ℕ → Option OverlayFault
number_fault slots number = if is_some (overlay_at slots number) then None else Some NoOverlay

-- why an overlay is not moved
abbrev pub move_fault : List (Option Overlay) → ℕ → ℕ → ℕ → Option OverlayFault
move_fault slots number from to =
    if is_some (overlay_at slots number) then (if nat_lt to from then Some OutOfRange else None) else Some NoOverlay

-- a call changes the overlays unless there is a fault
abbrev pub Answers : Result ⊤ OverlayFault → Option OverlayFault → List (Option Overlay) → List (Option Overlay) → List (Option Overlay) → Type 0
Answers (Ok _) fault old new changed = (fault ≡ None) × (new ≡ changed)
Answers (Err cause) fault old new changed = (fault ≡ Some cause) × (new ≡ old)

-- what a call answers and leaves that may find no memory too, and then changes nothing
abbrev pub Moves : Result ⊤ OverlayFault → Option OverlayFault → List (Option Overlay) → List (Option Overlay) → List (Option Overlay) → Type 0
Moves (Err Memory) fault old new changed = new ≡ old
Moves result fault old new changed = Answers result fault old new changed

-- the overlay of a number, where it lives, is changed
abbrev pub changed : (Overlay → Overlay) → List (Option Overlay) → ℕ → List (Option Overlay)
changed change slots number = slice_set slots number (option_map change (overlay_at slots number))

abbrev pub moved : List (Option Overlay) → ℕ → ℕ → ℕ → List (Option Overlay)
moved slots number from to = changed (λ overlay. record overlay { from = from; to = to }) slots number

abbrev pub dropped : List (Option Overlay) → ℕ → List (Option Overlay)
dropped slots number = slice_set slots number None

-- where the value of a kind stands among the values
abbrev pub place_of : Kind → ℕ
place_of Face = 0
place_of Display = 1
place_of Invisible = 2
place_of LinePrefix = 3
place_of WrapPrefix = 4
place_of Before = 5
place_of After = 6

abbrev pub given : List (Option Overlay) → ℕ → Kind → Option ℕ → List (Option Overlay)
given slots number kind value = changed (λ overlay. record overlay { values = slice_set overlay.values (place_of kind) value }) slots number

abbrev pub covers : ℕ → Overlay → Bool
covers pos overlay = is_between overlay.from overlay.to pos

abbrev pub starts : ℕ → Overlay → Bool
starts pos overlay = overlay.from == pos

abbrev pub ends : ℕ → Overlay → Bool
ends pos overlay = overlay.to == pos

abbrev pub meets : Meeting → ℕ → Overlay → Bool
meets Covers pos overlay = covers pos overlay
meets Starts pos overlay = starts pos overlay
meets Ends pos overlay = ends pos overlay

-- whether an overlay comes before another in each listing: by its priority, and where these are equal by its number
abbrev pub precedes : Rank → Rank → Bool
precedes a b = is_lt (ordering_then (int_cmp a.priority b.priority) (nat_cmp a.number b.number))

-- a list in the order of listings, with one more overlay
abbrev pub placed : Rank → List Rank → List Rank
placed rank [] = rank ∷ []
placed rank (r ∷ rs) = if precedes r rank then r ∷ placed rank rs else rank ∷ r ∷ rs

-- the ranks of a listing, with that of the overlay of a number where it lives and passes a test
abbrev pub with_slot : (Overlay → Bool) → ℕ → Option Overlay → List Rank → List Rank
with_slot test number None ranks = ranks
with_slot test number (Some overlay) ranks =
    if test overlay then placed (record { priority = overlay.priority; number = number }) ranks else ranks

-- the overlays that pass a test, with numbers from the given one on, by increasing priority and number
abbrev pub ranked_from : (Overlay → Bool) → ℕ → List (Option Overlay) → List Rank
ranked_from test number [] = []
ranked_from test number (slot ∷ slots) = with_slot test number slot (ranked_from test (suc number) slots)

abbrev pub number_of_rank : Rank → ℕ
number_of_rank rank = rank.number

-- the numbers of all overlays that pass a test, by increasing priority and number
abbrev pub numbers_of : (Overlay → Bool) → List (Option Overlay) → List ℕ
numbers_of test slots = map number_of_rank (ranked_from test 0 slots)

abbrev pub covering : ℕ → List (Option Overlay) → List ℕ
covering pos slots = numbers_of (covers pos) slots

abbrev pub starting : ℕ → List (Option Overlay) → List ℕ
starting pos slots = numbers_of (starts pos) slots

abbrev pub ending : ℕ → List (Option Overlay) → List ℕ
ending pos slots = numbers_of (ends pos) slots

-- the closer of two places on the way to an edge: on the way to the next the lesser, and back to the last the greater
abbrev pub closer : Way → ℕ → ℕ → ℕ
closer Next x y = min x y
closer Last x y = max x y

-- the nearer of two places on the way, where either may be missing
abbrev pub nearer : Way → Option ℕ → Option ℕ → Option ℕ
nearer way None b = b
nearer way (Some x) None = Some x
nearer way (Some x) (Some y) = Some (closer way x y)

-- a place stands on the way from a position: behind it, or on the way back not behind it
abbrev pub is_on : Way → ℕ → ℕ → Bool
is_on Next pos place = nat_lt pos place
is_on Last pos place = nat_le place pos

-- an edge where it stands on the way
abbrev pub reached : Way → ℕ → ℕ → Option ℕ
reached way pos edge = if is_on way pos edge then Some edge else None

abbrev pub slot_edge : Way → ℕ → Option Overlay → Option ℕ
slot_edge way pos None = None
slot_edge way pos (Some overlay) = nearer way (reached way pos overlay.from) (reached way pos overlay.to)

-- the nearest start or end on the way from a position
abbrev pub nearest_edge : Way → ℕ → List (Option Overlay) → Option ℕ
nearest_edge way pos [] = None
nearest_edge way pos (slot ∷ slots) = nearer way (slot_edge way pos slot) (nearest_edge way pos slots)

-- the least start or end after a position
abbrev pub next_edge : ℕ → List (Option Overlay) → Option ℕ
next_edge pos slots = nearest_edge Next pos slots

-- the greatest start or end at a position or before it
abbrev pub last_edge : ℕ → List (Option Overlay) → Option ℕ
last_edge pos slots = nearest_edge Last pos slots

-- where a start or an end stands after an insertion of n characters: one behind the position moves, and one at it where `moves` is
-- set
abbrev pub after_insertion : ℕ → ℕ → Bool → ℕ → ℕ
after_insertion pos n moves place = if nat_lt pos place || ((place == pos) && moves) then place + n else place

-- the overlay after an insertion: a start that would pass its end stands at its end
abbrev pub grown : ℕ → ℕ → Overlay → Overlay
grown pos n overlay = record overlay {
  from = min (after_insertion pos n overlay.front overlay.from) (after_insertion pos n overlay.rear overlay.to);
  to = after_insertion pos n overlay.rear overlay.to;
}

abbrev pub slot_grown : ℕ → ℕ → Option Overlay → Option Overlay
slot_grown pos n slot = option_map (grown pos n) slot

-- where a position, or an overlay's start or end, stands after a deletion: what stands in the range goes to its start, and what stands
-- behind it moves back
abbrev pub after_deletion : ℕ → ℕ → ℕ → ℕ
after_deletion from to place = if nat_lt place from then place else (if nat_lt place to then from else place - (to - from))

abbrev pub shrunk : ℕ → ℕ → Overlay → Overlay
shrunk from to overlay = record overlay { from = after_deletion from to overlay.from; to = after_deletion from to overlay.to }

abbrev pub slot_shrunk : ℕ → ℕ → Option Overlay → Option Overlay
slot_shrunk from to slot = option_map (shrunk from to) slot

-- a start or an end at the position or behind it can move on by n
abbrev pub Fits : ℕ → ℕ → ℕ → Type 0
Fits pos n place = pos ≤ place → place + n ≤ LAST_POSITION

abbrev pub SlotFits : ℕ → ℕ → Option Overlay → Type 0
SlotFits pos n None = ⊤
SlotFits pos n (Some overlay) = Fits pos n overlay.from × Fits pos n overlay.to

-- each start and each end of all overlays can move on so
abbrev pub AllFit : ℕ → ℕ → List (Option Overlay) → Type 0
AllFit pos n slots = (number : ℕ) (slot : Option Overlay) → slice_get slots number ≡ Some slot → SlotFits pos n slot
