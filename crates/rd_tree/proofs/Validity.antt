-- Each call leaves a valid tree valid.
use Rattle.std.proofs.Common.{◌≡◌, ℕ, suc, ◌+◌, ◌≤◌, ◌<◌, Bool, true, false, ◌==◌, length, length-append, ◌⊎◌, inl, inr, refl, arith}
use Rattle.std.proofs.lemmas.Bool.{cases_Bool, eqb-true}
use Rattle.std.proofs.lemmas.Bool.Decides.{nat_tests}
use Rattle.rd_base.proofs.Choices.{one-at-most}
use Rattle.rd_tree.specs.declared.side.Side.{Side}
use Rattle.rd_tree.specs.Windows.{Windows, Window, fits, HasRoom, NeedsMet, resized, leaves, holds, halves, replaced, split_at, with_mode, with_margins, is_single, removed, times}
use Rattle.rd_tree.specs.Calls.{Configuration, IsValid, frame, frame_of, opening, is_full}
use Rattle.rd_tree.proofs.Rooms.{room_first_parts, resized_room}
use Rattle.rd_tree.proofs.Keeping.{room-decides, IsSum, replaced_more, resized_same, removed_less, removed_room}

count : Windows → ℕ
count windows = length (leaves windows)

count-sum : IsSum count
unfolding count
count-sum side size first second = length-append (leaves first) (leaves second)

times-sum : (v : ℕ) → IsSum (times v)
times-sum v side size first second = refl

one : (v n : ℕ) (mode : Bool) (margins : ℕ) → times v (Window n mode margins) ≤ 1
one v n mode margins = one-at-most (n == v)

-- a window has its own number alone
own : (v n : ℕ) (mode : Bool) (margins : ℕ) → (n ≡ v) ⊎ (times v (Window n mode margins) ≡ 0)
own v n mode margins = elim (cases_Bool (n == v)) [ inl p ↦ inl (eqb-true n v p) | inr p ↦ inr (rw p refl) ]

none_above : (v n : ℕ) (mode : Bool) (margins : ℕ) → n < v → times v (Window n mode margins) ≡ 0
none_above v n mode margins p = elim (own v n mode margins) [ inl e ↦ absurd (omega arith) | inr e ↦ e ]

room_left : (c : Configuration) → is_full c ≡ false → (length (leaves c.windows) < 64) × (c.made < 4294967295)
room_left c e = (grind (arith, nat_tests), grind (arith, nat_tests))

pub opening_valid : (width height : ℕ) → 11 ≤ width → 1 ≤ height → width ≤ 400 → height ≤ 200 → IsValid (opening width height)
opening_valid width height a b w h = record {
  room = (a, b);
  wide = w;
  high = h;
  few = omega arith;
  made = omega arith;
  once = λ number. one number 0 false 0;
  known = λ number p. none_above number 0 false 0 (omega (arith, p));
}

pub split_valid : (c : Configuration) (window : ℕ) (side : Side) (size : ℕ) → IsValid c → holds window c.windows ≡ true → fits (split_at window side size c.made c.windows) (frame_of c) ≡ true → is_full c ≡ false → IsValid (record c { windows = split_at window side size c.made c.windows; made = suc c.made })
unfolding count
split_valid c window side size valid held fit full =
    let more : (v : ℕ) → times v (split_at window side size c.made c.windows) ≡ times v c.windows + times v (Window c.made false 0) =
    λ v. replaced_more (times v) window (times v (Window c.made false 0)) (halves window side size c.made) (times-sum v) (λ n mode _ e. rw (eqb-true n window e) refl) c.windows held in
    let grown : count (split_at window side size c.made c.windows) ≡ count c.windows + 1 =
    replaced_more count window 1 (halves window side size c.made) count-sum (λ n mode _ e. refl) c.windows held in
    let left = room_left c full in
    record {
      room = (room-decides (split_at window side size c.made c.windows) (frame_of c)).0 fit;
      wide = valid.wide;
      high = valid.high;
      few = omega (arith, left.0);
      made = omega (arith, left.1);
      once = λ v. elim (own v c.made false 0) [
        | inl e ↦ omega (arith, more v, one v c.made false 0, valid.known v (omega (arith, e)))
        | inr e ↦ omega (arith, more v, e, valid.once v)
      ];
      known = λ v p. omega (arith, more v, none_above v c.made false 0 (omega (arith, p)), valid.known v (omega (arith, p)));
    }

-- a valid configuration stays so in another frame of at most 400 columns and 200 rows, with other windows that have room there: no more
-- of them than before, and none of another number or more often
with_windows : (c : Configuration) (windows : Windows) (width height : ℕ) → IsValid c → width ≤ 400 → height ≤ 200 → HasRoom windows (frame width height) → count windows ≤ count c.windows
    → ((v : ℕ) → times v windows ≤ times v c.windows) → IsValid (record c { windows = windows; width = width; height = height })
unfolding count
with_windows c windows width height valid w h room fewer less = record {
  room = room;
  wide = w;
  high = h;
  few = omega (arith, fewer, valid.few);
  made = valid.made;
  once = λ v. omega (arith, less v, valid.once v);
  known = λ v p. omega (arith, less v, valid.known v p);
}

-- a window that stays one window, with another mode line or other margins
pub changed_valid : (c : Configuration) (window : ℕ) (mode_of : Bool → ℕ → Bool) (columns_of : Bool → ℕ → ℕ) → IsValid c → holds window c.windows ≡ true → fits (replaced window (λ mode margins. Window window (mode_of mode margins) (columns_of mode margins)) c.windows) (frame_of c) ≡ true → IsValid (record c { windows = replaced window (λ mode margins. Window window (mode_of mode margins) (columns_of mode margins)) c.windows })
unfolding count
changed_valid c window mode_of columns_of valid held fit =
    let other : Bool → ℕ → Windows = λ mode margins. Window window (mode_of mode margins) (columns_of mode margins) in
    let same : (v : ℕ) → times v (replaced window other c.windows) ≡ times v c.windows + 0 =
    λ v. replaced_more (times v) window 0 other (times-sum v) (λ n mode _ e. rw (eqb-true n window e) (omega arith)) c.windows held in
    let kept : count (replaced window other c.windows) ≡ count c.windows + 0 =
    replaced_more count window 0 other count-sum (λ n mode _ e. refl) c.windows held in
    with_windows c (replaced window other c.windows) c.width c.height valid valid.wide valid.high ((room-decides (replaced window other c.windows) (frame_of c)).0 fit) (omega (arith, kept)) (λ v. omega (arith, same v))

pub mode_valid : (c : Configuration) (window : ℕ) (shown : Bool) → IsValid c → holds window c.windows ≡ true → fits (with_mode window shown c.windows) (frame_of c) ≡ true → IsValid (record c { windows = with_mode window shown c.windows })
mode_valid c window shown = changed_valid c window (λ _ _. shown) (λ _ margins. margins)

pub margins_valid : (c : Configuration) (window columns : ℕ) → IsValid c → holds window c.windows ≡ true → fits (with_margins window columns c.windows) (frame_of c) ≡ true → IsValid (record c { windows = with_margins window columns c.windows })
margins_valid c window columns = changed_valid c window (λ mode _. mode) (λ _ _. columns)

pub remove_valid : (c : Configuration) (window : ℕ) → IsValid c → holds window c.windows ≡ true → is_single c.windows ≡ false → IsValid (record c { windows = removed window c.windows (frame_of c) })
unfolding count
remove_valid c window valid held more =
    let less : (v : ℕ) → times v (removed window c.windows (frame_of c)) + times v (Window window false 0) ≡ times v c.windows =
    λ v. removed_less (times v) window (times v (Window window false 0)) (times-sum v) (λ n mode _ e. rw (eqb-true n window e) refl) c.windows (frame_of c) held more in
    let fewer : count (removed window c.windows (frame_of c)) + 1 ≡ count c.windows =
    removed_less count window 1 count-sum (λ n mode _ e. refl) c.windows (frame_of c) held more in
    with_windows c (removed window c.windows (frame_of c)) c.width c.height valid valid.wide valid.high (removed_room window c.windows (frame_of c) valid.room) (omega (arith, fewer)) (λ v. omega (arith, less v))

pub resize_valid : (c : Configuration) (width height : ℕ) → IsValid c → width ≤ 400 → height ≤ 200 → NeedsMet c.windows (frame width height) → IsValid (record c { windows = resized c.windows (frame width height); width = width; height = height })
unfolding count
resize_valid c width height valid w h needs =
    let rect = frame width height in
    with_windows c (resized c.windows rect) width height valid w h (resized_room c.windows rect (room_first_parts c.windows (frame_of c) valid.room) needs)
    (omega (arith, resized_same count ◌+◌ count-sum c.windows rect)) (λ v. omega (arith, resized_same (times v) ◌+◌ (times-sum v) c.windows rect))
