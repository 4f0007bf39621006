-- What the calls mean where none refuses, and that what each leaves is valid.
use Rattle.std.proofs.Common.{◌≡◌, ℕ, suc, ◌≤◌, Bool, true, false, ◌&&◌, nat_le, if◌then◌else◌, Ok, Err, subst, arith}
use Rattle.std.proofs.lemmas.Bool.Decides.{nat_tests}
use Rattle.rd_base.proofs.Choices.{if-ok, made-ok, both-ok, ok-unless}
use Rattle.rd_tree.specs.declared.side.Side.{Side}
use Rattle.rd_tree.specs.declared.fault.TreeFault.TheVariants.{NoWindow, TooSmall, TooMany, LastWindow}
use Rattle.rd_tree.specs.Windows.{Windows, columns_needed, rows_needed, NeedsMet, fits, holds, is_single, split_at, removed, resized, with_mode, with_margins}
use Rattle.rd_tree.specs.Calls.{Configuration, IsValid, changed_to, frame, frame_of, is_full, split_to, split_tree, remove_tree, resize_tree, mode_tree, margins_tree}
use Rattle.rd_tree.proofs.Validity.{split_valid, remove_valid, resize_valid, mode_valid, margins_valid}

-- ---- what the calls mean

-- where other windows are left: the window lives, and they have room
abbrev Changed : Configuration → Configuration → ℕ → Windows → Type 0
Changed c d n windows = (holds n c.windows ≡ true) × (fits windows (frame_of c) ≡ true) × (record c { windows = windows } ≡ d)

changed-means : (c d : Configuration) (n : ℕ) (windows : Windows) → (if holds n c.windows then changed_to c windows else Err NoWindow) ≡ Ok d → Changed c d n windows
changed-means c d n windows h = both-ok (holds n c.windows) (fits windows (frame_of c)) (record c { windows = windows }) TooSmall NoWindow d h

pub mode-means : (c d : Configuration) (n : ℕ) (shown : Bool) → mode_tree c n shown ≡ Ok d → Changed c d n (with_mode n shown c.windows)
unfolding mode_tree
mode-means c d n shown h = changed-means c d n (with_mode n shown c.windows) h

pub margins-means : (c d : Configuration) (n columns : ℕ) → margins_tree c n columns ≡ Ok d → Changed c d n (with_margins n columns c.windows)
unfolding margins_tree
margins-means c d n columns h = changed-means c d n (with_margins n columns c.windows) h

pub split-means : (c d : Configuration) (n : ℕ) (side : Side) (size : ℕ) → split_tree c n side size ≡ Ok d
    → (holds n c.windows ≡ true) × (fits (split_at n side size c.made c.windows) (frame_of c) ≡ true) × (is_full c ≡ false)
    × (record c { windows = split_at n side size c.made c.windows; made = suc c.made } ≡ d)
unfolding split_tree
split-means c d n side size h =
    let ws = split_at n side size c.made c.windows in
    let new : Configuration = record c { windows = ws; made = suc c.made } in
    let lives = if-ok (holds n c.windows) (split_to c ws) NoWindow d h in
    let room = ok-unless (fits ws (frame_of c)) (is_full c) new TooMany TooSmall d lives.1 in
    (lives.0, room.0, room.1, room.2)

pub remove-means : (c d : Configuration) (n : ℕ) → remove_tree c n ≡ Ok d
    → (holds n c.windows ≡ true) × (is_single c.windows ≡ false) × (record c { windows = removed n c.windows (frame_of c) } ≡ d)
unfolding remove_tree
remove-means c d n h = ok-unless (holds n c.windows) (is_single c.windows) (record c { windows = removed n c.windows (frame_of c) }) LastWindow NoWindow d h

pub resize-means : (c d : Configuration) (width height : ℕ) → resize_tree c width height ≡ Ok d
    → ((nat_le (columns_needed c.windows) width && nat_le (rows_needed c.windows) height) ≡ true)
    × (record c { windows = resized c.windows (frame width height); width = width; height = height } ≡ d)
unfolding resize_tree
resize-means c d width height h = made-ok (nat_le (columns_needed c.windows) width && nat_le (rows_needed c.windows) height) _ TooSmall d h

-- ---- what calls leave is valid

pub split_keeps : (c d : Configuration) (w : ℕ) (side : Side) (size : ℕ) → IsValid c → split_tree c w side size ≡ Ok d → IsValid d
split_keeps c d w side size valid said = let m = split-means c d w side size said in subst IsValid m.3 (split_valid c w side size valid m.0 m.1 m.2)

pub remove_keeps : (c d : Configuration) (w : ℕ) → IsValid c → remove_tree c w ≡ Ok d → IsValid d
remove_keeps c d w valid said = let m = remove-means c d w said in subst IsValid m.2 (remove_valid c w valid m.0 m.1)

met : (c : Configuration) (width height : ℕ) → (nat_le (columns_needed c.windows) width && nat_le (rows_needed c.windows) height) ≡ true → NeedsMet c.windows (frame width height)
met c width height e =
    (grind (arith, nat_tests), grind (arith, nat_tests))

pub resize_keeps : (c d : Configuration) (width height : ℕ) → width ≤ 400 → height ≤ 200 → IsValid c → resize_tree c width height ≡ Ok d → IsValid d
resize_keeps c d width height w h valid said =
    let m = resize-means c d width height said in
    subst IsValid m.1 (resize_valid c width height valid w h (met c width height m.0))

pub mode_keeps : (c d : Configuration) (w : ℕ) (shown : Bool) → IsValid c → mode_tree c w shown ≡ Ok d → IsValid d
mode_keeps c d w shown valid said = let m = mode-means c d w shown said in subst IsValid m.2 (mode_valid c w shown valid m.0 m.1)

pub margins_keeps : (c d : Configuration) (w columns : ℕ) → IsValid c → margins_tree c w columns ≡ Ok d → IsValid d
margins_keeps c d w columns valid said = let m = margins-means c d w columns said in subst IsValid m.2 (margins_valid c w columns valid m.0 m.1)
