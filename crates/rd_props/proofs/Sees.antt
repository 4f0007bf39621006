-- What is seen at a position names made objects alone.
use Rattle.std.proofs.Common.{◌≡◌, inl, inr, ℕ, ◌<◌, Bool, true, false, if◌then◌else◌, List, [], ◌∷◌, ◌++◌, length, reverse, Option, None, Some, IfSome, refl}
use Rattle.std.specs.Prelude.{nat_lt, All}
use Rattle.std.specs.Option.{option_or, option_to_list}
use Rattle.std.proofs.lemmas.List.Elements.{All-nil, All-cons, All-append}
use Rattle.rd_base.proofs.Choices.{either, if-value, or-some}
use Rattle.rd_overlays.specs.declared.overlay.Overlay.{Overlay}
use Rattle.rd_overlays.specs.declared.overlay.Kind.{Kind}
use Rattle.rd_overlays.specs.declared.overlay.Kind.TheVariants.{Display, LinePrefix, WrapPrefix, Before, After}
use Rattle.rd_overlays.specs.Overlays.{overlay_at, covering, starting, ending}
use Rattle.rd_overlays.specs.Values.{last_given}
use Rattle.rd_objects.specs.Things.{ObjectLists}
use Rattle.rd_props.specs.Buffers.{BufferValue, property}
use Rattle.rd_props.specs.Values.{value_of, overlay_value, effective}
use Rattle.rd_props.specs.Strings.{is_empty, before_string, after_string, strings_put, strings_put_in, strings_of, strings_at}
use Rattle.rd_props.specs.declared.strings.StringPlace.{StringPlace}
use Rattle.rd_props.specs.declared.strings.StringPlace.TheVariants.{Closing, Between, Opening}
use Rattle.rd_props.specs.Seen.{seen_at}
use Rattle.rd_props.specs.Made.{IsMade, AreMade, SeesMade}

listed : (P : ℕ → Type 0) (o : Option ℕ) → IfSome o P → All P (option_to_list o)
listed P None all = All-nil P
listed P (Some v) all = All-cons P v [] all (All-nil P)

module _ (s : BufferValue) (objects : ObjectLists) (made : AreMade s objects) where
  -- the value of an overlay that may live
  pub slot-made : (number : ℕ) (kind : Kind) (slot : Option Overlay) (v : ℕ) → overlay_at s.overlays number ≡ slot → value_of kind slot ≡ Some v → IsMade objects kind v
  slot-made number kind None v lives h = absurd (cc)
  slot-made number kind (Some o) v lives h = made.overlays number v kind o lives h

  last-made : (kind : Kind) (numbers : List ℕ) (v : ℕ) → last_given (overlay_value s.overlays kind) numbers ≡ Some v → IsMade objects kind v
  last-made kind [] v h = absurd (cc)
  last-made kind (number ∷ numbers) v h =
      elim (or-some (last_given (overlay_value s.overlays kind) numbers) (value_of kind (overlay_at s.overlays number)) v h) [
        | inl later ↦ last-made kind numbers v later
        | inr here ↦ slot-made number kind (overlay_at s.overlays number) v refl here.1
      ]

  effective-by : (t : Bool) (kind : Kind) (p v : ℕ) → (if t then option_or (last_given (overlay_value s.overlays kind) (covering p s.overlays)) (property s kind p) else None) ≡ Some v → IsMade objects kind v
  effective-by true kind p v h =
      elim (or-some (last_given (overlay_value s.overlays kind) (covering p s.overlays)) (property s kind p) v h) [
        | inl over ↦ last-made kind (covering p s.overlays) v over
        | inr under ↦ made.properties kind p v under.1
      ]
  effective-by false kind p v h = absurd (cc)

  effective-made : (kind : Kind) (p v : ℕ) → effective s p kind ≡ Some v → IsMade objects kind v
  effective-made kind p v h = effective-by (nat_lt p s.text.end) kind p v h

  abbrev IsString : ℕ → Type 0
  IsString n = n < length objects.strings

  before-made : (number : ℕ) (o : Overlay) → overlay_at s.overlays number ≡ Some o → All IsString (before_string o)
  before-made number o lives = listed IsString (value_of Before (Some o)) (if-value IsString (value_of Before (Some o)) (λ v h. made.overlays number v Before o lives h))

  after-made : (number : ℕ) (o : Overlay) → overlay_at s.overlays number ≡ Some o → All IsString (after_string o)
  after-made number o lives = listed IsString (value_of After (Some o)) (if-value IsString (value_of After (Some o)) (λ v h. made.overlays number v After o lives h))

  part-made : (part : StringPlace) (number : ℕ) (o : Overlay) → overlay_at s.overlays number ≡ Some o → All IsString (strings_put part o)
  part-made Closing number o lives = either (All IsString) (is_empty o) [] (after_string o) (All-nil IsString) (after-made number o lives)
  part-made Between number o lives =
      either (All IsString) (is_empty o) (before_string o ++ after_string o) [] (All-append IsString (before_string o) (after_string o) (before-made number o lives) (after-made number o lives)) (All-nil IsString)
  part-made Opening number o lives = either (All IsString) (is_empty o) [] (before_string o) (All-nil IsString) (before-made number o lives)

  in-made : (part : StringPlace) (number : ℕ) (slot : Option Overlay) → overlay_at s.overlays number ≡ slot → All IsString (strings_put_in part slot)
  in-made part number None lives = All-nil IsString
  in-made part number (Some o) lives = part-made part number o lives

  strings-made : (part : StringPlace) (numbers : List ℕ) → All IsString (strings_of part s.overlays numbers)
  strings-made part [] = All-nil IsString
  strings-made part (number ∷ numbers) =
      All-append IsString (strings_put_in part (overlay_at s.overlays number)) (strings_of part s.overlays numbers)
      (in-made part number (overlay_at s.overlays number) refl) (strings-made part numbers)

  all-made : (p : ℕ) → All IsString (strings_at s p)
  all-made p =
      let closing = strings_of Closing s.overlays (reverse (ending p s.overlays)) in
      let between = strings_of Between s.overlays (starting p s.overlays) in
      let opening = strings_of Opening s.overlays (starting p s.overlays) in
      All-append IsString (closing ++ between) opening
      (All-append IsString closing between (strings-made Closing (reverse (ending p s.overlays))) (strings-made Between (starting p s.overlays)))
      (strings-made Opening (starting p s.overlays))

  -- what is seen at each position names made objects alone
  pub seen-made : (p : ℕ) → SeesMade objects (seen_at s objects p)
  seen-made p = record {
    display = if-value (λ n. n < length objects.specs) (effective s p Display) (effective-made Display p);
    line_prefix = if-value IsString (effective s p LinePrefix) (effective-made LinePrefix p);
    wrap_prefix = if-value IsString (effective s p WrapPrefix) (effective-made WrapPrefix p);
    strings = all-made p;
  }
