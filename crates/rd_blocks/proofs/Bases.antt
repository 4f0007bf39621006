-- The base level of a block is 0 or 1.
use Rattle.std.proofs.Common.{ℕ, zero, ◌+◌, ◌-◌, ◌≤◌, Bool, false, not, ◌||◌, List, [], ◌∷◌, length, map, replicate, All, None, IfSome, arith}
use Rattle.std.specs.Option.{unwrap_or, option_or}
use Rattle.std.specs.List.{slice_split}
use Rattle.std.proofs.lemmas.Bool.{cond_both}
use Rattle.std.proofs.lemmas.List.Elements.{All-nil, All-append, All-replicate}
use Rattle.rd_base.proofs.Choices.{if-else, if-or}
use Rattle.rd_base.proofs.Lists.{all-read}
use Rattle.rd_base.specs.Classes.{p2_p3_strong_level, p2_depth_after, p2_p3_first_strong}
use Rattle.rd_base.specs.declared.class.Class.{Class}
use Rattle.rd_base.specs.declared.class.Class.TheVariants.{L, R, AL}
use Rattle.rd_base.specs.declared.settings.Direction.{Direction}
use Rattle.rd_base.specs.declared.settings.Direction.TheVariants.{Auto, Left, Right}
use Rattle.rd_ucd.specs.declared.spans.Span.{Span}
use Rattle.rd_ucd.specs.Lookup.{class_of}
use Rattle.rd_text.specs.Texts.{TextValue, between, is_newline, is_separator}
use Rattle.rd_para.specs.Paragraphs.{p2_p3_level_of_line, decided, level_by, levels_of, text_level, base_at}
use Rattle.rd_props.specs.Buffers.{BufferValue}
use Rattle.rd_blocks.specs.Bases.{block_base}

abbrev IsBaseLevel : ℕ → Type 0
IsBaseLevel level = level ≤ 1

p2_p3_strong_level-low : (depth : ℕ) (c : Class) → IfSome (p2_p3_strong_level depth c) IsBaseLevel
p2_p3_strong_level-low zero L = omega arith
p2_p3_strong_level-low zero R = omega arith
p2_p3_strong_level-low zero AL = omega arith
p2_p3_strong_level-low depth c = tt

p2_p3_first_strong-low : (depth : ℕ) (cs : List Class) → IfSome (p2_p3_first_strong depth cs) IsBaseLevel
p2_p3_first_strong-low depth [] = tt
p2_p3_first_strong-low depth (c ∷ cs) =
    if-or IsBaseLevel (p2_p3_strong_level depth c) (p2_p3_first_strong (p2_depth_after depth c) cs) (p2_p3_strong_level-low depth c) (p2_p3_first_strong-low (p2_depth_after depth c) cs)

decided-low : (classes : List Span) (lines : List (List ℕ)) → IfSome (decided classes lines) IsBaseLevel
decided-low classes [] = tt
decided-low classes (line ∷ lines) =
    cond_both (is_separator line) None (option_or (p2_p3_level_of_line classes line) (decided classes lines)) (λ o. IfSome o IsBaseLevel) (λ _. tt)
    (λ _. if-or IsBaseLevel (p2_p3_level_of_line classes line) (decided classes lines) (p2_p3_first_strong-low 0 (map (class_of classes) line)) (decided-low classes lines))

levels-low : (classes : List Span) (last : ℕ) (inside : Bool) (lines : List (List ℕ)) → last ≤ 1 → All IsBaseLevel (levels_of classes last inside lines)
levels-low classes last inside [] h = All-nil IsBaseLevel
levels-low classes last inside (line ∷ lines) h =
    let level = level_by classes last inside line lines in
    let low : level ≤ 1 =
    cond_both (is_separator line || inside) last (unwrap_or (decided classes (line ∷ lines)) 0) IsBaseLevel (λ _. h) (λ _. if-else IsBaseLevel (decided classes (line ∷ lines)) 0 (decided-low classes (line ∷ lines)) (omega arith)) in
    All-append IsBaseLevel (replicate (length line + 1) level) (levels_of classes level (not (is_separator line)) lines)
    (All-replicate IsBaseLevel (length line + 1) level low) (levels-low classes level (not (is_separator line)) lines low)

text-low : (classes : List Span) (t : TextValue) (pos : ℕ) → text_level classes t pos ≤ 1
text-low classes t pos =
    all-read IsBaseLevel (levels_of classes 0 false (slice_split is_newline (between t t.begin t.end))) (pos - t.begin) 0 (levels-low classes 0 false (slice_split is_newline (between t t.begin t.end)) (omega arith)) (omega arith)

base_at-low : (classes : List Span) (t : TextValue) (direction : Direction) (pos : ℕ) → base_at classes t direction pos ≤ 1
base_at-low classes t Auto pos = text-low classes t pos
base_at-low classes t Left pos = omega arith
base_at-low classes t Right pos = omega arith

pub base-low : (classes : List Span) (s : BufferValue) (start : ℕ) → block_base classes s start ≤ 1
base-low classes s start =
    cond_both s.settings.reorder (base_at classes s.text s.settings.direction start) 0 IsBaseLevel (λ _. base_at-low classes s.text s.settings.direction start) (λ _. omega arith)
