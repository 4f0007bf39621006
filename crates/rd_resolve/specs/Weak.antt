-- The weak types (UAX 9, rules W1 to W7). Each rule says what becomes of one type, by what the rule looks at around it; w1 to w7 are
-- the rules' passes, each over the types of a whole isolating run sequence.
use Rattle.std.specs.Prelude.{Bool, true, false, ◌||◌, List, [], ◌∷◌, map}
use Rattle.rd_base.specs.declared.class.Class.{Class}
use Rattle.rd_base.specs.declared.class.Class.TheVariants.{L, R, AL, EN, ES, ET, AN, CS, NSM, ON, LRI, RLI, FSI, PDI}

-- W1: NSM takes the type before it, and ON after an isolate initiator or a PDI
abbrev pub w1_nonspacing_marks : Class → Class → Class
w1_nonspacing_marks LRI NSM = ON
w1_nonspacing_marks RLI NSM = ON
w1_nonspacing_marks FSI NSM = ON
w1_nonspacing_marks PDI NSM = ON
w1_nonspacing_marks before NSM = before
w1_nonspacing_marks before c = c

-- W1 over a sequence, with the type before it, which is sos at the start
abbrev pub w1 : Class → List Class → List Class
w1 before [] = []
w1 before (c ∷ cs) = w1_nonspacing_marks before c ∷ w1 (w1_nonspacing_marks before c) cs

-- for W2 and W7, the last strong type up to a character, where it was known before it, which these rules search backward for
abbrev pub strong_after : Class → Class → Class
strong_after strong L = L
strong_after strong R = R
strong_after strong AL = AL
strong_after strong c = strong

-- W2: EN becomes AN where the last strong type before it is AL
abbrev pub w2_european_numbers_after_arabic : Class → Class → Class
w2_european_numbers_after_arabic AL EN = AN
w2_european_numbers_after_arabic strong c = c

-- W2 over a sequence, with the last strong type before it, which is sos at the start
abbrev pub w2 : Class → List Class → List Class
w2 strong [] = []
w2 strong (c ∷ cs) = w2_european_numbers_after_arabic strong c ∷ w2 (strong_after strong c) cs

-- W3: AL becomes R
abbrev pub w3_arabic_letters : Class → Class
w3_arabic_letters AL = R
w3_arabic_letters c = c

-- W3 over a sequence
abbrev pub w3 : List Class → List Class
w3 cs = map w3_arabic_letters cs

-- W4: one ES between two EN becomes EN, and one CS between two numbers of one type becomes that type
abbrev pub w4_separators : Class → Class → Class → Class
w4_separators EN ES EN = EN
w4_separators EN CS EN = EN
w4_separators AN CS AN = AN
w4_separators before c next = c

-- for W4, the type after one, or ON at the end, where there is no number
abbrev pub w4_first_type : List Class → Class
w4_first_type [] = ON
w4_first_type (c ∷ cs) = c

-- W4 over a sequence, with the type before it, which is no number at the start
abbrev pub w4 : Class → List Class → List Class
w4 before [] = []
w4 before (c ∷ cs) = w4_separators before c (w4_first_type cs) ∷ w4 c cs

-- for W5, whether a type is EN
abbrev pub w5_is_en : Class → Bool
w5_is_en EN = true
w5_is_en c = false

-- for W5, whether EN comes at once or behind ET alone
abbrev pub w5_comes_en : List Class → Bool
w5_comes_en [] = false
w5_comes_en (EN ∷ cs) = true
w5_comes_en (ET ∷ cs) = w5_comes_en cs
w5_comes_en (c ∷ cs) = false

-- W5: ET becomes EN where EN stands beside its run of ET
abbrev pub w5_terminators : Bool → Class → Class
w5_terminators true ET = EN
w5_terminators beside c = c

-- W5 over a sequence, with whether EN stands before it
abbrev pub w5 : Bool → List Class → List Class
w5 en [] = []
w5 en (c ∷ cs) = w5_terminators (en || w5_comes_en cs) c ∷ w5 (w5_is_en (w5_terminators (en || w5_comes_en cs) c)) cs

-- W6: ES, ET and CS that W4 and W5 left become ON
abbrev pub w6_remaining_separators : Class → Class
w6_remaining_separators ES = ON
w6_remaining_separators ET = ON
w6_remaining_separators CS = ON
w6_remaining_separators c = c

-- W6 over a sequence
abbrev pub w6 : List Class → List Class
w6 cs = map w6_remaining_separators cs

-- W7: EN becomes L where the last strong type before it is L
abbrev pub w7_latin_numbers : Class → Class → Class
w7_latin_numbers L EN = L
w7_latin_numbers strong c = c

-- W7 over a sequence, with the last strong type before it, which is sos at the start
abbrev pub w7 : Class → List Class → List Class
w7 strong [] = []
w7 strong (c ∷ cs) = w7_latin_numbers strong c ∷ w7 (strong_after strong c) cs

-- the types of a sequence after W1 to W7
abbrev pub weak_types : Class → List Class → List Class
weak_types sos cs = w7 sos (w6 (w5 false (w4 ON (w3 (w2 sos (w1 sos cs))))))
