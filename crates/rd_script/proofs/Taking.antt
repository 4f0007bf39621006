-- Fields that are taken one behind the other.
use Rattle.std.proofs.Common.{◌≡◌, Result, Ok, Err, refl, sym, ap, subst, ◌∙◌, append_assoc}
use Rattle.std.specs.Result.{IsErrAnd}
use Rattle.serde_json.specs.View.{members_view}
use Rattle.rd_script.specs.declared.fault.OpFault.{OpFault}
use Rattle.rd_script.specs.declared.fault.OpFault.TheVariants.{Memory}
use Rattle.rd_script.specs.Fields.{Fields, and_then, both, made, Asking, asked_too, IsRead, IsTaken}

-- a fault stays what it is, whatever was to be made of an answer
fault-stays : {A B : Type 0} (f : A → Result B OpFault) (e : OpFault) (said : Result A OpFault) → IsRead {T = A} (Err e) said → IsRead {T = B} (Err e) (and_then f said)
fault-stays f Memory said h = tt
fault-stays f fault said h = ap (and_then f) h

-- what is made of a pair, where its first part was read
made-pair : {A B C : Type 0} (a : A) (make : A × B → C) (said : Result B OpFault) → and_then (λ x. Ok (make x)) (and_then (λ b. Ok (a, b)) said) ≡ and_then (λ b. Ok (make (a, b))) said
made-pair a make (Ok b) = refl
made-pair a make (Err e) = refl

-- the fields that are left of some, of which the first were taken, and what is made of what they say
pub record Left {A B : Type 0} (fields : Fields A) (before now : Asking) (left : Fields B) (make : B → A) : Type 0 where
  pub said : fields.taken (members_view before.members) ≡ and_then (λ b. Ok (make b)) (left.taken (members_view now.members))
  pub asked : asked_too fields.keys before ≡ asked_too left.keys now

-- all fields are left before the first of them is taken
pub all-left : {A B : Type 0} (fields : Fields A) (r : Asking) (make : B → A) (left : Fields B) → fields ≡ made make left → Left fields r r left make
all-left fields r make left e = record { said = ap (λ x. x.taken (members_view r.members)) e; asked = ap (λ x. asked_too x.keys r) e }

-- the first of the fields that are left is taken
pub taken : {A B C : Type 0} {fields : Fields C} {r s t : Asking} {make : A × B → C} {a : A} (f : Fields A) (g : Fields B) → Left fields r s (both f g) make → IsTaken (Ok a) f s t
    → Left fields r t g (λ b. make (a, b))
taken {A} {B} {C} {fields} {r} {s} {t} {make} {a} f g h k = record {
  said = h.said ∙ ap (λ x. and_then (λ y. Ok (make y)) (and_then (λ x. and_then (λ y. Ok (x, y)) (g.taken (members_view s.members))) x)) k.0
      ∙ made-pair a make (g.taken (members_view s.members)) ∙ ap (λ x. and_then (λ b. Ok (make (a, b))) (g.taken (members_view x.members))) (sym k.1);
  asked = h.asked ∙ ap (λ keys. record { members = s.members; keys = keys }) (sym (append_assoc s.keys f.keys g.keys)) ∙ ap (asked_too g.keys) (sym k.1);
}

-- the last field that is left is taken
pub last-taken : {A B : Type 0} {fields : Fields B} {r s t : Asking} {f : Fields A} {make : A → B} {a : A} → Left fields r s f make → IsTaken (Ok a) f s t → IsTaken (Ok (make a)) fields r t
last-taken {make = make} h k = (h.said ∙ ap (and_then (λ x. Ok (make x))) k.0, k.1 ∙ sym h.asked)

-- all fields are refused where those that are left are
left-refused : {A B : Type 0} {fields : Fields B} {r s : Asking} {f : Fields A} {make : A → B} (t : Asking) (e : OpFault) (result : Result B OpFault) → IsErrAnd result (λ y. y ≡ e)
    → Left fields r s f make → IsRead {T = A} (Err e) (f.taken (members_view s.members)) → IsTaken result fields r t
left-refused t e (Ok x) is h k = absurd is
left-refused {A} {B} {fields} {r} {s} {f} {make} t e (Err y) is h k = (
  subst (λ x. IsRead {T = B} (Err x) (fields.taken (members_view r.members))) (sym is)
      (subst (λ x. IsRead {T = B} (Err e) x) (sym h.said) (fault-stays (λ x. Ok (make x)) e (f.taken (members_view s.members)) k)),
  tt,
)

-- the first of the fields that are left is refused
pub first-refused : {A B C : Type 0} {fields : Fields C} {r s : Asking} {make : A × B → C} (f : Fields A) (g : Fields B) (t : Asking) (e : OpFault) (result : Result C OpFault) → IsErrAnd result (λ y. y ≡ e)
    → Left fields r s (both f g) make → IsTaken {T = A} (Err e) f s t → IsTaken result fields r t
first-refused {s = s} f g t e result is h k = left-refused t e result is h (fault-stays (λ x. and_then (λ y. Ok (x, y)) (g.taken (members_view s.members))) e (f.taken (members_view s.members)) k.0)

-- the last field that is left is refused
pub last-refused : {A B : Type 0} {fields : Fields B} {r s : Asking} {f : Fields A} {make : A → B} (t : Asking) (e : OpFault) (result : Result B OpFault) → IsErrAnd result (λ y. y ≡ e)
    → Left fields r s f make → IsTaken {T = A} (Err e) f s t → IsTaken result fields r t
last-refused t e result is h k = left-refused t e result is h k.0
