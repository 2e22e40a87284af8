-- What readings one after the other show about each, if they end well and if they end in a fault.
use Rattle.std.proofs.Common.{arith, ◌≡◌, ◌⊎◌, ℕ, Bool, true, false, cond, List, [], ◌∷◌, Option, Some, None, Result, Ok, Err, refl, ap, inl, inr, nat_le, ok_or}
use Rattle.std.specs.Str.Parse.{digits_value}
use Rattle.pb_reading.specs.Reading.{◌>>=◌, is_numeral, next_word, no_word, numeral_upto}

-- ---- what was read, and which fault

pub ok_is : {A E : Type 0} (x y : A) → ◌≡◌ {A = Result A E} (Ok x) (Ok y) → x ≡ y
ok_is x y h = cc

pub err_is : {A E : Type 0} (d e : E) → ◌≡◌ {A = Result A E} (Err d) (Err e) → d ≡ e
err_is d e h = cc

-- where two readings one after the other end well, the first does, and the second with what it read
pub then_ok : {A B E : Type 0} (r : Result A E) (f : A → Result B E) (y : B) → (r >>= f) ≡ Ok y → (x : A) × (r ≡ Ok x) × (f x ≡ Ok y)
then_ok r f y h = grind arith

-- their fault is the first's, or the second's after what the first read
pub then_err : {A B E : Type 0} (r : Result A E) (f : A → Result B E) (e : E) → (r >>= f) ≡ Err e → (r ≡ Err e) ⊎ ((x : A) × (r ≡ Ok x) × (f x ≡ Err e))
then_err (Ok x) f e h = inr (x, refl, h)
then_err {A} {B} (Err d) f e h = inl (ap Err (err_is {A = B} d e h))

-- a test whose reading ended well held
pub if_ok : {A E : Type 0} (b : Bool) (r : Result A E) (e : E) (x : A) → cond b r (Err e) ≡ Ok x → (b ≡ true) × (r ≡ Ok x)
if_ok b r e x h = grind arith

-- and one that refuses failed
pub else_ok : {A E : Type 0} (b : Bool) (r : Result A E) (e : E) (x : A) → cond b (Err e) r ≡ Ok x → (b ≡ false) × (r ≡ Ok x)
else_ok b r e x h = grind arith

-- what was taken of an option is its value
pub there_ok : {A E : Type 0} (o : Option A) (e : E) (x : A) → ok_or o e ≡ Ok x → o ≡ Some x
there_ok None e x h = absurd cc
there_ok {A} {E} (Some y) e x h = ap Some (ok_is {E = E} y x h)

-- ---- words

-- the next word was the first of the words
pub next_is : {E : Type 0} (form : E) (words : List (List ℕ)) (x : List ℕ × List (List ℕ)) → next_word form words ≡ Ok x → words ≡ x.0 ∷ x.1
next_is form [] x h = absurd cc
next_is {E} form (w ∷ ws) x h = ap (λ (p : List ℕ × List (List ℕ)). p.0 ∷ p.1) (ok_is {E = E} (w, ws) x h)

-- no word is left only where there is none
pub none_left : {E : Type 0} (form : E) (words : List (List ℕ)) (x : Unit {0}) → no_word form words ≡ Ok x → words ≡ []
none_left form words x h = grind arith

-- a word that is missing, or too many, is reported as such
pub next_fault : {E : Type 0} (form : E) (words : List (List ℕ)) (cause : E) → next_word form words ≡ Err cause → cause ≡ form
next_fault form words cause h = grind arith

-- ---- which faults alone

-- a reading has no other faults than these
abbrev pub FailsBy : {A E : Type 0} → (E → Type 0) → Result A E → Type 0
FailsBy P (Ok x) = Unit {0}
FailsBy P (Err e) = P e

-- of two readings one after the other, where each has no others
pub then_fails : {A B E : Type 0} (P : E → Type 0) (r : Result A E) (f : A → Result B E) → FailsBy P r → ((x : A) → FailsBy P (f x)) → FailsBy P (r >>= f)
then_fails x r f h k = grind arith

-- a test changes nothing of that
pub if_fails : {A E : Type 0} (P : E → Type 0) (b : Bool) (r s : Result A E) → FailsBy P r → FailsBy P s → FailsBy P (cond b r s)
if_fails x b r s h k = grind arith

-- nor does a fault of these in place of what isn't there
pub there_fails : {A E : Type 0} (P : E → Type 0) (e : E) (o : Option A) → P e → FailsBy P (ok_or o e)
there_fails x e o h = grind arith

pub next_fails : {E : Type 0} (P : E → Type 0) (form : E) (words : List (List ℕ)) → P form → FailsBy P (next_word form words)
next_fails x form words h = grind arith

pub end_fails : {E : Type 0} (P : E → Type 0) (form : E) (words : List (List ℕ)) → P form → FailsBy P (no_word form words)
end_fails x form words h = grind arith

pub numeral_fails : {E : Type 0} (P : E → Type 0) (form range : E) (greatest : ℕ) (word : List ℕ) → P form → P range → FailsBy P (numeral_upto form range greatest word)
numeral_fails P form range greatest word h k = if_fails P (is_numeral word) _ (Err form) (if_fails P (nat_le (digits_value 10 word) greatest) (Ok (digits_value 10 word)) (Err range) tt k) h
