-- The fault of things taken in turn is that of the first at fault, and so is that of the lines of a text.
use Rattle.std.proofs.Common.{◌≡◌, ℕ, ◌+◌, List, [], ◌∷◌, ◌++◌, length, Result, Ok, Err, refl, ap, ◌∙◌, arith}
use Rattle.pb_reading.specs.Reading.{◌>>=◌, in_turn, lines_of, numbered}
use Rattle.pb_reading.specs.Faults.{in_lines, StopsAt}

-- the things in front are read, as before, and the next is at fault after them
pub record IsFirst {S A E : Type 0} (step : ℕ → S → A → Result S E) (n : ℕ) (s : S) (xs : List A) (e : E) : Type 0 where
  pub front : List A
  pub here : A
  pub after : List A
  pub before : S
  pub parts : xs ≡ front ++ here ∷ after
  pub read : in_turn step n s front ≡ Ok before
  pub fault : step (n + length front) before here ≡ Err e

-- the first step, and what holds of those after it
onward : {S A E : Type 0} (step : ℕ → S → A → Result S E) (n : ℕ) (s : S) (x : A) (xs : List A) (e : E) (r : Result S E) → ((t : S) → in_turn step (n + 1) t xs ≡ Err e → IsFirst step (n + 1) t xs e)
    → step n s x ≡ r → (r >>= λ t. in_turn step (n + 1) t xs) ≡ Err e → IsFirst step n s (x ∷ xs) e
onward step n s x xs e (Err d) others is h =
    let k : n + 0 ≡ n = omega arith in
    record { front = []; here = x; after = xs; before = s; parts = refl; read = refl; fault = rw k (is ∙ h) }
onward {S} {A} {E} step n s x xs e (Ok t) others is h =
    let f = others t h in
    let k : n + length (x ∷ f.front) ≡ (n + 1) + length f.front = omega arith in
    record { front = x ∷ f.front; here = f.here; after = f.after; before = f.before; parts = ap (λ (ys : List A). x ∷ ys) f.parts; read = rw is f.read; fault = rw k f.fault }

-- where things taken in turn end in a fault, it is that of one of them, after all in front were taken
pub first_fault : {S A E : Type 0} (step : ℕ → S → A → Result S E) (n : ℕ) (s : S) (xs : List A) (e : E) → in_turn step n s xs ≡ Err e → IsFirst step n s xs e
first_fault step n s [] e h = absurd cc
first_fault step n s (x ∷ xs) e h = onward step n s x xs e (step n s x) (λ t. first_fault step (n + 1) t xs e) refl h

-- a fault that was numbered is of the line after those before it, with the number of its code
numbered_err : {A C : Type 0} (code : C → ℕ) (n line told : ℕ) (r : Result A C) → numbered code n r ≡ Err (line, told) → (cause : C) × (r ≡ Err cause) × (line ≡ n + 1) × (told ≡ code cause)
numbered_err code n line told (Ok x) h = absurd cc
numbered_err {A} code n line told (Err c) h = grind arith

-- a text that isn't read stops at its first line at fault
pub stops_at : {S C : Type 0} (code : C → ℕ) (with_line : S → List ℕ → Result S C) (start : S) (text : List ℕ) (line told : ℕ) → in_lines code with_line 0 start (lines_of text) ≡ Err (line, told) → StopsAt code with_line start text line told
stops_at code with_line start text line told h =
    let f = first_fault (λ n before l. numbered code n (with_line before l)) 0 start (lines_of text) (line, told) h in
    let g = numbered_err code (0 + length f.front) line told (with_line f.before f.here) f.fault in
    record { front = f.front; here = f.here; after = f.after; before = f.before; cause = g.0; parts = f.parts; read = f.read; fault = g.1; number = omega (arith, g.2); told_by = g.3 }
