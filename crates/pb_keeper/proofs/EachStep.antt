-- What holds of each step of a conversation with its answer.
use Rattle.std.proofs.Common.{◌≡◌, ℕ, ◌==◌, Bool, true, false, List, [], ◌∷◌, ◌++◌, refl, sym, ap, subst}
use Rattle.std.proofs.lemmas.Bool.{eq-eqb}
use Rattle.pb_keeper.specs.Words.{Cell, Ts, Step, Answer, Declared, Received, told, Outcome, IsWhole, committed, conflicted_first, conflicted_later, lost, prewrites, secondaries, AreCleared}

abbrev pub AreEach : (Received → Type 0) → List Received → Type 0
AreEach P [] = Unit {0}
AreEach P (r ∷ rs) = P r × AreEach P rs

pub each_as : (P Q : Received → Type 0) → ((r : Received) → P r → Q r) → (said : List Received) → AreEach P said → AreEach Q said
each_as P Q is [] p = tt
each_as P Q is (r ∷ said) p = (is r p.0, each_as P Q is said p.1)

module _ (P : Received → Type 0) where
  pub each_on : (a b : List Received) → AreEach P a → AreEach P b → AreEach P (a ++ b)
  each_on [] b p q = q
  each_on (r ∷ a) b p q = (p.0, each_on a b p.1 q)

  pub each_first : (a b : List Received) → AreEach P (a ++ b) → AreEach P a
  each_first [] b p = tt
  each_first (r ∷ a) b p = (p.0, each_first a b p.1)

  pub each_last : (a b : List Received) → AreEach P (a ++ b) → AreEach P b
  each_last [] b p = p
  each_last (r ∷ a) b p = each_last a b p.1

  module _ (s : Ts) where
    pub each_prewrite : ((x : Cell) → P (told (Step.Prewrite s x) Answer.Done)) → (xs : List Cell) → AreEach P (prewrites s xs)
    each_prewrite is [] = tt
    each_prewrite is (x ∷ xs) = (is x, each_prewrite is xs)

    pub each_secondary : ((x : Cell) → P (told (Step.CommitSecondary s x) Answer.Done)) → (xs : List Cell) → AreEach P (secondaries s xs)
    each_secondary is [] = tt
    each_secondary is (x ∷ xs) = (is x, each_secondary is xs)

  pub each_cleared : ((x : Cell) (r : Received) → r.step ≡ Step.Clear x → P r) → (xs : List Cell) (rs : List Received) → AreCleared xs rs → AreEach P rs
  each_cleared is [] rs c = subst (AreEach P) (sym c) tt
  each_cleared is (x ∷ xs) [] c = absurd c
  each_cleared is (x ∷ xs) (r ∷ rs) c = (is x r c.0, each_cleared is xs rs c.2)

-- ---- a transaction's own conversation

-- the step begins no transaction, and stamps none but this
abbrev pub is_step_within : ℕ → Step → Bool
is_step_within s (Step.Begin work) = false
is_step_within s (Step.Stamp u) = u.0 == s
is_step_within s _ = true

abbrev pub IsWithin : ℕ → Received → Type 0
IsWithin s r = is_step_within s r.step ≡ true

-- all of it is within a transaction
abbrev pub AreWithin : ℕ → List Received → Type 0
AreWithin s said = AreEach (IsWithin s) said

module _ (s : Ts) where
  itself : (s.0 == s.0) ≡ true
  itself = eq-eqb s.0 s.0 refl

  -- its prewrites, and then the rest
  begun_within : (what : Declared) (xs : List Cell) (rest : List Received) → AreWithin s.0 rest → AreWithin s.0 (told (Step.Declare s what) Answer.Done ∷ prewrites s xs ++ rest)
  begun_within what xs rest w = (refl, each_on (IsWithin s.0) (prewrites s xs) rest (each_prewrite (IsWithin s.0) s (λ x. refl) xs) w)

  cleared_within : (xs : List Cell) (rs : List Received) → AreCleared xs rs → AreWithin s.0 rs
  cleared_within xs rs c = each_cleared (IsWithin s.0) (λ x r e. ap (is_step_within s.0) e) xs rs c

  pub whole_within : (what : Declared) (cells : List Cell) (said : List Received) (o : Outcome) → IsWhole s what cells said o → AreWithin s.0 said
  whole_within what cells said o (committed x others c) = begun_within what (x ∷ others) _ (itself, (refl, each_secondary (IsWithin s.0) s (λ y. refl) others))
  whole_within what cells said o (conflicted_first x after) = (refl, (refl, tt))
  whole_within what cells said o (conflicted_later x y before after z cs can are) = begun_within what (x ∷ before) _ (refl, (refl, cleared_within before cs are))
  whole_within what cells said o (lost x others c cs are) = begun_within what (x ∷ others) _ (itself, (refl, cleared_within others cs are))
