-- A test of all elements, from a place on.
use Rattle.std.proofs.Common.{arith, ◌≡◌, ℕ, ◌+◌, Bool, true, false, List, [], ◌∷◌, ◌++◌, drop, take, Some, slice_get, add-one, ap, ◌∙◌}
use Rattle.std.specs.List.{list_all}
use Rattle.std.proofs.lemmas.List.{take_more}
use Rattle.std.proofs.lemmas.Option.{slice_get_within, get_or_from_slice_get}
use Rattle.pb_base.proofs.Logic.{drop_step as one_more}

pub all_goes_on : {A : Type 0} (p : A → Bool) (xs : List A) (i : ℕ) (x : A) (all : Bool) → slice_get xs i ≡ Some x → p x ≡ true → list_all p (drop i xs) ≡ all → list_all p (drop (i + 1) xs) ≡ all
all_goes_on p xs i x all e h is = grind (arith, add-one, one_more)

pub all_ends : {A : Type 0} (p : A → Bool) (xs : List A) (i : ℕ) (x : A) (all : Bool) → slice_get xs i ≡ Some x → p x ≡ false → list_all p (drop i xs) ≡ all → false ≡ all
all_ends p xs i x all e h is = grind (arith, one_more)

-- what is taken with one more ends with that
pub take_with_next : {A : Type 0} (xs : List A) (i : ℕ) (x : A) → slice_get xs i ≡ Some x → take (i + 1) xs ≡ take i xs ++ x ∷ []
take_with_next xs i x is = take_more xs i x (slice_get_within xs i x is) ∙ ap (λ y. take i xs ++ y ∷ []) (get_or_from_slice_get xs i x x is)
