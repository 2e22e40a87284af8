-- Batches compared write by write: what stands from a place on is the write there and what stands from the next on.
use Rattle.std.proofs.Common.{◌≡◌, ℕ, ◌+◌, List, ◌∷◌, drop, Some, sym, ap, ◌∙◌, add-one, slice_get}
use Rattle.pb_base.proofs.Logic.{drop_step}

-- and with the next place as i + 1, as the code counts
step : {A : Type 0} (xs : List A) (i : ℕ) (x : A) → slice_get xs i ≡ Some x → drop i xs ≡ x ∷ drop (i + 1) xs
step xs i x e = rw add-one (drop_step xs i x e)

module _ {A : Type 0} (xs ys : List A) (i : ℕ) (x y : A) (a : slice_get xs i ≡ Some x) (b : slice_get ys i ≡ Some y) where
  pub same_first_write : drop i xs ≡ drop i ys → x ≡ y
  same_first_write h = let e : x ∷ drop (i + 1) xs ≡ y ∷ drop (i + 1) ys = sym (step xs i x a) ∙ h ∙ step ys i y b in cc

  pub same_later_writes : drop i xs ≡ drop i ys → drop (i + 1) xs ≡ drop (i + 1) ys
  same_later_writes h = let e : x ∷ drop (i + 1) xs ≡ y ∷ drop (i + 1) ys = sym (step xs i x a) ∙ h ∙ step ys i y b in cc

  pub same_from_place : x ≡ y → drop (i + 1) xs ≡ drop (i + 1) ys → drop i xs ≡ drop i ys
  same_from_place e h = step xs i x a ∙ ap (λ z. z ∷ drop (i + 1) xs) e ∙ ap (λ l. y ∷ l) h ∙ sym (step ys i y b)
