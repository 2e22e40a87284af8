-- A plan's place lies within its cells wherever its answers lead, and there is a step at each of them but the end.
use Rattle.std.proofs.Common.{◌≡◌, ℕ, zero, suc, ◌<◌, ◌≤◌, List, [], ◌∷◌, length, Some, None, refl, sym, subst, arith, slice_get, option_map}
use Rattle.pb_notify.specs.Words.{Cell, Step, Answer, PlanPlace, declared_cells, place_after, LiesWithin, PlanOf, next_of, outcome_of}

-- wherever an answer leads, the place lies within the cells
pub fits_after : (count : ℕ) (p : PlanPlace) (a : Answer) → LiesWithin count p → LiesWithin count (place_after count p a)
fits_after count p a fits = grind arith

-- ---- the step at a place

-- at a place within the cells there is one, and a step about it
at_cell : (xs : List Cell) (k : ℕ) (f : Cell → Step) → k < length xs → (s : Step) × (option_map f (slice_get xs k) ≡ Some s)
at_cell [] k f lt = absurd (omega (arith, lt))
at_cell (x ∷ xs) zero f lt = (f x, refl)
at_cell (x ∷ xs) (suc k) f lt = at_cell xs k f (omega (arith, lt))

-- a plan that isn't over has a next step
pub next_is : (p : PlanOf) (place : PlanPlace) → p.place ≡ place → LiesWithin (length (declared_cells p.what)) place → outcome_of p ≡ None → (s : Step) × (next_of p ≡ Some s)
next_is p place is fits none = found p.place (subst (LiesWithin (length (declared_cells p.what))) (sym is) fits) none where
  found : (at : PlanPlace) → LiesWithin (length (declared_cells p.what)) at → outcome_of (record p { place = at }) ≡ None → (s : Step) × (next_of (record p { place = at }) ≡ Some s)
  found PlanPlace.Declaring fits none = (Step.Declare (record { 0 = p.start }) p.what, refl)
  found (PlanPlace.Prewriting k) fits none = at_cell _ k _ fits
  found PlanPlace.Stamping fits none = (Step.Stamp (record { 0 = p.start }), refl)
  found (PlanPlace.CommittingPrimary c) fits none = (Step.CommitPrimary (record { 0 = p.start }), refl)
  found (PlanPlace.CommittingSecondary c k) fits none = at_cell _ k _ fits.1
  found (PlanPlace.Settling k) fits none = at_cell _ 0 _ (let lt : k < length (declared_cells p.what) = fits.1 in omega arith)
  found (PlanPlace.Clearing k end o) fits none = at_cell _ k _ (let a : k < end = fits.1 in let b : end ≤ length (declared_cells p.what) = fits.2 in omega arith)
  found (PlanPlace.Over o) fits none = absurd cc
