-- A table keeps its invariant over one more entry.
use Rattle.std.proofs.Common.{◌≡◌, ◌≢◌, ℕ, ◌+◌, ◌<◌, Bool, eqb, cond, List, [], ◌∷◌, ◌++◌, length, length-append, length-set, get_or-set_same, get_or-set_other, slice_set, slice_index_or, refl, arith, eq-eqb, ne_eqb, add-zero}
use Rattle.std.proofs.lemmas.Bool.{eqb-false, eqb-true}
use Rattle.pb_core.specs.Words.{Step, Answer, StateOf, TableStep, Entry, places_from}
use Rattle.pb_core.specs.Keeping.{SharedKeeps}
use Rattle.pb_core.proofs.StepsKeep.{case_kept}
use Rattle.pb_history.proofs.JournalParts.{one_more as run_more}

-- no step changes the number of seats
pub machine_seats : (s : StateOf) (seat : ℕ) (step : Step) (a : Answer) (t : StateOf) → TableStep s seat step a t → t.seats ≡ s.seats
machine_seats s seat step a t m = (case_kept s seat step a t m.taken).seats

-- and none the observers
pub machine_observers : (s : StateOf) (seat : ℕ) (step : Step) (a : Answer) (t : StateOf) → TableStep s seat step a t → t.observers ≡ s.observers
machine_observers s seat step a t m = (case_kept s seat step a t m.taken).observers

places_head : (at seat : ℕ) (d : Entry) (ps qs : List ℕ) (n : ℕ) → ps ≡ qs ++ n ∷ [] → cond (eqb d.seat seat) (at ∷ ps) ps ≡ cond (eqb d.seat seat) (at ∷ qs) qs ++ n ∷ []
places_head at seat d ps qs n is = grind arith

-- one more entry of the seat, and one of another
pub places_same : (at seat : ℕ) (es : List Entry) (e : Entry) → e.seat ≡ seat → places_from at seat (es ++ e ∷ []) ≡ places_from at seat es ++ (at + length es) ∷ []
places_same at seat [] e is = rw (eq-eqb e.seat seat is, add-zero) refl
places_same at seat (d ∷ es) e is = grind (arith, places_head, places_same (at + 1) seat es e is)

-- an entry of another seat leaves a book as it is
pub places_other : (at seat : ℕ) (es : List Entry) (e : Entry) → e.seat ≢ seat → places_from at seat (es ++ e ∷ []) ≡ places_from at seat es
places_other at seat [] e is = rw (ne_eqb e.seat seat is) refl
places_other at seat (d ∷ es) e is = grind (arith, d.seat, places_other (at + 1) seat es e is)

-- each book after one more entry
placed_more : (j : List Entry) (bs : List (List ℕ)) (seat : ℕ) (e : Entry) (b' : List ℕ) → e.seat ≡ seat → seat < length bs
    → ((i : ℕ) → i < length bs → slice_index_or bs i [] ≡ places_from 0 i j)
    → b' ≡ slice_index_or bs seat [] ++ length j ∷ []
    → (i : ℕ) → i < length bs → (b : Bool) → eqb i seat ≡ b → slice_index_or (slice_set bs seat b') i [] ≡ places_from 0 i (j ++ e ∷ [])
placed_more j bs seat e b' own in' placed x i lt b is = grind (arith, eqb-true, get_or-set_same, places_same, eqb-false, get_or-set_other, places_other)

-- the invariant after one more entry
pub kept_more : (j : List Entry) (bs : List (List ℕ)) (s : StateOf) (o l : ℕ) (seat : ℕ) (step : Step) (a : Answer) (t : StateOf) (j' : List Entry) (b' : List ℕ)
    → SharedKeeps j bs s o l → TableStep s seat step a t → seat < length bs → length j < l
    → j' ≡ j ++ record { seat = seat; step = step; answer = a } ∷ []
    → b' ≡ slice_index_or bs seat [] ++ length j ∷ []
    → SharedKeeps j' (slice_set bs seat b') t o l
kept_more j bs s o l seat step a t j' b' k m in' room j-is b-is = grind (arith, machine_seats, machine_observers, run_more, placed_more, length-set, length-append, t.seats, s.seats, t.observers, s.observers, k.legal.fits, k.legal.run, k.placed, k.counted, k.bounded)
