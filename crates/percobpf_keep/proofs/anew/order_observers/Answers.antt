use Rattle.std.proofs.Common.{◌≡◌, ◌<◌, ℕ, zero, suc, List, [], ◌∷◌, length, Ok, Some, get_or, slice_get, refl, ap, sym, ◌∙◌, subst, arith}
use Rattle.std.proofs.lemmas.Option.{slice_get-get_or, slice_get_within}
use Rattle.pb_base.proofs.Logic.{same_some}
use Rattle.pb_generations.specs.Chosen.{AreChosen}
use Rattle.pb_registry.specs.Judging.{ReadsManifest}
use Rattle.pb_accepted.specs.Observers.{ObserverOf}
use Rattle.percobpf_keep.proofs.anew.order_observers.Goals as goal

-- as long as the other, which has each of its elements at the same place
same_lists : {A : Type 0} (xs ys : List A) → length xs ≡ length ys → ((n : ℕ) (x : A) → slice_get xs n ≡ Some x → slice_get ys n ≡ Some x) → xs ≡ ys
same_lists [] [] e each = refl
same_lists [] (y ∷ ys) e each = absurd cc
same_lists (x ∷ xs) [] e each = absurd cc
same_lists (x ∷ xs) (y ∷ ys) e each = ap (λ z. z ∷ xs) (sym (same_some y x (each zero x refl))) ∙ ap (λ l. y ∷ l) (same_lists xs ys (omega (arith, e)) (λ n z is. each (suc n) z is))

-- those at all places, in their order, are the same
chosen_in_order : (places : List ℕ) (old new : List ObserverOf) → AreChosen places old new → length places ≡ length old → ((n p : ℕ) → slice_get places n ≡ Some p → p ≡ n) → old ≡ new
chosen_in_order places old new so many order = same_lists old new (sym many ∙ sym so.as_many) (λ n x is.
    let within : n < length places = subst (λ m. n < m) (sym many) (slice_get_within old n x is) in
    let there = slice_get-get_or places n 0 within in
    let e = so.each n (get_or places n 0) there in
    let same : e.0 ≡ x = same_some e.0 x (sym (subst (λ q. slice_get old q ≡ Some e.0) (order n (get_or places n 0) there) e.1) ∙ is) in
    subst (λ y. slice_get new n ≡ Some y) same e.2)

pub returns-then-are_all_in_order-clause-manifest : goal.returns-then-are_all_in_order-clause-manifest
returns-then-are_all_in_order-clause-manifest g c =
    let old = c.args.keeper.now.state.observers in
    let new = c.in_ok-observers.observers.items in
    let places = c.in_ok-places.places.items in
    let yes = c.if-are_all_in_order.true in
    let so : AreChosen places old new = subst (λ l. AreChosen places old l) c.deref.ensures.value c.in_ok-places.ensures in
    let many : length places ≡ length old = ap length (sym c.deref-2.ensures.value) ∙ c.are_all_in_order.ensures.all yes ∙ ap length c.observers.ensures.observers in
    let order = subst (λ l. (n p : ℕ) → slice_get l n ≡ Some p → p ≡ n) c.deref-2.ensures.value (c.are_all_in_order.ensures.order yes) in
    subst (λ l. ReadsManifest c.args.manifest.now (Ok l)) (sym (chosen_in_order places old new so many order)) c.in_ok-observers.ensures.read
