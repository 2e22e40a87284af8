-- The walk along a journal and a seat's list.
use Rattle.std.proofs.Common.{◌≡◌, ◌≢◌, ◌↔◌, ℕ, ◌+◌, ◌-◌, ◌<◌, ◌≤◌, suc, List, [], ◌∷◌, length, get_or, drop, Some, refl, sym, ◌∙◌, ap, arith, add-one, drop-cons, eq-eqb, ne_eqb, length-drop, slice_get}
use Rattle.std.proofs.lemmas.List.{drop_more}
use Rattle.std.proofs.lemmas.Option.{slice_get_within, slice_get-get_or, get_or_from_slice_get}
use Rattle.std.proofs.Math.ListN.{drop_of_length-le}
use Rattle.pb_history.specs.Places.{entries_of}
use Rattle.pb_history.specs.declared.entry.Entry.{Entry}
use Rattle.pb_history.specs.declared.entry.Received.{Received}
use Rattle.pb_ending.specs.Cursors.{told_by}

-- an entry of another seat is passed over
pass_over : (seat : ℕ) (j : List Entry) (i : ℕ) (e : Entry) → i < length j → e ≡ get_or j i e → e.seat ≢ seat → entries_of seat (drop i j) ≡ entries_of seat (drop (i + 1) j)
pass_over seat j i e lt is other = rw (add-one, drop-cons j i e, ← is, ne_eqb e.seat seat other) refl

-- an entry of the seat comes first
come_first : (seat : ℕ) (j : List Entry) (i : ℕ) (e : Entry) → i < length j → e ≡ get_or j i e → e.seat ≡ seat → entries_of seat (drop i j) ≡ told_by e ∷ entries_of seat (drop (i + 1) j)
come_first seat j i e lt is own = rw (add-one, drop-cons j i e, ← is, eq-eqb e.seat seat own) refl

pub same_first_received : (x y : Received) (xs ys : List Received) → x ∷ xs ≡ y ∷ ys → x ≡ y
same_first_received x y xs ys e = cc

tails : (x y : Received) (xs ys : List Received) → x ∷ xs ≡ y ∷ ys → xs ≡ ys
tails x y xs ys e = cc

-- the list goes on with its item at the cursor
goes_on : (list : List Received) (n : ℕ) (r : Received) → slice_get list n ≡ Some r → drop n list ≡ r ∷ drop (n + 1) list
goes_on list n r is = drop_more list n r (slice_get_within list n r is) ∙ ap (λ x. x ∷ drop (n + 1) list) (get_or_from_slice_get list n r r is)

-- the item at the cursor is the first of what is left
first_of : (list : List Received) (n : ℕ) (r : Received) (rest : List Received) → drop n list ≡ r ∷ rest → slice_get list n ≡ Some r
first_of list n r rest is =
    let left : length list - n ≡ suc (length rest) = sym (length-drop n list) ∙ ap length is in
    let lt : n < length list = omega (arith, left) in
    slice_get-get_or list n r lt ∙ ap (λ x. Some x) (same_first_received (get_or list n r) r (drop (n + 1) list) rest (sym (drop_more list n r lt) ∙ is))

module _ (seat : ℕ) (j : List Entry) (list : List Received) (i n : ℕ) where
  -- what is left of the journal agrees with what is left of the list
  abbrev pub Rests : Type 0
  Rests = entries_of seat (drop i j) ≡ drop n list

  pub unlike_is_off : (e : Entry) → i < length j → e ≡ get_or j i e → e.seat ≡ seat → slice_get list n ≢ Some (told_by e) → Rests → ⊥
  unlike_is_off e lt is own other h = other (first_of list n (told_by e) (entries_of seat (drop (i + 1) j)) (sym h ∙ come_first seat j i e lt is own))

  pub skips_other_seat : (A : Type 0) (e : Entry) → i < length j → e ≡ get_or j i e → e.seat ≢ seat → A ↔ Rests → A ↔ (entries_of seat (drop (i + 1) j) ≡ drop n list)
  skips_other_seat A e lt is other k = let p = pass_over seat j i e lt is other in (λ a. sym p ∙ k.0 a, λ h. k.1 (p ∙ h))

  pub matches_next : (A : Type 0) (e : Entry) → i < length j → e ≡ get_or j i e → e.seat ≡ seat → slice_get list n ≡ Some (told_by e) → A ↔ Rests → A ↔ (entries_of seat (drop (i + 1) j) ≡ drop (n + 1) list)
  matches_next A e lt is own here k = grind (arith, come_first, goes_on, tails)

  pub walk_at_end : (A : Type 0) → length j ≤ i → n ≤ length list → A ↔ Rests → (n ≡ length list) ↔ A
  walk_at_end A end within k =
      let none : entries_of seat (drop i j) ≡ [] = ap (λ xs. entries_of seat xs) (drop_of_length-le j end) in (
        λ at. k.1 (none ∙ sym (drop_of_length-le list (omega arith))),
        λ a. let rest : length (drop n list) ≡ 0 = ap length (sym (k.0 a) ∙ none) in omega (arith, length-drop n list),
      )
