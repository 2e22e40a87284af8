-- One pass along a journal, with a cursor in each seat's list.
use Rattle.std.proofs.Common.{◌≡◌, ◌≢◌, ◌↔◌, ℕ, ◌+◌, ◌<◌, ◌≤◌, zero, suc, Bool, true, false, not, eqb, IsTrue, List, [], ◌∷◌, length, drop, replicate, Some, slice_set, slice_index_or, get_or-set_same, get_or-set_other, length-set, refl, sym, ◌∙◌, ap, subst, arith, eq-eqb, slice_get, ◌==◌}
use Rattle.std.specs.List.{list_any}
use Rattle.std.proofs.lemmas.Bool.{eqb-true, eqb-false, and_parts, not-true, both_ways, cases_lt}
use Rattle.std.proofs.lemmas.List.{get_or_default, get_or-replicate, get_or_past, length-replicate}
use Rattle.std.proofs.lemmas.Option.{slice_get_within, slice_get-get_or, get_or_from_slice_get}
use Rattle.std.proofs.lemmas.Map.Keys.{any_passes_from_place}
use Rattle.pb_history.specs.Places.{entries_of}
use Rattle.pb_history.specs.declared.entry.Entry.{Entry}
use Rattle.pb_core.specs.Calls.{SeatOf}
use Rattle.pb_ending.specs.Agrees.{EachTold, no_twice}
use Rattle.pb_ending.specs.Cursors.{told_by, AreNumberedBelow, ArePlaces, IsAt, HasNoSeat, AreAtEnd}
use Rattle.pb_ending.proofs.Walks.{unlike_is_off, skips_other_seat, matches_next, walk_at_end}
use Rattle.pb_base.proofs.Logic.{same_some as same_place}

-- ---- places

-- no other seat has the number of one before it
apart : (seats : List SeatOf) → IsTrue (no_twice seats) → (i j : ℕ) (d : SeatOf) → i < j → j < length seats → (slice_index_or seats i d).number ≢ (slice_index_or seats j d).number
apart [] once i j d lt in' = absurd (omega (arith, in'))
apart (s ∷ ss) once i zero d lt in' = absurd (omega (arith, lt))
apart (s ∷ ss) once zero (suc j) d lt in' = grind (arith, and_parts, not-true, slice_get-get_or, both_ways, any_passes_from_place, eq-eqb, s.number)
apart (s ∷ ss) once (suc i) (suc j) d lt in' =
    apart ss (and_parts (not (list_any (λ t. t.number == s.number) ss)) (no_twice ss) once).1 i j d (omega (arith, lt)) (omega (arith, in'))

module _ (seats : List SeatOf) (places : List ℕ) where
  -- the places of the first so many
  abbrev pub ArePlacesBelow : ℕ → Type 0
  ArePlacesBelow n = (k : ℕ) (d : SeatOf) → k < n → slice_get places (slice_index_or seats k d).number ≡ Some k

  pub one_place : (n : ℕ) (s : SeatOf) → n < length seats → s ≡ slice_index_or seats n s → s.number < length places → IsTrue (no_twice seats) → ArePlacesBelow n
      → (k : ℕ) (d : SeatOf) → k < n + 1 → slice_get (slice_set places s.number n) (slice_index_or seats k d).number ≡ Some k
  one_place n s in' is room once below k d lt = by (eqb k n) refl
    where
      s-is : slice_index_or seats n d ≡ s
      s-is = get_or_default seats n d s in' ∙ sym is

      by : (b : Bool) → eqb k n ≡ b → slice_get (slice_set places s.number n) (slice_index_or seats k d).number ≡ Some k
      by true e =
          let here : k ≡ n = eqb-true k n e in
          let room' : s.number < length (slice_set places s.number n) = omega (arith, room, length-set places s.number n) in
          let at : slice_get (slice_set places s.number n) s.number ≡ Some n = slice_get-get_or (slice_set places s.number n) s.number 0 room' ∙ ap (λ x. Some x) (get_or-set_same places s.number n 0 room) in
          subst (λ m. slice_get (slice_set places s.number n) (slice_index_or seats m d).number ≡ Some m) (sym here) (subst (λ (z : SeatOf). slice_get (slice_set places s.number n) z.number ≡ Some n) (sym s-is) at)
      by false e =
          let other : k ≢ n = eqb-false k n e in
          let less : k < n = omega (arith, lt, other) in
          let m = (slice_index_or seats k d).number in
          let was : slice_get places m ≡ Some k = below k d less in
          let in'' : m < length places = slice_get_within places m k was in
          let room' : m < length (slice_set places s.number n) = omega (arith, in'', length-set places s.number n) in
          let not-same : m ≢ s.number = λ h. apart seats once k n d less in' (h ∙ ap (λ (z : SeatOf). z.number) (sym s-is)) in
          slice_get-get_or (slice_set places s.number n) m 0 room' ∙ ap (λ x. Some x) (get_or-set_other places s.number m n 0 not-same ∙ get_or_from_slice_get places m k 0 was)

-- ---- cursors

-- how far the pass has come in one list
pub record IsAlong (journal : List Entry) (i : ℕ) (seat : SeatOf) (n : ℕ) : Type 0 where
  pub within : n ≤ length seat.received
  pub rests : (entries_of seat.number journal ≡ seat.received) ↔ (entries_of seat.number (drop i journal) ≡ drop n seat.received)

-- and in each list
abbrev pub AreAlong : List Entry → ℕ → List SeatOf → List ℕ → Type 0
AreAlong journal i seats cursors = (k : ℕ) (d : SeatOf) → k < length seats → IsAlong journal i (slice_index_or seats k d) (slice_index_or cursors k 0)

zero_at : (n k : ℕ) → slice_index_or (replicate n zero) k zero ≡ zero
zero_at n k = grind (arith, cases_lt, get_or-replicate, get_or_past, length-replicate)

-- at first every cursor is at the beginning of its list, and the pass at that of the journal
pub at_first : (j : List Entry) (seats : List SeatOf) (n : ℕ) → AreAlong j 0 seats (replicate n zero)
at_first j seats n k d lt = subst (λ c. IsAlong j 0 (slice_index_or seats k d) c) (sym (zero_at n k)) (record { within = omega arith; rests = (λ h. h, λ h. h) })

module _ (j : List Entry) (i : ℕ) (e : Entry) (lt : i < length j) (is : e ≡ slice_index_or j i e) where
  passed : (s : SeatOf) (n : ℕ) → e.seat ≢ s.number → IsAlong j i s n → IsAlong j (i + 1) s n
  passed s n other a = record { within = a.within; rests = skips_other_seat s.number j s.received i n _ e lt is other a.rests }

  taken : (s : SeatOf) (n next : ℕ) → e.seat ≡ s.number → slice_get s.received n ≡ Some (told_by e) → next ≡ n + 1 → IsAlong j i s n → IsAlong j (i + 1) s next
  taken s n next own here next-is a = subst (λ c. IsAlong j (i + 1) s c) (sym next-is) (record {
    within = let inside = slice_get_within s.received n (told_by e) here in omega (arith, inside);
    rests = matches_next s.number j s.received i n _ e lt is own here a.rests;
  })

  module _ (seats : List SeatOf) (cursors : List ℕ) (along : AreAlong j i seats cursors) where
    -- an entry of none of these
    pub none_on : HasNoSeat seats e.seat → AreAlong j (i + 1) seats cursors
    none_on none k d in' = passed (slice_index_or seats k d) (slice_index_or cursors k 0) (λ h. none k d in' (sym h)) (along k d in')

    module _ (place : ℕ) (s : SeatOf) (at : IsAt seats e.seat place) (s-is : s ≡ slice_index_or seats place s) where
      own : e.seat ≡ s.number
      own = sym (ap (λ (z : SeatOf). z.number) s-is ∙ at.numbered s)

      here : IsAlong j i s (slice_index_or cursors place 0)
      here = subst (λ z. IsAlong j i z (slice_index_or cursors place 0)) (sym s-is) (along place s at.within)

      -- an entry that isn't its list's next
      pub off_not_told : (count : ℕ) → slice_get s.received (slice_index_or cursors place 0) ≢ Some (told_by e) → EachTold count j seats → ⊥
      off_not_told count other told = grind (arith, unlike_is_off, own, s.number, s.received, at.within)

      -- its list's next
      pub one_on : (places : List ℕ) (next : ℕ) → ArePlaces places seats → place < length cursors → slice_get s.received (slice_index_or cursors place 0) ≡ Some (told_by e) → next ≡ slice_index_or cursors place 0 + 1
          → AreAlong j (i + 1) seats (slice_set cursors place next)
      one_on places next are room there next-is k d in' = by (eqb k place) refl
        where
          s-there : slice_index_or seats place d ≡ s
          s-there = get_or_default seats place d s at.within ∙ sym s-is

          by : (b : Bool) → eqb k place ≡ b → IsAlong j (i + 1) (slice_index_or seats k d) (slice_index_or (slice_set cursors place next) k 0)
          by true b-is =
              let same : k ≡ place = eqb-true k place b-is in
              let new : IsAlong j (i + 1) s next = taken s (slice_index_or cursors place 0) next own there next-is here in
              let set-there : IsAlong j (i + 1) s (slice_index_or (slice_set cursors place next) place 0) = subst (λ c. IsAlong j (i + 1) s c) (sym (get_or-set_same cursors place next 0 room)) new in
              subst (λ m. IsAlong j (i + 1) (slice_index_or seats m d) (slice_index_or (slice_set cursors place next) m 0)) (sym same)
              (subst (λ z. IsAlong j (i + 1) z (slice_index_or (slice_set cursors place next) place 0)) (sym s-there) set-there)
          by false b-is = grind (arith, eqb-false, same_place, get_or-set_other, passed, e.seat, at.numbered, at.within)

-- at the journal's end
pub all_told : (j : List Entry) (i : ℕ) (seats : List SeatOf) (cursors : List ℕ) (count : ℕ) → length j ≤ i → AreNumberedBelow count seats → AreAlong j i seats cursors → AreAtEnd seats cursors ↔ EachTold count j seats
all_told j i seats cursors count end below along = (
  λ at k d lt. record { seated = below k d lt; same = (done k d lt).0 (at k d lt) },
  λ told k d lt. (done k d lt).1 (told k d lt).same,
)
  where
    done : (k : ℕ) (d : SeatOf) → k < length seats → (slice_index_or cursors k 0 ≡ length (slice_index_or seats k d).received) ↔ (entries_of (slice_index_or seats k d).number j ≡ (slice_index_or seats k d).received)
    done k d lt =
        let s = slice_index_or seats k d in
        let a = along k d lt in
        walk_at_end s.number j s.received i (slice_index_or cursors k 0) _ end a.within a.rests
