-- Entries whose items are kept in a slab: look-ups and changes.
use Rattle.std.proofs.Common.{◌≡◌, ◌≢◌, ◌&&◌, ℕ, ◌+◌, Bool, true, false, cond, not, List, [], ◌∷◌, Option, None, Some, refl, sym, ap, ◌∙◌, subst, arith, suc, zero, is_some, IsSome, count_by, IfSome, length, slice_get, unwrap_or, IsTrue, T, option_map, Less, Equal, Greater}
use Rattle.std.specs.Ordering.{is_eq, is_lt, eq_by_cmp}
use Rattle.std.specs.FinMap.{find, put, is_sorted}
use Rattle.std.specs.FinMap.Entries.{by_order, where_key, below_all, length-put, length_without, same_entries, is_sorted-put, is_sorted-where_key, find-put, find-where_key}
use Rattle.std.specs.Cmp.{tied_itself, alike_right, eq_by_cmp_equiv}
use Rattle.std.specs.List.{last_or}
use Rattle.pb_memtablet.specs.Chunks.{entries_up_to}
use Rattle.pb_memtablet.specs.Words.{slot_cmp-IsAntisymmetric, Item, slot_cmp, slot_cmp_total, entries_after}
use Rattle.pb_store.specs.declared.slot.Slot.{Slot as Name}
use Rattle.pb_memtablet.specs.Stored.{Items, KeyList, found_at, HasItem, item_at, seen, AllKeys, AreKeysApart, AreStored}
use Rattle.pb_memtablet.specs.Listed.{EntryList}
use Rattle.pb_base.proofs.Logic.{test_is_true}

-- the keys without that of the slot
abbrev without : Name → KeyList → KeyList
without slot ks = where_key slot_cmp (λ k. not (eq_by_cmp slot_cmp slot k)) ks

-- ---- the same slots
below_all-seen : (s : Items) (x : Name) (ks : KeyList) → below_all slot_cmp x (seen s ks) ≡ below_all slot_cmp x ks
below_all-seen s x [] = refl
below_all-seen s x (k ∷ ks) = ap (λ b. is_lt (slot_cmp x k.0) && b) (below_all-seen s x ks)

pub is_sorted-seen : (s : Items) (ks : KeyList) → is_sorted slot_cmp (seen s ks) ≡ is_sorted slot_cmp ks
is_sorted-seen s [] = refl
is_sorted-seen s (k ∷ ks) = grind (arith, below_all-seen, is_sorted-seen s ks)

pub length-seen : (s : Items) (ks : KeyList) → length (seen s ks) ≡ length ks
length-seen s [] = refl
length-seen s (k ∷ ks) = ap suc (length-seen s ks)

pub at-seen : (s : Items) (ks : KeyList) (i : ℕ) → slice_get (seen s ks) i ≡ option_map (λ k. (k.0, item_at s k.1)) (slice_get ks i)
at-seen s [] i = refl
at-seen s (k ∷ ks) zero = refl
at-seen s (k ∷ ks) (suc i) = at-seen s ks i

pub find-seen : (s : Items) (slot : Name) (ks : KeyList) → find slot_cmp slot (seen s ks) ≡ option_map (item_at s) (find slot_cmp slot ks)
find-seen s slot [] = refl
find-seen s slot (k ∷ ks) =
    elim (eq_by_cmp slot_cmp slot k.0) as (λ b. cond b (Some (item_at s k.1)) (find slot_cmp slot (seen s ks)) ≡ option_map (item_at s) (cond b (Some k.1) (find slot_cmp slot ks))) [
      | true ↦ refl
      | false ↦ find-seen s slot ks
    ]

-- ---- what holds of all keys
all_with : (P Q : ℕ → Type 0) (ks : KeyList) → ((n : ℕ) → P n → Q n) → AllKeys P ks → AllKeys Q ks
all_with P Q [] f all = tt
all_with P Q (k ∷ ks) f all = (f k.1 all.0, all_with P Q ks f all.1)

-- what holds of all keys holds of the one that is found
pub of_found : (P : ℕ → Type 0) (ks : KeyList) (slot : Name) (n : ℕ) → find slot_cmp slot ks ≡ Some n → AllKeys P ks → P n
of_found P [] slot n e all = cc
of_found P (k ∷ ks) slot n e all =
    elim (eq_by_cmp slot_cmp slot k.0) as (λ b. cond b (Some k.1) (find slot_cmp slot ks) ≡ Some n → P n) [
      | true ↦ λ p. subst P (ap (λ o. unwrap_or o n) p) all.0
      | false ↦ λ p. of_found P ks slot n p all.1
    ] e

all-where : (P : ℕ → Type 0) (p : Name → Bool) (ks : KeyList) → AllKeys P ks → AllKeys P (where_key slot_cmp p ks)
all-where P p [] all = tt
all-where P p (k ∷ ks) all = grind (arith, all-where P p ks all.1)

all-put : (P : ℕ → Type 0) (slot : Name) (n : ℕ) (ks : KeyList) → P n → AllKeys P ks → AllKeys P (put slot_cmp slot n ks)
all-put P slot n [] new all = (new, tt)
all-put P slot n (k ∷ ks) new all =
    elim (slot_cmp slot k.0) as (λ r. AllKeys P (by_order r ((slot, n) ∷ k ∷ ks) ((k.0, n) ∷ ks) (k ∷ put slot_cmp slot n ks))) [
      | Less ↦ (new, all)
      | Equal ↦ (new, all.1)
      | Greater ↦ (all.0, all-put P slot n ks new all.1)
    ]

apart-where : (p : Name → Bool) (ks : KeyList) → AreKeysApart ks → AreKeysApart (where_key slot_cmp p ks)
apart-where p [] a = tt
apart-where p (k ∷ ks) a = grind (arith, all-where, apart-where p ks a.1)

apart-put : (slot : Name) (n : ℕ) (ks : KeyList) → AllKeys (λ m. m ≢ n) ks → AreKeysApart ks → AreKeysApart (put slot_cmp slot n ks)
apart-put slot n [] new a = (tt, tt)
apart-put slot n (k ∷ ks) new a =
    elim (slot_cmp slot k.0) as (λ r. AreKeysApart (by_order r ((slot, n) ∷ k ∷ ks) ((k.0, n) ∷ ks) (k ∷ put slot_cmp slot n ks))) [
      | Less ↦ (new, a)
      | Equal ↦ (new.1, a.1)
      | Greater ↦ (all-put (λ m. m ≢ k.1) slot n ks (λ e. new.0 (sym e)) a.0, apart-put slot n ks new.1 a.1)
    ]

-- without a slot, the key that stood there is gone
gone_apart : (slot : Name) (n : ℕ) (ks : KeyList) → find slot_cmp slot ks ≡ Some n → AreKeysApart ks → AllKeys (λ m. m ≢ n) (without slot ks)
gone_apart slot n [] e a = tt
gone_apart slot n (k ∷ ks) e a =
    elim (eq_by_cmp slot_cmp slot k.0) as (λ b. cond b (Some k.1) (find slot_cmp slot ks) ≡ Some n → AllKeys (λ m. m ≢ n) (cond (not b) (k ∷ without slot ks) (without slot ks))) [
      | true ↦ λ p. all-where _ _ ks (subst (λ (m : ℕ). AllKeys (λ x. x ≢ m) ks) (ap (λ o. unwrap_or o n) p) a.0)
      | false ↦ λ p. (λ q. of_found (λ m. m ≢ k.1) ks slot n p a.0 (sym q), gone_apart slot n ks p a.1)
    ] e

-- taking out what isn't there leaves all
pub nothing_gone : (slot : Name) (ks : KeyList) → find slot_cmp slot ks ≡ None → without slot ks ≡ ks
nothing_gone slot [] e = refl
nothing_gone slot (k ∷ ks) e =
    elim (eq_by_cmp slot_cmp slot k.0) as (λ b. cond b (Some k.1) (find slot_cmp slot ks) ≡ None → cond (not b) (k ∷ without slot ks) (without slot ks) ≡ k ∷ ks) [
      | true ↦ λ p. cc
      | false ↦ λ p. ap (λ xs. k ∷ xs) (nothing_gone slot ks p)
    ] e

-- ---- the slab changed at one key
-- the slab t has what s has at each key but n
abbrev pub Others : Items → Items → ℕ → Type 0
Others s t n = (other : ℕ) → other ≢ n → found_at t other ≡ found_at s other

module _ (s t : Items) (n : ℕ) where
  still_stored : (ks : KeyList) → Others s t n → AllKeys (λ m. m ≢ n) ks → AllKeys (HasItem s) ks → AllKeys (HasItem t) ks
  still_stored [] o a all = tt
  still_stored (k ∷ ks) o a all = (subst IsSome (sym (o k.1 a.0)) all.0, still_stored ks o a.1 all.1)

  still_seen : (ks : KeyList) → Others s t n → AllKeys (λ m. m ≢ n) ks → seen t ks ≡ seen s ks
  still_seen [] o a = refl
  still_seen (k ∷ ks) o a = grind (arith, still_seen ks o a.1)

  seen-put : (slot : Name) (item : Item) (ks : KeyList) → item_at t n ≡ item → Others s t n → AllKeys (λ m. m ≢ n) ks → seen t (put slot_cmp slot n ks) ≡ put slot_cmp slot item (seen s ks)
  seen-put slot item [] e o a = ap (λ x. (slot, x) ∷ []) e
  seen-put slot item (k ∷ ks) e o a =
      elim (slot_cmp slot k.0) as (λ r.
      seen t (by_order r ((slot, n) ∷ k ∷ ks) ((k.0, n) ∷ ks) (k ∷ put slot_cmp slot n ks))
      ≡ by_order r ((slot, item) ∷ (k.0, item_at s k.1) ∷ seen s ks) ((k.0, item) ∷ seen s ks) ((k.0, item_at s k.1) ∷ put slot_cmp slot item (seen s ks))) [
        | Less ↦ ap (λ x. (slot, x) ∷ seen t (k ∷ ks)) e ∙ ap (λ es. (slot, item) ∷ es) (still_seen (k ∷ ks) o a)
        | Equal ↦ ap (λ x. (k.0, x) ∷ seen t ks) e ∙ ap (λ es. (k.0, item) ∷ es) (still_seen ks o a.1)
        | Greater ↦
            ap (λ x. (k.0, unwrap_or x (Item.Write (record { 0 = 0 }))) ∷ seen t (put slot_cmp slot n ks)) (o k.1 a.0)
            ∙ ap (λ es. (k.0, item_at s k.1) ∷ es) (seen-put slot item ks e o a.1)
      ]

pub seen-where : (s : Items) (p : Name → Bool) (ks : KeyList) → seen s (where_key slot_cmp p ks) ≡ where_key slot_cmp p (seen s ks)
seen-where s p [] = refl
seen-where s p (k ∷ ks) = grind (arith, seen-where s p ks)

-- ---- an entry put under a fresh key
module _ (s t : Items) (ks ls : KeyList) (slot : Name) (n : ℕ) (item : Item) (kept : AreStored s ks) (vacant : found_at s n ≡ None) (changed : found_at t n ≡ Some item) (others : Others s t n) (e : ls ≡ put slot_cmp slot n ks) where
  fresh : AllKeys (λ m. m ≢ n) ks
  fresh = all_with (HasItem s) (λ m. m ≢ n) ks (λ m is same. let none : IsSome {T = Item} None = subst IsSome (ap (found_at s) same ∙ vacant) is in cc) kept.stored

  pub put_seen : seen t ls ≡ put slot_cmp slot item (seen s ks)
  put_seen = ap (seen t) e ∙ seen-put s t n slot item ks (ap (λ x. unwrap_or x (Item.Write (record { 0 = 0 }))) changed) others fresh

  put_stored : AllKeys (HasItem t) (put slot_cmp slot n ks)
  put_stored = all-put (HasItem t) slot n ks (ap is_some changed) (still_stored s t n ks others fresh kept.stored)

  pub stored_put : T (is_sorted slot_cmp ks) → find slot_cmp slot ks ≡ None → count_by is_some t ≡ count_by is_some s + 1 → AreStored t ls
  stored_put sorted none more = record {
    stored = subst (AllKeys (HasItem t)) (sym e) put_stored;
    apart = subst AreKeysApart (sym e) (apart-put slot n ks fresh kept.apart);
    counted = more ∙ ap (λ k. k + 1) kept.counted ∙ sym (ap length e ∙ length-put slot_cmp slot_cmp_total slot n ks sorted ∙ ap (λ o. cond (is_some o) (length ks) (length ks + 1)) none);
  }

-- ---- an entry taken out
module _ (s t : Items) (ks ls : KeyList) (slot : Name) (n : ℕ) (kept : AreStored s ks) (found : find slot_cmp slot ks ≡ Some n) (others : Others s t n) (e : ls ≡ without slot ks) where
  left : AllKeys (λ m. m ≢ n) (without slot ks)
  left = gone_apart slot n ks found kept.apart

  pub taken_seen : seen t ls ≡ where_key slot_cmp (λ k. not (eq_by_cmp slot_cmp slot k)) (seen s ks)
  taken_seen = ap (seen t) e ∙ still_seen s t n (without slot ks) others left ∙ seen-where s _ ks

  pub stored_taken : T (is_sorted slot_cmp ks) → count_by is_some t + 1 ≡ count_by is_some s → AreStored t ls
  stored_taken sorted fewer =
      let size : 1 + length (without slot ks) ≡ length ks = ap (λ o. cond (is_some o) 1 0 + length (without slot ks)) (sym found) ∙ length_without slot_cmp slot_cmp_total slot ks sorted in
      let same = ap length e in
      record {
        stored = subst (AllKeys (HasItem t)) (sym e) (still_stored s t n (without slot ks) others left (all-where (HasItem s) _ ks kept.stored));
        apart = subst AreKeysApart (sym e) (apart-where _ ks kept.apart);
        counted = omega (arith, size, same, fewer, kept.counted);
      }

-- ---- an entry put where the slot's own was taken out
without_slot : {X : Type 0} (slot q : Name) (es : List (Name × X)) → find slot_cmp q (where_key slot_cmp (λ k. not (eq_by_cmp slot_cmp slot k)) es) ≡ cond (not (eq_by_cmp slot_cmp slot q)) (find slot_cmp q es) None
without_slot slot q es = find-where_key slot_cmp (λ k. not (eq_by_cmp slot_cmp slot k)) q (λ x t. ap (λ r. not (is_eq r)) (sym (alike_right slot_cmp_total q x slot t))) es

-- a slot is free once its entry was taken out
pub found_no_more : (slot : Name) (ks : KeyList) → find slot_cmp slot (without slot ks) ≡ None
found_no_more slot ks = without_slot slot slot ks ∙ ap (λ r. cond (not (is_eq r)) (find slot_cmp slot ks) None) (tied_itself slot_cmp_total slot)

hidden : {X : Type 0} (a b : Bool) (v x y : X) → a ≡ b → cond a v (cond (not b) x y) ≡ cond a v x
hidden a b v x y e = grind arith

-- an entry taken out and put anew is one that was replaced
pub put_anew : (slot : Name) (item : Item) (es : EntryList) → T (is_sorted slot_cmp es)
    → put slot_cmp slot item (where_key slot_cmp (λ k. not (eq_by_cmp slot_cmp slot k)) es) ≡ put slot_cmp slot item es
put_anew slot item es s =
    same_entries slot_cmp slot_cmp_total slot_cmp-IsAntisymmetric _ _
    (is_sorted-put slot_cmp slot_cmp_total slot item _ (is_sorted-where_key slot_cmp _ es s))
    (is_sorted-put slot_cmp slot_cmp_total slot item es s)
    (λ q.
    find-put slot_cmp slot_cmp_total q slot item _
    ∙ ap (cond (eq_by_cmp slot_cmp q slot) (Some item)) (without_slot slot q es)
    ∙ hidden (eq_by_cmp slot_cmp q slot) (eq_by_cmp slot_cmp slot q) (Some item) (find slot_cmp q es) None ((eq_by_cmp_equiv slot_cmp_total).symm q slot)
    ∙ sym (find-put slot_cmp slot_cmp_total q slot item es))

-- ---- the last entry up to a slot
-- the entry that a slot and a key stand for
abbrev pub as_entry : Items → Name × ℕ → Name × Item
as_entry s k = (k.0, item_at s k.1)

pub last-seen : (s : Items) (slot : Name) (o : Option (Name × ℕ)) (ks : KeyList)
    → option_map (as_entry s) (last_or o (entries_up_to slot_cmp slot ks)) ≡ last_or (option_map (as_entry s) o) (entries_up_to slot_cmp slot (seen s ks))
last-seen s slot o [] = refl
last-seen s slot o (k ∷ ks) =
    elim (not (is_lt (slot_cmp slot k.0))) as (λ b.
    option_map (as_entry s) (last_or o (cond b (k ∷ entries_up_to slot_cmp slot ks) (entries_up_to slot_cmp slot ks)))
    ≡ last_or (option_map (as_entry s) o) (cond b (as_entry s k ∷ entries_up_to slot_cmp slot (seen s ks)) (entries_up_to slot_cmp slot (seen s ks)))) [
      | true ↦ last-seen s slot (Some k) ks
      | false ↦ last-seen s slot o ks
    ]

-- what holds of all keys holds of the last one up to a slot
pub last_stored : (P : ℕ → Type 0) (slot : Name) (o : Option (Name × ℕ)) (ks : KeyList) → IfSome o (λ k. P k.1) → AllKeys P ks → IfSome (last_or o (entries_up_to slot_cmp slot ks)) (λ k. P k.1)
last_stored P slot o [] p all = p
last_stored P slot o (k ∷ ks) p all =
    elim (not (is_lt (slot_cmp slot k.0))) as (λ b. IfSome (last_or o (cond b (k ∷ entries_up_to slot_cmp slot ks) (entries_up_to slot_cmp slot ks))) (λ x. P x.1)) [
      | true ↦ last_stored P slot (Some k) ks all.0 all.1
      | false ↦ last_stored P slot o ks p all.1
    ]

-- and of one that may have been found
pub found_stored : (P : ℕ → Type 0) (ks : KeyList) (slot : Name) → AllKeys P ks → IfSome (find slot_cmp slot ks) P
found_stored P [] slot all = tt
found_stored P (k ∷ ks) slot all =
    elim (eq_by_cmp slot_cmp slot k.0) as (λ b. IfSome (cond b (Some k.1) (find slot_cmp slot ks)) P) [
      | true ↦ all.0
      | false ↦ found_stored P ks slot all.1
    ]

-- and of one at a place
pub stored_at : (P : ℕ → Type 0) (ks : KeyList) (i : ℕ) → AllKeys P ks → IfSome (slice_get ks i) (λ k. P k.1)
stored_at P [] i all = tt
stored_at P (k ∷ ks) zero all = all.0
stored_at P (k ∷ ks) (suc i) all = stored_at P ks i all.1

pub next-seen : (s : Items) (after : Option Name) (ks : KeyList) → option_map (as_entry s) (slice_get (entries_after after ks) 0) ≡ slice_get (entries_after after (seen s ks)) 0
next-seen s None ks = sym (at-seen s ks 0)
next-seen s (Some slot) [] = refl
next-seen s (Some slot) (k ∷ ks) =
    elim (is_lt (slot_cmp slot k.0)) as (λ b.
    option_map (as_entry s) (slice_get (cond b (k ∷ entries_after (Some slot) ks) (entries_after (Some slot) ks)) 0)
    ≡ slice_get (cond b (as_entry s k ∷ entries_after (Some slot) (seen s ks)) (entries_after (Some slot) (seen s ks))) 0) [
      | true ↦ refl
      | false ↦ next-seen s (Some slot) ks
    ]

-- and of the next one in a walk
pub next_stored : (P : ℕ → Type 0) (after : Option Name) (ks : KeyList) → AllKeys P ks → IfSome (slice_get (entries_after after ks) 0) (λ k. P k.1)
next_stored P None ks all = stored_at P ks 0 all
next_stored P (Some slot) [] all = tt
next_stored P (Some slot) (k ∷ ks) all =
    elim (is_lt (slot_cmp slot k.0)) as (λ b. IfSome (slice_get (cond b (k ∷ entries_after (Some slot) ks) (entries_after (Some slot) ks)) 0) (λ x. P x.1)) [
      | true ↦ all.0
      | false ↦ next_stored P (Some slot) ks all.1
    ]

-- ---- what is kept, with other slots
-- keys are in order as the entries that they stand for are, since both go by slot
pub sorted_keys : (s : Items) (ks : KeyList) → IsTrue (is_sorted slot_cmp (seen s ks)) → IsTrue (is_sorted slot_cmp ks)
sorted_keys s ks e = sym (is_sorted-seen s ks) ∙ e

pub sorted_without : (slot : Name) (ks ls : KeyList) → T (is_sorted slot_cmp ks) → ls ≡ without slot ks → IsTrue (is_sorted slot_cmp ls)
sorted_without slot ks ls s e = test_is_true _ (subst (λ (xs : KeyList). T (is_sorted slot_cmp xs)) (sym e) (is_sorted-where_key slot_cmp _ ks s))

-- ---- an entry in the place of another
free_without : (gone slot : Name) (ks : KeyList) → find slot_cmp slot ks ≡ None → find slot_cmp slot (without gone ks) ≡ None
free_without gone slot ks e = without_slot gone slot ks ∙ ap (λ o. cond (not (eq_by_cmp slot_cmp gone slot)) o None) e ∙ same_either (not (eq_by_cmp slot_cmp gone slot)) None
  where
    same_either : {X : Type 0} (b : Bool) (x : X) → cond b x x ≡ x
    same_either true x = refl
    same_either false x = refl

module _ (s t u : Items) (ks ls : KeyList) (gone slot : Name) (n m : ℕ) (item : Item) (kept : AreStored s ks) (found : find slot_cmp gone ks ≡ Some n) (sorted : T (is_sorted slot_cmp ks)) (free : find slot_cmp slot ks ≡ None)
    (apart : Others s t n) (fewer : count_by is_some t + 1 ≡ count_by is_some s)
    (vacant : found_at t m ≡ None) (changed : found_at u m ≡ Some item) (others : Others t u m) (more : count_by is_some u ≡ count_by is_some t + 1)
    (e : ls ≡ put slot_cmp slot m (without gone ks)) where
  between : AreStored t (without gone ks)
  between = stored_taken s t ks (without gone ks) gone n kept found apart refl sorted fewer

  pub renewed_seen : seen u ls ≡ put slot_cmp slot item (where_key slot_cmp (λ k. not (eq_by_cmp slot_cmp gone k)) (seen s ks))
  renewed_seen =
      put_seen t u (without gone ks) ls slot m item between vacant changed others e
      ∙ ap (put slot_cmp slot item) (taken_seen s t ks (without gone ks) gone n kept found apart refl)

  pub stored_renewed : AreStored u ls
  stored_renewed = stored_put t u (without gone ks) ls slot m item between vacant changed others e (is_sorted-where_key slot_cmp _ ks sorted) (free_without gone slot ks free) more

-- ---- two entries under fresh keys
module _ (s t u : Items) (ks ls : KeyList) (slot next : Name) (n m : ℕ) (item other : Item) (kept : AreStored s ks) (sorted : T (is_sorted slot_cmp ks))
    (apart : eq_by_cmp slot_cmp next slot ≡ false) (free : find slot_cmp slot ks ≡ None) (next_free : find slot_cmp next ks ≡ None)
    (vacant : found_at s n ≡ None) (changed : found_at t n ≡ Some item) (others : Others s t n) (more : count_by is_some t ≡ count_by is_some s + 1)
    (next_vacant : found_at t m ≡ None) (next_changed : found_at u m ≡ Some other) (next_others : Others t u m) (next_more : count_by is_some u ≡ count_by is_some t + 1)
    (e : ls ≡ put slot_cmp next m (put slot_cmp slot n ks)) where
  after_one : AreStored t (put slot_cmp slot n ks)
  after_one = stored_put s t ks (put slot_cmp slot n ks) slot n item kept vacant changed others refl sorted free more

  still_free : find slot_cmp next (put slot_cmp slot n ks) ≡ None
  still_free = find-put slot_cmp slot_cmp_total next slot n ks ∙ ap (λ b. cond b (Some n) (find slot_cmp next ks)) apart ∙ next_free

  pub both_seen : seen u ls ≡ put slot_cmp next other (put slot_cmp slot item (seen s ks))
  both_seen =
      put_seen t u (put slot_cmp slot n ks) ls next m other after_one next_vacant next_changed next_others e
      ∙ ap (put slot_cmp next other) (put_seen s t ks (put slot_cmp slot n ks) slot n item kept vacant changed others refl)

  pub stored_both : AreStored u ls
  stored_both =
      stored_put t u (put slot_cmp slot n ks) ls next m other after_one next_vacant next_changed next_others e
      (is_sorted-put slot_cmp slot_cmp_total slot n ks sorted) still_free next_more
