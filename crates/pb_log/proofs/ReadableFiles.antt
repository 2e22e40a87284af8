-- What a file that is opened holds, and what becomes of a new one.
use Rattle.std.proofs.Common.{◌≡◌, ℕ, ◌+◌, ◌<◌, ◌≤◌, ◌-◌, List, [], ◌∷◌, ◌++◌, inl, inr, length, get_or, take, drop, refl, sym, ◌∙◌, ap, subst, arith, length-append, length-drop}
use Rattle.std.proofs.lemmas.List.{append-nil, take_at, drop_at}
use Rattle.sqlite_disk.specs.Disk.{Holds, Torn, Follows, Only}
use Rattle.pb_log.specs.Records.{StandsOpen, EndsShut, IsLog, IsShutBeforeOrAfter, IsShutOrNew, IsSound, IsReadable, IsAtRest, block, blocks}
use Rattle.pb_log.specs.Causes.{IsDamaged}
use Rattle.pb_log.proofs.Blocks.{nothing_begins, length-block}
use Rattle.pb_log.proofs.OneReading.{one_reading, same_tail}

-- a list with a first item
first_and_rest : (xs : List ℕ) → 0 < length xs → xs ≡ get_or xs 0 0 ∷ drop 1 xs
first_and_rest [] some = absurd (omega (arith, some))
first_and_rest (x ∷ xs) some = refl

-- bytes from a place on, up to their end
pub whole_rest : (bytes : List ℕ) (end : ℕ) → take (length bytes - end) (drop end bytes) ≡ drop end bytes
whole_rest bytes end = ap (λ (x : List ℕ). take (length bytes - end) x) (sym (append-nil (drop end bytes))) ∙ take_at (drop end bytes) [] (length bytes - end) (length-drop end bytes)

-- ---- a file of at most one byte

pub new_has_none : (f : List ℕ) (rs : List (List ℕ)) → length f ≤ 1 → IsLog f rs → rs ≡ []
new_has_none f [] few its = refl
new_has_none f (r ∷ rs) few its =
    let next = 0 + 13 + length r in
    absurd (omega (arith, few, ap length its.is, length-append (blocks 0 (r ∷ rs)) its.tail, length-append (block 0 r) (blocks next rs), length-block 0 r))

pub new_is_log : (f : List ℕ) → length f ≤ 1 → IsLog f []
new_is_log f few = record {
  tail = f;
  is = refl;
  ends = nothing_begins (length (blocks 0 [])) f (omega (arith, few));
  short = tt;
}

-- its first gate is torn into one byte
pub new_short : (f : List ℕ) (old new : List ℕ → Type 0) → length f ≤ 1 → Only f old → Follows (Torn 0 1) old new → (c : List ℕ) → new c → length c ≤ 1
new_short f old new few only follows c left =
    let from = follows c left in
    let torn : Torn 0 1 f c = subst (λ (x : List ℕ). Torn 0 1 x c) (only from.0 from.1) from.2 in
    omega (arith, torn.no_longer, few)

pub new_crash : (f : List ℕ) (old new : List ℕ → Type 0) → length f ≤ 1 → Only f old → Follows (Torn 0 1) old new → (rs : List (List ℕ)) → IsLog f rs → (c : List ℕ) → new c → IsLog c rs
new_crash f old new few only follows rs its c left =
    let still = new_short f old new few only follows c left in
    subst (λ (l : List (List ℕ)). IsLog c l) (sym (new_has_none f rs few its)) (new_is_log c still)

-- and stands once it is written
pub new_at_rest : (new : List ℕ) (may_leave : List ℕ → Type 0) → Holds new 0 (0 ∷ []) → Only new may_leave → IsAtRest new may_leave 0 []
new_at_rest new may_leave holds only =
    let gate : get_or new 0 0 ≡ 0 = holds.each 0 (omega arith) in
    record {
      torn = drop 1 new;
      is = first_and_rest new (omega (arith, holds.within)) ∙ ap (λ (k : ℕ). k ∷ drop 1 new) gate;
      ends_at = refl;
      short = tt;
      durable = only;
    }

-- ---- one that ends as a put leaves it

-- a sound file has these records
abbrev pub sound_is_log : (f : List ℕ) (rs : List (List ℕ)) → IsSound f rs → IsLog f rs
sound_is_log f rs s = record {
  tail = s.tail;
  is = s.is;
  ends = λ (b : StandsOpen (length (blocks 0 rs)) s.tail). omega (arith, ap (λ (x : List ℕ). get_or x 0 0) (sym s.shut.is ∙ b.is));
  short = s.short;
}

sound_at_rest : (f : List ℕ) (rs : List (List ℕ)) (end : ℕ) (may_leave : List ℕ → Type 0) → IsSound f rs → end ≡ length (blocks 0 rs) → Only f may_leave → IsAtRest f may_leave end rs
sound_at_rest f rs end may_leave s ends_at only = record {
  torn = s.shut.torn;
  is = s.is ∙ ap (λ (x : List ℕ). blocks 0 rs ++ x) s.shut.is;
  ends_at = ends_at;
  short = s.short;
  durable = only;
}

-- a file of more than one byte that may be opened is sound
pub readable_at_rest : (f : List ℕ) (rs : List (List ℕ)) (end : ℕ) (may_leave : List ℕ → Type 0) → 1 < length f → IsReadable f rs → end ≡ length (blocks 0 rs) → Only f may_leave → IsAtRest f may_leave end rs
readable_at_rest f rs end may_leave old readable ends_at only = elim readable [
  | inl sound ↦ sound_at_rest f rs end may_leave sound ends_at only
  | inr new ↦ absurd (omega (arith, old, new.0))
]

-- ---- what a crash leaves of it

readable_is_shut : (f : List ℕ) (rs : List (List ℕ)) → IsReadable f rs → IsShutOrNew f
readable_is_shut f rs (inl s) = inl (rs, record { torn = s.shut.torn; is = s.is ∙ ap (λ (x : List ℕ). blocks 0 rs ++ x) s.shut.is; short = s.short })
readable_is_shut f rs (inr new) = inr new.0

-- nothing was written
pub unwritten_left : (f : List ℕ) (rs : List (List ℕ)) (may_leave : List ℕ → Type 0) → IsReadable f rs → Only f may_leave → (c : List ℕ) → may_leave c → IsShutOrNew c
unwritten_left f rs may_leave readable only c left = subst IsShutOrNew (sym (only c left)) (readable_is_shut f rs readable)

pub shut_or_new : (rs : List (List ℕ)) (r file : List ℕ) → IsShutBeforeOrAfter rs r file → IsShutOrNew file
shut_or_new rs r file (inl s) = inl (rs, s)
shut_or_new rs r file (inr s) = inl (rs ++ r ∷ [], s)

-- ---- the bytes of one

module _ (f bytes : List ℕ) (own : List (List ℕ)) (end : ℕ) (read : bytes ≡ f) (found : IsLog bytes own) (ends_at : end ≡ length (blocks 0 own)) (rest : List ℕ) (rest_is : rest ≡ drop end bytes) where
  -- what is looked at after the records
  tail_is : rest ≡ found.tail
  tail_is = rest_is ∙ ap (λ (x : List ℕ). drop end x) found.is ∙ drop_at (blocks 0 own) found.tail end (sym ends_at)

  pub found_sound : EndsShut end rest → IsSound f own
  found_sound shut = record {
    tail = found.tail;
    is = sym read ∙ found.is;
    shut = subst (λ (k : ℕ). EndsShut k found.tail) ends_at (subst (λ (x : List ℕ). EndsShut end x) tail_is shut);
    short = found.short;
  }

  -- no file that a put leaves has these bytes
  pub found_damaged : 1 < length bytes → (EndsShut end rest → ⊥) → IsDamaged f end
  found_damaged some open_end = record {
    unreadable = λ (rs : List (List ℕ)) (readable : IsReadable f rs). elim readable [
      | inl sound ↦
          let same = one_reading bytes own rs found (subst (λ (x : List ℕ). IsLog x rs) (sym read) (sound_is_log f rs sound)) in
          let place : length (blocks 0 rs) ≡ end = ap (λ (l : List (List ℕ)). length (blocks 0 l)) (sym same.0) ∙ sym ends_at in
          let tail : sound.tail ≡ rest = same_tail f rs own sound.tail found.tail (place ∙ ends_at) sound.is (sym read ∙ found.is) ∙ sym tail_is in
          open_end (subst (λ (x : List ℕ). EndsShut end x) tail (subst (λ (k : ℕ). EndsShut k sound.tail) place sound.shut))
      | inr new ↦ omega (arith, some, new.0, ap length read)
    ];
    place = λ (rs : List (List ℕ)) (its : IsLog f rs).
        ends_at ∙ ap (λ (l : List (List ℕ)). length (blocks 0 l)) (one_reading bytes own rs found (subst (λ (x : List ℕ). IsLog x rs) (sym read) its)).0;
  }
