-- What stands in a file as a log is copied into it.
use Rattle.std.proofs.Common.{◌≡◌, ◌⊎◌, ℕ, ◌+◌, ◌<◌, ◌≤◌, List, [], ◌∷◌, ◌++◌, inl, inr, length, get_or, drop, refl, sym, ◌∙◌, ap, subst, arith, append_assoc, length-append, length-drop}
use Rattle.std.proofs.lemmas.List.{append-nil, ext_get_or, get_or-drop, get_or_append_left, nil_from_length}
use Rattle.std.proofs.lemmas.Bool.{cases_eq}
use Rattle.sqlite_disk.specs.Disk.{Holds, Torn, Follows, Only}
use Rattle.pb_log.specs.declared.fault.LogFault.{LogFault}
use Rattle.pb_log.specs.Causes.{WhyNotCopied, WhyNotRead}
use Rattle.pb_log.specs.Records.{IsAtRest, IsLog, IsReadable, Hides, block, blocks, body}
use Rattle.pb_log.proofs.Blocks.{length-body}
use Rattle.pb_log.proofs.ReadableFiles.{new_is_log}
use Rattle.pb_log.proofs.TornBlocks.{closed_is_log, first_crash, one_byte, shut_gate, written_after}

-- ---- an empty file

pub empty_crash : (f : List ℕ) (may_leave : List ℕ → Type 0) → f ≡ [] → Only f may_leave → (c : List ℕ) → may_leave c → IsLog c []
empty_crash f may_leave none only c left = new_is_log c (omega (arith, ap length (only c left ∙ none)))

-- its first gate is torn
pub gate_crash : (f : List ℕ) (old new : List ℕ → Type 0) → f ≡ [] → Only f old → Follows (Torn 0 1) old new → (c : List ℕ) → new c → IsLog c []
gate_crash f old new none only follows c left =
    let from = follows c left in
    let torn : Torn 0 1 [] c = subst (λ (x : List ℕ). Torn 0 1 x c) (only from.0 from.1 ∙ none) from.2 in
    new_is_log c (omega (arith, torn.no_longer))

one_gate : (s : List ℕ) → 1 ≤ length s → length s ≤ 1 → get_or s 0 0 ≡ 0 → s ≡ 0 ∷ []
one_gate [] some few is = absurd (omega (arith, some))
one_gate (x ∷ []) some few is = ap (λ (k : ℕ). k ∷ []) is
one_gate (x ∷ y ∷ s) some few is = absurd (omega (arith, few))

-- and stands, closed
pub gate_stands : (f seen : List ℕ) → f ≡ [] → Holds seen 0 (0 ∷ []) → Torn 0 1 f seen → seen ≡ 0 ∷ []
gate_stands f seen none holds torn =
    let own : Torn 0 1 [] seen = subst (λ (x : List ℕ). Torn 0 1 x seen) none torn in
    one_gate seen (omega (arith, holds.within)) (omega (arith, own.no_longer)) (holds.each 0 (omega arith))

-- what comes after it is torn
pub front_crash : (n : ℕ) (seen : List ℕ) (old new : List ℕ → Type 0) → seen ≡ 0 ∷ [] → Only seen old → Follows (Torn 1 n) old new → (c : List ℕ) → new c → IsLog c []
front_crash n seen old new is only follows c left =
    let rest : IsAtRest seen old 0 [] = record { torn = []; is = is; ends_at = refl; short = tt; durable = only } in
    first_crash [] tt n 0 seen old new rest follows c left

module _ (rest : List ℕ) where
  -- and stands
  pub rest_stands : (seen new : List ℕ) → seen ≡ 0 ∷ [] → 0 < length rest → (0 < length rest → Holds new 1 rest) → Torn 1 (length rest) seen new → new ≡ 0 ∷ rest
  rest_stands seen new is some holds torn =
      let own : Torn 1 (length rest) (0 ∷ []) new = subst (λ (x : List ℕ). Torn 1 (length rest) x new) is torn in
      let more = drop (1 + length rest) new in
      let none : more ≡ [] = nil_from_length more (omega (arith, own.no_longer, length-drop (1 + length rest) new)) in
      written_after (0 ∷ []) [] rest new (holds some) own ∙ ap (λ (x : List ℕ). 0 ∷ (rest ++ x)) none ∙ ap (λ (x : List ℕ). 0 ∷ x) (append-nil rest)

  -- at last the gate is opened
  pub last_crash : (seen : List ℕ) (old new : List ℕ → Type 0) → seen ≡ 0 ∷ rest → Only seen old → Follows (Torn 0 1) old new → (c : List ℕ) → new c → IsLog c [] ⊎ (c ≡ 165 ∷ rest)
  last_crash seen old new is only follows c left =
      let from = follows c left in
      let torn : Torn 0 1 (0 ∷ rest) c = subst (λ (x : List ℕ). Torn 0 1 x c) (only from.0 from.1 ∙ is) from.2 in
      let whole : c ≡ get_or c 0 0 ∷ rest = one_byte [] rest c 0 torn in
      elim (cases_eq (get_or c 0 0) 165) [
        | inl open_gate ↦ inr (whole ∙ ap (λ (g : ℕ). g ∷ rest) open_gate)
        | inr closed ↦ inl (shut_gate [] tt (get_or c 0 0) rest c closed whole)
      ]

  pub gate_opened : (seen new : List ℕ) → seen ≡ 0 ∷ rest → Holds new 0 (165 ∷ []) → Torn 0 1 seen new → new ≡ 165 ∷ rest
  gate_opened seen new is holds torn =
      let open_gate : get_or new 0 0 ≡ 165 = holds.each 0 (omega arith) in
      one_byte [] rest new 0 (subst (λ (x : List ℕ). Torn 0 1 x new) is torn) ∙ ap (λ (g : ℕ). g ∷ rest) open_gate

-- ---- why none is made

pub why_not_read_whole : (old new old_copy new_copy end : ℕ) (file : List ℕ) (e : LogFault) → WhyNotRead old new e → WhyNotCopied old new old_copy new_copy end file e
why_not_read_whole old new old_copy new_copy end file (LogFault.NoMemory n) why = tt
why_not_read_whole old new old_copy new_copy end file (LogFault.Disk x) why = inl why
why_not_read_whole old new old_copy new_copy end file _ why = absurd why

pub why_not_written_whole : (old new old_copy new_copy end : ℕ) (file : List ℕ) (e : LogFault) → WhyNotRead old_copy new_copy e → WhyNotCopied old new old_copy new_copy end file e
why_not_written_whole old new old_copy new_copy end file (LogFault.NoMemory n) why = tt
why_not_written_whole old new old_copy new_copy end file (LogFault.Disk x) why = inr why
why_not_written_whole old new old_copy new_copy end file _ why = absurd why

-- ---- the bytes of a log that is open

-- some records begin with an open gate
begins_open : (rs : List (List ℕ)) → 0 < length (blocks 0 rs) → blocks 0 rs ++ 0 ∷ [] ≡ 165 ∷ drop 1 (blocks 0 rs ++ 0 ∷ [])
begins_open [] some = absurd (omega (arith, some))
begins_open (r ∷ rs) some = refl

-- after the last gate nothing hides
none_hides : (at : ℕ) → Hides at [] → ⊥
none_hides at h = omega (arith, ap length h.hidden.is, length-append (body at h.hidden.item) h.hidden.rest, length-body at h.hidden.item)

-- there is more than what is read
pub reads_within : (rs : List (List ℕ)) (seen : List ℕ) (may_leave : List ℕ → Type 0) (end : ℕ) → IsAtRest seen may_leave end rs → end < length seen
reads_within rs seen may_leave end rest = omega (arith, rest.ends_at, ap length rest.is, length-append (blocks 0 rs) (0 ∷ rest.torn))

module _ (rs : List (List ℕ)) (seen : List ℕ) (may_leave : List ℕ → Type 0) (end : ℕ) (at_rest : IsAtRest seen may_leave end rs) (some : 0 < end) (rest : List ℕ) (size : length rest ≡ end) (holds : Holds seen 1 rest) where
  -- what was read after the first gate are the records, and the closed gate
  whole_is : 165 ∷ rest ≡ blocks 0 rs ++ 0 ∷ []
  whole_is =
      let whole = blocks 0 rs ++ 0 ∷ [] in
      let parted : seen ≡ whole ++ at_rest.torn = at_rest.is ∙ sym (append_assoc (blocks 0 rs) (0 ∷ []) at_rest.torn) in
      let long : length whole ≡ end + 1 = omega (arith, at_rest.ends_at, length-append (blocks 0 rs) (0 ∷ [])) in
      let as_long : length rest ≡ length (drop 1 whole) = omega (arith, size, long, length-drop 1 whole) in
      let same : rest ≡ drop 1 whole = ext_get_or 0 rest (drop 1 whole) as_long (λ i l.
      sym (holds.each i l) ∙ ap (λ (x : List ℕ). get_or x (1 + i) 0) parted ∙ get_or_append_left whole at_rest.torn 0 (1 + i) (omega (arith, l, size, long)) ∙ sym (get_or-drop 1 whole i 0)) in
      ap (λ (x : List ℕ). 165 ∷ x) same ∙ sym (begins_open rs (omega (arith, some, at_rest.ends_at)))

  pub copy_at_rest : (new : List ℕ) (left : List ℕ → Type 0) → new ≡ 165 ∷ rest → Only new left → IsAtRest new left end rs
  copy_at_rest new left is only = record {
    torn = [];
    is = is ∙ whole_is;
    ends_at = at_rest.ends_at;
    short = at_rest.short;
    durable = only;
  }

  pub copy_readable : (new : List ℕ) → new ≡ 165 ∷ rest → IsReadable new rs
  copy_readable new is = inl (record {
    tail = 0 ∷ [];
    is = is ∙ whole_is;
    shut = record { torn = []; is = refl; bare = none_hides (length (blocks 0 rs)) };
    short = at_rest.short;
  })

  -- a crash leaves none of the records, or all
  pub copy_crash : (c : List ℕ) → IsLog c [] ⊎ (c ≡ 165 ∷ rest) → IsLog c [] ⊎ IsLog c rs
  copy_crash c (inl none) = inl none
  copy_crash c (inr all) = inr (closed_is_log rs at_rest.short [] c (all ∙ whole_is))
