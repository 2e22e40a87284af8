-- What a crash leaves in each of the two steps of a put.
use Rattle.std.proofs.Common.{◌≡◌, ◌⊎◌, ◌≢◌, ℕ, ◌+◌, ◌<◌, ◌≤◌, ◌^◌, List, [], ◌∷◌, ◌++◌, inl, inr, length, get_or, set, take, drop, refl, sym, ◌∙◌, ap, subst, arith, append_assoc, length-append, length-drop, take-append-drop}
use Rattle.std.proofs.lemmas.List.{length-take-le, get_or-take, get_or-drop, drop-drop, ext_get_or, length-set, get_or-set_same, get_or-set_other, set_at, get_or_append_left}
use Rattle.std.proofs.lemmas.Bool.{cases_lt, cases_eq}
use Rattle.sqlite_disk.specs.Disk.{Holds, Torn, Mixed, Follows, Only}
use Rattle.pb_log.specs.Records.{AreShort, IsLog, IsShut, IsBeforeOrAfter, IsShutBeforeOrAfter, IsAtRest, body, blocks}
use Rattle.pb_log.proofs.Blocks.{blocks-push, short-push, length-body}

-- ---- lists

-- what is kept in front is the front
pub front_kept : (old c : List ℕ) → length old ≤ length c → ((i : ℕ) → i < length old → get_or c i 0 ≡ get_or old i 0) → c ≡ old ++ drop (length old) c
front_kept old c longer same =
    let size : length (take (length old) c) ≡ length old = length-take-le (length old) c longer in
    let front : take (length old) c ≡ old = ext_get_or 0 (take (length old) c) old size (λ i l. let within : i < length old = omega (arith, l, size) in get_or-take (length old) c i 0 within ∙ same i within) in
    sym (take-append-drop (length old) c) ∙ ap (λ (x : List ℕ). x ++ drop (length old) c) front

-- what is written after a front stands there
pub written_after : (front q bytes new : List ℕ) → Holds new (length front) bytes → Torn (length front) (length bytes) (front ++ q) new → new ≡ front ++ (bytes ++ drop (length front + length bytes) new)
written_after front q bytes new holds torn =
    let n = length front in
    let long : length (front ++ q) ≡ n + length q = length-append front q in
    let kept : new ≡ front ++ drop n new = front_kept front new (omega (arith, torn.no_shorter, long)) (λ i l. torn.below i (omega (arith, l, long)) l ∙ get_or_append_left front q 0 i l) in
    let here : drop n new ≡ bytes ++ drop (length bytes) (drop n new) = front_kept bytes (drop n new) (omega (arith, holds.within, length-drop n new)) (λ i l. get_or-drop n new i 0 ∙ holds.each i l) in
    kept ∙ ap (λ (x : List ℕ). front ++ x) (here ∙ ap (λ (x : List ℕ). bytes ++ x) (drop-drop (length bytes) n new))

-- one byte was written
pub one_byte : (p q c : List ℕ) (g : ℕ) → Torn (length p) 1 (p ++ g ∷ q) c → c ≡ p ++ get_or c (length p) 0 ∷ q
one_byte p q c g torn =
    let old = p ++ g ∷ q in
    let long : length old ≡ length p + (1 + length q) = omega (arith, length-append p (g ∷ q)) in
    let size : length c ≡ length old = omega (arith, torn.no_shorter, torn.no_longer, long) in
    ext_get_or 0 c (set old (length p) (get_or c (length p) 0)) (size ∙ sym (length-set old (length p) (get_or c (length p) 0))) (λ i l. elim (cases_eq i (length p)) [
      | inl here ↦ ap (λ (k : ℕ). get_or c k 0) here ∙ sym (ap (λ (k : ℕ). get_or (set old (length p) (get_or c (length p) 0)) k 0) here ∙ get_or-set_same old (length p) (get_or c (length p) 0) 0 (omega (arith, long)))
      | inr elsewhere ↦ same i (omega (arith, l, size)) elsewhere ∙ sym (get_or-set_other old (length p) i (get_or c (length p) 0) 0 elsewhere)
    ]) ∙ set_at p g q (get_or c (length p) 0) (length p) refl
  where
    same : (i : ℕ) → i < length (p ++ g ∷ q) → i ≢ length p → get_or c i 0 ≡ get_or (p ++ g ∷ q) i 0
    same i l elsewhere = elim (cases_lt i (length p)) [
      | inl below ↦ torn.below i l below
      | inr above ↦ torn.above i l (omega (arith, above, elsewhere))
    ]

-- ---- the two steps

module _ (rs : List (List ℕ)) (shorts : AreShort rs) where
  -- after a gate that isn't open nothing counts
  pub shut_gate : (gate : ℕ) (rest c : List ℕ) → gate ≢ 165 → c ≡ blocks 0 rs ++ gate ∷ rest → IsLog c rs
  shut_gate gate rest c closed is = record {
    tail = gate ∷ rest;
    is = is;
    ends = λ b. closed (ap (λ (x : List ℕ). get_or x 0 0) b.is);
    short = shorts;
  }

  -- the closed gate stands, whatever is after it
  pub closed_is_log : (rest c : List ℕ) → c ≡ blocks 0 rs ++ 0 ∷ rest → IsLog c rs
  closed_is_log rest c is = shut_gate 0 rest c (omega arith) is

  -- the first write leaves the closed gate
  torn_shut : (n : ℕ) (rest c : List ℕ) → Torn (length (blocks 0 rs) + 1) n (blocks 0 rs ++ 0 ∷ rest) c → IsShut c rs
  torn_shut n rest c torn =
      let front = blocks 0 rs ++ 0 ∷ [] in
      let long : length front ≡ length (blocks 0 rs) + 1 = omega (arith, length-append (blocks 0 rs) (0 ∷ [])) in
      let old : blocks 0 rs ++ 0 ∷ rest ≡ front ++ rest = sym (append_assoc (blocks 0 rs) (0 ∷ []) rest) in
      let longer : length (blocks 0 rs ++ 0 ∷ rest) ≡ length front + length rest = ap length old ∙ length-append front rest in
      let kept = front_kept front c (omega (arith, torn.no_shorter, longer)) (λ i l. torn.below i (omega (arith, l, longer)) (omega (arith, l, long)) ∙ ap (λ (x : List ℕ). get_or x i 0) old ∙ get_or_append_left front rest 0 i l) in
      record { torn = drop (length front) c; is = kept ∙ append_assoc (blocks 0 rs) (0 ∷ []) (drop (length front) c); short = shorts }

  torn_after : (n : ℕ) (rest c : List ℕ) → Torn (length (blocks 0 rs) + 1) n (blocks 0 rs ++ 0 ∷ rest) c → IsLog c rs
  torn_after n rest c torn = let s = torn_shut n rest c torn in closed_is_log s.torn c s.is

  pub first_shut : (n end : ℕ) (seen : List ℕ) (old new : List ℕ → Type 0) → IsAtRest seen old end rs → Follows (Torn (end + 1) n) old new → (c : List ℕ) → new c → IsShut c rs
  first_shut n end seen old new rest follows c left =
      let from = follows c left in
      let was : from.0 ≡ blocks 0 rs ++ 0 ∷ rest.torn = rest.durable from.0 from.1 ∙ rest.is in
      torn_shut n rest.torn c (subst (λ (f : List ℕ). Torn (length (blocks 0 rs) + 1) n f c) was (subst (λ (e : ℕ). Torn (e + 1) n from.0 c) rest.ends_at from.2))

  pub first_crash : (n end : ℕ) (seen : List ℕ) (old new : List ℕ → Type 0) → IsAtRest seen old end rs → Follows (Torn (end + 1) n) old new → (c : List ℕ) → new c → IsLog c rs
  first_crash n end seen old new rest follows c left =
      let from = follows c left in
      let was : from.0 ≡ blocks 0 rs ++ 0 ∷ rest.torn = rest.durable from.0 from.1 ∙ rest.is in
      torn_after n rest.torn c (subst (λ (f : List ℕ). Torn (length (blocks 0 rs) + 1) n f c) was (subst (λ (e : ℕ). Torn (e + 1) n from.0 c) rest.ends_at from.2))

  module _ (end : ℕ) (ends_at : end ≡ length (blocks 0 rs)) (r : List ℕ) (small : length r < 2 ^ 32) where
    -- what is written after the gate before that is opened
    abbrev pub staged_bytes : List ℕ
    staged_bytes = body end r ++ 0 ∷ []

    pub length-staged : length staged_bytes ≡ 13 + length r
    length-staged = omega (arith, length-append (body end r) (0 ∷ []), length-body end r)

    -- the file then, with more after that
    abbrev pub staged_file : List ℕ → List ℕ
    staged_file more = blocks 0 rs ++ 0 ∷ (staged_bytes ++ more)

    opened_is : (more : List ℕ) → blocks 0 rs ++ 165 ∷ (staged_bytes ++ more) ≡ blocks 0 (rs ++ r ∷ []) ++ 0 ∷ more
    opened_is more =
        let place : end ≡ 0 + length (blocks 0 rs) = omega (arith, ends_at) in
        ap (λ (x : List ℕ). blocks 0 rs ++ 165 ∷ x) (append_assoc (body end r) (0 ∷ []) more) ∙ sym (blocks-push rs r (0 ∷ more) 0 end place)

    gate_cases : (gate : ℕ) (more c : List ℕ) → c ≡ blocks 0 rs ++ gate ∷ (staged_bytes ++ more) → IsBeforeOrAfter rs r c
    gate_cases gate more c is = elim (cases_eq gate 165) [
      | inl open_gate ↦ inr (record {
        tail = 0 ∷ more;
        is = is ∙ ap (λ (g : ℕ). blocks 0 rs ++ g ∷ (staged_bytes ++ more)) open_gate ∙ opened_is more;
        ends = λ b. omega (arith, ap (λ (x : List ℕ). get_or x 0 0) b.is);
        short = short-push rs r shorts small;
      })
      | inr closed ↦ inl (shut_gate gate (staged_bytes ++ more) c closed is)
    ]

    pub second_crash : (more : List ℕ) (old new : List ℕ → Type 0) → Only (staged_file more) old → Follows (Torn end 1) old new → (c : List ℕ) → new c → IsBeforeOrAfter rs r c
    second_crash more old new only follows c left =
        let from = follows c left in
        let torn = subst (λ (f : List ℕ). Torn (length (blocks 0 rs)) 1 f c) (only from.0 from.1) (subst (λ (e : ℕ). Torn e 1 from.0 c) ends_at from.2) in
        gate_cases (get_or c (length (blocks 0 rs)) 0) more c (one_byte (blocks 0 rs) (staged_bytes ++ more) c 0 torn)

    -- where a torn write leaves each byte old or new, that gate is closed or open then
    gate_shut : (gate : ℕ) (more c : List ℕ) → c ≡ blocks 0 rs ++ gate ∷ (staged_bytes ++ more) → (gate ≡ 0) ⊎ (gate ≡ 165) → IsShutBeforeOrAfter rs r c
    gate_shut gate more c is (inl closed) = inl (record { torn = staged_bytes ++ more; is = is ∙ ap (λ (g : ℕ). blocks 0 rs ++ g ∷ (staged_bytes ++ more)) closed; short = shorts })
    gate_shut gate more c is (inr open_gate) = inr (record { torn = more; is = is ∙ ap (λ (g : ℕ). blocks 0 rs ++ g ∷ (staged_bytes ++ more)) open_gate ∙ opened_is more; short = short-push rs r shorts small })

    -- the gate of the staged file
    staged_gate : (more : List ℕ) → get_or (staged_file more) (length (blocks 0 rs)) 0 ≡ 0
    staged_gate more = get_or_append_at (blocks 0 rs) (0 ∷ (staged_bytes ++ more))
      where
        get_or_append_at : (p q : List ℕ) → get_or (p ++ q) (length p) 0 ≡ get_or q 0 0
        get_or_append_at [] q = refl
        get_or_append_at (x ∷ p) q = get_or_append_at p q

    pub second_shut : (more : List ℕ) (old new : List ℕ → Type 0) → Only (staged_file more) old → Follows (Mixed end (165 ∷ [])) old new → (c : List ℕ) → new c → IsShutBeforeOrAfter rs r c
    second_shut more old new only follows c left =
        let from = follows c left in
        let p = blocks 0 rs in
        let mixed : Mixed (length p) (165 ∷ []) (staged_file more) c = subst (λ (f : List ℕ). Mixed (length p) (165 ∷ []) f c) (only from.0 from.1) (subst (λ (e : ℕ). Mixed e (165 ∷ []) from.0 c) ends_at from.2) in
        let long : length (staged_file more) ≡ length p + (1 + length (staged_bytes ++ more)) = omega (arith, length-append p (0 ∷ (staged_bytes ++ more))) in
        let here : get_or c (length p) 0 ≡ get_or c (length p + 0) 0 = ap (λ (k : ℕ). get_or c k 0) (omega arith) in
        let there : get_or (staged_file more) (length p + 0) 0 ≡ get_or (staged_file more) (length p) 0 = ap (λ (k : ℕ). get_or (staged_file more) k 0) (omega arith) in
        let is = one_byte p (staged_bytes ++ more) c 0 mixed.torn in
        elim (mixed.each 0 (omega arith) (omega (arith, long))) [
          | inl was ↦ gate_shut (get_or c (length p) 0) more c is (inl (here ∙ was ∙ there ∙ staged_gate more))
          | inr now ↦ gate_shut (get_or c (length p) 0) more c is (inr (here ∙ now))
        ]

    -- what stands after it then
    abbrev pub more_of : List ℕ → List ℕ
    more_of new = drop (end + 1 + length staged_bytes) new

    pub staged_at : (seen new bytes rest : List ℕ) → seen ≡ blocks 0 rs ++ 0 ∷ rest → bytes ≡ staged_bytes → (0 < length bytes → Holds new (end + 1) bytes) → Torn (end + 1) (length bytes) seen new → new ≡ staged_file (more_of new)
    staged_at seen new bytes rest is bytes_is holds torn =
        let front = blocks 0 rs ++ 0 ∷ [] in
        let at : end + 1 ≡ length front = omega (arith, ends_at, length-append (blocks 0 rs) (0 ∷ [])) in
        let old : seen ≡ front ++ rest = is ∙ sym (append_assoc (blocks 0 rs) (0 ∷ []) rest) in
        let held : Holds new (length front) staged_bytes = subst (λ (k : ℕ). Holds new k staged_bytes) at (subst (λ (x : List ℕ). Holds new (end + 1) x) bytes_is (holds (omega (arith, ap length bytes_is, length-staged)))) in
        let was : Torn (length front) (length staged_bytes) (front ++ rest) new = subst (λ (f : List ℕ). Torn (length front) (length staged_bytes) f new) old (subst (λ (k : ℕ). Torn k (length staged_bytes) seen new) at (subst (λ (x : List ℕ). Torn (end + 1) (length x) seen new) bytes_is torn)) in
        written_after front rest staged_bytes new held was
        ∙ append_assoc (blocks 0 rs) (0 ∷ []) (staged_bytes ++ drop (length front + length staged_bytes) new)
        ∙ ap (λ (k : ℕ). blocks 0 rs ++ 0 ∷ (staged_bytes ++ drop (k + length staged_bytes) new)) (sym at)

    pub gate_is : (more new : List ℕ) → Holds new end (165 ∷ []) → Torn end 1 (staged_file more) new → new ≡ blocks 0 (rs ++ r ∷ []) ++ 0 ∷ more
    gate_is more new holds torn =
        let open_gate : get_or new (length (blocks 0 rs)) 0 ≡ 165 = ap (λ (k : ℕ). get_or new k 0) (sym ends_at ∙ omega arith) ∙ holds.each 0 (omega arith) in
        one_byte (blocks 0 rs) (staged_bytes ++ more) new 0 (subst (λ (e : ℕ). Torn e 1 (staged_file more) new) ends_at torn) ∙ ap (λ (g : ℕ). blocks 0 rs ++ g ∷ (staged_bytes ++ more)) open_gate ∙ opened_is more
