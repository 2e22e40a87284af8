-- That bytes stand for one list of records.
use Rattle.std.proofs.Common.{◌≡◌, ℕ, ◌+◌, List, [], ◌∷◌, ◌++◌, length, drop, refl, sym, ◌∙◌, ap, subst, arith, append_assoc, length-append}
use Rattle.std.proofs.lemmas.List.{drop_at}
use Rattle.pb_log.specs.Records.{StandsOpen, AreShort, IsLog, block, blocks}
use Rattle.pb_log.proofs.Bodies.{one_block}
use Rattle.pb_log.proofs.Blocks.{length-block}

-- the place after one block and more is that after them all
same_place : (p : ℕ) (r : List ℕ) (rs : List (List ℕ)) (t : List ℕ) → (StandsOpen (p + length (blocks p (r ∷ rs))) t → ⊥) → StandsOpen ((p + 13 + length r) + length (blocks (p + 13 + length r) rs)) t → ⊥
same_place p r rs t none b =
    let next = p + 13 + length r in
    let here : next + length (blocks next rs) ≡ p + length (blocks p (r ∷ rs)) = omega (arith, length-append (block p r) (blocks next rs), length-block p r) in
    none (subst (λ (k : ℕ). StandsOpen k t) here b)

-- from the same place on, where no record follows
one_list : (p q : ℕ) → p ≡ q → (rs ss : List (List ℕ)) (t u : List ℕ) → AreShort rs → AreShort ss → blocks p rs ++ t ≡ blocks q ss ++ u → (StandsOpen (p + length (blocks p rs)) t → ⊥) → (StandsOpen (q + length (blocks q ss)) u → ⊥) → (rs ≡ ss) × (t ≡ u)
one_list p q pq [] [] t u a b same no_t no_u = (refl, same)
one_list p q pq [] (s ∷ ss) t u a b same no_t no_u =
    let next = q + 13 + length s in
    let here : q ≡ p + length (blocks p []) = omega (arith, pq) in
    let found : StandsOpen q t = record { item = s; rest = blocks next ss ++ u; short = b.0; is = same ∙ append_assoc (block q s) (blocks next ss) u } in
    absurd (no_t (subst (λ (k : ℕ). StandsOpen k t) here found))
one_list p q pq (r ∷ rs) [] t u a b same no_t no_u =
    let next = p + 13 + length r in
    let here : p ≡ q + length (blocks q []) = omega (arith, pq) in
    let found : StandsOpen p u = record { item = r; rest = blocks next rs ++ t; short = a.0; is = sym same ∙ append_assoc (block p r) (blocks next rs) t } in
    absurd (no_u (subst (λ (k : ℕ). StandsOpen k u) here found))
one_list p q pq (r ∷ rs) (s ∷ ss) t u a b same no_t no_u =
    let after_r = p + 13 + length r in
    let after_s = q + 13 + length s in
    let front = one_block p r s (blocks after_r rs ++ t) (blocks after_s ss ++ u) a.0 b.0
    (sym (append_assoc (block p r) (blocks after_r rs) t) ∙ same ∙ append_assoc (block q s) (blocks after_s ss) u ∙ ap (λ (k : ℕ). block k s ++ (blocks after_s ss ++ u)) (sym pq)) in
    let places : after_r ≡ after_s = omega (arith, pq, ap length front.0) in
    let rest = one_list after_r after_s places rs ss t u a.1 b.1 front.1 (same_place p r rs t no_t) (same_place q s ss u no_u) in
    (ap (λ (l : List ℕ). l ∷ rs) front.0 ∙ ap (λ (l : List (List ℕ)). s ∷ l) rest.0, rest.1)

-- the records of a file are one list, and so is what follows them
pub one_reading : (file : List ℕ) (rs ss : List (List ℕ)) (a : IsLog file rs) (b : IsLog file ss) → (rs ≡ ss) × (a.tail ≡ b.tail)
one_reading file rs ss a b =
    let left : 0 + length (blocks 0 rs) ≡ length (blocks 0 rs) = omega arith in
    let right : 0 + length (blocks 0 ss) ≡ length (blocks 0 ss) = omega arith in
    one_list 0 0 refl rs ss a.tail b.tail a.short b.short (sym a.is ∙ b.is)
    (λ x. a.ends (subst (λ (k : ℕ). StandsOpen k a.tail) left x)) (λ x. b.ends (subst (λ (k : ℕ). StandsOpen k b.tail) right x))

-- what follows two lists of blocks of one length is the same
pub same_tail : (file : List ℕ) (rs ss : List (List ℕ)) (t u : List ℕ) → length (blocks 0 rs) ≡ length (blocks 0 ss) → file ≡ blocks 0 rs ++ t → file ≡ blocks 0 ss ++ u → t ≡ u
same_tail file rs ss t u size a b =
    let n = length (blocks 0 rs) in
    sym (drop_at (blocks 0 rs) t n refl) ∙ ap (λ (x : List ℕ). drop n x) (sym a ∙ b) ∙ drop_at (blocks 0 ss) u n (sym size)
