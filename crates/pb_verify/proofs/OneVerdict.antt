-- Each program has one verdict: it is accepted, or refused at one slot with one code.
use Rattle.std.proofs.Common.{◌≡◌, ℕ, zero, suc, ◌<◌, ◌≤◌, List, [], ◌∷◌, Some, None, refl, sym, ap, ◌∙◌, arith, below_more, add-one, ◌⊎◌}
use Rattle.std.proofs.lemmas.Bool.Decides.{leb_tells}
use mathlib.Core.Logic.{inl, inr}
use Rattle.pb_verify.specs.Words.{slots, JudgedOf, RuleCode, lowest_code, faults, Refuses}
use Rattle.pb_verify.specs.Verdict.{HasOneVerdict}
use Rattle.pb_base.proofs.Logic.{same_some}

some_is_not_none : {A : Type 0} (x : A) → ¬ (Some x ≡ None)
some_is_not_none x e = grind arith

-- a slot that has a code has fault
not_kept : (j : JudgedOf) (n : ℕ) (c : RuleCode) → lowest_code (faults j n) ≡ Some c → ¬ (faults j n ≡ [])
not_kept j n c e k = some_is_not_none c (sym e ∙ ap lowest_code k)

-- of two refusals none is at an earlier slot, since all slots before the one that is reported keep the rules
not_before : (j : JudgedOf) (n m : ℕ) (c d : RuleCode) → Refuses j n c → Refuses j m d → ¬ (n < m)
not_before j n m c d r s l = not_kept j n c r.code (s.before n l)

-- two refusals of a program are the same
one : (j : JudgedOf) (n m : ℕ) (c d : RuleCode) → Refuses j n c → Refuses j m d → (n ≡ m) × (c ≡ d)
one j n m c d r s =
    let le : ¬ (n < m) = not_before j n m c d r s in
    let ge : ¬ (m < n) = not_before j m n d c s r in
    let e : n ≡ m = grind (arith, leb_tells, inl, inr) in
    (e, same_some c d (sym r.code ∙ (rw e s.code)))

-- of the first n slots, all keep the rules, or one is the first that does not
first_fault : (j : JudgedOf) (n : ℕ) → n ≤ slots j.program.insns → ((m : ℕ) → m < n → faults j m ≡ []) ⊎ ((m : ℕ) × (c : RuleCode) × Refuses j m c)
first_fault j zero l = inl (λ m k. absurd (omega arith))
first_fault j (suc n) l =
    elim (first_fault j n (omega arith)) as (λ t. ((m : ℕ) → m < suc n → faults j m ≡ []) ⊎ ((m : ℕ) × (c : RuleCode) × Refuses j m c)) [
      | inl before ↦ at_next j n l before (faults j n) refl
      | inr found ↦ inr found
    ]
  where
    at_next : (j : JudgedOf) (n : ℕ) → suc n ≤ slots j.program.insns → ((m : ℕ) → m < n → faults j m ≡ []) → (cs : List RuleCode) → faults j n ≡ cs → ((m : ℕ) → m < suc n → faults j m ≡ []) ⊎ ((m : ℕ) × (c : RuleCode) × Refuses j m c)
    at_next j n l before [] e = inl (rw (← add-one n) (below_more (λ m. faults j m ≡ []) n before e))
    at_next j n l before (c ∷ cs) e = inr (n, c, record { inside = omega (arith, l); code = ap lowest_code e; before = before })

-- of every program, with any helpers, for a record of any size
pub one_verdict : (j : JudgedOf) → HasOneVerdict j
one_verdict j = record {
  either = first_fault j (slots j.program.insns) (omega arith);
  not_both = λ n c k r. not_kept j n c r.code (k n r.inside);
  one = one j;
}
