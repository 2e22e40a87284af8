-- Calls counted from a slot on.
use Rattle.std.proofs.Common.{◌≡◌, inl, inr, ℕ, zero, suc, ◌+◌, ◌≤◌, List, [], ◌∷◌, drop, Option, None, get_or, refl, ap, arith, add-one}
use Rattle.std.proofs.lemmas.Bool.{cases_lt}
use Rattle.std.proofs.lemmas.List.{drop_all}
use Rattle.pb_accepted.specs.Words.{Insn, Helper, layout, slots, insn_at}
use Rattle.pb_accepted.specs.Needs.{called_by, calls_in, reads_by, writes_by, reads_from, writes_from, NeedsFall}

-- those of a slot, and those after it
pub calls_at : (count : Option Helper → ℕ) → count None ≡ 0 → (is : List (Option Insn)) (n : ℕ) → count (called_by (get_or is n None)) + calls_in count (drop (suc n) is) ≡ calls_in count (drop n is)
calls_at count none [] zero = omega (arith, none)
calls_at count none [] (suc n) = omega (arith, none)
calls_at count none (i ∷ is) zero = refl
calls_at count none (i ∷ is) (suc n) = calls_at count none is n

-- as many at a later slot, or fewer
pub fewer_calls : (count : Option Helper → ℕ) → count None ≡ 0 → (is : List (Option Insn)) (n m : ℕ) → n ≤ m → calls_in count (drop m is) ≤ calls_in count (drop n is)
fewer_calls count none is n zero le = let same : n ≡ 0 = omega (arith, le) in rw same (omega arith)
fewer_calls count none is n (suc m) le =
    elim (cases_lt n (suc m)) [
      | inl below ↦ (let more = calls_at count none is m in let rest = fewer_calls count none is n m (omega (arith, below)) in omega (arith, more, rest))
      | inr last ↦ (let same : n ≡ suc m = omega (arith, le, last) in rw same (omega arith))
    ]

-- the reads of a slot, and those after it
pub reads_at : (p : List Insn) (n : ℕ) → reads_by (called_by (insn_at p n)) + reads_from p (n + 1) ≡ reads_from p n
reads_at p n = rw add-one (calls_at reads_by refl (layout p) n)

-- the writes and deletions of a slot, and those after it
pub writes_at : (p : List Insn) (n : ℕ) → writes_by (called_by (insn_at p n)) + writes_from p (n + 1) ≡ writes_from p n
writes_at p n = rw add-one (calls_at writes_by refl (layout p) n)

-- past the last slot nothing is read, where counting ends
pub no_reads : (p : List Insn) (n : ℕ) → slots p ≤ n → reads_from p n ≡ 0
no_reads p n past = ap (calls_in reads_by) (drop_all n (layout p) past)

-- nor is anything written or deleted there
pub no_writes : (p : List Insn) (n : ℕ) → slots p ≤ n → writes_from p n ≡ 0
no_writes p n past = ap (calls_in writes_by) (drop_all n (layout p) past)

-- at a later slot there are no more of them
pub needs_fall : NeedsFall
needs_fall = grind (arith, reads_at, writes_at, fewer_calls)
