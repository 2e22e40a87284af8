-- The verdict on a program, in the words of the codes.
use Rattle.std.proofs.Common.{◌≡◌, ℕ, ◌-◌, ◌≤◌, List, [], ◌∷◌, Option, Some, None, get_or, refl, sym, ap, subst, ◌∙◌, arith, All, Contains}
use Rattle.std.proofs.lemmas.List.Elements.{All-nil, All-cons, All-contains, All-weaker}
use Rattle.law_programs.specs.Words.{Insn, JudgedOf, insn_at, Frame, RuleCode, code_number, lowest_code, CodesRiseWithin, CodesRise, in_at, codes_at, faults}
use Rattle.law_programs.specs.Reached.{FaultsAreTold}
use Rattle.law_programs.specs.Verdicts.{VerdictsAreTold}

-- ---- codes by their numbers

-- the code of a number
abbrev code_from : ℕ → RuleCode
code_from n = get_or (RuleCode.ReadsUnset ∷ RuleCode.WritesR10 ∷ RuleCode.PointerArithmetic ∷ RuleCode.PointerStored ∷ RuleCode.OutsideStack ∷ RuleCode.UnwrittenByte ∷ RuleCode.OutsideRecord ∷ RuleCode.WritesRecord ∷ RuleCode.ThroughNumber ∷ RuleCode.NotDeclared ∷ RuleCode.WrongArgument ∷ RuleCode.BackwardJump ∷ RuleCode.JumpOutside ∷ RuleCode.JumpIntoPair ∷ RuleCode.Unreachable ∷ RuleCode.FallsOff ∷ RuleCode.ExitsWithPointer ∷ RuleCode.PointerCompared ∷ []) (n - 21) RuleCode.ReadsUnset

from_number : (c : RuleCode) → code_from (code_number c) ≡ c
from_number c = grind arith

-- two codes with one number are one
one_code : (c d : RuleCode) → code_number c ≡ code_number d → c ≡ d
one_code c d e = sym (from_number c) ∙ ap code_from e ∙ from_number d

-- ---- lists that rise

rises : (low high : ℕ) (cs : List RuleCode) → CodesRiseWithin low high cs → All (λ d. low ≤ code_number d) cs
rises low high [] h = All-nil (λ d. low ≤ code_number d)
rises low high (c ∷ cs) h =
    All-cons (λ d. low ≤ code_number d) c cs h.0
    (All-weaker (λ d. code_number c ≤ code_number d) (λ d. low ≤ code_number d) (λ d l. let m = h.0 in omega arith) cs (rises (code_number c) high cs h.1))

-- ---- one slot

none_in : (c : RuleCode) → ¬ (Contains [] c)
none_in c k = omega arith

-- the first of a list that rises is the least of it
first_least : (cs : List RuleCode) (c : RuleCode) → CodesRiseWithin 21 38 cs → lowest_code cs ≡ Some c → Contains cs c × ((d : RuleCode) → Contains cs d → code_number c ≤ code_number d)
first_least [] c h e = cc
first_least (x ∷ xs) c h e = of x (let is : x ≡ c = cc in is) h
  where
    of : (x : RuleCode) → x ≡ c → CodesRiseWithin 21 38 (x ∷ xs) → Contains (x ∷ xs) c × ((d : RuleCode) → Contains (x ∷ xs) d → code_number c ≤ code_number d)
    of x is h = subst (λ y. Contains (x ∷ xs) y × ((d : RuleCode) → Contains (x ∷ xs) d → code_number y ≤ code_number d)) is (
      (0, omega arith, refl),
      (λ d k. All-contains (λ d. code_number x ≤ code_number d) (x ∷ xs) d (rises (code_number x) 38 (x ∷ xs) (omega arith, h.1)) k),
    )

-- and the least of such a list is its first
least_first : (cs : List RuleCode) (c : RuleCode) → CodesRiseWithin 21 38 cs → Contains cs c → ((d : RuleCode) → Contains cs d → code_number c ≤ code_number d) → lowest_code cs ≡ Some c
least_first cs c h k least = grind (arith, none_in, first_least, one_code)

empty_or : (cs : List RuleCode) → ((c : RuleCode) → ¬ (Contains cs c)) → cs ≡ []
empty_or [] h = refl
empty_or (x ∷ xs) h = absurd (h x (0, omega arith, refl))

none_of : (cs : List RuleCode) (c : RuleCode) → cs ≡ [] → ¬ (Contains cs c)
none_of cs c e k = none_in c (subst (λ ds. Contains ds c) e k)

-- the codes at a slot rise, also where the only one reports it as unreachable
faults_rise : CodesRise → (j : JudgedOf) (n : ℕ) → CodesRiseWithin 21 38 (faults j n)
faults_rise rise j n = by (insn_at j.program.insns n) (in_at j.program.insns n)
  where
    by : (i : Option Insn) (f : Option Frame) → CodesRiseWithin 21 38 (codes_at j n i f)
    by None f = omega arith
    by (Some i) None = (omega arith, omega arith)
    by (Some i) (Some f) = rise j n f i

-- acceptance and refusal, from the codes at each slot
pub verdicts_are_told : CodesRise → FaultsAreTold → VerdictsAreTold
verdicts_are_told rise told j = record {
  accepts = (
    (λ a n c l t. none_of (faults j n) c (a n l) ((told c j n).1 t)),
    (λ h n l. empty_or (faults j n) (λ c k. h n c l ((told c j n).0 k))),
  );
  refuses = λ n c. (
    (λ r. let f = first_least (faults j n) c (faults_rise rise j n) r.code in record {
      inside = r.inside;
      told = (told c j n).0 f.0;
      lowest = λ d t. f.1 d ((told d j n).1 t);
      before = λ m d l t. none_of (faults j m) d (r.before m l) ((told d j m).1 t);
    }),
    (λ r. record {
      inside = r.inside;
      code = least_first (faults j n) c (faults_rise rise j n) ((told c j n).1 r.told) (λ d k. r.lowest d ((told d j n).0 k));
      before = λ m l. empty_or (faults j m) (λ d k. r.before m d l ((told d j m).0 k));
    }),
  );
}
