-- Why a call was refused.
use Rattle.std.proofs.Common.{arith, ◌≡◌, ℕ, Option, Some, None, Result, Err, IfErr, refl, sym, subst, inr}
use Rattle.pb_threads.specs.Words.{Reason, Refusal, refusal_by, memory_refusal, Step, Answer, SharedOf, call_reason, IsLegalTable}
use Rattle.pb_threads.specs.Gains.{OpeningOf, IsOpenedAs, MayRefuse, IsSeatStop}

-- what is refused for want of memory may be refused
want : (opens : Option OpeningOf) (n : ℕ) (step : Step) (res : Result Answer Refusal) → IfErr res (λ r. r ≡ memory_refusal) → IfErr res (λ r. MayRefuse opens n step r)
want opens n step res h = grind arith

-- a table of a legal journal refuses a call for its reason, or for want of memory where there is none
pub may_refuse : (opens : Option OpeningOf) (s : SharedOf) (n : ℕ) (step : Step) (res : Result Answer Refusal) → IsOpenedAs opens s → IsLegalTable s → ((w : Reason) → call_reason s n step ≡ Some w → res ≡ Err (refusal_by w))
    → (call_reason s n step ≡ None → IfErr res (λ r. r ≡ memory_refusal)) → IfErr res (λ r. MayRefuse opens n step r)
may_refuse opens s n step res opened legal refused allowed = by (call_reason s n step) refl
  where
    by : (o : Option Reason) → call_reason s n step ≡ o → IfErr res (λ r. MayRefuse opens n step r)
    by None e = want opens n step res (allowed e)
    by (Some w) e = subst (λ (z : Result Answer Refusal). IfErr z (λ r. MayRefuse opens n step r)) (sym (refused w e)) (inr (record { shared = s; opened = opened; legal = legal; why = w; refused = e; told = refl }))

-- the step that was asked next was refused
pub stops_at : {opens : Option OpeningOf} {n : ℕ} {next : Option Step} {step : Step} {r : Refusal} → next ≡ Some step → MayRefuse opens n step r → IsSeatStop opens n next r
stops_at e w = grind arith
