-- What a step leaves of each transaction.
use Rattle.std.proofs.Common.{arith, ◌≡◌, ℕ, true, false, cond, List, Option, Some, refl, sym, ap, ◌∙◌, ◌==◌}
use Rattle.std.specs.Cmp.{unsigned_tied, nat_cmp_total}
use Rattle.std.specs.FinMap as map
use Rattle.std.proofs.lemmas.Bool.{eqb-true}
use Rattle.pb_history.specs.Words.{Step, Answer, ObserverOf, StateOf, TransactionOf, StepCase}
use Rattle.pb_history.specs.TransactionsTold.{names_start, transaction_after}
use Rattle.pb_history.proofs.OnlyEntries.{secondary_keeps}
use Rattle.pb_history.proofs.Agreement.{got}
use Rattle.pb_base.proofs.Logic.{same_both}

-- the transaction of s after an entry, whether it names s or not
abbrev pub told_after : List ObserverOf → ℕ → ℕ → Step → Answer → Option TransactionOf → Option TransactionOf
told_after observers s seat step answer t = cond (names_start s step answer) (transaction_after observers seat step answer t) t

module _ (old : StateOf) (seat : ℕ) (new : StateOf) (s : ℕ) where
  -- a step that changes one transaction
  changes : (n : ℕ) (u : TransactionOf) → new.transactions ≡ map.insert old.transactions n u → (f : Option TransactionOf → Option TransactionOf) → f (got old n) ≡ Some u → got new s ≡ cond (s == n) (f (got old s)) (got old s)
  changes n u is f after =
      ap (λ m. map.get m s) is ∙ map.get-insert nat_cmp_total old.transactions n u s ∙ ap (λ b. cond b (Some u) (got old s)) (unsigned_tied s n)
      ∙ (elim (s == n) as (λ b. (s == n) ≡ b → cond b (Some u) (got old s) ≡ cond b (f (got old s)) (got old s)) [
        | true ↦ λ e. sym after ∙ ap (λ w. f (got old w)) (sym (eqb-true s n e))
        | false ↦ λ e. refl
      ] refl)

  keeps : new.transactions ≡ old.transactions → got new s ≡ got old s
  keeps is = ap (λ m. map.get m s) is

  transactions_of : {to : StateOf} → new ≡ to → new.transactions ≡ to.transactions
  transactions_of is = ap (λ (z : StateOf). z.transactions) is

  pub case_tells : (step : Step) (answer : Answer) → StepCase old seat step answer new → got new s ≡ told_after old.observers s seat step answer (got old s)
  case_tells step answer m = grind (arith, changes, transactions_of, keeps, same_both, got, secondary_keeps)

  pub case_observers : (step : Step) (answer : Answer) → StepCase old seat step answer new → new.observers ≡ old.observers
  case_observers step answer m = grind arith
