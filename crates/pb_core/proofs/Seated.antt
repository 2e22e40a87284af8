-- A step that isn't refused is one of a seat of the table.
use Rattle.std.proofs.Common.{arith, ◌≡◌, ℕ, ◌<◌, Bool, true, false, cond, not, nat_lt, Option, Some, None, refl}
use Rattle.std.proofs.lemmas.Bool.{ltb-true}
use Rattle.pb_steps.specs.Reasons.{Reasons, first_reason, reasons_of}
use Rattle.pb_steps.specs.State.{TransactionOf}
use Rattle.pb_core.specs.Words.{Reason, Step, StateOf, step_reason}

-- the first of some reasons doesn't apply where none does
first_flag : (b : Bool) (p : Reason) (rest : Option Reason) → cond (not b) (Some p) rest ≡ None → b ≡ true
first_flag b p rest e = grind arith

-- nor the second
second_flag : (a b : Bool) (p q : Reason) (rest : Option Reason) → cond a (Some p) (cond (not b) (Some q) rest) ≡ None → b ≡ true
second_flag a b p q rest e = grind arith

-- where a first reason doesn't apply, the rest say whether one does
rest_none : (a : Bool) (p : Reason) (rest : Option Reason) → cond a (Some p) rest ≡ None → rest ≡ None
rest_none a p rest e = grind arith

-- a transaction without a reason is of a seat that is there
own_flag : (b : Bool) (t : Option TransactionOf) (why : TransactionOf → Reasons) → first_reason (reasons_of (cond (not b) None t) why) ≡ None → b ≡ true
own_flag true t why e = refl
own_flag false t why e = grind arith

seat_flag : (s : StateOf) (seat : ℕ) (step : Step) → step_reason s seat step ≡ None → nat_lt seat s.seats ≡ true
seat_flag s seat (Step.Begin work) e = second_flag _ _ _ _ _ e
seat_flag s seat (Step.Read start x) e = own_flag _ _ _ e
seat_flag s seat (Step.ReadAt start x t) e = own_flag _ _ _ e
seat_flag s seat (Step.Declare start what) e = own_flag _ _ _ e
seat_flag s seat (Step.Prewrite start x) e = own_flag _ _ _ e
seat_flag s seat (Step.Stamp start) e = own_flag _ _ _ (rest_none _ _ _ e)
seat_flag s seat (Step.CommitPrimary start) e = own_flag _ _ _ e
seat_flag s seat (Step.CommitSecondary start x) e = own_flag _ _ _ e
seat_flag s seat (Step.Settle x) e = first_flag _ _ _ e
seat_flag s seat (Step.Clear x) e = first_flag _ _ _ e
seat_flag s seat (Step.NextMark after) e = first_flag _ _ _ e
seat_flag s seat (Step.Sweep x) e = first_flag _ _ _ e

-- a step that isn't refused is one of a seat of the table
pub seat_is_there : (s : StateOf) (seat : ℕ) (step : Step) → step_reason s seat step ≡ None → seat < s.seats
seat_is_there s seat step e = ltb-true seat s.seats (seat_flag s seat step e)
