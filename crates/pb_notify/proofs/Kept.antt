-- What holds of a job's parts at its place, after an answer and after an instruction.
use Rattle.std.proofs.Common.{◌≡◌, ℕ, ◌<◌, Bool, Option, Some, length, refl, arith}
use Rattle.pb_notify.specs.Words.{Cell, Row, Ts, Revision, JudgedOf, Ask, MachinePhase, Position, Seen, Step, Answer, Outcome, PlanOf, outcome_of}
use Rattle.pb_txn.specs.Places as orders
use Rattle.pb_txn.specs.Plans as plans
use Rattle.pb_notify.specs.declared.look.TheConstants.{MAX_LOCKED}
use Rattle.pb_notify.specs.declared.look.Look.{Look}
use Rattle.pb_notify.specs.declared.look.Looked.{Looked}
use Rattle.pb_notify.specs.declared.place.RunPlace.{RunPlace}
use Rattle.pb_notify.specs.Looks.{look_after, locked_after}
use Rattle.pb_notify.specs.Places.{place_after, locked_at, after_begin, after_cell, after_acknowledgment, after_recall, after_ask, by_outcome, ComesTo, GoesOnFrom, AtPlace, step_at}
use Rattle.pb_notify.specs.Runs.{need_at}
use Rattle.pb_notify.specs.declared.need.Need.{Need}
use Rattle.pb_notify.proofs.PlansFit.{fits_after, next_is}

-- ---- looks

-- fewer reads met a lock than may, unless the last one did
abbrev IsFew : Looked → ℕ → Type 0
IsFew Looked.Blocks n = Unit {0}
IsFew _ n = n < MAX_LOCKED

-- a look blocks at the last lock that may be met, so that else there is room for one more
look_few : (locked : ℕ) (look : Look) (a : Answer) → locked < MAX_LOCKED → IsFew (look_after locked look a) (locked_after locked look a)
look_few locked look a few = grind arith

-- ---- answers

-- each answer leads to a place that its parts fit, here and below
at_begun : (n : ℕ) (a : Answer) → n < MAX_LOCKED → AtPlace n (after_begin a)
at_begun n a few = grind arith

at_observed : (n : ℕ) (s : Ts) (looked : Looked) → IsFew looked n → AtPlace n (after_cell s looked)
at_observed n s looked few = grind arith

at_acknowledged : (n : ℕ) (second : Bool) (s : Ts) (found : Revision) (looked : Looked) → IsFew looked n → AtPlace n (after_acknowledgment second s found looked)
at_acknowledged n second s found looked few = grind arith

at_recalling : (n : ℕ) (s : Ts) (seen : Seen) (looked : Looked) → IsFew looked n → AtPlace n (after_recall s seen looked)
at_recalling n s seen looked few = grind arith

at_asked : (n : ℕ) (s : Ts) (v : Position) (q : Ask) (looked : Looked) → v.phase ≡ MachinePhase.Asking q → IsFew looked n → AtPlace n (after_ask s v q looked)
at_asked n s v q looked asks few = grind arith

at_outcome : (n r : ℕ) (p : PlanOf) (o : Option Outcome) → outcome_of p ≡ o → orders.LiesWithin (length (orders.declared_cells p.what)) p.place → AtPlace n (by_outcome r p o)
at_outcome n r p o is fits = grind arith

-- so after any answer
pub at_after : (second : Bool) (locked : ℕ) (place : RunPlace) (a : Answer) → AtPlace locked place → AtPlace (locked_at locked place a) (place_after second locked place a)
at_after second locked RunPlace.Beginning a at = at_begun locked a at
at_after second locked (RunPlace.Observing s look) a at = at_observed _ s (look_after locked look a) (look_few locked look a at)
at_after second locked (RunPlace.Acknowledging s found look) a at = at_acknowledged _ second s found (look_after locked look a) (look_few locked look a at)
at_after second locked (RunPlace.Recalling s seen look) a at = at_recalling _ s seen (look_after locked look a) (look_few locked look a at)
at_after second locked (RunPlace.Starting s seen) a at = at
at_after second locked (RunPlace.Computing s v) a at = at
at_after second locked (RunPlace.Asking s v q look) a at = at_asked _ s v q (look_after locked look a) at.1 (look_few locked look a at.0)
at_after second locked (RunPlace.Planning r p) a at = at_outcome locked r (plans.answered p a) (outcome_of (plans.answered p a)) refl (fits_after _ p.place a at.1)
at_after second locked (RunPlace.Sweeping end) a at = tt
at_after second locked (RunPlace.Over end) a at = tt

-- ---- instructions

-- what an instruction did determines how the machine stands at the next place
pub at_come : (locked o : ℕ) (s : Ts) (v : Position) (place : RunPlace) → ComesTo o s v place → locked < MAX_LOCKED → AtPlace locked place
at_come locked o s v place x few = grind arith

-- and so after any instruction
pub at_computed : (locked o : ℕ) (judged : JudgedOf) (x : Cell) (place next : RunPlace) → GoesOnFrom o judged x place next → AtPlace locked place → AtPlace locked next
at_computed locked o judged x place next comes at = grind arith

-- ---- the whole job

-- where it needs an answer there is a next step
pub call_has_next : (o : ℕ) (row : Row) (column locked : ℕ) (place : RunPlace) → AtPlace locked place → need_at place ≡ Need.Call → (s : Step) × (step_at o row column place ≡ Some s)
call_has_next o row column locked RunPlace.Beginning at e = (_, refl)
call_has_next o row column locked (RunPlace.Observing s look) at e = (_, refl)
call_has_next o row column locked (RunPlace.Acknowledging s found look) at e = (_, refl)
call_has_next o row column locked (RunPlace.Recalling s seen look) at e = (_, refl)
call_has_next o row column locked (RunPlace.Starting s seen) at e = absurd cc
call_has_next o row column locked (RunPlace.Computing s v) at e = absurd cc
call_has_next o row column locked (RunPlace.Asking s v q look) at e = (_, refl)
call_has_next o row column locked (RunPlace.Planning r p) at e = next_is p p.place refl at.1 at.0
call_has_next o row column locked (RunPlace.Sweeping end) at e = (_, refl)
call_has_next o row column locked (RunPlace.Over end) at e = absurd cc
