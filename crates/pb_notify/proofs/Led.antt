-- The machine of a job was led from entry to where it stands.
use Rattle.std.proofs.Common.{arith, ◌≡◌, ℕ, Bool, List, length, None, refl, ap, subst, ◌∙◌}
use Rattle.pb_notify.specs.Words.{Cell, Ts, JudgedOf, Placement, IsPlacement, Ask, Position, AsksAt, Answer, Received, PlanOf, PlansConverse, PlansEnd, no_part, one_part, took, went}
use Rattle.pb_txn.specs.Conversations as plan_converses
use Rattle.pb_notify.specs.declared.place.RunPlace.{RunPlace}
use Rattle.pb_notify.specs.Places.{place_after, GoesOnFrom, IsToldAt}
use Rattle.pb_notify.specs.Runs.{Watch, RunOf, fresh}
use Rattle.pb_notify.specs.Conversations.{Reaches}
use Rattle.pb_notify.specs.Forms.{IsLooking}
use Rattle.pb_notify.specs.Led.{MachineStandsAt, IsLed, IsMachineOf, MachinesAreLed, IsAskingAt, HasEnded, AsksAreOpen, EndedRunsMean}
use Rattle.pb_txn.proofs.PlanTransactions.{keeps_start_and_what}
use Rattle.pb_notify.proofs.LookConversation as looks
use Rattle.pb_notify.proofs.RunConversation as conversation

-- ---- the machine alone

-- ---- at a place

-- the record has the size for which the program was judged
abbrev HasSize : Position → Type 0
HasSize v = length v.bytes ≡ v.judged.record_size

-- the next instruction asks for this cell
abbrev IsAsked : Position → Ask → Type 0
IsAsked v q = (a : Placement) → IsPlacement (length v.bytes) a → AsksAt v q a

-- the machine of a place, if it has one, was led there
abbrev AtLed : RunPlace → Type 0
AtLed (RunPlace.Computing s v) = IsLed v × HasSize v
AtLed (RunPlace.Asking s v q look) = IsLed v × HasSize v × IsAsked v q
AtLed place = Unit {0}

-- so after any answer
answered_led : (second : Bool) (locked : ℕ) (place : RunPlace) (a : Answer) → AtLed place → IsToldAt locked place a (place_after second locked place a) → AtLed (place_after second locked place a)
answered_led second locked place a led is = grind arith

computed_led : (o : ℕ) (judged : JudgedOf) (x : Cell) (place next : RunPlace) → AtLed place → GoesOnFrom o judged x place next → AtLed next
computed_led o judged x place next led c = grind arith

-- and so wherever a job has come
reached_led : (j : RunOf) (said : List Received) (k : RunOf) → AtLed j.place → Reaches j said k → AtLed k.place
reached_led j said k led no_part = led
reached_led j said k led (one_part from to before more reaches (took r next can is)) = grind (arith, answered_led, from.locked, from.place, r.answer, from.watch.judged, reached_led j before from led reaches)
reached_led j said k led (one_part from to before more reaches (went c)) = computed_led from.watch.observer from.watch.judged (Cell.Data from.watch.row from.watch.column) from.place to.place (reached_led j before from led reaches) c.1.comes

-- ---- with the conversation

module _ (o : Watch) where
  -- a look goes on from the conversation before it
  machine_at : (said : List Received) (n : ℕ) (place : RunPlace) (s : Ts) (v : Position) → MachineStandsAt place s v → conversation.SoFar o n place said → AtLed place → IsMachineOf o place s v said
  machine_at said n (RunPlace.Computing t w) s v stands so led =
      subst (λ (z : Position). IsMachineOf o (RunPlace.Computing t w) s z said) stands.1
      (subst (λ (z : Ts). IsMachineOf o (RunPlace.Computing t w) z w said) stands.0
      (record { seen = so.0; program = so.1.program; bytes = so.1.bytes; start = so.1.start; met = n; base = said; asked = so.2; since = refl; size = led.1 ∙ ap (λ (j : JudgedOf). j.record_size) so.1.program; led = led.0 }))
  machine_at said n (RunPlace.Asking t w q look) s v stands so led =
      let from = conversation.look_goes_on t (Cell.Data q.row q.column) None so.1 so.2 look n said so.5 in
      let end = looks.look_can_end t (Cell.Data q.row q.column) None so.1 so.2 look n said so.5 in
      let open_look : IsLooking t (Cell.Data q.row q.column) None so.1 so.2 said = record { since = from.0; said_is = from.1; next = end.next; rest = end.rest; n = n; look = end.look.0 } in
      subst (λ (z : Position). IsMachineOf o (RunPlace.Asking t w q look) s z said) stands.1
      (subst (λ (z : Ts). IsMachineOf o (RunPlace.Asking t w q look) z w said) stands.0
      (record { seen = so.0; program = so.3.program; bytes = so.3.bytes; start = so.3.start; met = so.1; base = so.2; asked = so.4; since = open_look; size = led.1 ∙ ap (λ (j : JudgedOf). j.record_size) so.3.program; led = led.0 }))
  machine_at said n _ s v stands so led = absurd stands

-- with the conversation up to there, the record and the replies are what the job read
pub machines_are_led : PlansConverse → PlansEnd → MachinesAreLed
machines_are_led pt pe o said k s v reaches stands =
    let h = conversation.reached_holds o pt pe said k reaches in
    machine_at o said k.locked k.place s v stands h.so (reached_led (fresh o) said k tt reaches)

asking_led : (place : RunPlace) → AtLed place → IsAskingAt place
asking_led place led = grind arith

pub asks_are_open : AsksAreOpen
asks_are_open o said k reaches = asking_led k.place (reached_led (fresh o) said k tt reaches)

-- a plan declares what it was made for
keeps_what : (p : PlanOf) (said : List Received) (q : PlanOf) → plan_converses.Converses p said q → q.what ≡ p.what
keeps_what p said q t = (keeps_start_and_what p q said t).1

module _ (o : Watch) where
  ended_at : (n : ℕ) (place : RunPlace) (said : List Received) → conversation.SoFar o n place said → HasEnded o place said
  ended_at n place said so = grind (arith, keeps_what)

-- what a job declares was left by its machine, as the conversation at that place says
pub ended_runs_mean : PlansConverse → PlansEnd → EndedRunsMean
ended_runs_mean pt pe o said k reaches =
    let h = conversation.reached_holds o pt pe said k reaches in
    ended_at o k.locked k.place said h.so
