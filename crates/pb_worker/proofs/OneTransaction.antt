-- A conversation of a change or of a run begins its transaction first, and commits no other.
use Rattle.std.proofs.Common.{arith, ◌≡◌, ℕ, inl, inr, List, [], ◌∷◌, ◌++◌, Option, Some, None, refl, sym, ap, subst}
use Rattle.pb_worker.specs.Words.{Cell, Revision, Ts, Writes, Talk, Meant, Seen, Work, Declared, Step, Answer, read_step, asked_cell, Received, Has, Outcome, told, IsWhole, AreCleared, committed, conflicted_first, conflicted_later, lost, prewrites, secondaries, IsWholeChange, JobEnd, Watch, IsRound, AreRounds, IsLooked, its_begin, IsObserved, IsAcknowledged, IsRecalled, AreAsked, dirty, asked, LooksFrom, at_cell, at_acknowledgment, at_old, at_ask, IsRunConversation, absent, clean, ran, conflicted, blocked}
use Rattle.pb_notify.specs.Forms.{at_first, one_more}
use Rattle.pb_notify.specs.Forms.{lost as lost_run}
use Rattle.pb_history.proofs.Updates.{has_which}

-- ---- lists

-- it commits no other transaction than that of this start
abbrev IsNoOther : Ts → Step → Type 0
IsNoOther s step = (u : Ts) → step ≡ Step.CommitPrimary u → u ≡ s

-- none of them does
pub record CommitNoOther (s : Ts) (said : List Received) : Type 0 where
  pub each : (r : Received) → Has said r → IsNoOther s r.step

nothing : (s : Ts) → CommitNoOther s []
nothing s = record { each = λ r h. absurd h }

and_first : (s : Ts) (r : Received) (rs : List Received) → IsNoOther s r.step → CommitNoOther s rs → CommitNoOther s (r ∷ rs)
and_first s r rs one more = grind arith

only_one : (s : Ts) (r : Received) → IsNoOther s r.step → CommitNoOther s (r ∷ [])
only_one s r one = and_first s r [] one (nothing s)

-- neither part commits another, nor do both
both : (s : Ts) (xs ys : List Received) → CommitNoOther s xs → CommitNoOther s ys → CommitNoOther s (xs ++ ys)
both s xs ys h k = record { each = λ r has. elim (has_which xs ys r has) [ inl a ↦ h.each r a | inr b ↦ k.each r b ] }

-- ---- a whole conversation of a transaction

-- prewrites commit none
prewrites_none : (s : Ts) (xs : List Cell) → CommitNoOther s (prewrites s xs)
prewrites_none s [] = nothing s
prewrites_none s (x ∷ xs) = and_first s (told (Step.Prewrite s x) Answer.Done) (prewrites s xs) (λ u e. cc) (prewrites_none s xs)

secondaries_none : (s : Ts) (xs : List Cell) → CommitNoOther s (secondaries s xs)
secondaries_none s [] = nothing s
secondaries_none s (x ∷ xs) = and_first s (told (Step.CommitSecondary s x) Answer.Done) (secondaries s xs) (λ u e. cc) (secondaries_none s xs)

clear_none : (s : Ts) (x : Cell) → IsNoOther s (Step.Clear x)
clear_none s x u e = cc

-- to clear what was prewritten commits none
cleared_none : (s : Ts) (xs : List Cell) (rs : List Received) → AreCleared xs rs → CommitNoOther s rs
cleared_none s [] rs c = subst (CommitNoOther s) (sym c) (nothing s)
cleared_none s (x ∷ xs) [] c = absurd c
cleared_none s (x ∷ xs) (r ∷ rs) c = and_first s r rs (subst (IsNoOther s) (sym c.0) (clear_none s x)) (cleared_none s xs rs c.2)

-- a transaction's conversation commits none but its own
whole_own : (s : Ts) (what : Declared) (cells : List Cell) (said : List Received) (o : Outcome) → IsWhole s what cells said o → CommitNoOther s said
whole_own s what cells said o (committed x others c) = grind (arith, and_first, secondaries_none, both, prewrites_none)
whole_own s what cells said o (conflicted_first x after) = grind arith
whole_own s what cells said o (conflicted_later x y before after a cs can c) = grind (arith, and_first, cleared_none, both, prewrites_none)
whole_own s what cells said o (lost x others c cs k) = grind (arith, and_first, cleared_none, both, prewrites_none)

-- ---- with its begin

-- it begins a transaction for this work first, with this start, and commits no other
pub record IsOneTransaction (work : Work) (s : Ts) (said : List Received) : Type 0 where
  pub rest : List Received
  pub said_is : said ≡ told (Step.Begin work) (Answer.At s) ∷ rest
  pub own : CommitNoOther s said

goes_on : (work : Work) (s : Ts) (said more : List Received) → IsOneTransaction work s said → CommitNoOther s more → IsOneTransaction work s (said ++ more)
goes_on work s said more i m = record { rest = i.rest ++ more; said_is = ap (λ l. l ++ more) i.said_is; own = both s said more i.own m }

begins : (work : Work) (s : Ts) → IsOneTransaction work s (told (Step.Begin work) (Answer.At s) ∷ [])
begins work s = record { rest = []; said_is = refl; own = only_one s (told (Step.Begin work) (Answer.At s)) (λ u e. cc) }

-- a change begins one transaction, and commits no other
pub of_change : (batch : Writes) (start : Ts) (said : List Received) (o : Outcome) → IsWholeChange batch start said o → IsOneTransaction Work.Script start said
of_change batch start said o w = grind (arith, and_first, whole_own, w.rest, w.said_is, w.whole)

-- ---- a run

-- a read commits none
read_none : (s t : Ts) (x : Cell) (at : Option Ts) → IsNoOther s (read_step t x at)
read_none s t x o u e = grind arith

-- nor does what clears a lock that a read met
round_none : (s : Ts) (x : Cell) (at : Option Ts) (round : List Received) → IsRound s x at round → CommitNoOther s round
round_none s x at round h = grind arith

module _ (o : Watch) (s : Ts) where
  abbrev IsOfRun : List Received → Type 0
  IsOfRun said = IsOneTransaction (Work.Run o.observer o.row) s said

  with_rounds : (x : Cell) (at : Option Ts) (m : ℕ) (base : List Received) (n : ℕ) (said : List Received) → AreRounds s x at m base n said → IsOfRun base → IsOfRun said
  with_rounds x at m base n said at_first i = i
  with_rounds x at m base k all (one_more n said round before r) i = goes_on (Work.Run o.observer o.row) s said round (with_rounds x at m base n said before i) (round_none s x at round r)

  with_look : (x : Cell) (at : Option Ts) (m : ℕ) (base : List Received) (n : ℕ) (said : List Received) → IsLooked s x at m base n said → IsOfRun base → IsOfRun said
  with_look x at m base n said l i = grind (arith, only_one, read_none, goes_on, with_rounds, l.answer, o.observer, o.row, l.said_is, l.before, l.rounds)

  observed : (found : Revision) (n : ℕ) (said : List Received) → IsObserved o s found n said → IsOfRun said
  observed found n said b = with_look (Cell.Data o.row o.column) None 0 (its_begin o s) n said b.look (begins (Work.Run o.observer o.row) s)

  acknowledged : (seen : Seen) (n : ℕ) (said : List Received) → IsAcknowledged o s seen n said → IsOfRun said
  acknowledged seen n said k = with_look (Cell.Ack o.observer o.row o.column) None k.met k.base n said k.look (observed seen.version k.met k.base k.observed)

  recalled : (seen : Seen) (t : Option Ts) (n : ℕ) (said : List Received) → IsRecalled o s seen t n said → IsOfRun said
  recalled seen None n said k = acknowledged seen n said k.1
  recalled seen (Some t) n said k = with_look (Cell.Data o.row o.column) (Some t) k.0 k.1 n said k.3 (acknowledged seen k.0 k.1 k.2)

  after_asks : (seen : Seen) (talk : Talk) (n : ℕ) (said : List Received) → AreAsked o s seen talk n said → IsOfRun said
  after_asks seen talk m all (dirty n said r newer) = recalled seen _ n said r
  after_asks seen whole n all (asked talk m base q k said before look) = with_look (asked_cell q) None m base k said look (after_asks seen talk m base before)

  before_look : (x : Cell) (at : Option Ts) (m : ℕ) (base : List Received) → LooksFrom o s x at m base → IsOfRun base
  before_look x at m base at_cell = begins (Work.Run o.observer o.row) s
  before_look x at m base (at_acknowledgment found n said b) = observed found n said b
  before_look x at m base (at_old seen t n said k newer old) = acknowledged seen n said k
  before_look x at m base (at_ask seen talk n said q k) = after_asks seen talk n said k

  swept : (x : Cell) (w : Answer) → CommitNoOther s (told (Step.Sweep x) w ∷ [])
  swept x w = only_one s (told (Step.Sweep x) w) (λ u e. cc)

-- a run begins one transaction, and commits no other, however many locks it clears
pub of_run : (o : Watch) (said : List Received) (end : JobEnd) (run : Option Meant) → IsRunConversation o said end run → (s : Ts) × IsOneTransaction (Work.Run o.observer o.row) s said
of_run o all end run (absent s n said w look none few can) =
    (s, goes_on (Work.Run o.observer o.row) s said (told (Step.Sweep (Cell.Data o.row o.column)) w ∷ []) (with_look o s (Cell.Data o.row o.column) None 0 (its_begin o s) n said look (begins (Work.Run o.observer o.row) s)) (swept o s (Cell.Data o.row o.column) w))
of_run o all end run (clean s seen n said w k newer few can) =
    (s, goes_on (Work.Run o.observer o.row) s said (told (Step.Sweep (Cell.Data o.row o.column)) w ∷ []) (acknowledged o s seen n said k) (swept o s (Cell.Data o.row o.column) w))
of_run o all end run (ran s seen talk n said plan f c w k few is whole can) =
    let before = goes_on (Work.Run o.observer o.row) s said plan (after_asks o s seen talk n said k) (whole_own s _ _ plan _ whole) in
    (s, goes_on (Work.Run o.observer o.row) s (said ++ plan) (told (Step.Sweep (Cell.Data o.row o.column)) w ∷ []) before (swept o s (Cell.Data o.row o.column) w))
of_run o all end run (conflicted s seen talk n said plan f k few is whole) =
    (s, goes_on (Work.Run o.observer o.row) s said plan (after_asks o s seen talk n said k) (whole_own s _ _ plan _ whole))
of_run o all end run (lost_run s seen talk n said plan f k few is whole) =
    (s, goes_on (Work.Run o.observer o.row) s said plan (after_asks o s seen talk n said k) (whole_own s _ _ plan _ whole))
of_run o all end run (blocked s x at m base n said t primary from rounds last) =
    (s, goes_on (Work.Run o.observer o.row) s said (told (read_step s x at) (Answer.Locked t primary) ∷ []) (with_rounds o s x at m base n said rounds (before_look o s x at m base from)) (only_one s (told (read_step s x at) (Answer.Locked t primary)) (read_none s s x at)))
