-- Each step of a job names known cells, where its observer is known, and what it was answered.
use Rattle.std.proofs.Common.{arith, ◌≡◌, ℕ, ◌<◌, true, List, [], ◌∷◌, Option, Some, None, map, slice_get, option_map, refl, sym, ap, subst, ◌∙◌, inl, zero, suc}
use Rattle.std.proofs.lemmas.Bool.{and_parts}
use Rattle.pb_generations.specs.Words.{Writes, is_batch, Cell, Row, Ts, ObserverOf, IsMeant, Meant, read_step, StateOf, StepCase, Answer, Declared, Step, Work, Has, JournalLeads, Received, ChangeOf, new_change, told, PlansConverse, PlansEnd, declared_cells, recorded_column, recorded_row, PlanPlace, entries_by, look_step, step_at, Watch, watch_of, Look, RunPlace}
use Rattle.pb_base.proofs.Logic.{none_some, same_some}
use Rattle.pb_sound.proofs.RunWrites.{runs_write_batches}
use Rattle.pb_history.proofs.DeclaredCells.{batch_plain, run_plain}
use Rattle.pb_history.proofs.Updates.{has_right}
use Rattle.pb_conversations.proofs.Asking.{conversation_unfolds}
use Rattle.pb_txn.specs.Changes as changes
use Rattle.pb_txn.specs.Conversations.{Converses}
use Rattle.pb_txn.specs.Places as orders
use Rattle.pb_txn.specs.Plans as plans
use Rattle.pb_txn.proofs.ChangeConversation.{answered_has_begun}
use Rattle.pb_txn.proofs.PlanTransactions.{keeps_start_and_what}
use Rattle.pb_notify.proofs.LookConversation.{InLook, IsIn}
use Rattle.pb_notify.proofs.RunConversation as conversation
use Rattle.pb_generations.specs.LeftOut.{NamesKnown, is_known_cell, are_known_writes}
use Rattle.pb_generations.specs.KnownSteps.{AreKnownAnswers, RunsNameKnown, ChangesNameKnown}
use Rattle.pb_generations.proofs.LeftOutDeclarations.{number_is_known, plain_are_known}

-- before its first answer a change begins
pub first_step : (batch : Writes) (j : ChangeOf) (step : Step) → changes.Converses (new_change batch) [] j → changes.next_of j ≡ Some step → Step.Begin Work.Script ≡ step
first_step batch j step talk next = same_some (Step.Begin Work.Script) step (ap changes.next_of (sym (conversation_unfolds changes.next_of changes.answered (new_change batch) j [] talk)) ∙ next)

module _ (n : ℕ) where
  -- ---- a look

  known_read : (s : Ts) (x : Cell) (at : Option Ts) → is_known_cell n x ≡ true → NamesKnown n (read_step s x at)
  known_read s x None known = known
  known_read s x (Some t) known = known

  -- the primary that is settled was answered to the read
  known_primary : (s : Ts) (x : Cell) (at : Option Ts) (m : ℕ) (base : List Received) (k : ℕ) (said rest : List Received) (t : Ts) (primary : Cell) → AreKnownAnswers n said
      → IsIn s x at m base k said (told (read_step s x at) (Answer.Locked t primary) ∷ rest) → is_known_cell n primary ≡ true
  known_primary s x at m base k said rest t primary answers i =
      let r = told (read_step s x at) (Answer.Locked t primary) in
      answers r (subst (λ l. Has l r) (sym i.said_is) (has_right i.before (r ∷ rest) r (inl refl)))

  known_look : (s : Ts) (x : Cell) (at : Option Ts) (m : ℕ) (base : List Received) (look : Look) (k : ℕ) (said : List Received) → is_known_cell n x ≡ true → AreKnownAnswers n said → InLook s x at m base look k said
      → NamesKnown n (look_step s x at look)
  known_look s x at m base Look.Reading k said known answers i = known_read s x at known
  known_look s x at m base (Look.Clearing primary) k said known answers i = known
  known_look s x at m base (Look.Settling primary) k said known answers i = known_primary s x at m base k said _ i.0 primary answers i.1
  known_look s x at m base Look.ClearingAgain k said known answers i = known

  -- ---- a plan

  abbrev pub AreKnownCells : List Cell → Type 0
  AreKnownCells [] = Unit {0}
  AreKnownCells (x ∷ xs) = (is_known_cell n x ≡ true) × AreKnownCells xs

  pub cells_of_writes : (ws : Writes) → are_known_writes n ws ≡ true → AreKnownCells (map (λ w. w.0) ws)
  cells_of_writes [] known = tt
  cells_of_writes (w ∷ ws) known = let parts = and_parts (is_known_cell n w.0) (are_known_writes n ws) known in (parts.0, cells_of_writes ws parts.1)

  cell_at : (cells : List Cell) (k : ℕ) (x : Cell) → AreKnownCells cells → slice_get cells k ≡ Some x → is_known_cell n x ≡ true
  cell_at [] k x all is = absurd (none_some x is)
  cell_at (y ∷ cells) zero x all is = subst (λ (z : Cell). is_known_cell n z ≡ true) (same_some y x is) all.0
  cell_at (y ∷ cells) (suc k) x all is = cell_at cells k x all.1 is

  step_of : (f : Cell → Step) (o : Option Cell) (step : Step) → option_map f o ≡ Some step → (x : Cell) × (o ≡ Some x) × (f x ≡ step)
  step_of f None step is = absurd (none_some step is)
  step_of f (Some x) step is = (x, refl, same_some (f x) step is)

  named_at : (f : Cell → Step) (cells : List Cell) (k : ℕ) (step : Step) → ((x : Cell) → is_known_cell n x ≡ true → NamesKnown n (f x)) → AreKnownCells cells → option_map f (slice_get cells k) ≡ Some step → NamesKnown n step
  named_at f cells k step named all is =
      let one = step_of f (slice_get cells k) step is in
      subst (NamesKnown n) one.2 (named one.0 (cell_at cells k one.0 all one.1))

  known_in_order : (s : ℕ) (what : Declared) (place : PlanPlace) (step : Step) → AreKnownCells (declared_cells what) → NamesKnown n (Step.Declare (record { 0 = s }) what) → orders.step_at s what place ≡ Some step → NamesKnown n step
  known_in_order s what PlanPlace.Declaring step all first is = subst (NamesKnown n) (same_some (Step.Declare (record { 0 = s }) what) step is) first
  known_in_order s what (PlanPlace.Prewriting k) step all first is = named_at (λ x. Step.Prewrite (record { 0 = s }) x) (declared_cells what) k step (λ x known. known) all is
  known_in_order s what PlanPlace.Stamping step all first is = subst (NamesKnown n) (same_some (Step.Stamp (record { 0 = s })) step is) tt
  known_in_order s what (PlanPlace.CommittingPrimary c) step all first is = subst (NamesKnown n) (same_some (Step.CommitPrimary (record { 0 = s })) step is) tt
  known_in_order s what (PlanPlace.CommittingSecondary c k) step all first is = named_at (λ x. Step.CommitSecondary (record { 0 = s }) x) (declared_cells what) k step (λ x known. known) all is
  known_in_order s what (PlanPlace.Settling k) step all first is = named_at (λ x. Step.Settle x) (declared_cells what) 0 step (λ x known. known) all is
  known_in_order s what (PlanPlace.Clearing k end o) step all first is = named_at (λ x. Step.Clear x) (declared_cells what) k step (λ x known. known) all is
  known_in_order s what (PlanPlace.Over o) step all first is = absurd (none_some step is)

  known_in_plan : (s : ℕ) (what : Declared) (p : plans.PlanOf) (said : List Received) (step : Step) → Converses (plans.fresh s what) said p → plans.next_of p ≡ Some step → AreKnownCells (declared_cells what)
      → NamesKnown n (Step.Declare (record { 0 = s }) what) → NamesKnown n step
  known_in_plan s what p said step talk next all first =
      let same = keeps_start_and_what (plans.fresh s what) p said talk in
      known_in_order s what p.place step all first ((λ i. orders.step_at (sym same.0 i) (sym same.1 i) p.place) ∙ next)

  -- ---- a change

  batch_known : (batch : Writes) (said : List Received) (j : ChangeOf) (step : Step) → AreKnownCells (map (λ w. w.0) batch) → changes.Converses (new_change batch) said j → changes.next_of j ≡ Some step → NamesKnown n step
  batch_known batch [] j step all talk next = subst (NamesKnown n) (first_step batch j step talk next) tt
  batch_known batch (r ∷ rest) j step all talk next =
      let b = answered_has_begun batch r rest j talk in
      known_in_plan b.s (Declared.Script batch) b.plan rest step b.said (ap changes.next_of (sym b.q_is) ∙ next) all tt

  -- ---- a run

  module _ (o : ℕ) (observer : ObserverOf) (row : Row) (said : List Received) (low : o < n) (answers : AreKnownAnswers n said) (step : Step) where
    abbrev watch : Watch
    watch = watch_of o observer row

    one : (a : Step) → NamesKnown n a → Some a ≡ Some step → NamesKnown n step
    one a is next = subst (NamesKnown n) (same_some a step next) is

    own_cell : (r : Row) (column : ℕ) → is_known_cell n (Cell.Ack o r column) ≡ true
    own_cell r column = number_is_known o n low

    run_cells : (f : Meant) → IsMeant f → AreKnownCells (declared_cells (Declared.Run o f))
    run_cells f meant = (own_cell (record { 0 = recorded_row f.bytes }) (recorded_column f.bytes), cells_of_writes f.writes (plain_are_known n f.writes (run_plain f.writes (runs_write_batches f.judged f.bytes f.start f.talk f.result f.writes meant))))

    known_at : (k : ℕ) (place : RunPlace) → conversation.SoFar watch k place said → step_at o row observer.column place ≡ Some step → NamesKnown n step
    known_at k RunPlace.Beginning so next = one (Step.Begin (Work.Run o row)) low next
    known_at k (RunPlace.Observing s look) so next = one _ (known_look s (Cell.Data row observer.column) None 0 _ look k said refl answers so) next
    known_at k (RunPlace.Acknowledging s found look) so next = one _ (known_look s (Cell.Ack o row observer.column) None so.0 so.1 look k said (own_cell row observer.column) answers so.3) next
    known_at k (RunPlace.Recalling s seen look) so next = one _ (known_look s (Cell.Data row observer.column) (Some seen.acknowledged) so.0 so.1 look k said refl answers so.5) next
    known_at k (RunPlace.Starting s seen) so next = absurd (none_some step next)
    known_at k (RunPlace.Computing s v) so next = absurd (none_some step next)
    known_at k (RunPlace.Asking s v q look) so next = one _ (known_look s (Cell.Data q.row q.column) None so.1 so.2 look k said refl answers so.5) next
    known_at k (RunPlace.Planning r p) so next = known_in_plan so.s.0 (Declared.Run o so.run) p so.plan step so.converses_are next (run_cells so.run so.meant) low
    known_at k (RunPlace.Sweeping end) so next = one (Step.Sweep (Cell.Data row observer.column)) tt next
    known_at k (RunPlace.Over end) so next = absurd (none_some step next)

pub runs_name_known : PlansConverse → PlansEnd → RunsNameKnown
runs_name_known pt pe n o observer row said k step low reaches answers next =
    let h = conversation.reached_holds (watch_of o observer row) pt pe said k reaches in
    let here : step_at o row observer.column k.place ≡ Some step = ap (λ (j : Watch). step_at j.observer j.row j.column k.place) (sym h.watch) ∙ next in
    known_at n o observer row said low answers step k.locked k.place h.so here

pub changes_name_known : ChangesNameKnown
changes_name_known n batch said j step is talk next = batch_known n batch said j step (cells_of_writes n batch (plain_are_known n batch (batch_plain batch is))) talk next

-- ---- a change that a table took

-- a script declares a batch
declares_batch : (old : StateOf) (seat : ℕ) (s : Ts) (batch : Writes) (answer : Answer) (new : StateOf) → StepCase old seat (Step.Declare s (Declared.Script batch)) answer new → is_batch batch ≡ true
declares_batch old seat s batch answer new is = grind arith

pub declared_batch : (seat : ℕ) (batch : Writes) (old new : StateOf) (a b : Received) (rest : List Received) (s : Ts) → JournalLeads old (entries_by seat (a ∷ b ∷ rest)) new → Step.Declare s (Declared.Script batch) ≡ b.step → is_batch batch ≡ true
declared_batch seat batch old new a b rest s leads is =
    declares_batch leads.0 seat s batch b.answer leads.2.0 (subst (λ (z : Step). StepCase leads.0 seat z b.answer leads.2.0) (sym is) leads.2.1.taken)

batch_by_now : (seat : ℕ) (batch : Writes) (old new : StateOf) (a b : Received) (rest : List Received) (j : ChangeOf) → changes.Converses (new_change batch) (a ∷ b ∷ rest) j → JournalLeads old (entries_by seat (a ∷ b ∷ rest)) new → is_batch batch ≡ true
batch_by_now seat batch old new a b rest j talk leads =
    let begun = answered_has_begun batch a (b ∷ rest) j talk in
    let first = conversation_unfolds plans.next_of plans.answered (plans.fresh begun.s (Declared.Script batch)) begun.plan (b ∷ rest) begun.said in
    declared_batch seat batch old new a b rest (record { 0 = begun.s }) leads (same_some (Step.Declare (record { 0 = begun.s }) (Declared.Script batch)) b.step first.0)

-- its next step
pub change_names_known : (n : ℕ) (seat : ℕ) (batch : Writes) (old new : StateOf) (said : List Received) (j : ChangeOf) (step : Step) → changes.Converses (new_change batch) said j → JournalLeads old (entries_by seat said) new
    → changes.next_of j ≡ Some step → NamesKnown n step
change_names_known n seat batch old new [] j step talk leads next = subst (NamesKnown n) (first_step batch j step talk next) tt
change_names_known n seat batch old new (r ∷ []) j step talk leads next =
    let begun = answered_has_begun batch r [] j talk in
    let nothing = conversation_unfolds plans.next_of plans.answered (plans.fresh begun.s (Declared.Script batch)) begun.plan [] begun.said in
    subst (NamesKnown n) (same_some (Step.Declare (record { 0 = begun.s }) (Declared.Script batch)) step (ap plans.next_of (sym nothing) ∙ ap changes.next_of (sym begun.q_is) ∙ next)) tt
change_names_known n seat batch old new (a ∷ b ∷ rest) j step talk leads next = changes_name_known n batch (a ∷ b ∷ rest) j step (batch_by_now seat batch old new a b rest j talk leads) talk next
