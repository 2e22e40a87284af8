-- A snapshot of a kept table begins the next generation, and what is chosen of it goes on with other observers.
use Rattle.std.proofs.Common.{◌≡◌, ℕ, arith, List, [], ◌∷◌, Some, refl, sym, ap, ◌∙◌, subst}
use Rattle.pb_snapshots.specs.Words.{Writes, Cell, Revision, ObserverOf, Entries, StateOf, Transactions, StepCase, Answer, Step, Has, JournalLeads, StepsKeepSound, OpeningIsSound, IsSoundTable, Entry, Received, entries_by, ChosenAreSound, IsChosenSnapshot, chosen_cell, chosen_state, carried, unmarked, AreLeft, IsSnapshotOf, LeftAreSound, IsCarriedOver, IsMarkedBehind, IsFirstTable, KeepsFrom, anew, changed, opened, SaidLeads, KeptTable, chosen_stats}
use Rattle.pb_keeper.proofs.LedTables.{led_by}
use Rattle.pb_keeper.proofs.Resting.{from_sound}
use Rattle.pb_snapshots.specs.Beginnings.{SnapshotsBegin}
use Rattle.pb_snapshots.specs.Chosen.{ChosenBegin}
use Rattle.pb_snapshots.specs.Taken.{IsTakenOf}
use Rattle.pb_snapshots.proofs.CarriedSnapshots.{are_left_carried, no_more, only_those, same_version, snapshot_carried, snapshot_left, state_becomes, state_carried, stored_beside, viewed_taken}
use Rattle.pb_snapshots.proofs.ChosenCells.{one_cell}

-- no step changes how many seats there are
case_seats : (old : StateOf) (seat : ℕ) (new : StateOf) (step : Step) (answer : Answer) → StepCase old seat step answer new → new.seats ≡ old.seats
case_seats old seat new step answer m = grind arith

journal_seats : (old : StateOf) (es : List Entry) (new : StateOf) → JournalLeads old es new → new.seats ≡ old.seats
journal_seats old [] new r = ap (λ (z : StateOf). z.seats) r
journal_seats old (e ∷ es) new r = journal_seats r.0 es new r.2 ∙ case_seats old e.seat r.0 e.step e.answer r.1.taken

leads_seats : {P : List Received → Type 0} (a b : StateOf) → SaidLeads P a b → b.seats ≡ a.seats
leads_seats a b g = journal_seats a (entries_by 0 g.said) b g.leads

-- a generation has one seat
first_seats : (past : List Writes) (first : KeptTable) → IsFirstTable past first → first.state.seats ≡ 1
first_seats past first (opened observers) = refl
first_seats past first (anew limit before changes start old new began k room is stats) = ap (λ (z : StateOf). z.seats) is.marked.is ∙ leads_seats start.state old.state (led_by limit start changes old k) ∙ first_seats before start began
first_seats past first (changed limit before changes start old between new places front more began k room is up) =
    leads_seats up.marked.state first.state up.drained
    ∙ ap (λ (z : StateOf). z.seats) up.observed.is
    ∙ ap (λ (z : StateOf). z.seats) is.marked.is
    ∙ leads_seats start.state old.state (led_by limit start changes old k)
    ∙ first_seats before start began

module _ (keeps : StepsKeepSound) (opens : OpeningIsSound) (left : LeftAreSound) (sound_chosen : ChosenAreSound) where
  module _ (limit : ℕ) (past changes : List Writes) (first old new : KeptTable) (began : IsFirstTable past first) (k : KeepsFrom limit first changes old) where
    old_sound : IsSoundTable old.state
    old_sound = from_sound keeps opens left sound_chosen limit past changes first old began k

    -- it has as many seats, and the clock of the snapshot is its own
    carried_over : (observers : List ObserverOf) (clock : ℕ) (cells : List (Cell × Revision)) (over : StateOf) → clock ≡ old.state.clock → IsCarriedOver observers 1 clock cells over
        → IsCarriedOver observers old.state.seats old.state.clock cells over
    carried_over observers clock cells over same is =
        let seats : 1 ≡ old.state.seats = sym (leads_seats first.state old.state (led_by limit first changes old k) ∙ first_seats past first began) in
        subst (λ (c : ℕ). IsCarriedOver observers old.state.seats c cells over) same (subst (λ (n : ℕ). IsCarriedOver observers n clock cells over) seats is)

  -- marks leave entries and transactions
  module _ (over new : StateOf) (marked : IsMarkedBehind over new) where
    same_entries : over.entries ≡ new.entries
    same_entries = sym (ap (λ (z : StateOf). z.entries) marked.is)

    same_transactions : over.transactions ≡ new.transactions
    same_transactions = sym (ap (λ (z : StateOf). z.transactions) marked.is)

    -- what holds of those of the one holds of those of the other
    with_marks : (P : Entries → Transactions → Type 0) → P over.entries over.transactions → P new.entries new.transactions
    with_marks P its = subst (P new.entries) same_transactions (subst (λ (e : Entries). P e over.transactions) same_entries its)

    marked_over : (of : Entries → Transactions → StateOf) → over ≡ of over.entries over.transactions → IsMarkedBehind (of new.entries new.transactions) new
    marked_over of is = with_marks (λ e ts. IsMarkedBehind (of e ts) new) (subst (λ (z : StateOf). IsMarkedBehind z new) is marked)

  pub snapshots_begin : SnapshotsBegin
  snapshots_begin limit past changes first old new s over began k room taken carries marked stats =
      let sound = old_sound limit past changes first old new began k in
      let is = carried_over limit past changes first old new began k old.state.observers s.clock s.cells over taken.clock carries in
      anew limit past changes first old new began k room (record {
        marked = marked_over over new.state marked (λ e ts. unmarked (carried old.state e ts)) (state_carried old.state over s.cells sound room taken.each taken.all is);
        snapshot = with_marks over new.state marked (λ e ts. IsSnapshotOf old.state e) (snapshot_carried old.state over s.cells sound room taken.each taken.all is);
        left = with_marks over new.state marked (AreLeft old.state) (snapshot_left old.state over s.cells sound room taken.each taken.all is);
      }) (stats ∙ taken.stats)

  pub chosen_begin : ChosenBegin
  chosen_begin limit past changes first old new s u over places front began k room are taken from carries marked stats =
      let sound = old_sound limit past changes first old new began k in
      let becomes = chosen_cell places in
      let each : (y : Cell) (v : Revision) → Has u.cells (y, v) → (x : Cell) × (becomes x ≡ Some y) × IsTakenOf old.state x v = λ y v has. let x = from.each y v has in (x.0, x.1, taken.each x.0 v x.2) in
      let all : (x y : Cell) (v : Revision) → becomes x ≡ Some y → IsTakenOf old.state x v → Has u.cells (y, v) = λ x y v becoming there. from.all x y v becoming (taken.all x v there) in
      let is = carried_over limit past changes first old new began k front u.clock u.cells over (from.clock ∙ taken.clock) carries in
      record {
        are = are;
        marked = marked_over over new.state marked (λ e ts. unmarked (chosen_state old.state front e ts)) (state_becomes old.state over becomes (one_cell places) front u.cells sound each all is);
        snapshot = with_marks over new.state marked (λ e ts. IsChosenSnapshot places old.state e) (record {
          viewed = λ x y e t at. same_version old.state over becomes (one_cell places) front u.cells sound each all is x y e t (viewed_taken old.state sound room x t at);
          only = only_those old.state over becomes (one_cell places) front u.cells sound each all is;
          no_more = no_more old.state over becomes (one_cell places) front u.cells sound each all is;
          stored = stored_beside old.state over becomes (one_cell places) front u.cells sound each all is;
          unlocked = is.entries_are.unlocked;
        });
        left = with_marks over new.state marked (AreLeft old.state) (are_left_carried old.state over becomes (one_cell places) front u.cells sound each all is);
        stats_are = stats ∙ from.stats ∙ ap (chosen_stats places) taken.stats;
      }
