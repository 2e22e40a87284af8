-- A commit is above its start, and below the starts of what begins after it.
use Rattle.std.proofs.Common.{◌≡◌, ℕ, ◌<◌, inl, inr, List, [], ◌∷◌, ◌++◌, Some, sym, ap, subst, ◌∙◌, arith, option_map}
use Rattle.pb_history.specs.Words.{Ts, Work, Step, Answer, ObserverOf, StateOf, TransactionOf, opening}
use Rattle.pb_history.specs.declared.entry.Entry.{Entry}
use Rattle.pb_history.specs.Journals.{JournalLeads, IsLegal}
use Rattle.pb_history.specs.History.{IsEntry, Member, InHistory}
use Rattle.pb_history.specs.Timestamps.{with_timestamp, timestamps, AreRising}
use Rattle.pb_history.specs.CommitOrder.{commit_entry, TellsCommitOrder}
use Rattle.pb_history.proofs.Updates.{has_before}
use Rattle.pb_history.proofs.Agreement.{ts, PastStamp}
use Rattle.pb_history.proofs.StepsAgree.{legal_agrees}
use Rattle.pb_history.proofs.HistoryTold.{is_committed, same_stamp, one_under_start}
use Rattle.pb_history.proofs.JournalParts.{leads_around}
use Rattle.pb_history.proofs.JournalsAreSound.{legal_sound}
use Rattle.pb_history.proofs.TimestampsRise.{run_rises, rising_after_entry}

-- a start that is given out is above all that were given out before
start_above : (low high seat : ℕ) (work : Work) (s : Ts) (es : List Entry) → IsEntry es seat (Step.Begin work) (Answer.At s) → AreRising low high (timestamps es) → low < s.0
start_above low high seat work s [] has r = absurd has
start_above low high seat work s (e ∷ es) (inl q) r = (subst (λ (d : Entry). AreRising low high (with_timestamp d.step d.answer (timestamps es))) q r).0
start_above low high seat work s (e ∷ es) (inr has) r = start_above low high seat work s es has (rising_after_entry low high e.step e.answer (timestamps es) r)

module _ (observers : List ObserverOf) (seats clock : ℕ) (journal : List Entry) (state : StateOf) (l : IsLegal observers seats clock journal state) where
  above : (m : Member) → InHistory state.observers journal m → m.start < m.commit
  above m h =
      let k = is_committed journal state (legal_agrees observers seats clock journal state l) m h in
      ((legal_sound observers seats clock journal state l).stamped m.start m.commit (inr (ap (option_map (λ (t : TransactionOf). t.phase)) k.there ∙ ap Some k.phase))).0

  seen : (m : Member) → InHistory state.observers journal m → (before after : List Entry) → journal ≡ before ++ commit_entry m ∷ after → (seat : ℕ) (work : Work) (s : Ts) → IsEntry after seat (Step.Begin work) (Answer.At s) → m.commit < s.0
  seen m h before after is seat work s has =
      let a = legal_agrees observers seats clock journal state l in
      let k = is_committed journal state a m h in
      let p = leads_around (opening observers seats clock) before (commit_entry m) after state (subst (λ j. JournalLeads (opening observers seats clock) j state) is l.run) in
      let c = p.3.taken in
      let begun : IsLegal observers seats clock before p.0 = record { fits = l.fits; run = p.1 } in
      let stamped = ((legal_agrees observers seats clock before p.0 begun).logged m.start c.t c.own.there).stamped c.c (inl c.stamped) in
      let told = a.told _ (subst (λ j. IsEntry j c.t.seat (Step.Stamp (ts m.start)) (Answer.At (ts c.c))) (sym is) (has_before before (commit_entry m ∷ after) _ stamped)) in
      let commit : m.commit ≡ c.c = same_stamp k.t.phase m.commit c.c k.phase (subst (λ (t : TransactionOf). PastStamp t.phase c.c) (one_under_start _ k.t told.0 k.there told.1) told.2) in
      let low = ((legal_sound observers seats clock before p.0 begun).stamped m.start c.c (inl (ap (option_map (λ (t : TransactionOf). t.phase)) c.own.there ∙ ap Some c.stamped))).1 in
      let next : p.2.clock ≡ p.0.clock = ap (λ (z : StateOf). z.clock) c.new_is in
      let high = start_above p.2.clock state.clock seat work s after has (run_rises p.2 after state p.4) in
      omega (arith, commit, low, next, high)

pub tells_commit_order : (observers : List ObserverOf) (seats clock : ℕ) (journal : List Entry) (state : StateOf) → IsLegal observers seats clock journal state → TellsCommitOrder journal state
tells_commit_order observers seats clock journal state l = record { above = above observers seats clock journal state l; seen = seen observers seats clock journal state l }
