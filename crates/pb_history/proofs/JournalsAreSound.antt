-- A legal journal leads to sound states.
use Rattle.std.proofs.Common.{◌≡◌, ℕ, List, [], ◌∷◌, ◌++◌, sym, ap, subst, ◌∙◌}
use Rattle.pb_history.specs.Words.{ObserverOf, StateOf, opening}
use Rattle.pb_history.specs.declared.entry.Entry.{Entry}
use Rattle.pb_history.specs.Journals.{JournalLeads, IsLegal}
use Rattle.pb_history.specs.Sound.{IsSoundTable}
use Rattle.pb_history.specs.SoundJournals.{LeadsToSound, TellsSoundness}
use Rattle.pb_history.proofs.JournalParts.{leads_in_parts}
use Rattle.pb_history.proofs.StepsKeepSound.{steps_keep}
use Rattle.pb_history.proofs.OpeningSound.{opening_sound}
use Rattle.pb_history.proofs.TransactionAfter.{case_observers}

-- a run of steps from a sound table leads to a sound one, since each step does
pub run_sound : (old : StateOf) (es : List Entry) (new : StateOf) → IsSoundTable old → JournalLeads old es new → IsSoundTable new
run_sound old [] new i r = subst IsSoundTable (sym r) i
run_sound old (e ∷ es) new i r = run_sound r.0 es new (steps_keep old e.seat e.step e.answer r.0 i r.1) r.2

pub legal_sound : (observers : List ObserverOf) (seats clock : ℕ) (journal : List Entry) (state : StateOf) → IsLegal observers seats clock journal state → IsSoundTable state
legal_sound observers seats clock journal state l = run_sound (opening observers seats clock) journal state (opening_sound observers seats clock l.fits) l.run

-- no step changes the observers
run_observers : (old : StateOf) (es : List Entry) (new : StateOf) → JournalLeads old es new → new.observers ≡ old.observers
run_observers old [] new r = ap (λ (z : StateOf). z.observers) r
run_observers old (e ∷ es) new r = run_observers r.0 es new r.2 ∙ case_observers old e.seat r.0 0 e.step e.answer r.1.taken

-- a beginning of a legal journal is legal, and so leads to a sound table
beginning : (observers : List ObserverOf) (seats clock : ℕ) (journal : List Entry) (state : StateOf) → IsLegal observers seats clock journal state → (before after : List Entry) → journal ≡ before ++ after → LeadsToSound observers seats clock before
beginning observers seats clock journal state l before after is =
    let p = leads_in_parts (opening observers seats clock) before after state (subst (λ j. JournalLeads (opening observers seats clock) j state) is l.run) in
    let legal : IsLegal observers seats clock before p.0 = record { fits = l.fits; run = p.1 } in
    record { state = p.0; legal = legal; sound = legal_sound observers seats clock before p.0 legal }

pub tells_soundness : (observers : List ObserverOf) (seats clock : ℕ) (journal : List Entry) (state : StateOf) → IsLegal observers seats clock journal state → TellsSoundness observers seats clock journal state
tells_soundness observers seats clock journal state l = record { sound = legal_sound observers seats clock journal state l; observers_stay = run_observers (opening observers seats clock) journal state l.run; beginnings = beginning observers seats clock journal state l }
