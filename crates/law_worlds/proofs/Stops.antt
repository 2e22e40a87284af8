-- No run goes past an event that can't happen, so events stop at one, or at none.
use Rattle.std.proofs.Common.{◌≡◌, ◌≢◌, ◌⊎◌, ℕ, zero, suc, ◌≤◌, List, [], ◌∷◌, length, take, inl, inr, refl, sym, subst, arith, Some, slice_get}
use Rattle.std.proofs.Math.Seq.{take-length}
use Rattle.std.proofs.lemmas.Option.{none-some, slice_get_within}
use Rattle.law_worlds.specs.Words.{Event, EventFault, Note, fault_code, memory_fault, WorldOf, fault_of, RunsTo, StopsAtEvent, IsSoundWorld, EventsKeepSound}
use Rattle.law_worlds.specs.Outcomes.{EventsHaveOneOutcome, RunsHaveOneOutcome, FaultsHaveOnePlace, WholeRunsHaveNoFault}
use Rattle.pb_base.proofs.Logic.{one_value}

-- after the events before it, the event of this place is at fault, with this number
record IsAtFault (w : WorldOf) (es : List Event) (at code : ℕ) (v : WorldOf) : Type 0 where
  notes : List Note
  before : RunsTo w (take at es) notes v
  within : at ≤ length es
  event : Event
  fault : EventFault
  there : slice_get es at ≡ Some event
  can : fault_of v event ≡ Some fault
  told : code ≡ fault_code fault

-- a list that stops does so for memory, or since an event is at fault
fault_in : (w : WorldOf) (es : List Event) (at code : ℕ) (v : WorldOf) → StopsAtEvent w es at code v → (code ≡ fault_code memory_fault) ⊎ IsAtFault w es at code v
fault_in w es at code v s = grind arith

-- and where it isn't for memory, an event is at fault
fault_of_other : (w : WorldOf) (es : List Event) (at code : ℕ) (v : WorldOf) → code ≢ fault_code memory_fault → StopsAtEvent w es at code v → IsAtFault w es at code v
fault_of_other w es at code v other s = elim (fault_in w es at code v s) [ inl memory ↦ absurd (other memory) | inr f ↦ f ]

module _ (one : EventsHaveOneOutcome) (keep : EventsKeepSound) where
  not_past : (w : WorldOf) (es : List Event) (at : ℕ) (ns : List Note) (v : WorldOf) (by : ℕ) (ms : List Note) (u : WorldOf) (e : Event) (f : EventFault) → IsSoundWorld w
      → RunsTo w (take at es) ns v → slice_get es at ≡ Some e → fault_of v e ≡ Some f → by ≤ length es → RunsTo w (take by es) ms u → by ≤ at
  not_past w es at ns v zero ms u e f s x there can le y = omega arith
  not_past w [] at ns v (suc by) ms u e f s x there can le y = absurd (none-some e there)
  not_past w (d ∷ es) zero ns v (suc by) [] u e f s x there can le y = absurd y
  not_past w (d ∷ es) zero (n ∷ ns) v (suc by) (m ∷ ms) u e f s x there can le y = absurd x
  not_past w (d ∷ es) zero [] v (suc by) (m ∷ ms) u e f s x there can le y = grind arith
  not_past w (d ∷ es) (suc at) [] v (suc by) ms u e f s x there can le y = absurd x
  not_past w (d ∷ es) (suc at) (n ∷ ns) v (suc by) [] u e f s x there can le y = absurd y
  not_past w (d ∷ es) (suc at) (n ∷ ns) v (suc by) (m ∷ ms) u e f s x there can le y =
      let first = one w d n x.0 m y.0 s x.1 y.1 in
      let sound : IsSoundWorld x.0 = keep w (d ∷ []) (n ∷ []) x.0 s (x.0, x.1, refl) in
      let rest = not_past x.0 es at ns v by ms u e f sound x.2 there can (omega (arith, le)) (subst (λ z. RunsTo z (take by es) ms u) (sym first.world) y.2) in
      omega (arith, rest)

  pub faults_once : RunsHaveOneOutcome → FaultsHaveOnePlace
  faults_once runs w es at code v by number u s x y not also = grind (arith, fault_of_other, not_past, one_value)

  pub whole_runs : WholeRunsHaveNoFault
  whole_runs w es ns v at code u s x y = elim (fault_in w es at code u y) [
    | inl memory ↦ memory
    | inr f ↦
        let all : RunsTo w (take (length es) es) ns v = subst (λ l. RunsTo w l ns v) (sym (take-length es)) x in
        let past : length es ≤ at = not_past w es at f.notes u (length es) ns v f.event f.fault s f.before f.there f.can (omega arith) all in
        let within = slice_get_within es at f.event f.there in
        absurd (omega (arith, past, within))
  ]
