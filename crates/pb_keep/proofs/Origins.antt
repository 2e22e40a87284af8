-- What a table begins with that is opened with a log.
use Rattle.std.proofs.Common.{◌≡◌, ℕ, Bool, true, false, List, [], ◌∷◌, refl, sym, subst, ◌∙◌, arith}
use Rattle.pb_state.specs.CarriedOver.{WhyNotCarried}
use Rattle.pb_state.specs.declared.carry_fault.CarryFault.{CarryFault}
use Rattle.pb_snapshots.specs.RecordLaws.{RecordsAreOfOneSnapshot}
use Rattle.pb_keep.specs.Words.{FitsSnapshot, ObserverOf, SnapshotOf, snapshot_bytes}
use Rattle.pb_keep.specs.Causes.{IsOfFirst}
use Rattle.pb_keep.specs.Kept.{begins_as_snapshot, IsSnapshotFor, LacksSnapshot}
use Rattle.pb_keep.specs.Left.{fault_of_carried}

module _ (observers : List ObserverOf) (bytes : List ℕ) (so : begins_as_snapshot (bytes ∷ []) ≡ true) where
  -- a record of one that the table can't begin with
  module _ (one : RecordsAreOfOneSnapshot) (s : SnapshotOf) (is : bytes ≡ snapshot_bytes s) (fits : FitsSnapshot s) where
    pub lacks_own : (IsSnapshotFor observers bytes s → ⊥) → LacksSnapshot observers (bytes ∷ [])
    lacks_own none = record { first = bytes; others = []; records_are = refl; begins_so = so; lacks = λ u h. none (subst (λ z. IsSnapshotFor observers bytes z) (one u s h.fits fits (sym h.written ∙ is)) h) }

    -- why it isn't carried over
    pub why_not_carried : (n : ℕ) (e : CarryFault) → WhyNotCarried observers s.clock s.cells n e → IsOfFirst observers (bytes ∷ []) (fault_of_carried e)
    why_not_carried n (CarryFault.NoMemory m) w = tt
    why_not_carried n CarryFault.NotAboveStart w = lacks_own (λ h. let f = h.in_order n w.0 w.1 in let above = f.above in let below = w.2 in omega (arith, above, below))
    why_not_carried n CarryFault.AboveLast w = lacks_own (λ h. let f = h.in_order n w.0 w.1 in let within = f.by_then in let over = w.2 in omega (arith, within, over))
    why_not_carried n CarryFault.OutOfOrder w = lacks_own (λ h. let f = h.in_order n w.0 w.1 in let e = f.in_order w.2.0 w.2.1 in let d = w.2.2 in not_both e d)
      where
        not_both : {b : Bool} → b ≡ true → b ≡ false → ⊥
        not_both e d = absurd cc
    why_not_carried n CarryFault.NotItsContent w = lacks_own (λ h. let f = h.in_order n w.0 w.1 in let e = f.its_content in let d = w.2 in absurd cc)
    why_not_carried n CarryFault.NoItsObserver w = lacks_own (λ h. let f = h.in_order n w.0 w.1 in let e = f.observed in let d = w.2 in absurd cc)
