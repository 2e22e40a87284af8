-- A run of events goes on by one event, or stops at one.
use Rattle.std.proofs.Common.{◌≡◌, ℕ, ◌+◌, ◌<◌, ◌≤◌, List, [], ◌∷◌, ◌++◌, length, take, get_or, refl, sym, ◌∙◌, ap, subst, arith, add-one, inl, inr, ◌⊎◌, Some, slice_get}
use Rattle.std.proofs.lemmas.Option.{slice_get-get_or}
use Rattle.std.proofs.Math.Seq.{take-suc}
use Rattle.pb_world.specs.Words.{Event}
use Rattle.pb_world.specs.declared.fault.EventFault.{EventFault}
use Rattle.pb_world.specs.declared.note.Note.{Note}
use Rattle.pb_world.specs.Faults.{fault_code, memory_fault}
use Rattle.pb_world.specs.Events.{WorldOf, Happens, RunsTo, StopsAtEvent, EventMayWant, fault_of}

-- a run of events, and one event after it
pub runs_more : (w : WorldOf) (es : List Event) (ns : List Note) (m : WorldOf) (e : Event) (n : Note) (v : WorldOf) → RunsTo w es ns m → Happens m e n v → RunsTo w (es ++ e ∷ []) (ns ++ n ∷ []) v
runs_more w [] [] m e n v r h = (v, subst (λ x. Happens x e n v) r h, refl)
runs_more w (d ∷ es) (k ∷ ns) m e n v r h = (r.0, r.1, runs_more r.0 es ns m e n v r.2 h)
runs_more w [] (k ∷ ns) m e n v r h = absurd r
runs_more w (d ∷ es) [] m e n v r h = absurd r

-- the loop has run the events before its place, and then also the one there
pub runs_on : (w : WorldOf) (es : List Event) (ns : List Note) (i : ℕ) (m : WorldOf) (d : Event) (n : Note) (v : WorldOf) → i < length es
    → RunsTo w (take i es) ns m → Happens m (get_or es i d) n v → RunsTo w (take (i + 1) es) (ns ++ n ∷ []) v
runs_on w es ns i m d n v lt r h =
    let one : take (i + 1) es ≡ take i es ++ get_or es i d ∷ [] = ap (λ k. take k es) (add-one i) ∙ take-suc es i d lt in
    subst (λ xs. RunsTo w xs (ns ++ n ∷ []) v) (sym one) (runs_more w (take i es) ns m (get_or es i d) n v r h)

-- the events before the one at fault have happened, and nothing since
pub stops_at_fault : (w : WorldOf) (es : List Event) (ns : List Note) (i at : ℕ) (fault : EventFault) (code : ℕ) (m : WorldOf) (e : Event) (v : WorldOf) → i < length es → at ≡ i → code ≡ fault_code fault
    → RunsTo w (take i es) ns m → v ≡ m → e ≡ get_or es i e → ((fault ≡ memory_fault) × EventMayWant m e) ⊎ (fault_of m e ≡ Some fault) → StopsAtEvent w es at code v
stops_at_fault w es ns i at fault code m e v lt at-is code-is r same e-is why =
    let le : i ≤ length es = omega (arith, lt) in
    let s : StopsAtEvent w es i code m = record { notes = ns; within = le; before = r; why = because why } in
    subst (λ k. StopsAtEvent w es k code v) (sym at-is) (subst (λ x. StopsAtEvent w es i code x) (sym same) s)
  where
    there : slice_get es i ≡ Some e
    there = slice_get-get_or es i e lt ∙ ap (λ x. Some x) (sym e-is)

    because : ((fault ≡ memory_fault) × EventMayWant m e) ⊎ (fault_of m e ≡ Some fault) → ((code ≡ fault_code memory_fault) × ((i ≡ 0) ⊎ ((event : Event) × (slice_get es i ≡ Some event) × EventMayWant m event))) ⊎ ((event : Event) × (f : EventFault) × (slice_get es i ≡ Some event) × (fault_of m event ≡ Some f) × (code ≡ fault_code f))
    because (inl none) = inl (code-is ∙ ap fault_code none.0, inr (e, there, none.1))
    because (inr f) = inr (e, fault, there, f, code-is)
