-- How far a text is written, write by write.
use Rattle.std.proofs.Common.{arith, ◌≡◌, ◌≢◌, ℕ, Bool, Ok, List, ◌++◌, Option, take, drop, sym, ap, subst, ◌∙◌, append_assoc, ◌||◌, ◌&&◌}
use Rattle.std.specs.Io.KnownBytes.{Appends}
use Rattle.std.proofs.KnownBytes.{Appends-trans}
use Rattle.std.proofs.lemmas.List.{take-append-drop}
use Rattle.pb_base.specs.declared.sink.SinkFault.{SinkFault}
use Rattle.pb_base.specs.Sink.{took_none, IsPart}

pub goes_on : (old now new : Option (List ℕ)) (bytes rest : List ℕ) (n : ℕ) → IsPart old now bytes rest → Appends now new (take n rest) → IsPart old new bytes (drop n rest)
goes_on old now new bytes rest n h e =
    (h.0 ++ take n rest, h.1 ∙ ap (λ (x : List ℕ). h.0 ++ x) (sym (take-append-drop n rest)) ∙ sym (append_assoc h.0 (take n rest) (drop n rest)), Appends-trans old now new h.0 (take n rest) h.2 e)

pub goes_to : (old now new : Option (List ℕ)) (bytes rest left : List ℕ) (n : ℕ) → IsPart old now bytes rest → Appends now new (take n rest) → left ≡ drop n rest → IsPart old new bytes left
goes_to old now new bytes rest left n h e is = subst (IsPart old new bytes) (sym is) (goes_on old now new bytes rest n h e)

-- a write that took some bytes did not fail
pub took_without_fault : (a b new : Bool) (n : ℕ) → n ≢ 0 → new ≡ (a || (b && took_none {E = SinkFault} (Ok n))) → new ≡ a
took_without_fault a b new n some h = grind arith
