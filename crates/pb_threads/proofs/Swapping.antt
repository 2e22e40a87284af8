-- Spares swapped in, one after another.
use Rattle.std.proofs.Common.{arith, ◌≡◌, ℕ, List, [], ◌∷◌, ◌++◌, reverse, Option, Some, None, refl, sym, ap, subst, ◌∙◌}
use Rattle.std.specs.Option.{option_or}
use Rattle.std.proofs.lemmas.List.{append_assoc, map-append, reverse-append}
use Rattle.std.proofs.lemmas.List.Elements.{All-nil, All-cons, All-append}
use Rattle.pb_threads.specs.Words.{Refusal, Contents}
use Rattle.pb_threads.specs.Swaps.{Spare, spares_of, IsSwapped, AreSwapped}

-- it was taken
abbrev IsTaken : ℕ → Spare → Type 0
IsTaken places s = IsSwapped places s None

-- one swap more
one_more : (places : ℕ) (spares : List Spare) (s : Spare) (first refused : Option Refusal) → AreSwapped places spares first → IsSwapped places s refused → AreSwapped places (spares ++ s ∷ []) (option_or first refused)
one_more places spares s None None taken is = All-append (IsTaken places) spares (s ∷ []) taken (All-cons (IsTaken places) s [] is (All-nil (IsTaken places)))
one_more places spares s None (Some r) taken is = record { before = spares; spare = s; after = []; spares_are = refl; taken = taken; refused = is }
one_more places spares s (Some r) refused f is = record {
  before = f.before;
  spare = f.spare;
  after = f.after ++ s ∷ [];
  spares_are = ap (λ l. l ++ s ∷ []) f.spares_are ∙ append_assoc f.before (f.spare ∷ f.after) (s ∷ []);
  taken = f.taken;
  refused = f.refused;
}

-- Of all spares the first were swapped, and the others wait, the next one last.
pub record IsOnTheWay {T : Type 0} (places : ℕ) (c : T → Contents) (all waiting : List (ℕ × T)) (first : Option Refusal) : Type 0 where
  pub before : List (ℕ × T)
  pub all_are : all ≡ before ++ reverse waiting
  pub swapped : AreSwapped places (spares_of c before) first

-- the last one that waits is swapped in next, since the list was turned round
pub swaps_next : {T : Type 0} (places : ℕ) (c : T → Contents) (all waiting rest : List (ℕ × T)) (x : ℕ × T) (first refused : Option Refusal) → waiting ≡ rest ++ x ∷ [] → IsOnTheWay places c all waiting first → IsSwapped places (x.0, c x.1) refused → IsOnTheWay places c all rest (option_or first refused)
swaps_next {T} places c all waiting rest x first refused is w s = record {
  before = w.before ++ x ∷ [];
  all_are =
      grind (arith, reverse-append, append_assoc, w.before, w.all_are);
  swapped = subst (λ l. AreSwapped places l (option_or first refused)) (sym (map-append (λ (y : ℕ × T). (y.0, c y.1)) w.before (x ∷ []))) (one_more places (spares_of c w.before) (x.0, c x.1) first refused w.swapped s);
}
