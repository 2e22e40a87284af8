-- What was chosen of a table for other observers makes it a sound table, with what is left of its transactions.
use Rattle.std.proofs.Common.{◌≡◌, ℕ, Some, subst, List}
use Rattle.pb_generations.specs.Words.{Cell, Entries, write_at, StateOf, IsSoundTable}
use Rattle.pb_generations.specs.Chosen.{ChosenAreSound, IsChosenSnapshot}
use Rattle.pb_generations.proofs.ChosenNumbers.{one_chosen}
use Rattle.pb_generations.proofs.LeftTransactions.{HaveVersions, left_sound}

chosen_has : (places : List ℕ) (old : StateOf) (e : Entries) → IsSoundTable old → IsChosenSnapshot places old e → HaveVersions old e
chosen_has places old e sound snap = record {
  written = λ y c s is. let x = snap.only y c s is in ((x.0, x.2), snap.stored y c s is);
  apart = λ y c s d u a b.
      let p = snap.only y c s a in
      let q = snap.only y d u b in
      sound.apart p.0 c s d u p.2 (subst (λ (x : Cell). write_at old.entries x d ≡ Some u) (one_chosen places q.0 p.0 y q.1 p.1) q.2);
  unlocked = snap.unlocked;
}

pub chosen_are_sound : ChosenAreSound
chosen_are_sound places front old e ts sound chosen snap left = left_sound old e ts sound (chosen_has places old e sound snap) left
