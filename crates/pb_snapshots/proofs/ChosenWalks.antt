-- What is chosen of a list of versions, gathered version by version.
use Rattle.std.specs.BTreeMap as tree
use Rattle.std.specs.BTreeMap.{BTreeMap}
use Rattle.std.proofs.Common.{◌≡◌, ℕ, inl, inr, cond, List, [], ◌∷◌, Some, None, sym, ap, ◌∙◌, subst, map, Less}
use Rattle.std.specs.List.{AllByRecursion}
use Rattle.std.specs.List.Sorted.{IsStrictlySortedBy}
use Rattle.pb_base.proofs.Logic.{not_none, same_some}
use Rattle.pb_snapshots.specs.Words.{Cell, Revision, Ts, Has, chosen_cell}
use Rattle.pb_snapshots.specs.ChosenWalks.{HaveOneOfEachCommit, AreChosenVersions, HasChosen, IsOfChosen}
use Rattle.pb_snapshots.specs.VersionWalks.{commit_cmp, commit_of_version, version_listed}
use Rattle.pb_snapshots.proofs.ChosenCells.{one_cell}
use Rattle.pb_snapshots.proofs.VersionWalks.{one_added, all_listed, not_below_itself, nothing_noted, passed_over}

-- ---- by rising commits

all_has : {A B : Type 0} (P : B → Type 0) (f : A → B) (xs : List A) (c : A) → AllByRecursion P (map f xs) → Has xs c → P (f c)
all_has P f [] c all has = absurd has
all_has P f (x ∷ xs) c all (inl e) = subst (λ z. P (f z)) e all.0
all_has P f (x ∷ xs) c all (inr h) = all_has P f xs c all.1 h

abbrev IsBelow : Cell × Revision → Cell × Revision → Type 0
IsBelow c d = commit_cmp (commit_of_version c) (commit_of_version d) ≡ Less

-- none is below another of its commit and cell
not_below : (c : Cell × Revision) (x : Cell) (v w : Revision) → c ≡ (x, v) → v.commit ≡ w.commit → IsBelow c (x, w) → ⊥
not_below c x v w is same below =
    let key : commit_of_version c ≡ (w.commit, x) = ap commit_of_version is ∙ ap (λ (t : Ts). (t, x)) same in
    not_below_itself (w.commit, x) (subst (λ (k : Ts × Cell). commit_cmp k (w.commit, x) ≡ Less) key below)

pub rising_apart : (cells : List (Cell × Revision)) → IsStrictlySortedBy commit_cmp (map commit_of_version cells) → HaveOneOfEachCommit cells
unfolding IsStrictlySortedBy
rising_apart [] rising x v w a b same = absurd a
rising_apart (c ∷ cells) rising x v w (inl a) (inl b) same = ap (λ (p : Cell × Revision). p.1) (sym a ∙ b)
rising_apart (c ∷ cells) rising x v w (inl a) (inr b) same = absurd (not_below c x v w a same (all_has (λ k. commit_cmp (commit_of_version c) k ≡ Less) commit_of_version cells (x, w) rising.0 b))
rising_apart (c ∷ cells) rising x v w (inr a) (inl b) same = absurd (not_below c x w v b (sym same) (all_has (λ k. commit_cmp (commit_of_version c) k ≡ Less) commit_of_version cells (x, v) rising.0 a))
rising_apart (c ∷ cells) rising x v w (inr a) (inr b) same = rising_apart cells rising.1 x v w a b same

-- ---- a walk

module _ (places : List ℕ) (cells : List (Cell × Revision)) where
  -- before it nothing is noted
  pub none_chosen : (m : BTreeMap (Ts × Cell) Revision) → m.entries ≡ [] → tree.IsOrdered commit_cmp m → HasChosen places cells cells m
  none_chosen m empty rising = nothing_noted (IsOfChosen places cells) m empty rising

  -- after it no version is left
  pub chosen_listed : (m : BTreeMap (Ts × Cell) Revision) → HasChosen places cells [] m → AreChosenVersions places cells (map version_listed m.entries)
  chosen_listed m h = all_listed (IsOfChosen places cells) (IsOfChosen places []) m h (λ x v left. left.2)

  module _ (version : Cell × Revision) (rest : List (Cell × Revision)) (old : BTreeMap (Ts × Cell) Revision) (so : HasChosen places cells (version ∷ rest) old) where
    -- a version of a cell that goes is passed over
    pub not_chosen : chosen_cell places version.0 ≡ None → HasChosen places cells rest old
    not_chosen goes = passed_over (IsOfChosen places cells) (IsOfChosen places (version ∷ rest)) (IsOfChosen places rest) old so (λ y v its left. elim left.2 [
      | inl here ↦ absurd (not_none (chosen_cell places version.0) y (ap (λ (p : Cell × Revision). chosen_cell places p.0) here ∙ left.1) goes)
      | inr later ↦ (left.0, left.1, later)
    ])

    -- and one of a cell that stays is noted
    pub one_chosen : HaveOneOfEachCommit cells → Has cells version → (y : Cell) → chosen_cell places version.0 ≡ Some y → (new : BTreeMap (Ts × Cell) Revision)
        → ((q : Ts × Cell) → tree.get commit_cmp new q ≡ cond (tree.is_at (commit_cmp (version.1.commit, y)) q) (Some version.1) (tree.get commit_cmp old q)) → tree.IsOrdered commit_cmp new → HasChosen places cells rest new
    one_chosen apart has y stays new updates rising =
        one_added (IsOfChosen places cells) (IsOfChosen places (version ∷ rest)) (IsOfChosen places rest) old so
        (λ z v w a b same. apart a.0 v w a.2 (subst (λ (x : Cell). Has cells (x, w)) (one_cell places b.0 a.0 z b.1 a.1) b.2) same) y version.1 (version.0, stays, has) new updates rising
        (λ z w its left. elim left.2 [
          | inl here ↦ inl (same_some y z (sym stays ∙ ap (λ (p : Cell × Revision). chosen_cell places p.0) here ∙ left.1), ap (λ (p : Cell × Revision). p.1) here)
          | inr later ↦ inr (left.0, left.1, later)
        ])
