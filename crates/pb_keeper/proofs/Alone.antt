-- A transaction that is alone on a table without locks commits, and leaves none.
use Rattle.std.proofs.Common.{arith, ◌≡◌, ℕ, ◌<◌, ◌⊎◌, Bool, true, false, cond, inl, inr, List, [], ◌∷◌, ◌++◌, Option, Some, None, refl, sym, ap, subst, ◌∙◌, is_some, option_map, ◌==◌}
use Rattle.std.proofs.lemmas.Bool.{eq-eqb, false_from_ne_true, true≢false}
use Rattle.pb_keeper.specs.Words.{Writes, content_in, primary_in, Cell, Content, Ts, Entries, is_reading, lock_at, write_at, commit_lock, Prewrites, Conflicts, put_lock, is_early, Declares, Stamps, CommitsPrimary, Loses, CommitsSecondary, if_locked, IsOwn, StateOf, TransactionOf, cells_of, is_in, StepCase, step_reason, Phase, Step, Answer, Declared, Has, IsSoundTable, prewritten_by, declared_by, names_start, transaction_after, IsUnlocked}
use Rattle.pb_base.proofs.Logic.{none_some}
use Rattle.pb_history.proofs.StepsKeepSound.{some_is}
use Rattle.pb_history.proofs.Agreement.{got}
use Rattle.pb_history.proofs.TransactionAfter.{case_tells}
use Rattle.pb_history.proofs.Updates.{same_cell, same_cell_is, same_cell_itself, at_place, set2, set2_here, placed_or_before, left_after_clearing, has_front, has_last, has_more}
use Rattle.pb_history.proofs.ViewsAfter.{lock_after_put, write_after_put, lock_after_commit}

either_some : {A : Type 0} (b : Bool) (x : A) (o : Option A) → is_some o ≡ true → is_some (cond b (Some x) o) ≡ true
either_some true x o e = refl
either_some false x o e = e

-- ---- lists of cells

more_in : (xs : List Cell) (x y : Cell) → is_in (xs ++ x ∷ []) y ≡ true → (is_in xs y ≡ true) ⊎ (x ≡ y)
unfolding same_cell
more_in [] x y e = inr (same_cell_is x y (grind (arith, e)))
more_in (z ∷ xs) x y e = let on = more_in xs x y in grind (arith, on, e)

primary_content : (ws : Writes) (p : Cell) → primary_in ws ≡ Some p → (k : Content) × (content_in ws p ≡ Some k)
unfolding same_cell
primary_content [] p e = cc
primary_content (w ∷ ws) p e = let same = same_cell_itself w.0 in (w.1, grind (arith, same, e))

reading_is : (h : Phase) → is_reading h ≡ true → h ≡ Phase.Reading
reading_is h e = grind arith

-- ---- the transaction on its way

-- the first of these cells, if there is one, is this
abbrev IsFirst : List Cell → Cell → Type 0
IsFirst [] p = Unit {0}
IsFirst (x ∷ xs) p = x ≡ p

-- up to its commit: each lock is its own, each write record is of a commit below its start, and these are the cells that it has
-- prewritten, its primary first, each of which is locked
pub record IsAlone (s : ℕ) (done : List Cell) (m : StateOf) : Type 0 where
  pub sound : IsSoundTable m
  pub only : (x : Cell) (u : ℕ) (p : Cell) → lock_at m.entries x u ≡ Some p → u ≡ s
  pub below : (x : Cell) (c u : ℕ) → write_at m.entries x c ≡ Some u → c < s
  pub prewritten : (x : Cell) → is_in (prewritten_by (got m s)) x ≡ true → Has done x
  pub locked : (x : Cell) → Has done x → is_some (lock_at m.entries x s) ≡ true
  pub primary : (p : Cell) → primary_in (declared_by (got m s)) ≡ Some p → IsFirst done p

-- after its commit: only on these cells may its lock stand
abbrev pub AreLeft : ℕ → List Cell → StateOf → Type 0
AreLeft s left m = (x : Cell) (u : ℕ) (p : Cell) → lock_at m.entries x u ≡ Some p → (u ≡ s) × Has left x

-- a step that names the start leaves of its transaction what the step says
named : (start : Ts) (m n : StateOf) (step : Step) (answer : Answer) → StepCase m 0 step answer n → names_start start.0 step answer ≡ true → got n start.0 ≡ transaction_after m.observers 0 step answer (got m start.0)
named start m n step answer c is = case_tells m 0 n start.0 step answer c ∙ ap (λ b. cond b (transaction_after m.observers 0 step answer (got m start.0)) (got m start.0)) is

module _ (start : Ts) (m n : StateOf) where
  abbrev s : ℕ
  s = start.0

  itself : (s == s) ≡ true
  itself = eq-eqb s s refl

  same_entries : {to : StateOf} → n ≡ to → to.entries ≡ m.entries → n.entries ≡ m.entries
  same_entries is e = ap (λ (z : StateOf). z.entries) is ∙ e

  -- ---- its declaration

  none_prewritten : (t : TransactionOf) → IsSoundTable m → IsOwn m 0 s t → is_reading t.phase ≡ true → (x : Cell) → is_in t.prewritten x ≡ true → ⊥
  none_prewritten t sound own reading x e =
      let phase : option_map (λ (z : TransactionOf). z.phase) (got m s) ≡ Some Phase.Reading = ap (option_map (λ (z : TransactionOf). z.phase)) own.there ∙ ap Some (reading_is t.phase reading) in
      (sound.past_reading s x (ap (λ o. is_in (prewritten_by o) x) own.there ∙ e)).0 phase

  pub declared_alone : (what : Declared) → IsSoundTable m → IsUnlocked m → ((x : Cell) (c u : ℕ) → write_at m.entries x c ≡ Some u → c < s) → IsSoundTable n → Declares m 0 s what n → IsAlone s [] n
  declared_alone what sound free below after d =
      let same : n.entries ≡ m.entries = same_entries d.new_is refl in
      let is : got n s ≡ Some (record d.t { phase = Phase.Declared; declared = cells_of m.observers d.t.work s what }) = named start m n (Step.Declare start what) Answer.Done d itself ∙ ap (transaction_after m.observers 0 (Step.Declare start what) Answer.Done) d.own.there in
      record {
        sound = after;
        only = λ x u p e. absurd (none_some p (sym (free x u) ∙ ap (λ (z : Entries). lock_at z x u) (sym same) ∙ e));
        below = λ x c u e. below x c u (ap (λ (z : Entries). write_at z x c) (sym same) ∙ e);
        prewritten = λ x e. absurd (none_prewritten d.t sound d.own d.reading x (sym (ap (λ o. is_in (prewritten_by o) x) is) ∙ e));
        locked = λ x h. absurd h;
        primary = λ p e. tt;
      }

  -- ---- its cells

  first_stays : (done : List Cell) (x p : Cell) → IsFirst done p → (done ≡ [] → x ≡ p) → IsFirst (done ++ x ∷ []) p
  first_stays [] x p i none = none refl
  first_stays (y ∷ done) x p i none = i

  early_not : (t : TransactionOf) (x p : Cell) → is_early t x ≡ false → primary_in t.declared ≡ Some p → is_in t.prewritten p ≡ false → x ≡ p
  unfolding same_cell
  early_not t x p e is none = same_cell_is x p (grind (arith, e, is, none))

  pub prewritten_alone : (done : List Cell) (x : Cell) → IsAlone s done m → IsSoundTable n → Prewrites m 0 s x n → IsAlone s (done ++ x ∷ []) n
  prewritten_alone done x a after d =
      let same : n.entries ≡ put_lock m.entries x s d.content d.primary = ap (λ (z : StateOf). z.entries) d.new_is in
      let is : got n s ≡ Some (record d.t { prewritten = d.t.prewritten ++ x ∷ [] }) = named start m n (Step.Prewrite start x) Answer.Done d itself ∙ ap (transaction_after m.observers 0 (Step.Prewrite start x) Answer.Done) d.own.there in
      let lock : lock_at n.entries ≡ set2 (lock_at m.entries) x s (Some d.primary) = ap lock_at same ∙ lock_after_put m.entries x s d.content d.primary in
      let write : write_at n.entries ≡ write_at m.entries = ap write_at same ∙ write_after_put m.entries x s d.content d.primary in
      let before : (y : Cell) → is_in d.t.prewritten y ≡ true → Has done y = λ y e. a.prewritten y (ap (λ o. is_in (prewritten_by o) y) d.own.there ∙ e) in
      record {
        sound = after;
        only = λ y u p e. elim (placed_or_before (lock_at m.entries) x s d.primary y u p (sym (ap (λ f. f y u) lock) ∙ e)) [ inl h ↦ h.1 | inr h ↦ a.only y u p h.0 ];
        below = λ y c u e. a.below y c u (sym (ap (λ f. f y c) write) ∙ e);
        prewritten = λ y e. elim (more_in d.t.prewritten x y (sym (ap (λ o. is_in (prewritten_by o) y) is) ∙ e)) [ inl h ↦ has_front done x y (before y h) | inr h ↦ subst (Has (done ++ x ∷ [])) h (has_last done x) ];
        locked = λ y h. ap (λ f. is_some (f y s)) lock ∙ stays_locked done y a.locked d.primary h;
        primary = λ p e. first_stays done x p (a.primary p (ap (λ o. primary_in (declared_by o)) d.own.there ∙ sym (ap (λ o. primary_in (declared_by o)) is) ∙ e))
            (λ none. let q : primary_in d.t.declared ≡ Some p = sym (ap (λ o. primary_in (declared_by o)) is) ∙ e in
            early_not d.t x p d.in_order q (false_from_ne_true _ (λ h. subst (λ l. Has l p) none (before p h))));
      }
    where
      stays_locked : (done : List Cell) (y : Cell) → ((z : Cell) → Has done z → is_some (lock_at m.entries z s) ≡ true) → (q : Cell) → Has (done ++ x ∷ []) y → is_some (set2 (lock_at m.entries) x s (Some q) y s) ≡ true
      stays_locked done y locked q h = elim (has_more done x y h) [
        | inl e ↦ subst (λ z. is_some (set2 (lock_at m.entries) x s (Some q) z s) ≡ true) e (ap is_some (set2_here (lock_at m.entries) x s (Some q)))
        | inr k ↦ either_some (at_place y s x s) q (lock_at m.entries y s) (locked y k)
      ]

  -- a cell that it hasn't prewritten meets nothing
  asked_once : (x : Cell) (t : TransactionOf) → IsOwn m 0 s t → step_reason m 0 (Step.Prewrite start x) ≡ None → is_in t.prewritten x ≡ false
  asked_once x t own allowed = grind (arith, own.there, own.mine, allowed)

  pub meets_nothing : (done : List Cell) (x : Cell) → IsAlone s done m → step_reason m 0 (Step.Prewrite start x) ≡ None → Conflicts m 0 s x n → ⊥
  meets_nothing done x a allowed d = elim d.why [
    | inl l ↦
        let some = some_is (lock_at m.entries x l.0) l.2 in
        let own : l.0 ≡ s = a.only x l.0 some.0 some.1 in
        let had = (a.sound.lock_prewritten x l.0 some.0 some.1).0 in
        let in_it : is_in d.t.prewritten x ≡ true = sym (ap (λ o. is_in (prewritten_by o) x) d.own.there) ∙ subst (λ u. is_in (prewritten_by (got m u)) x ≡ true) own had in
        true≢false (sym in_it ∙ asked_once x d.t d.own allowed)
    | inr w ↦
        let some = some_is (write_at m.entries x w.0) w.3 in
        let low = a.below x w.0 some.0 some.1 in
        let high = w.1 in
        omega (arith, low, high)
  ]

  -- ---- its commit

  pub stamped_alone : (done : List Cell) (c : ℕ) → IsAlone s done m → IsSoundTable n → Stamps m 0 s c n → IsAlone s done n
  stamped_alone done c a after d =
      let same : n.entries ≡ m.entries = same_entries d.new_is refl in
      let is : got n s ≡ Some (record d.t { phase = Phase.Stamped (record { 0 = c }) }) = named start m n (Step.Stamp start) (Answer.At (record { 0 = c })) d itself ∙ ap (transaction_after m.observers 0 (Step.Stamp start) (Answer.At (record { 0 = c }))) d.own.there in
      record {
        sound = after;
        only = λ x u p e. a.only x u p (ap (λ (z : Entries). lock_at z x u) (sym same) ∙ e);
        below = λ x k u e. a.below x k u (ap (λ (z : Entries). write_at z x k) (sym same) ∙ e);
        prewritten = λ x e. a.prewritten x (ap (λ o. is_in (prewritten_by o) x) d.own.there ∙ sym (ap (λ o. is_in (prewritten_by o) x) is) ∙ e);
        locked = λ x h. ap (λ (z : Entries). is_some (lock_at z x s)) same ∙ a.locked x h;
        primary = λ p e. a.primary p (ap (λ o. primary_in (declared_by o)) d.own.there ∙ sym (ap (λ o. primary_in (declared_by o)) is) ∙ e);
      }

  pub loses_not : (done : List Cell) → IsAlone s done m → Loses m 0 s n → ⊥
  loses_not done a d =
      let content = primary_content d.t.declared d.primary d.primary_is in
      let phase : option_map (λ (z : TransactionOf). z.phase) (got m s) ≡ Some (Phase.Stamped (record { 0 = d.c })) = ap (option_map (λ (z : TransactionOf). z.phase)) d.own.there ∙ ap Some d.stamped in
      let had = a.sound.all_prewritten s d.c d.primary content.0 phase (ap (λ o. content_in (declared_by o) d.primary) d.own.there ∙ content.1) in
      true≢false (sym (a.locked d.primary (a.prewritten d.primary had)) ∙ d.unlocked)

  pub committed_alone : (x : Cell) (others : List Cell) → IsAlone s (x ∷ others) m → CommitsPrimary m 0 s n → AreLeft s others n
  committed_alone x others a d y u p e =
      let same : n.entries ≡ commit_lock m.entries d.primary s d.c = ap (λ (z : StateOf). z.entries) d.new_is in
      let lock : lock_at n.entries ≡ set2 (lock_at m.entries) d.primary s None = ap lock_at same ∙ lock_after_commit m.entries d.primary s d.c in
      let was = left_after_clearing (lock_at m.entries) d.primary s y u p (sym (ap (λ f. f y u) lock) ∙ e) in
      let own : u ≡ s = a.only y u p was.0 in
      let first : x ≡ d.primary = a.primary d.primary (ap (λ o. primary_in (declared_by o)) d.own.there ∙ d.primary_is) in
      let had = (a.sound.lock_prewritten y u p was.0).0 in (
        own,
        elim (a.prewritten y (subst (λ w. is_in (prewritten_by (got m w)) y ≡ true) own had)) [
          | inl is ↦ absurd (was.1 (sym is ∙ first) own)
          | inr h ↦ h
        ],
      )

  pub secondary_alone : (x : Cell) (left : List Cell) → AreLeft s (x ∷ left) m → CommitsSecondary m 0 s x n → AreLeft s left n
  secondary_alone x left a d y u p e = elim (is_some (lock_at m.entries x s)) as (λ b. is_some (lock_at m.entries x s) ≡ b → n ≡ if_locked m b x s d.c → (u ≡ s) × Has left y) [
    | true ↦ λ there is.
        let lock : lock_at n.entries ≡ set2 (lock_at m.entries) x s None = ap (λ (z : StateOf). lock_at z.entries) is ∙ lock_after_commit m.entries x s d.c in
        let was = left_after_clearing (lock_at m.entries) x s y u p (sym (ap (λ f. f y u) lock) ∙ e) in
        let h = a y u p was.0 in
        (h.0, elim h.1 [ inl q ↦ absurd (was.1 (sym q) h.0) | inr k ↦ k ])
    | false ↦ λ gone is.
        let was : lock_at m.entries y u ≡ Some p = sym (ap (λ (z : StateOf). lock_at z.entries y u) is) ∙ e in
        let h = a y u p was in
        (h.0, elim h.1 [ inl q ↦ absurd (true≢false (sym (ap is_some (λ i. lock_at m.entries (q i) (sym h.0 i)) ∙ ap is_some was) ∙ gone)) | inr k ↦ k ])
  ] refl d.new_is
