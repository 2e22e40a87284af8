-- Of all tries of a change one is committed at most, with this start.
use Rattle.std.proofs.Common.{arith, ◌≡◌, ◌≢◌, ℕ, Bool, true, false, ◌||◌, List, [], ◌∷◌, ◌++◌, inl, inr, refl, sym, ap, subst, ◌∙◌, Option}
use Rattle.pb_worker.specs.Words.{Cell, Ts, Writes, Step, Answer, Declared, Received, Has, Outcome, told, IsWhole, committed, conflicted_first, conflicted_later, lost, prewrites, secondaries, IsWholeChange, is_commit_outcome, is_commit, has_commit, IsTry, AreVain, IsDone, AreTries, AreTriesBegun}
use Rattle.pb_conversations.proofs.Joining.{of_parts}
use Rattle.pb_worker.proofs.Committing.{commit_of, HasCommitted, committed_within}
use Rattle.pb_worker.proofs.CutTries.{commit_in, ended_uncommitted, cut_commits}
use Rattle.pb_worker.proofs.OneTransaction.{of_change}
use Rattle.pb_history.proofs.Updates.{has_before as has_left, has_right, has_which}
use Rattle.pb_base.proofs.Logic.{not_both}
use Rattle.std.proofs.lemmas.Bool.{or_right as true_right, or_from as both_false}

-- ---- where nothing was committed

-- where a transaction is committed, a commit is in the conversation
has_committed : (said : List Received) (u : Ts) → Has said (commit_of u) → has_commit said ≡ true
has_committed [] u h = absurd h
has_committed (r ∷ rs) u (inl e) = ap (λ (z : Received). is_commit z.answer || has_commit rs) e
has_committed (r ∷ rs) u (inr h) = true_right (is_commit r.answer) (has_commit rs) (has_committed rs u h)

has_none : (said : List Received) (u : Ts) → has_commit said ≡ false → Has said (commit_of u) → ⊥
has_none said u none h = not_both (has_commit said) (has_committed said u h) none

-- in a try in vain there is none
try_in_vain : (batch : Writes) (said : List Received) → IsTry batch false said → has_commit said ≡ false
try_in_vain batch said t = grind (arith, ended_uncommitted, t.whole.rest, t.start, t.outcome, t.ended, t.whole.whole, t.whole.said_is)

-- nor in several
tries_in_vain : (batch : Writes) (n : ℕ) (said : List Received) → AreVain batch n said → has_commit said ≡ false
tries_in_vain batch n said tries =
    of_parts (record { nothing = refl; both = λ a b p q. commit_in a b ∙ both_false (has_commit a) (has_commit b) p q }) (λ m k more t. try_in_vain batch more t.1) 0 n said tries

-- ---- a committed try

-- of the forms of a conversation only one commits, and it says all that a commit takes
by_form : (batch : Writes) (start : Ts) (cells : List Cell) (rest : List Received) (o : Outcome) → is_commit_outcome o ≡ true → IsWhole start (Declared.Script batch) cells rest o
    → (c : Ts) × Has rest (told (Step.Declare start (Declared.Script batch)) Answer.Done) × Has rest (told (Step.Stamp start) (Answer.At c)) × Has rest (commit_of start)
by_form batch start cells rest o is (committed x others c) = (
  c,
  inl refl,
  inr (has_right (prewrites start (x ∷ others)) (told (Step.Stamp start) (Answer.At c) ∷ commit_of start ∷ secondaries start others) (told (Step.Stamp start) (Answer.At c)) (inl refl)),
  inr (has_right (prewrites start (x ∷ others)) (told (Step.Stamp start) (Answer.At c) ∷ commit_of start ∷ secondaries start others) (commit_of start) (inr (inl refl))),
)
by_form batch start cells rest o is (conflicted_first x after) = cc
by_form batch start cells rest o is (conflicted_later x y before after a cs can cleared) = cc
by_form batch start cells rest o is (lost x others c cs cleared) = cc

by_change : (batch : Writes) (start : Ts) (said : List Received) (o : Outcome) → is_commit_outcome o ≡ true → IsWholeChange batch start said o → HasCommitted batch start said
by_change batch start said o is w = grind (arith, by_form, w.rest, w.whole, w.said_is)

-- ---- all tries of a change

-- it shows whether the change was committed, and the one start at which it was
pub record TellsCommit (batch : Writes) (is : Bool) (start : Ts) (said : List Received) : Type 0 where
  pub made : is ≡ true → HasCommitted batch start said
  pub only : (u : Ts) → Has said (commit_of u) → (is ≡ true) × (u ≡ start)

-- after tries in vain, in a last part
module _ (batch : Writes) (n : ℕ) (vain part said : List Received) (tries : AreVain batch n vain) (is : said ≡ vain ++ part) where
  made_in_part : (start : Ts) → HasCommitted batch start part → HasCommitted batch start said
  made_in_part start h = subst (HasCommitted batch start) (sym is) (committed_within batch start part (vain ++ part) (λ r k. has_right vain part r k) h)

  only_in_part : (u : Ts) → Has said (commit_of u) → Has part (commit_of u)
  only_in_part u h = elim (has_which vain part (commit_of u) (subst (λ l. Has l (commit_of u)) is h)) [ inl k ↦ absurd (has_none vain u (tries_in_vain batch n vain tries) k) | inr k ↦ k ]

-- of the tries of a change that is done only the last committed
of_done : (batch : Writes) (said : List Received) → IsDone batch said → (start : Ts) × TellsCommit batch true start said
of_done batch said d =
    let t = d.ends.1 in
    let own = of_change batch t.start d.last t.outcome t.whole in (
      t.start,
      record {
        made = λ e. made_in_part batch d.at d.before d.last said d.parts d.said_is t.start (by_change batch t.start d.last t.outcome t.ended t.whole);
        only = λ u h. (refl, own.own.each (commit_of u) (only_in_part batch d.at d.before d.last said d.parts d.said_is u h) u refl);
      },
    )

-- so all tries of a change show one start, or none is committed
pub of_tries : (batch : Writes) (is : Bool) (said : List Received) → AreTries batch is said → (start : Ts) × TellsCommit batch is start said
of_tries batch is said d = grind (arith, of_done, has_none, tries_in_vain)

-- ---- a change that was left in a try

-- and so do those of a change that was cut off
pub of_cut : (batch : Writes) (is : Bool) (next : Option Step) (said : List Received) → batch ≢ [] → AreTriesBegun batch is next said → (start : Ts) × TellsCommit batch is start said
of_cut batch is next said some t =
    let s = t.ends.1 in
    let rest = s.change.begins.0 in
    let b = s.change.begins.1 in
    let own = of_change batch b.0 (t.last ++ rest) b.1 b.2 in
    let its : (u : Ts) → Has t.last (commit_of u) → u ≡ b.0 = λ u h. own.own.each (commit_of u) (has_left t.last rest (commit_of u) h) u refl in (
      b.0,
      record {
        made = λ e.
            let c = cut_commits batch t.last s.change.at some s.change.talk (sym s.committed_is ∙ e) in
            made_in_part batch t.at t.before t.last said t.parts t.said_is b.0 (subst (λ u. HasCommitted batch u t.last) (its c.0 c.1.committed) c.1);
        only = λ u h.
            let k = only_in_part batch t.at t.before t.last said t.parts t.said_is u h in
            (s.committed_is ∙ has_committed t.last u k, its u k);
      },
    )
