-- How a trial goes on by a machine's steps, and what its end says.
use Rattle.std.proofs.Common.{◌≡◌, ◌∙◌, ℕ, zero, suc, ◌+◌, ◌-◌, ◌<◌, ◌≤◌, List, [], ◌∷◌, ◌++◌, is_some, refl, ap, subst, arith}
use Rattle.pb_finished.specs.Finished.{Meant}
use Rattle.pb_helpers.specs.declared.ask.Ask as asks
use Rattle.pb_helpers.specs.declared.ask.Reply as replies
use Rattle.pb_vm.specs.Moves.{Went, AskedFor, RepliedWith, TakesReply, EndedWith, Finishes}
use Rattle.pb_vm.specs.declared.moved.MachinePhase.{MachinePhase}
use Rattle.pb_story.specs.Words.{JudgedOf, Ask, Reply, Talk, AreRepliesOf, SameGiven, Version, size_of, Position, Trial, ask_of, reply_of, slots}
use Rattle.pb_story.specs.Trials.{run_start, trial_record, reply_in, lines_of_run, EndsNow, IsTrialText}

-- a machine on its way through a trial: it has what it was given at first, and had the replies of the snapshot
pub record IsTrying (t : Trial) (first now : Position) : Type 0 where
  pub going : now.phase ≡ MachinePhase.Going
  pub given : SameGiven first now
  pub replies : AreRepliesOf (reply_in t) now.talk

-- the slots of its program, which no run's instructions exceed
abbrev slots_of : Position → ℕ
slots_of v = slots v.judged.program.insns

-- what was given stays over two moves
pub given_still : (u v w : Position) → SameGiven u v → SameGiven v w → SameGiven u w
given_still u v w x y = record { judged = y.judged ∙ x.judged; bytes = y.bytes ∙ x.bytes; start = y.start ∙ x.start }

-- one ask more, with the reply of the snapshot
reply_more : (t : Trial) (talk : Talk) (a : Ask) (r : Reply) → AreRepliesOf (reply_in t) talk → r ≡ reply_in t a → AreRepliesOf (reply_in t) (talk ++ (a, r) ∷ [])
reply_more t [] a r before is zero x e = let same : (a, r) ≡ x = cc in rw (← same) is
reply_more t [] a r before is (suc k) x e = cc
reply_more t (y ∷ talk) a r before is zero x e = before 0 x e
reply_more t (y ∷ talk) a r before is (suc k) x e = reply_more t talk a r (λ j z h. before (suc j) z h) is k x e

-- with one instruction more of the same program fewer are left
fewer_left : (v w : Position) → w.judged ≡ v.judged → w.taken ≡ v.taken + 1 → w.taken ≤ slots_of w → slots_of w - w.taken < slots_of v - v.taken
fewer_left v w same more most =
    let slots_same : slots_of w ≡ slots_of v = ap (λ (j : JudgedOf). slots j.program.insns) same in
    omega (arith, slots_same, more, most)

-- an instruction leads on
pub tries_on : (t : Trial) (first old new : Position) → IsTrying t first old → Went old new → IsTrying t first new
tries_on t first old new on w = record { going = w.phase; given = given_still first old new on.given w.given; replies = rw w.talk on.replies }

pub went_falls : (old new : Position) → Went old new → new.taken ≤ slots_of new → slots_of new - new.taken < slots_of old - old.taken
went_falls old new w most = fewer_left old new w.given.judged w.taken most

module _ (old mid new : Position) (q : asks.Ask) (r : replies.Reply) (asked : AskedFor old q mid) (took : TakesReply mid mid.phase r new) where
  replied : RepliedWith mid q r new
  replied = subst (λ p. TakesReply mid p r new) asked.phase took

  -- so does the reply to an ask
  pub replies_on : (t : Trial) (first : Position) → IsTrying t first old → reply_of r ≡ reply_in t (ask_of q) → IsTrying t first new
  replies_on t first on is =
      let so_far : AreRepliesOf (reply_in t) mid.talk = rw asked.talk on.replies in
      record { going = replied.phase; given = given_still first mid new (given_still first old mid on.given asked.given) replied.given; replies = rw replied.talk (reply_more t mid.talk (ask_of q) (reply_of r) so_far is) }

  pub replies_fall : new.taken ≤ slots_of new → slots_of new - new.taken < slots_of old - old.taken
  replies_fall most =
      let more : new.taken ≡ old.taken + 1 = rw (replied.taken, asked.taken) refl in
      fewer_left old new (replied.given.judged ∙ asked.given.judged) more most

-- the exit ends the one run
pub ends_now : (old new : Position) (r : ℕ) → EndedWith old r new → EndsNow new
ends_now old new r h =
    let taken = h.taken in
    (old.taken, omega (arith, taken), rw (h.given.judged, h.given.bytes, h.given.start, h.talk) (λ a p. let e = h.at a p in record { last = e.last; result = r; made = e.made; leads = e.was; ends = e.acts }))

-- what is printed of a machine that began on the record and has ended is the text of the trial
pub trial_text_is : (j : JudgedOf) (t : Trial) (version : Version) (first last : Position) (f : Meant) (text : List ℕ)
    → j.record_size ≡ size_of version → first.judged ≡ j → first.bytes ≡ trial_record version t → first.start ≡ run_start (is_some t.old)
    → SameGiven first last → AreRepliesOf (reply_in t) last.talk → EndsNow last → Finishes last f
    → text ≡ lines_of_run f.talk f.writes f.result last.taken → IsTrialText j t text
trial_text_is j t version first last f text size judged bytes start given replies ends finishes text_is =
    let judged_is : last.judged ≡ j = given.judged ∙ judged in
    let bytes_is : last.bytes ≡ trial_record version t = given.bytes ∙ bytes in
    let start_is : last.start ≡ run_start (is_some t.old) = given.start ∙ start in
    record {
      version = version;
      size = size;
      talk = last.talk;
      result = f.result;
      writes = f.writes;
      steps = ends.0;
      replies = replies;
      means = rw (judged_is, bytes_is, start_is) at finishes.means;
      takes = rw (judged_is, bytes_is, start_is) at ends.2;
      text_is = text_is ∙ rw (finishes.talk, ends.1) refl;
    }
