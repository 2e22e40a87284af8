-- Where the calls of a machine lead that is given replies.
use Rattle.std.proofs.Common.{◌≡◌, ◌∙◌, ℕ, zero, suc, ◌+◌, List, [], ◌∷◌, ◌++◌, length, map, drop, get_or, ◌<◌, ◌≤◌, refl, sym, ap, subst, arith, inl, inr}
use Rattle.std.proofs.Math.Seq.{drop-cons}
use Rattle.std.proofs.lemmas.List.{drop_all, length-append, length-map}
use Rattle.pb_base.specs.Batch.{Writes}
use Rattle.pb_finished.specs.Finished.{Meant}
use Rattle.pb_isa.specs.Machine.{Reply}
use Rattle.pb_isa.specs.Machine as asks
use Rattle.pb_isa.specs.Meaning.{Talk}
use Rattle.pb_helpers.specs.declared.ask.Ask.{Ask}
use Rattle.pb_helpers.specs.declared.ask.Reply as replies
use Rattle.pb_helpers.specs.Replies.{ask_of, reply_of}
use Rattle.pb_vm.specs.declared.moved.MachinePhase.{MachinePhase}
use Rattle.pb_vm.specs.declared.moved.Moved.{Moved}
use Rattle.pb_vm.specs.Keeping.{IsRunnable}
use Rattle.pb_vm.specs.Moves.{SameGiven, Advances, Follows, AskedFor, EndedWith, IsAsking, RepliedWith, TakesReply, Finishes}
use Rattle.pb_vm.specs.Position.{Position}
use Rattle.pb_api.specs.declared.running.Reached.{Reached}
use Rattle.pb_api.specs.declared.running.ReplyGiven.{ReplyGiven}
use Rattle.pb_api.specs.Runs.{reply_given, replies_in, HadReplies, AsksNext, EndsNext, StopsWithReplies, reached_ask, reached_end, RunReaches}

-- the same program, record and start, with the same asks and replies
pub record IsLed (old new : Position) : Type 0 where
  pub given : SameGiven old new
  pub talk : new.talk ≡ old.talk

-- what was given is the same over two moves, the later one first
given_over : (u v w : Position) → SameGiven v w → SameGiven u v → SameGiven u w
given_over u v w y x = record { judged = y.judged ∙ x.judged; bytes = y.bytes ∙ x.bytes; start = y.start ∙ x.start }

led_still : (u v w : Position) → IsLed u v → IsLed v w → IsLed u w
led_still u v w x y = record { given = given_over u v w y.given x.given; talk = y.talk ∙ x.talk }

-- the steps up to an ask lead to where it is asked
pub asked_there : (n : ℕ) (old new : Position) (q : Ask) → Advances n old (Moved.Asks q) new → (mid : Position) × IsLed old mid × AskedFor mid q new
asked_there zero old new q h = cc
asked_there (suc n) old new q (inl m) = (old, record { given = record { judged = refl; bytes = refl; start = refl }; talk = refl }, m.1)
asked_there (suc n) old new q (inr h) =
    let on = asked_there n h.0 new q h.2 in
    (on.0, led_still old h.0 on.0 (record { given = h.1.given; talk = h.1.talk }) on.1, on.2)

taken_next : (n m : ℕ) → m ≡ n + 1 → m ≡ suc n
taken_next n m e = omega arith

-- and those up to an end to where it ends
pub ended_there : (n : ℕ) (old new : Position) (r : ℕ) → Advances n old (Moved.Ended r) new → (mid : Position) × IsLed old mid × EndedWith mid r new
ended_there zero old new r h = cc
ended_there (suc n) old new r (inl m) = (old, record { given = record { judged = refl; bytes = refl; start = refl }; talk = refl }, m.1)
ended_there (suc n) old new r (inr h) =
    let on = ended_there n h.0 new r h.2 in
    (on.0, led_still old h.0 on.0 (record { given = h.1.given; talk = h.1.talk }) on.1, on.2)

-- of one reply more than the talk has, one fewer is left
replies_more : (talk : Talk) (a : asks.Ask) (r : Reply) (rest : List Reply) → replies_in (talk ++ (a, r) ∷ []) ++ rest ≡ replies_in talk ++ r ∷ rest
replies_more [] a r rest = refl
replies_more (x ∷ talk) a r rest = ap (λ l. x.1 ∷ l) (replies_more talk a r rest)

-- a machine on its way that was on entry at first, and to which these replies, of all, are left to be given
pub record IsLeftWith (first now : Position) (rest all : List Reply) : Type 0 where
  pub going : now.phase ≡ MachinePhase.Going
  pub given : SameGiven first now
  pub had : HadReplies now.talk rest all

-- the asks of a machine that has stopped at one
asks_there : (mid new : Position) (q : Ask) → AskedFor mid q new → AsksNext new.judged new.bytes new.start new.talk new.taken q
asks_there mid new q h =
    rw (h.given.judged, h.given.bytes, h.given.start, h.talk, h.taken) (λ a p. let x = h.at a p in record { here = x.here; goes = x.goes; was = x.was; acts = x.acts })

ends_there : (mid new : Position) (r : ℕ) → EndedWith mid r new → EndsNext new.judged new.bytes new.start new.talk mid.taken r
ends_there mid new r h =
    rw (h.given.judged, h.given.bytes, h.given.start, h.talk) (λ a p. let x = h.at a p in record { last = x.last; made = x.made; was = x.was; acts = x.acts })

module _ (first old : Position) (rest all : List Reply) (on : IsLeftWith first old rest all) (new : Position) where
  -- what it was given, and what it had, where it stands after moves that lead to no reply
  given_there : (mid : Position) → IsLed old mid → SameGiven mid new → SameGiven first new
  given_there mid led still = given_over first mid new still (given_over first old mid led.given on.given)

  had_there : (mid : Position) → IsLed old mid → new.talk ≡ mid.talk → HadReplies new.talk rest all
  had_there mid led same = rw (same, led.talk) on.had

  -- it has ended
  pub stops_at_end : (r : ℕ) → Follows old (Moved.Ended r) new → SameGiven first new × StopsWithReplies new.phase new all
  stops_at_end r h =
      let x = ended_there h.1.0 old new r h.1.1 in
      let e = x.2 in (
        given_there x.0 x.1 e.given,
        subst (λ p. StopsWithReplies p new all) (sym e.phase) (x.0.taken, taken_next x.0.taken new.taken e.taken, (rest, had_there x.0 x.1 e.talk), ends_there x.0 new r e),
      )

  -- it asks, and no reply is left
  pub stops_at_ask : (q : Ask) → rest ≡ [] → Follows old (Moved.Asks q) new → SameGiven first new × StopsWithReplies new.phase new all
  stops_at_ask q none h =
      let x = asked_there h.1.0 old new q h.1.1 in
      let e = x.2 in (
        given_there x.0 x.1 e.given,
        subst (λ p. StopsWithReplies p new all) (sym e.phase) (subst (λ l. HadReplies new.talk l all) none (had_there x.0 x.1 e.talk), asks_there x.0 new q e),
      )

-- no reply is left, and it has gone to the next ask or the end
pub stops_last : (first old : Position) (all : List Reply) (m : Moved) (new : Position) → IsLeftWith first old [] all → Follows old m new → SameGiven first new × StopsWithReplies new.phase new all
stops_last first old all Moved.Went new on h = absurd h.0
stops_last first old all (Moved.Asks q) new on h = stops_at_ask first old [] all on new q refl h
stops_last first old all (Moved.Ended r) new on h = stops_at_end first old [] all on new r h

-- it waits for a reply
pub waits_for_reply : (old mid : Position) (q : Ask) → Follows old (Moved.Asks q) mid → IsAsking mid.phase
waits_for_reply old mid q h = let x = asked_there h.1.0 old mid q h.1.1 in subst IsAsking (sym x.2.phase) tt

-- the replies that are left, the next one before the others
next_left : (rs : List ReplyGiven) (i : ℕ) (d : ReplyGiven) → i < length rs → map reply_given (drop i rs) ≡ reply_given (get_or rs i d) ∷ map reply_given (drop (i + 1) rs)
next_left rs i d some =
    let next : suc i ≡ i + 1 = omega arith in
    subst (λ n. map reply_given (drop i rs) ≡ reply_given (get_or rs i d) ∷ map reply_given (drop n rs)) next (ap (map reply_given) (drop-cons rs i d some))

pub left_with_next : (first now : Position) (rs : List ReplyGiven) (i : ℕ) (d : ReplyGiven) (r : replies.Reply) (all : List Reply) → i < length rs → reply_of r ≡ reply_given (get_or rs i d)
    → IsLeftWith first now (map reply_given (drop i rs)) all → IsLeftWith first now (reply_of r ∷ map reply_given (drop (i + 1) rs)) all
left_with_next first now rs i d r all some is on =
    subst (λ l. IsLeftWith first now l all) (next_left rs i d some ∙ ap (λ x. x ∷ map reply_given (drop (i + 1) rs)) (sym is)) on

pub left_with_none : (first now : Position) (rs : List ReplyGiven) (i : ℕ) (all : List Reply) → length rs ≤ i → IsLeftWith first now (map reply_given (drop i rs)) all → IsLeftWith first now [] all
left_with_none first now rs i all none on = subst (λ l. IsLeftWith first now (map reply_given l) all) (drop_all i rs none) on

-- it asks, and is given the next reply
pub goes_on_with : (first old mid new : Position) (q : Ask) (r : replies.Reply) (rest all : List Reply) → IsLeftWith first old (reply_of r ∷ rest) all → Follows old (Moved.Asks q) mid → TakesReply mid mid.phase r new → IsLeftWith first new rest all
goes_on_with first old mid new q r rest all on h took =
    let x = asked_there h.1.0 old mid q h.1.1 in
    let e = x.2 in
    let replied : RepliedWith mid q r new = subst (λ p. TakesReply mid p r new) e.phase took in
    let had : HadReplies mid.talk (reply_of r ∷ rest) all = rw (e.talk, x.1.talk) on.had in
    record {
      going = replied.phase;
      given = given_over first mid new replied.given (given_over first x.0 mid e.given (given_over first old x.0 x.1.given on.given));
      had = rw replied.talk (replies_more mid.talk (ask_of q) (reply_of r) rest ∙ had);
    }

-- ---- the answer

ended_alike : (replied replied' taken taken' result : ℕ) (ws : Writes) → replied ≡ replied' → taken ≡ taken' → reached_end replied taken result ws ≡ reached_end replied' taken' result ws
ended_alike replied replied' taken taken' result ws e f = λ i. reached_end (e i) (f i) result ws

asked_alike : (replied replied' taken taken' : ℕ) (q : Ask) → replied ≡ replied' → taken ≡ taken' → reached_ask replied taken q ≡ reached_ask replied' taken' q
asked_alike replied replied' taken taken' q e f = λ i. reached_ask (e i) (f i) q

-- as many replies as were given stand in a talk to which none is left to be given
as_many : (talk : Talk) (rs : List ReplyGiven) → HadReplies talk [] (map reply_given rs) → length rs ≡ length talk
as_many talk rs had = omega (arith, ap length had, length-append (replies_in talk) [], length-map talk (λ x. x.1), length-map rs reply_given)

-- that it asks
pub reached_at_ask : (first last : Position) (rs : List ReplyGiven) (x : Reached) (given : SameGiven first last) (q : Ask) (taken : ℕ) → last.phase ≡ MachinePhase.Asking q
    → StopsWithReplies last.phase last (map reply_given rs) → IsRunnable last.judged last.bytes → taken ≡ last.taken → x ≡ reached_ask (length rs) taken q → RunReaches first.judged first.bytes first.start (map reply_given rs) x
reached_at_ask first last rs x given q taken phase stops runnable done answer =
    let at = subst (λ p. StopsWithReplies p last (map reply_given rs)) phase stops in
    rw (sym given.judged, sym given.bytes, sym given.start) (inl (record {
      runnable = runnable;
      talk = last.talk;
      had = at.0;
      done = last.taken;
      ask = q;
      asks = at.1;
      answer = answer ∙ asked_alike (length rs) (length last.talk) taken last.taken q (as_many last.talk rs at.0) done;
    }))

module _ (first last : Position) (all : List Reply) (x : Reached) (given : SameGiven first last) where
  -- that it has ended
  pub reached_at_end : (r : ℕ) (f : Meant) (taken : ℕ) → last.phase ≡ MachinePhase.Over r → StopsWithReplies last.phase last all → Finishes last f
      → taken ≡ last.taken → x ≡ reached_end (length f.talk) taken f.result f.writes → RunReaches first.judged first.bytes first.start all x
  reached_at_end r f taken phase stops finishes done answer =
      let at = subst (λ p. StopsWithReplies p last all) phase stops in
      let same : r ≡ f.result = cc in
      rw (sym given.judged, sym given.bytes, sym given.start) (inr (record {
        talk = last.talk;
        rest = at.2.0;
        had = at.2.1;
        result = f.result;
        writes = f.writes;
        means = finishes.means;
        done = at.0;
        ends = subst (λ n. EndsNext last.judged last.bytes last.start last.talk at.0 n) same at.3;
        answer = answer ∙ ended_alike (length f.talk) (length last.talk) taken (suc at.0) f.result f.writes (ap length finishes.talk) (done ∙ at.1);
      }))
