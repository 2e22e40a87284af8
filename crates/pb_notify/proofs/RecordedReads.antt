-- What the table keeps of a run's transaction as its looks go on: one read more for each look that returned what its cell holds.
use Rattle.std.proofs.Common.{arith, ◌≡◌, ℕ, ◌<◌, inl, inr, Bool, cond, List, [], ◌∷◌, ◌++◌, Option, Some, None, refl, sym, subst, filter}
use Rattle.std.proofs.lemmas.List.Elements.{filter-append}
use Rattle.pb_notify.specs.Words.{Cell, Ts, Revision, Talk, tells_old, RecordedRead, Seen, Work, Step, Answer, IsReadOf, old_at, WasOld, WasSeen, AreReplies, ObserverOf, read_step, with_read, asked_cell, value_in, TransactionOf, new_transaction, Entry, Received, Has, names_start, entries_naming, transaction_after, transaction_from, names, told}
use Rattle.pb_isa.specs.Machine as machine
use Rattle.pb_notify.specs.declared.look.Look.{Look}
use Rattle.pb_notify.specs.Runs.{Watch}
use Rattle.pb_notify.specs.Forms.{IsRound, AreRounds, at_first, one_more, IsHeld, IsLooked, its_begin, IsObserved, IsAcknowledged, IsRecalled, AreAsked, dirty, asked as asked_more}
use Rattle.pb_notify.specs.Allowed.{entries_by}
use Rattle.pb_notify.proofs.LookConversation.{IsIn, InLook}
use Rattle.pb_base.proofs.Logic.{same_number as itself}

pub same_either : {A : Type 0} (b : Bool) (x : A) → cond b x x ≡ x
same_either b x = grind arith

-- what is in a conversation stays in it as it grows
pub has_append : (said more : List Received) (r : Received) → Has said r → Has (said ++ more) r
has_append [] more r h = absurd h
has_append (x ∷ xs) more r (inl is) = inl is
has_append (x ∷ xs) more r (inr h) = inr (has_append xs more r h)

-- the steps that are no reads and name the start
abbrev pub bare_of : Ts → List Received → List Received
bare_of s said = filter (λ (r : Received). names s.0 r.step) said

-- one more ask with its reply, and the read that gave it
replies_more : (rs : List RecordedRead) (talk : Talk) (r : RecordedRead) (q : machine.Ask) (a : machine.Reply) → AreReplies rs talk → IsReadOf r (asked_cell q) None → a ≡ value_in r.answer
    → AreReplies (rs ++ r ∷ []) (talk ++ (q, a) ∷ [])
replies_more [] [] r q a h e f = (e, f, tt)
replies_more (x ∷ rs) (y ∷ talk) r q a h e f = (h.0, h.1, replies_more rs talk r q a h.2 e f)
replies_more [] (y ∷ talk) r q a h e f = absurd h
replies_more (x ∷ rs) [] r q a h e f = absurd h

-- what was found is newer than its acknowledgment
pub is_newer : (o : Watch) (s : Ts) (seen : Seen) (talk : Talk) (n : ℕ) (said : List Received) → AreAsked o s seen talk n said → seen.acknowledged.0 < seen.version.commit.0
is_newer o s seen talk n said (dirty k now i newer) = newer
is_newer o s seen talk n said (asked_more before m base q k now was look) = is_newer o s seen before m base was

module _ (observers : List ObserverOf) (seat : ℕ) (s : Ts) where
  -- ---- the transaction of this start after the conversation

  abbrev one : Received → Option TransactionOf → Option TransactionOf
  one r t = cond (names_start s.0 r.step r.answer) (transaction_after observers seat r.step r.answer t) t

  abbrev pub after : List Received → Option TransactionOf → Option TransactionOf
  after [] t = t
  after (r ∷ rs) t = after rs (one r t)

  from_first : (e : Entry) (es : List Entry) (t : Option TransactionOf) (b : Bool)
      → transaction_from observers t (cond b (e ∷ es) es) ≡ transaction_from observers (cond b (transaction_after observers e.seat e.step e.answer t) t) es
  from_first e es t b = grind arith

  pub after_is : (said : List Received) (t : Option TransactionOf) → transaction_from observers t (entries_naming s.0 (entries_by seat said)) ≡ after said t
  after_is [] t = refl
  after_is (r ∷ rs) t = grind (arith, from_first, r.step, r.answer, after_is rs (one r t))

  pub after_append : (said more : List Received) (t : Option TransactionOf) → after (said ++ more) t ≡ after more (after said t)
  after_append [] more t = refl
  after_append (r ∷ rs) more t = after_append rs more (one r t)

  told_read : (x : Cell) (at : Option Ts) (a : Answer) (u : TransactionOf) → IsHeld a → after (told (read_step s x at) a ∷ []) (Some u) ≡ Some (with_read u x at a)
  told_read x at a u held = grind arith

  -- a read is no step of a plan
  read_bare : (x : Cell) (at : Option Ts) (a : Answer) → bare_of s (told (read_step s x at) a ∷ []) ≡ []
  read_bare x at a = grind arith

  module _ (o : Watch) where
    abbrev pub with_reads : List RecordedRead → TransactionOf
    with_reads rs = record (new_transaction seat (Work.Run o.observer o.row)) { reads = rs }

    -- the conversation began the run, and led to these reads by looks alone
    pub record IsRecorded (said : List Received) (reads : List RecordedRead) : Type 0 where
      pub begun : Has said (told (Step.Begin (Work.Run o.observer o.row)) (Answer.At s))
      pub bare : bare_of s said ≡ []
      pub there : after said None ≡ Some (with_reads reads)

    begins : IsRecorded (its_begin o s) []
    begins = record { begun = inl refl; bare = refl; there = rw (itself s.0) refl }

    -- what records no read
    record IsAside (more : List Received) : Type 0 where
      pub bare : bare_of s more ≡ []
      pub leaves : (t : Option TransactionOf) → after more t ≡ t

    aside : (said more : List Received) (reads : List RecordedRead) → IsRecorded said reads → IsAside more → IsRecorded (said ++ more) reads
    aside said more reads i m = grind (arith, has_append, filter-append, after_append, i.begun, i.bare, m.bare, m.leaves, i.there)

    met_aside : (x : Cell) (at : Option Ts) (t : Ts) (primary : Cell) → IsAside (told (read_step s x at) (Answer.Locked t primary) ∷ [])
    met_aside x at t primary = grind arith

    cleared_aside : (x : Cell) (at : Option Ts) (t : Ts) (primary : Cell) (a : Answer) → IsAside (told (read_step s x at) (Answer.Locked t primary) ∷ told (Step.Clear x) a ∷ [])
    cleared_aside x at t primary a = grind arith

    settled_aside : (x : Cell) (at : Option Ts) (t : Ts) (primary : Cell) (a b : Answer) → IsAside (told (read_step s x at) (Answer.Locked t primary) ∷ told (Step.Clear x) a ∷ told (Step.Settle primary) b ∷ [])
    settled_aside x at t primary a b = grind arith

    again_aside : (x : Cell) (at : Option Ts) (t : Ts) (primary : Cell) (a b d : Answer) → IsAside (told (read_step s x at) (Answer.Locked t primary) ∷ told (Step.Clear x) a ∷ told (Step.Settle primary) b ∷ told (Step.Clear x) d ∷ [])
    again_aside x at t primary a b d = grind arith

    round_aside : (x : Cell) (at : Option Ts) (said : List Received) → IsRound s x at said → IsAside said
    round_aside x at said h = grind arith

    rounds : (x : Cell) (at : Option Ts) (m : ℕ) (base : List Received) (n : ℕ) (said : List Received) (reads : List RecordedRead) → IsRecorded base reads → AreRounds s x at m base n said → IsRecorded said reads
    rounds x at m base n said reads i at_first = i
    rounds x at m base n said reads i (one_more k before round r is) = aside before round reads (rounds x at m base k before reads i r) (round_aside x at round is)

    -- at a step of a look
    in_round : (x : Cell) (at : Option Ts) (m : ℕ) (base : List Received) (n : ℕ) (said part : List Received) (reads : List RecordedRead) → IsRecorded base reads → IsIn s x at m base n said part → IsAside part → IsRecorded said reads
    in_round x at m base n said part reads i is a = subst (λ l. IsRecorded l reads) (sym is.said_is) (aside is.before part reads (rounds x at m base is.met is.before reads i is.rounds) a)

    pub in_look : (x : Cell) (at : Option Ts) (m : ℕ) (base : List Received) (look : Look) (n : ℕ) (said : List Received) (reads : List RecordedRead) → IsRecorded base reads → InLook s x at m base look n said → IsRecorded said reads
    in_look x at m base Look.Reading n said reads i is = rounds x at m base n said reads i is
    in_look x at m base (Look.Clearing primary) n said reads i is = in_round x at m base n said _ reads i is.1 (met_aside x at is.0 primary)
    in_look x at m base (Look.Settling primary) n said reads i is = in_round x at m base n said _ reads i is.1 (cleared_aside x at is.0 primary Answer.Waits)
    in_look x at m base Look.ClearingAgain n said reads i is = in_round x at m base n said _ reads i is.4 (settled_aside x at is.0 is.1 Answer.Waits is.2)

    -- after a whole one
    abbrev read_of : Cell → Option Ts → Answer → RecordedRead
    read_of x at a = record { cell = x; at = at; answer = a }

    looked : (x : Cell) (at : Option Ts) (m : ℕ) (base : List Received) (n : ℕ) (said : List Received) (reads : List RecordedRead) → IsRecorded base reads → (l : IsLooked s x at m base n said)
        → IsRecorded said (reads ++ read_of x at l.answer ∷ [])
    looked x at m base n said reads i is =
        let before = rounds x at m base n is.before reads i is.rounds in
        grind (arith, has_append, filter-append, read_bare, after_append, told_read, is.before, is.said_is, is.held)

    -- one more read of an ask
    old_more : (at : Option Ts) (x : Cell) (rest : List RecordedRead) (old : machine.Reply) (asked : List RecordedRead) (r : RecordedRead) → WasOld at x rest old asked → WasOld at x (rest ++ r ∷ []) old (asked ++ r ∷ [])
    old_more at x rest old asked r w = grind arith

    -- ---- the parts of a run

    abbrev cell : Cell
    cell = Cell.Data o.row o.column

    abbrev ack : Cell
    ack = Cell.Ack o.observer o.row o.column

    abbrev second : Bool
    second = tells_old o.judged

    -- the reads are those of the cell, its acknowledgment, the cell as of that if it was read so, and the asks
    pub record HasRead (seen : Seen) (talk : Talk) (said : List Received) : Type 0 where
      pub reads : List RecordedRead
      pub asked : List RecordedRead
      pub recorded : IsRecorded said reads
      pub was : WasSeen cell ack second reads seen asked
      pub replied : AreReplies asked talk

    pub cell_begins : (look : Look) (n : ℕ) (said : List Received) → InLook s cell None 0 (its_begin o s) look n said → IsRecorded said []
    cell_begins look n said is = in_look cell None 0 (its_begin o s) look n said [] begins is

    pub observed_is_recorded : (found : Revision) (n : ℕ) (said : List Received) (i : IsObserved o s found n said) → IsRecorded said (read_of cell None i.look.answer ∷ [])
    observed_is_recorded found n said i = looked cell None 0 (its_begin o s) n said [] begins i.look

    pub acknowledged_is_recorded : (seen : Seen) (n : ℕ) (said : List Received) (i : IsAcknowledged o s seen n said) → IsRecorded said (read_of cell None i.observed.look.answer ∷ read_of ack None i.look.answer ∷ [])
    acknowledged_is_recorded seen n said i = looked ack None i.met i.base n said (read_of cell None i.observed.look.answer ∷ []) (observed_is_recorded seen.version i.met i.base i.observed) i.look

    recalled : (seen : Seen) (n : ℕ) (said : List Received) (at : Option Ts) → old_at second seen.acknowledged ≡ at → IsRecalled o s seen at n said → HasRead seen [] said
    recalled seen n said None is r =
        let i = r.1 in
        record {
          reads = read_of cell None i.observed.look.answer ∷ read_of ack None i.look.answer ∷ [];
          asked = [];
          recorded = acknowledged_is_recorded seen n said i;
          was = grind (arith, acknowledged_is_recorded, observed_is_recorded, seen.old);
          replied = tt;
        }
    recalled seen n said (Some t) is r =
        let i = r.2 in
        let third = read_of cell (Some t) r.3.answer in
        record {
          reads = read_of cell None i.observed.look.answer ∷ read_of ack None i.look.answer ∷ third ∷ [];
          asked = [];
          recorded = looked cell (Some t) r.0 r.1 n said _ (acknowledged_is_recorded seen r.0 r.1 i) r.3;
          was = grind (arith, acknowledged_is_recorded, observed_is_recorded, seen.old);
          replied = tt;
        }

    pub has_read : (seen : Seen) (talk : Talk) (n : ℕ) (said : List Received) → AreAsked o s seen talk n said → HasRead seen talk said
    has_read seen talk n said (dirty k now i newer) = recalled seen k now (old_at second seen.acknowledged) refl i
    has_read seen talk n said (asked_more before m base q k now was look) =
        let h = has_read seen before m base was in
        let one_more_read = read_of (asked_cell q) None look.answer in
        record {
          reads = h.reads ++ one_more_read ∷ [];
          asked = h.asked ++ one_more_read ∷ [];
          recorded = looked (asked_cell q) None m base k now h.reads h.recorded look;
          was = grind (arith, observed_is_recorded, acknowledged_is_recorded, old_more, seen.acknowledged, seen.old);
          replied = replies_more h.asked before one_more_read q (value_in look.answer) h.replied (record { cell = refl; at = refl }) refl;
        }
