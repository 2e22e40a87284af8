-- What passes the test for a declaration of its transaction is one.
use Rattle.std.proofs.Common.{arith, ◌≡◌, ℕ, Bool, true, false, cond, ◌&&◌, List, [], ◌∷◌, Option, Some, None, slice_get, refl, sym, subst, ◌==◌, nat_lt}
use Rattle.std.specs.Ordering.{eq_by_cmp}
use Rattle.std.proofs.lemmas.Bool.{eqb-true, ltb-true}
use Rattle.pb_state.specs.Words.{Cell, Row, Ts, Revision, Content, cell_cmp, same, same_is, judged_code, Talk, tells_old, record_by, Meant, RecordedRead, Seen, Work, Declared, asked_cell, version_in, acknowledged_in, value_in, value_code, cells_of, batch_in, ObserverOf, observed_cell, acknowledgment, IsReadOf, old_at, WasOld, WasSeen, AreReplies, IsItsRun, MayDeclare, is_at, is_read_of, with_old, seen_by, seen_in, asked_in, is_replied, are_replies, is_made_of, is_run, is_run_by, is_its}
use Rattle.std.specs.Coded.{coded_ℕ, coded_list}
use Rattle.pb_state.specs.Cells.{acknowledgment_by, run_writes}
use Rattle.pb_base.proofs.Logic.{and_true as both}
use Rattle.pb_base.proofs.SameCells.{cell_is as same_cell}

-- the test of two named timestamps shows that they are one
at_is : (p q : Option Ts) → is_at p q ≡ true → p ≡ q
at_is p q e = grind arith

-- and that of a read that it is of this cell
read_is : (r : RecordedRead) (x : Cell) (named : Option Ts) → is_read_of r x named ≡ true → IsReadOf r x named
read_is r x named e = let p = both (eq_by_cmp cell_cmp r.cell x) (is_at r.at named) e in record { cell = same_cell r.cell x p.0; at = at_is r.at named p.1 }

-- what `with_old` leaves of what was seen before, and what it adds
pub record IsWithOld (at : Option Ts) (x : Cell) (was : Seen) (rest : List RecordedRead) (seen : Seen) : Type 0 where
  pub version : seen.version ≡ was.version
  pub acknowledged : seen.acknowledged ≡ was.acknowledged
  pub asked : List RecordedRead
  pub old : WasOld at x rest seen.old asked
  pub behind : (r q : RecordedRead) → asked_in at (r ∷ q ∷ rest) ≡ asked

if_old : (a : Ts) (x : Cell) (was : Seen) (r : RecordedRead) (rs : List RecordedRead) (seen : Seen) (b : Bool) → is_read_of r x (Some a) ≡ b
    → cond b (Some (record was { old = value_in r.answer })) None ≡ Some seen → IsWithOld (Some a) x was (r ∷ rs) seen
if_old a x was r rs seen b e h = grind arith

old_is : (at : Option Ts) (x : Cell) (was : Seen) (rest : List RecordedRead) (seen : Seen) → was.old ≡ None → with_old at x was rest ≡ Some seen → IsWithOld at x was rest seen
old_is None x was rest seen none h = grind arith
old_is (Some a) x was (r ∷ rs) seen none h = if_old a x was r rs seen _ refl h
old_is (Some a) x was [] seen none h = cc

-- what is read after the first two
pub record IsSeenBy (second : Bool) (x : Cell) (v : Option Revision) (a : Ts) (rest : List RecordedRead) (seen : Seen) : Type 0 where
  pub found : v ≡ Some seen.version
  pub acknowledged : seen.acknowledged ≡ a
  pub asked : List RecordedRead
  pub old : WasOld (old_at second seen.acknowledged) x rest seen.old asked
  pub behind : (r q : RecordedRead) → asked_in (old_at second seen.acknowledged) (r ∷ q ∷ rest) ≡ asked

told_by : (second : Bool) (x : Cell) (v : Option Revision) (a : Ts) (rest : List RecordedRead) (seen : Seen) → seen_by second x v a rest ≡ Some seen → IsSeenBy second x v a rest seen
told_by second x None a rest seen e = cc
told_by second x (Some v) a rest seen e =
    let o = old_is (old_at second a) x (record { version = v; acknowledged = a; old = None }) rest seen refl e in
    grind (arith, seen.old)

pair_seen : (x ack : Cell) (second : Bool) (r q : RecordedRead) (rest : List RecordedRead) (seen : Seen) (b : Bool) → (is_read_of r x None && is_read_of q ack None) ≡ b
    → cond b (seen_by second x (version_in r.answer) (acknowledged_in q.answer) rest) None ≡ Some seen → WasSeen x ack second (r ∷ q ∷ rest) seen (asked_in (old_at second seen.acknowledged) (r ∷ q ∷ rest))
pair_seen x ack second r q rest seen true e h =
    let p = both _ _ e in
    let t = told_by second x (version_in r.answer) (acknowledged_in q.answer) rest seen h in
    record {
      found_by = r;
      acknowledged_by = q;
      rest = rest;
      reads_are = refl;
      observed = read_is r x None p.0;
      found = t.found;
      acknowledgment = read_is q ack None p.1;
      acknowledged = t.acknowledged;
      old = subst (WasOld (old_at second seen.acknowledged) x rest seen.old) (sym (t.behind r q)) t.old;
    }
pair_seen x ack second r q rest seen false e h = cc

-- reads that pass the test are those of a run: cell, acknowledgment, perhaps the cell before, and the asks
was_seen : (x ack : Cell) (second : Bool) (reads : List RecordedRead) (seen : Seen) → seen_in x ack second reads ≡ Some seen → WasSeen x ack second reads seen (asked_in (old_at second seen.acknowledged) reads)
was_seen x ack second reads seen h = grind (arith, pair_seen)

-- replies that pass the test are what their cells were read with
replies_are : (reads : List RecordedRead) (talk : Talk) → are_replies reads talk ≡ true → AreReplies reads talk
replies_are [] [] h = tt
replies_are (r ∷ rs) (a ∷ talk) h =
    let p = both (is_replied r a) (are_replies rs talk) h in
    let q = both (is_read_of r (asked_cell a.0) None) (same value_code a.1 (value_in r.answer)) p.0 in
    (read_is r (asked_cell a.0) None q.0, same_is value_code a.1 (value_in r.answer) q.1, replies_are rs talk p.1)
replies_are [] (a ∷ talk) h = cc
replies_are (r ∷ rs) [] h = cc

run_by : (observers : List ObserverOf) (p : ℕ) (row : Row) (s : ℕ) (reads : List RecordedRead) (f : Meant) (o : ObserverOf) (k : Option Seen)
    → slice_get observers p ≡ Some o → seen_in (observed_cell observers p row) (acknowledgment observers p row) (tells_old o.program) reads ≡ k → is_run o.program (observed_cell observers p row) s reads f k ≡ true → IsItsRun observers p row s reads f
run_by observers p row s reads f o None oe ke h = cc
run_by observers p row s reads f o (Some seen) oe ke h =
    let bytes = record_by (tells_old o.program) (observed_cell observers p row) seen.version seen.acknowledged.0 seen.old in
    let asked = asked_in (old_at (tells_old o.program) seen.acknowledged) reads in
    let k = both (nat_lt seen.acknowledged.0 seen.version.commit.0 && is_made_of o.program bytes s f) (are_replies asked f.talk) h in
    let q = both (nat_lt seen.acknowledged.0 seen.version.commit.0) (is_made_of o.program bytes s f) k.0 in
    let m = both (same judged_code f.judged o.program && same (coded_list coded_ℕ) f.bytes bytes) (f.start == s) q.1 in
    let n = both (same judged_code f.judged o.program) (same (coded_list coded_ℕ) f.bytes bytes) m.0 in
    record {
      observer = o;
      observer_is = oe;
      seen = seen;
      asked = asked;
      was = was_seen (observed_cell observers p row) (acknowledgment observers p row) (tells_old o.program) reads seen ke;
      newer = ltb-true _ _ q.0;
      program = same_is judged_code f.judged o.program n.0;
      bytes = same_is (coded_list coded_ℕ) f.bytes bytes n.1;
      start = eqb-true f.start s m.1;
      replied = replies_are asked f.talk k.1;
    }

run_of : (observers : List ObserverOf) (p : ℕ) (row : Row) (s : ℕ) (reads : List RecordedRead) (f : Meant) (o : Option ObserverOf)
    → slice_get observers p ≡ o → is_run_by o (observed_cell observers p row) (acknowledgment observers p row) s reads f ≡ true → IsItsRun observers p row s reads f
run_of observers p row s reads f o oe h = grind (arith, run_by)

-- what passes the whole test is a declaration of its transaction, as the relation has it
pub may_be_its : (observers : List ObserverOf) (work : Work) (s : ℕ) (reads : List RecordedRead) (what : Declared) → is_its observers work s reads what ≡ true → MayDeclare observers work s reads what
may_be_its observers work s reads what h = grind (arith, both, eqb-true, run_of)

-- a declaration without an acknowledgment is a script's, and writes its batch
pub script_writes : (observers : List ObserverOf) (work : Work) (s : ℕ) (reads : List RecordedRead) (what : Declared) → is_its observers work s reads what ≡ true → None ≡ acknowledgment_by observers work → batch_in what ≡ cells_of observers work s what
script_writes observers work s reads what h none = grind arith

-- a run writes its acknowledgment, and then what its program does
pub run_writes_all : (observers : List ObserverOf) (work : Work) (s : Ts) (reads : List RecordedRead) (what : Declared) (x : Cell) → is_its observers work s.0 reads what ≡ true → Some x ≡ acknowledgment_by observers work → (x, Content.Stamp s) ∷ run_writes what ≡ cells_of observers work s.0 what
run_writes_all observers work s reads what x h some = grind arith
