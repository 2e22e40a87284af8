-- A run of its observer's program on what it read is one that its transaction may declare.
use Rattle.std.proofs.Common.{arith, ◌≡◌, ℕ, Bool, true, ◌&&◌, List, [], ◌∷◌, Option, Some, None, refl, sym, ap, ◌∙◌}
use Rattle.std.specs.Coded.{coded_ℕ, coded_list}
use Rattle.std.proofs.lemmas.Bool.{eq-eqb, lt-ltb}
use Rattle.pb_notify.specs.Words.{Cell, Row, Ts, tells_old, is_same, judged_code, Talk, Meant, RecordedRead, Seen, Work, Declared, value_in, value_code, asked_cell, ObserverOf, observed_cell, acknowledgment, IsReadOf, old_at, WasOld, WasSeen, AreReplies, IsItsRun, is_at, is_read_of, with_old, seen_in, asked_in, are_replies, is_run, is_run_by, is_its}
use Rattle.pb_isa.specs.Machine.{Reply}
use Rattle.pb_base.proofs.SameCells.{same_cells}

at_itself : (at : Option Ts) → is_at at at ≡ true
at_itself at = grind arith

-- a recorded read of this cell and timestamp is found to be one
is_read : (r : RecordedRead) (x : Cell) (named : Option Ts) → IsReadOf r x named → is_read_of r x named ≡ true
is_read r x named h = λ i. same_cells r.cell x h.cell i && (ap (is_at r.at) (sym h.at) ∙ at_itself r.at) i

-- the value of before is that of the third read, where there is one
old_is : (at : Option Ts) (x : Cell) (seen : Seen) (rest asked : List RecordedRead) → WasOld at x rest seen.old asked
    → with_old at x (record { version = seen.version; acknowledged = seen.acknowledged; old = None }) rest ≡ Some seen
old_is at x seen rest asked w = grind arith

asked_is : (at : Option Ts) (x : Cell) (r q : RecordedRead) (old : Reply) (rest asked : List RecordedRead) → WasOld at x rest old asked → asked_in at (r ∷ q ∷ rest) ≡ asked
asked_is at x r q old rest asked w = grind arith

-- what was seen is read off the first two or three reads
seen_is : (x ack : Cell) (second : Bool) (reads asked : List RecordedRead) (seen : Seen) → WasSeen x ack second reads seen asked → seen_in x ack second reads ≡ Some seen
seen_is x ack second reads asked seen w = grind (arith, is_read, old_is, w.reads_are, w.found_by, w.observed, w.acknowledged_by, w.acknowledgment, w.found_by.answer, w.acknowledged_by.answer, w.rest, w.found, seen.version, w.acknowledged, seen.acknowledged, w.old)

-- each reply is the value with which its cell was read
replies_are : (asked : List RecordedRead) (talk : Talk) → AreReplies asked talk → are_replies asked talk ≡ true
replies_are [] [] h = refl
replies_are (r ∷ rs) (a ∷ talk) h = λ i. (is_read r (asked_cell a.0) None h.0 i && is_same value_code a.1 (value_in r.answer) h.1 i) && replies_are rs talk h.2 i
replies_are [] (a ∷ talk) h = absurd h
replies_are (r ∷ rs) [] h = absurd h

-- such a run isn't refused as another's: the start, the record and the replies are compared with these reads
pub its_run : (observers : List ObserverOf) (o : ℕ) (row : Row) (s : ℕ) (reads : List RecordedRead) (f : Meant) → IsItsRun observers o row s reads f
    → is_its observers (Work.Run o row) s reads (Declared.Run o f) ≡ true
its_run observers o row s reads f i =
    let x = observed_cell observers o row in
    let ack = acknowledgment observers o row in
    let second = tells_old i.observer.program in
    let asked : asked_in (old_at second i.seen.acknowledged) reads ≡ i.asked =
    ap (asked_in (old_at second i.seen.acknowledged)) i.was.reads_are ∙ asked_is (old_at second i.seen.acknowledged) x i.was.found_by i.was.acknowledged_by i.seen.old i.was.rest i.asked i.was.old in
    (λ j. eq-eqb o o refl j && is_run_by (i.observer_is j) x ack s reads f)
    ∙ ap (is_run i.observer.program x s reads f) (seen_is x ack second reads i.asked i.seen i.was)
    ∙ (λ j. (lt-ltb _ _ i.newer j && (is_same judged_code f.judged i.observer.program i.program j && is_same (coded_list coded_ℕ) f.bytes _ i.bytes j && eq-eqb f.start s i.start j)) && are_replies (asked j) f.talk)
    ∙ replies_are i.asked f.talk i.replied
