-- How many cells are prewritten in a run of an observer, and in a change: those that are declared, each once.
use Rattle.std.proofs.Common.{arith, ◌≡◌, ℕ, ◌+◌, ◌≤◌, true, false, inl, inr, List, [], ◌∷◌, ◌++◌, length, length-append, Option, None, Some, refl, sym, ap, ◌∙◌, zero-add}
use Rattle.std.proofs.lemmas.List.{length-map}
use Rattle.pb_txn.specs.Conversations.{told}
use Rattle.pb_txn.specs.Forms.{AreCleared, IsWhole, committed, conflicted_first, conflicted_later, lost, prewrites, secondaries}
use Rattle.pb_txn.specs.Places.{declared_cells}
use Rattle.pb_txn.specs.declared.place.Outcome.{Outcome}
use Rattle.pb_notify.specs.Forms.{IsRunConversation, WasMeant, its_begin, absent, clean, ran, conflicted, lost as lost_run, blocked}
use Rattle.pb_notify.specs.Runs.{Watch}
use Rattle.pb_notify.specs.declared.need.JobEnd.{JobEnd}
use Rattle.pb_sound.proofs.RunWrites.{runs_write_batches}
use Rattle.pb_keeper.proofs.EachStep.{each_cleared}
use Rattle.pb_keeper.proofs.Wholes.{is_plain, IsPlain, ArePlain, IsPlainFrom, from_more, read_plain, rounds_from, looked_from, begin_from, acknowledged_from, asked_from, base_from}
use Rattle.law_limits.specs.Words.{Writes, is_batch, Cell, MAX_CELLS, Ts, Meant, AreRunWrites, Answer, Declared, Step, Received}
use Rattle.law_limits.proofs.Entries.{puts_lock, prewrite_count, prewritten_append, prewritten_after, not_prewritten}

plain_puts_not : (step : Step) → is_plain step ≡ true → puts_lock step ≡ false
plain_puts_not step p = grind arith

plain_none : (said : List Received) → ArePlain said → prewrite_count said ≡ 0
plain_none [] p = refl
plain_none (r ∷ said) p = not_prewritten r said (plain_puts_not r.step p.0) ∙ plain_none said p.1

from_none : (s : Ts) (said : List Received) → IsPlainFrom s said → prewrite_count said ≡ 0
from_none s said f =
    let e : prewrite_count said ≡ prewrite_count (told (Step.Begin f.work) (Answer.At s) ∷ f.rest) = ap prewrite_count f.said_is in
    e ∙ (not_prewritten (told (Step.Begin f.work) (Answer.At s)) f.rest refl ∙ plain_none f.rest f.plain)

cleared_none : (xs : List Cell) (rs : List Received) → AreCleared xs rs → prewrite_count rs ≡ 0
cleared_none xs rs c = plain_none rs (each_cleared IsPlain (λ x r e. ap is_plain e) xs rs c)

module _ (s : Ts) where
  prewrites_each : (xs : List Cell) (rest : List Received) → prewrite_count (prewrites s xs ++ rest) ≡ length xs + prewrite_count rest
  prewrites_each [] rest = sym (zero-add (prewrite_count rest))
  prewrites_each (x ∷ xs) rest = let one = prewritten_after (told (Step.Prewrite s x) Answer.Done) (prewrites s xs ++ rest) in let more = prewrites_each xs rest in omega (arith, one, more)

  secondaries_none : (xs : List Cell) → prewrite_count (secondaries s xs) ≡ 0
  secondaries_none [] = refl
  secondaries_none (x ∷ xs) = not_prewritten (told (Step.CommitSecondary s x) Answer.Done) (secondaries s xs) refl ∙ secondaries_none xs

  declared_each : (what : Declared) (xs : List Cell) (rest : List Received) → prewrite_count (told (Step.Declare s what) Answer.Done ∷ prewrites s xs ++ rest) ≡ length xs + prewrite_count rest
  declared_each what xs rest = not_prewritten (told (Step.Declare s what) Answer.Done) (prewrites s xs ++ rest) refl ∙ prewrites_each xs rest

-- a transaction prewrites its cells at most
pub whole_few : (s : Ts) (what : Declared) (cells : List Cell) (said : List Received) (o : Outcome) → IsWhole s what cells said o → prewrite_count said ≤ length cells
whole_few s what cells said o (committed x others c) =
    let rest = told (Step.CommitPrimary s) Answer.Committed ∷ secondaries s others in
    let all = declared_each s what (x ∷ others) (told (Step.Stamp s) (Answer.At c) ∷ rest) in
    let stamp = not_prewritten (told (Step.Stamp s) (Answer.At c)) rest refl in
    let none = not_prewritten (told (Step.CommitPrimary s) Answer.Committed) (secondaries s others) refl ∙ secondaries_none s others in
    omega (arith, all, stamp, none)
whole_few s what cells said o (conflicted_first x after) = omega arith
whole_few s what cells said o (conflicted_later x y before after z cs can are) =
    let rest = told (Step.Settle x) z ∷ cs in
    let all = declared_each s what (x ∷ before) (told (Step.Prewrite s y) Answer.Conflict ∷ rest) in
    let last = prewritten_after (told (Step.Prewrite s y) Answer.Conflict) rest in
    let none = not_prewritten (told (Step.Settle x) z) cs refl ∙ cleared_none before cs are in
    let many = length-append before (y ∷ after) in
    omega (arith, all, last, none, many)
whole_few s what cells said o (lost x others c cs are) =
    let rest = told (Step.CommitPrimary s) Answer.Lost ∷ cs in
    let all = declared_each s what (x ∷ others) (told (Step.Stamp s) (Answer.At c) ∷ rest) in
    let stamp = not_prewritten (told (Step.Stamp s) (Answer.At c)) rest refl in
    let none = not_prewritten (told (Step.CommitPrimary s) Answer.Lost) cs refl ∙ cleared_none others cs are in
    omega (arith, all, stamp, none)

-- ---- runs

pub batch_few : (ws : Writes) → is_batch ws ≡ true → length ws ≤ MAX_CELLS
batch_few ws h = grind arith

run_writes_few : (ws : Writes) → AreRunWrites ws → length ws ≤ MAX_CELLS
run_writes_few ws (inl none) = let e = ap length none in omega (arith, e)
run_writes_few ws (inr batch) = batch_few ws batch

-- an acknowledgment, and what a program writes
run_cells_few : (observer : ℕ) (f : Meant) → WasMeant (Some f) → length (declared_cells (Declared.Run observer f)) ≤ MAX_CELLS + 1
run_cells_few observer f meant =
    let few = run_writes_few f.writes (runs_write_batches f.judged f.bytes f.start f.talk f.result f.writes meant) in
    let many = length-map f.writes (λ w. w.0) in
    omega (arith, few, many)

planned_few : (s : Ts) (observer : ℕ) (f : Meant) (before plan : List Received) (o : Outcome) → WasMeant (Some f) → IsPlainFrom s before → IsWhole s (Declared.Run observer f) (declared_cells (Declared.Run observer f)) plan o
    → prewrite_count (before ++ plan) ≤ MAX_CELLS + 1
planned_few s observer f before plan o meant from w =
    let all = prewritten_append before plan in
    let none = from_none s before from in
    let some = whole_few s (Declared.Run observer f) (declared_cells (Declared.Run observer f)) plan o w in
    let few = run_cells_few observer f meant in
    omega (arith, all, none, some, few)

few_from : (s : Ts) (said : List Received) → IsPlainFrom s said → prewrite_count said ≤ MAX_CELLS + 1
few_from s said f = let none = from_none s said f in omega (arith, none)

pub run_few : (o : Watch) (said : List Received) (end : JobEnd) (run : Option Meant) → IsRunConversation o said end run → WasMeant run → prewrite_count said ≤ MAX_CELLS + 1
run_few o said end run (absent s k before w look none few can) meant = few_from s _ (from_more s before _ (looked_from s _ None 0 (its_begin o s) k before look (begin_from s o)) (refl, tt))
run_few o said end run (clean s seen k before w i late few can) meant = few_from s _ (from_more s before _ (acknowledged_from s o seen k before i) (refl, tt))
run_few o said end run (ran s seen talk k before plan f c w i few on whole can) meant =
    let sweep = told (Step.Sweep (Cell.Data o.row o.column)) w in
    let all = prewritten_append (before ++ plan) (sweep ∷ []) in
    let some = planned_few s o.observer f before plan (Outcome.Committed c) meant (asked_from s o seen talk k before i) whole in
    let none : prewrite_count (sweep ∷ []) ≡ 0 = not_prewritten sweep [] refl in
    omega (arith, all, some, none)
run_few o said end run (conflicted s seen talk k before plan f i few on whole) meant = planned_few s o.observer f before plan Outcome.Conflicted meant (asked_from s o seen talk k before i) whole
run_few o said end run (lost_run s seen talk k before plan f i few on whole) meant = planned_few s o.observer f before plan Outcome.Lost meant (asked_from s o seen talk k before i) whole
run_few o said end run (blocked s x at j base k before t primary from rounds last) meant = few_from s _ (from_more s before _ (rounds_from s x at j base k before rounds (base_from s o x at j base from)) (read_plain s x at, tt))
