-- A run commits one transaction if it ended so, and else none.
use Rattle.std.proofs.Common.{arith, ◌≡◌, ℕ, ◌+◌, true, false, cond, List, [], ◌∷◌, ◌++◌, Option, None, refl, ap, ◌∙◌, zero-add}
use Rattle.std.proofs.lemmas.List.Sums.{sum_by-append, sum_by-cons}
use Rattle.pb_keeper.specs.Words.{Cell, Ts, Meant, Step, Answer, Declared, Received, told, IsWhole, committed, conflicted_first, conflicted_later, lost, prewrites, secondaries, AreCleared, Outcome, its_begin, IsRunConversation, absent, clean, ran, conflicted, blocked, Watch, JobEnd}
use Rattle.pb_notify.specs.Forms.{lost as lost_run}
use Rattle.pb_keeper.specs.Counts.{is_primary_commit, commit_count, commits_of_end, RunsCommitOnce}
use Rattle.pb_keeper.proofs.EachStep.{each_cleared}
use Rattle.pb_keeper.proofs.Wholes.{is_plain, IsPlain, ArePlain, IsPlainFrom, from_more, read_plain, rounds_from, looked_from, begin_from, acknowledged_from, asked_from, base_from}

-- ---- lists

-- whether a step commits, as a number
abbrev commits_by : Received → ℕ
commits_by r = cond (is_primary_commit r.step r.answer) 1 0

pub count_append : (a b : List Received) → commit_count (a ++ b) ≡ commit_count a + commit_count b
count_append a b = sum_by-append commits_by a b

count_after : (r : Received) (a : List Received) → commit_count (r ∷ a) ≡ commits_by r + commit_count a
count_after r a = sum_by-cons commits_by r a

-- a step that commits nothing isn't counted
pub not_counted : (r : Received) (a : List Received) → is_primary_commit r.step r.answer ≡ false → commit_count (r ∷ a) ≡ commit_count a
not_counted r a e = count_after r a ∙ (ap (λ b. cond b 1 0 + commit_count a) e ∙ zero-add (commit_count a))

-- ---- what commits nothing

plain_commits_not : (step : Step) (answer : Answer) → is_plain step ≡ true → is_primary_commit step answer ≡ false
plain_commits_not step answer p = grind arith

plain_count : (said : List Received) → ArePlain said → commit_count said ≡ 0
plain_count [] p = refl
plain_count (r ∷ said) p = not_counted r said (plain_commits_not r.step r.answer p.0) ∙ plain_count said p.1

-- a begin and looks
from_count : (s : Ts) (said : List Received) → IsPlainFrom s said → commit_count said ≡ 0
from_count s said f = ap commit_count f.said_is ∙ (not_counted (told (Step.Begin f.work) (Answer.At s)) f.rest refl ∙ plain_count f.rest f.plain)

-- ---- a transaction

cleared_count : (xs : List Cell) (rs : List Received) → AreCleared xs rs → commit_count rs ≡ 0
cleared_count xs rs c = plain_count rs (each_cleared IsPlain (λ x r e. ap is_plain e) xs rs c)

module _ (s : Ts) where
  prewrites_count : (xs : List Cell) (rest : List Received) → commit_count (prewrites s xs ++ rest) ≡ commit_count rest
  prewrites_count [] rest = refl
  prewrites_count (x ∷ xs) rest = not_counted (told (Step.Prewrite s x) Answer.Done) (prewrites s xs ++ rest) refl ∙ prewrites_count xs rest

  secondaries_count : (xs : List Cell) → commit_count (secondaries s xs) ≡ 0
  secondaries_count [] = refl
  secondaries_count (x ∷ xs) = not_counted (told (Step.CommitSecondary s x) Answer.Done) (secondaries s xs) refl ∙ secondaries_count xs

  -- declared and prewritten, and then the rest
  begun_count : (what : Declared) (xs : List Cell) (rest : List Received) → commit_count (told (Step.Declare s what) Answer.Done ∷ prewrites s xs ++ rest) ≡ commit_count rest
  begun_count what xs rest = not_counted (told (Step.Declare s what) Answer.Done) (prewrites s xs ++ rest) refl ∙ prewrites_count xs rest

abbrev commits_of_outcome : Outcome → ℕ
commits_of_outcome (Outcome.Committed c) = 1
commits_of_outcome _ = 0

whole_count : (s : Ts) (what : Declared) (cells : List Cell) (said : List Received) (o : Outcome) → IsWhole s what cells said o → commit_count said ≡ commits_of_outcome o
whole_count s what cells said o (committed x others c) =
    begun_count s what (x ∷ others) (told (Step.Stamp s) (Answer.At c) ∷ told (Step.CommitPrimary s) Answer.Committed ∷ secondaries s others)
    ∙ (not_counted (told (Step.Stamp s) (Answer.At c)) (told (Step.CommitPrimary s) Answer.Committed ∷ secondaries s others) refl
    ∙ (count_after (told (Step.CommitPrimary s) Answer.Committed) (secondaries s others) ∙ ap (λ n. 1 + n) (secondaries_count s others)))
whole_count s what cells said o (conflicted_first x after) = refl
whole_count s what cells said o (conflicted_later x y before after z cs can are) =
    begun_count s what (x ∷ before) (told (Step.Prewrite s y) Answer.Conflict ∷ told (Step.Settle x) z ∷ cs)
    ∙ (not_counted (told (Step.Prewrite s y) Answer.Conflict) (told (Step.Settle x) z ∷ cs) refl ∙ (not_counted (told (Step.Settle x) z) cs refl ∙ cleared_count before cs are))
whole_count s what cells said o (lost x others c cs are) =
    begun_count s what (x ∷ others) (told (Step.Stamp s) (Answer.At c) ∷ told (Step.CommitPrimary s) Answer.Lost ∷ cs)
    ∙ (not_counted (told (Step.Stamp s) (Answer.At c)) (told (Step.CommitPrimary s) Answer.Lost ∷ cs) refl ∙ (not_counted (told (Step.CommitPrimary s) Answer.Lost) cs refl ∙ cleared_count others cs are))

-- ---- a run

-- its looks, and then its transaction
declared_count : (s : Ts) (what : Declared) (cells : List Cell) (before plan : List Received) (o : Outcome) → IsPlainFrom s before → IsWhole s what cells plan o → commit_count (before ++ plan) ≡ commits_of_outcome o
declared_count s what cells before plan o f w =
    let all = count_append before plan in
    let none = from_count s before f in
    let one = whole_count s what cells plan o w in
    omega (arith, all, none, one)

pub run_count : (o : Watch) (said : List Received) (end : JobEnd) (run : Option Meant) → IsRunConversation o said end run → commit_count said ≡ commits_of_end end
run_count o said end run (absent s k before w look none few can) = from_count s _ (from_more s before _ (looked_from s _ None 0 (its_begin o s) k before look (begin_from s o)) (refl, tt))
run_count o said end run (clean s seen k before w i late few can) = from_count s _ (from_more s before _ (acknowledged_from s o seen k before i) (refl, tt))
run_count o said end run (ran s seen talk k before plan f c w i few on whole can) =
    let all = count_append (before ++ plan) (told (Step.Sweep (Cell.Data o.row o.column)) w ∷ []) in
    let one = declared_count s (Declared.Run o.observer f) _ before plan (Outcome.Committed c) (asked_from s o seen talk k before i) whole in
    let none : commit_count (told (Step.Sweep (Cell.Data o.row o.column)) w ∷ []) ≡ 0 = not_counted (told (Step.Sweep (Cell.Data o.row o.column)) w) [] refl in
    omega (arith, all, one, none)
run_count o said end run (conflicted s seen talk k before plan f i few on whole) = declared_count s (Declared.Run o.observer f) _ before plan Outcome.Conflicted (asked_from s o seen talk k before i) whole
run_count o said end run (lost_run s seen talk k before plan f i few on whole) = declared_count s (Declared.Run o.observer f) _ before plan Outcome.Lost (asked_from s o seen talk k before i) whole
run_count o said end run (blocked s x at j base k before t primary from rounds last) = from_count s _ (from_more s before _ (rounds_from s x at j base k before rounds (base_from s o x at j base from)) (read_plain s x at, tt))

pub runs_commit : RunsCommitOnce
runs_commit observers n x said run = run_count _ said run.end run.whole.run run.whole.talk
