-- The fault of a line is that of its first operation at fault.
use Rattle.std.proofs.Common.{◌≡◌, ℕ, ◌≤◌, List, [], length, Err, arith}
use Rattle.pb_parse.specs.Words.{MAX_CELLS, Writes}
use Rattle.std.proofs.lemmas.Bool.{leb-true}
use Rattle.pb_parse.specs.declared.script.code.ScriptCode.{ScriptCode}
use Rattle.pb_parse.specs.ScriptWords.{operation}
use Rattle.pb_parse.specs.ScriptLines.{cut, with_operation, batch_of}
use Rattle.pb_parse.specs.Operations.{IsFaultAfter, StopsWith}
use Rattle.pb_reading.proofs.FirstFault.{first_fault}
use Rattle.pb_reading.proofs.Readings.{err_is, then_err}
use Rattle.pb_parse.proofs.OwnFaults.{IsOwn, own_fault}
use Rattle.pb_parse.proofs.Batches.{nothing_open, all_open}
use Rattle.pb_base.proofs.Logic.{chosen_branch}

-- an operation's own fault is the line's, after any writes
own_after : (before : Writes) (text : List ℕ) (cause : ScriptCode) → IsOwn cause → operation text ≡ Err cause → IsFaultAfter before text cause
own_after before text cause own h = grind arith

-- what an operation is refused for is one of the reasons that the format has
fault_after : (before : Writes) (here : List ℕ) (cause : ScriptCode) → length before ≤ MAX_CELLS → with_operation before here ≡ Err cause → IsFaultAfter before here cause
unfolding with_operation
fault_after before here cause few h = grind (arith, then_err, own_after, own_fault, chosen_branch, err_is, leb-true)

-- a line that isn't read stops with its first operation at fault
pub stops_with : (line : List ℕ) (cause : ScriptCode) → batch_of line ≡ Err cause → StopsWith line cause
stops_with line cause h =
    let f = first_fault (λ _. with_operation) 0 [] (cut line) cause h in
    let o = all_open 0 [] [] f.before f.front nothing_open f.read in
    record { front = f.front; here = f.here; after = f.after; before = f.before; parts = f.parts; read = o.said; distinct = o.distinct; few = o.few; fault = fault_after f.before f.here cause o.few f.fault }
