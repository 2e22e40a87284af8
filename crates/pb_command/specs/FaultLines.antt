-- How a fault is printed, byte by byte, on standard error. The functions of src/fault.rt cite these.
use Rattle.std.specs.Prelude.{ℕ, ◌+◌, ◌⊎◌, List, [], ◌++◌, codes, Option, Some, None, decimal}
use Rattle.std.specs.List.{enumerate_from, flat_map}
use Rattle.pb_base.specs.declared.refusal.Refusal.{Refusal}
use Rattle.pb_base.specs.Taking.{Taking, TookAll, TookPart}
use Rattle.pb_files.specs.FaultTexts.{file_fault_text}
use Rattle.pb_driver.specs.FaultTexts.{run_fault_text}
use Rattle.pb_driver.specs.declared.run.Ran.{Ran}
use Rattle.pb_command.specs.declared.fault.Fault.{Fault}

-- a seat, the main one 0, and the code of its refusal; no line where it wasn't refused
abbrev pub worker_line : ℕ → Option Refusal → List ℕ
worker_line seat None = []
worker_line seat (Some r) = codes "worker " ++ (decimal seat ++ (codes " code " ++ (decimal r.0 ++ codes "\n")))

-- the lines of the seats that were refused, by their numbers
abbrev pub worker_lines : List (Option Refusal) → List ℕ
worker_lines refusals = flat_map (λ s. worker_line s.0 s.1) (enumerate_from 0 refusals)

-- a change, from 1, of which no try committed
abbrev pub change_line : ℕ → List ℕ
change_line number = codes "change " ++ (decimal number ++ codes " conflicts\n")

-- the changes of these numbers from 0
abbrev pub change_lines : List ℕ → List ℕ
change_lines unfinished = flat_map (λ i. change_line (i + 1)) unfinished

-- what a run left undone: first the seats that were refused, then the changes
abbrev pub undone_lines : Ran → List ℕ
undone_lines ran = worker_lines ran.refusals.items ++ change_lines ran.unfinished.items

-- each fault has one line, but what a run left undone has as many as there are seats and changes to report
abbrev pub fault_lines : Fault → List ℕ
fault_lines (Fault.File f) = file_fault_text f ++ codes "\n"
fault_lines (Fault.Run f) = run_fault_text f ++ codes "\n"
fault_lines (Fault.Undone ran) = undone_lines ran

-- the text was written whole, or a beginning of it where a write failed
abbrev pub SaysLines : List ℕ → Taking → Type 0
SaysLines text err = TookAll err text ⊎ TookPart err text

-- the fault's lines were written, or that there is no memory for them
abbrev pub Tells : Fault → Taking → Type 0
Tells f err = SaysLines (fault_lines f) err ⊎ SaysLines (codes "no memory\n") err
