-- How a run or a replay that ended early is reported. `Display` of `RunFault` cites it.
use Rattle.std.specs.Prelude.{ℕ, List, ◌++◌, codes}
use Rattle.pb_driver.specs.Words.{line_told, code_told, line_and_code, fault_text, fault_code, event_and_code}
use Rattle.pb_driver.specs.declared.fault.RunFault.{RunFault}

-- a fault's words, without a newline: those of a text's fault begin with which text it is
abbrev pub run_fault_text : RunFault → List ℕ
run_fault_text (RunFault.Manifest f) = codes "manifest: " ++ fault_text f
run_fault_text (RunFault.Script f) = codes "script: " ++ line_and_code (line_told f) (code_told f)
run_fault_text (RunFault.Schedule f) = codes "schedule: " ++ line_and_code (line_told f) (code_told f)
run_fault_text (RunFault.Event f) = event_and_code f.event (fault_code f.fault)
run_fault_text RunFault.SeatsDiffer = codes "seats differ"
run_fault_text RunFault.Output = codes "cannot write the output"
run_fault_text (RunFault.NoMemory refused) = codes "no memory"
