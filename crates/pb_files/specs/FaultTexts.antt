-- The text of a fault of files, without a newline. `pb_command` prints it as a line.
use Rattle.std.specs.Prelude.{ℕ, List, ◌++◌, codes}
use Rattle.pb_reading.specs.Faults.{line_told, code_told, line_and_code}
use Rattle.pb_files.specs.declared.fault.FileFault.{FileFault}

abbrev pub file_fault_text : FileFault → List ℕ
file_fault_text (FileFault.Unreadable path) = codes "cannot read " ++ path.now
file_fault_text (FileFault.TooLarge path) = codes "too large " ++ path.now
file_fault_text (FileFault.NotText path) = codes "not text " ++ path.now
file_fault_text (FileFault.Unwritable path) = codes "cannot write " ++ path.now
file_fault_text (FileFault.Text f) = line_and_code (line_told f) (code_told f)
file_fault_text FileFault.Output = codes "cannot write the output"
file_fault_text (FileFault.NoMemory refused) = codes "no memory"
