use Rattle.std.proofs.Common.{IfSome, string_bytes}
use Rattle.percobpf_keep.specs.Names.{AreNewNames}
use Rattle.percobpf_keep.proofs.new_file.remove_new.Given as goal

-- what is free are names of a new log
abbrev pub invariant-loop-number : goal.invariant-loop-number
invariant-loop-number l = IfSome l.free (λ names. AreNewNames l.log (string_bytes names.0) (string_bytes names.1))
