use Rattle.std.proofs.Common.{ℕ, List}
use Rattle.std.specs.declared.io.Error.{Error}
use Rattle.percobpf_keep.specs.declared.failure.Failure.{Failure}
use Rattle.percobpf_keep.specs.Failures.{IsOfCall, IsOfOpening}
use Rattle.percobpf_keep.proofs.failure.Failure.of_opening.Goals as goal

-- a call that failed as the file was opened
call_failed : (path : List ℕ) (error : Error) (f : Failure) → IsOfCall path error f → IsOfOpening path f
call_failed path error (Failure.NoMemory refused) h = tt
call_failed path error (Failure.Call name its) h = h.0
call_failed path error _ h = absurd h

pub returns-in-Io : goal.returns-in-Io
returns-in-Io c = call_failed c.args.path.now c.in-Io.error c.of_call.result c.of_call.ensures
