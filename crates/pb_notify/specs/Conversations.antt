-- What a job has asked, step by step, with the answers. Instructions leave no trace in it, since the table sees none.
use Rattle.std.specs.Prelude.{◌≡◌, List, []}
use Rattle.pb_notify.specs.Words.{Received, JobOf, IsConversation}
use Rattle.pb_notify.specs.declared.need.Need.{Need}
use Rattle.pb_notify.specs.Runs.{RunOf, next_of, need_of, answered, HearsLook, Computes}

-- a run asks its next step, and goes on by its machine's instructions
abbrev pub run_job : JobOf RunOf
run_job = record { next = next_of; hears = λ k a l. (l ≡ answered k a) × HearsLook k a l; goes = λ k l. (need_of k ≡ Need.Local) × Computes k l }

-- from one place to another: each of its next steps was answered with one of its answers, and between them its machine
-- did instructions
abbrev pub Reaches : RunOf → List Received → RunOf → Type 0
Reaches j said k = IsConversation run_job j said k

-- any number of instructions, one after another, and nothing else
abbrev pub ComputesOn : RunOf → RunOf → Type 0
ComputesOn j k = Reaches j [] k
