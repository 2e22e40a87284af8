use Rattle.std.proofs.Common.{◌≡◌, ◌++◌, drop, string_bytes}
use Rattle.std.specs.List.{enumerate_from, flat_map}
use Rattle.pb_story.specs.Frames.{run_at, runs_text}
use Rattle.pb_story.proofs.frames.add_runs.Given as goal

abbrev pub invariant-loop-place : goal.invariant-loop-place
invariant-loop-place l = string_bytes l.text ++ flat_map (λ b. run_at l.written b.0) (enumerate_from l.place (drop l.place l.written)) ≡ string_bytes l.fn.text ++ runs_text l.written
