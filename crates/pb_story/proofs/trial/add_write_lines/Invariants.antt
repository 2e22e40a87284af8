use Rattle.std.proofs.Common.{◌≡◌, ◌++◌, drop, flat_map, string_bytes}
use Rattle.pb_story.specs.Trials.{write_line}
use Rattle.pb_story.proofs.trial.add_write_lines.Given as goal

-- the text so far, and the lines of the writes that are left
abbrev pub invariant-loop-write : goal.invariant-loop-write
invariant-loop-write l = string_bytes l.text ++ flat_map write_line (drop l.write-index l.writes) ≡ string_bytes l.fn.text ++ flat_map write_line l.writes
