use Rattle.std.proofs.Common.{◌≡◌, ◌++◌, drop, flat_map, string_bytes}
use Rattle.pb_finished.specs.Talk.{talk_of}
use Rattle.pb_story.specs.Trials.{ask_line}
use Rattle.pb_story.proofs.trial.add_asks.Given as goal

-- the text so far, and the lines of the asks that are left
abbrev pub invariant-loop-asked : goal.invariant-loop-asked
invariant-loop-asked l = string_bytes l.text ++ flat_map ask_line (talk_of (drop l.asked-index l.talk)) ≡ string_bytes l.fn.text ++ flat_map ask_line (talk_of l.talk)
