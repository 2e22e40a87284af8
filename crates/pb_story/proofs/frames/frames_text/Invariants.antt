use Rattle.std.proofs.Common.{◌≡◌, string_bytes}
use Rattle.pb_story.specs.Frames.{lines_below}
use Rattle.pb_story.proofs.frames.frames_text.Given as goal

abbrev pub invariant-loop-slot : goal.invariant-loop-slot
invariant-loop-slot l = string_bytes l.text ≡ lines_below l.program.insns l.slot
