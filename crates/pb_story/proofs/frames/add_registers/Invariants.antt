use Rattle.std.proofs.Common.{◌≡◌, ◌++◌, drop, string_bytes}
use Rattle.std.specs.List.{enumerate_from, flat_map}
use Rattle.pb_story.specs.Frames.{register_text, registers_text}
use Rattle.pb_story.proofs.frames.add_registers.Given as goal

abbrev pub invariant-loop-number : goal.invariant-loop-number
invariant-loop-number l = string_bytes l.text ++ flat_map (λ e. register_text e.0 e.1) (enumerate_from l.number (drop l.number l.kinds)) ≡ string_bytes l.fn.text ++ registers_text l.kinds
