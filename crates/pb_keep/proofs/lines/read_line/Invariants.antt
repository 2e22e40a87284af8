use Rattle.std.specs.Prelude.{◌≡◌}
use Rattle.pb_keep.specs.Input.{IsReadSoFar}
use Rattle.pb_keep.proofs.lines.read_line.Given as goal

-- what was read so far is the front of a line, and is held, and no read has failed meanwhile
abbrev pub invariant-loop-turn : goal.invariant-loop-turn
invariant-loop-turn g l = IsReadSoFar (g.I.LineSource.remaining l.fn.input) (g.I.LineSource.remaining l.input) l.line.items l.is_long × (g.I.LineSource.failed l.input ≡ g.I.LineSource.failed l.fn.input)
