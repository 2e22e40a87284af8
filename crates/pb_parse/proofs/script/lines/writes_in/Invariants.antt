use Rattle.std.proofs.Common.{◌≡◌, length}
use denote.Text.{Utf8}
use denote.Shadow.{shadow}
use Rattle.pb_parse.specs.Words.{writes_of}
use Rattle.pb_parse.specs.ScriptLines.{batch_of}
use Rattle.pb_parse.proofs.PartByPart.{from_here}
use Rattle.pb_parse.proofs.script.lines.writes_in.Given as goal

abbrev pub invariant-loop-first : goal.invariant-loop-first
invariant-loop-first l = shadow (Utf8 l.rest) × (from_here (writes_of l.writes.items) l.rest ≡ batch_of l.line)

abbrev pub decreases-loop-first : goal.decreases-loop-first
decreases-loop-first l = length l.rest
