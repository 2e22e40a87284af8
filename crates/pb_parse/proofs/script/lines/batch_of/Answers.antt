use Rattle.std.proofs.Common.{◌≡◌, true, false}
use Rattle.pb_parse.proofs.Batches.{line_is_batch}
use Rattle.pb_parse.proofs.script.lines.batch_of.Goals as goal

pub unreachable-requires : goal.unreachable-requires
unreachable-requires c = let e : false ≡ true = c.in-Err.ensures.accepted.1 (line_is_batch c.args.line.now _ c.in_ok-writes_in.ensures) in absurd cc
