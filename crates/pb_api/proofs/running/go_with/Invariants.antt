use Rattle.std.proofs.Common.{drop, map}
use Rattle.pb_api.specs.Runs.{reply_given}
use Rattle.pb_api.proofs.Stops.{IsLeftWith}
use Rattle.pb_api.proofs.running.go_with.Given as goal

abbrev pub invariant-loop-given : goal.invariant-loop-given
invariant-loop-given l = IsLeftWith l.fn.vm l.vm (map reply_given (drop l.given-index l.replies)) (map reply_given l.replies)
