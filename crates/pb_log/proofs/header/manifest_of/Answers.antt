use Rattle.std.proofs.Common.{Some, None}
use Rattle.std.proofs.lemmas.Bool.Decides.{Decides-eqb}
use Rattle.std.proofs.lemmas.Slice.Eq.{strip_prefix_is}
use Rattle.pb_log.specs.Header.{magic, version}
use Rattle.pb_log.proofs.header.manifest_of.Goals as goal

pub returns-in-None-clause-err : goal.returns-in-None-clause-err
returns-in-None-clause-err c = (
  c.in-Some.rest.now,
  strip_prefix_is Decides-eqb c.args.first.now magic (Some c.in-Some.rest) c.in-Some.ensures.cases,
  strip_prefix_is Decides-eqb c.in-Some.rest.now version None c.in-None.ensures.cases,
)
