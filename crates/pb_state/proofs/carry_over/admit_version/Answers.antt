use Rattle.std.proofs.Common.{arith, sym}
use Rattle.pb_state.proofs.carry_over.admit_version.Goals as goal

pub returns-clause-ok : goal.returns-clause-ok
returns-clause-ok c = record {
  above = omega (arith, c.if-version.false);
  by_then = omega (arith, c.if-version-last.false);
  in_order = c.if-not-comes_last.ensures;
  its_content = sym c.if-not-is_content_of.ensures;
  observed = sym c.if-not-has_its_observer.ensures;
}
