use Rattle.std.proofs.Common.{◌++◌, List, ℕ, ap, subst, ◌∙◌, codes}
use Rattle.pb_answers.specs.Words.{Entries}
use Rattle.pb_answers.specs.Writes.{AreWritesSince}
use Rattle.pb_answers.proofs.writes.answer_since.Goals as goal

pub returns : goal.returns
returns g c = record {
  writes = c.in_ok-writes.writes.entries;
  these = subst (λ (e : Entries). AreWritesSince e c.args.above.0 c.in_ok-writes.writes.entries) c.table.ensures.entries c.in_ok-writes.ensures;
  lines = c.in_ok-push_str.ensures.bytes ∙ ap (λ (bs : List ℕ). bs ++ codes "end\n") c.in_ok-text.ensures;
}
