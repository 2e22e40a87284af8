use Rattle.std.proofs.Common.{sym, ap, ◌∙◌}
use Rattle.pb_registry.specs.Manifests.{count_in}
use Rattle.pb_registry.proofs.Counted.{members_counted}
use Rattle.pb_registry.proofs.form.member_count.Goals as goal

pub returns-in-Some : goal.returns-in-Some
returns-in-Some c = c.len.ensures.len ∙ sym (members_counted c.in-Some.members.now.entries) ∙ ap count_in c.in-Some.ensures
