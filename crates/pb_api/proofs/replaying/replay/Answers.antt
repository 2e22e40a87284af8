use Rattle.std.proofs.Common.{rules, inl, inr}
use Rattle.pb_api.proofs.replaying.replay.Goals as goal

pub returns-in_default-from_utf8-2 : goal.returns-in_default-from_utf8-2
returns-in_default-from_utf8-2 c = inr (record { place = 2; first = search (rules); gives = search (rules) })

pub returns : goal.returns
returns c = inl (record {
  manifest_utf8 = search (rules);
  script_utf8 = search (rules);
  schedule_utf8 = search (rules);
  replay = rw (c.in-Ok.ensures.cases.0, c.in-Ok-from_utf8.ensures.cases.0, c.in-Ok-from_utf8-2.ensures.cases.0) at c.replay_read.ensures;
})
