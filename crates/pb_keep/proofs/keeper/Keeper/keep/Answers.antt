use Rattle.std.proofs.Common.{◌≤◌, ◌++◌, ap, subst}
use Rattle.pb_keep.specs.Words.{MAX_CHANGES}
use Rattle.pb_keep.proofs.InTime.{few_in_time}
use Rattle.pb_keep.specs.Conversations.{keeper_view}
use Rattle.pb_keep.proofs.Mapping.{all_ok, either_way}
use Rattle.pb_keep.proofs.Serving.{leaves_left, leaves_served, serves_kept}
use Rattle.pb_keep.proofs.keeper.Keeper.keep.Goals as goal

pub returns-clause-serves : goal.returns-clause-serves
returns-clause-serves g c = λ b lines s.
    let new = keeper_view g.D.Disk.seen g.D.Disk.may_leave c.put_and_make.new.self (g.S.Sink.taken c.put_and_make.new.out) in
    all_ok c.put_and_make.result c.put_and_make.ensures.idle (c.put_and_make.ensures.kept b.origin b.first (b.changes ++ s.made) s.log s.keeps) c.put_and_make.ensures.answers
    (λ idle kept a. serves_kept s new a.0 c.requires.alone (subst (λ n. n ≤ MAX_CHANGES) c.requires.waiting.count c.requires.waiting.few) idle (ap (λ n. n.0) c.put_and_make.ensures.since) c.put_and_make.ensures.limit kept.0 kept.1 a.1 a.2)

pub returns-clause-crash : goal.returns-clause-crash
returns-clause-crash g c = λ b lines s file m.
    let new = keeper_view g.D.Disk.seen g.D.Disk.may_leave c.put_and_make.new.self (g.S.Sink.taken c.put_and_make.new.out) in
    either_way c.put_and_make.result (returns-clause-serves g c b lines s) (c.put_and_make.ensures.err b.origin (b.changes ++ s.made) s.log)
    (λ now. leaves_served now file m)
    (λ e left. leaves_left s c.requires.alone new.table new.written new.may_leave e left file m)

pub returns-clause-cause : goal.returns-clause-cause
returns-clause-cause g c = λ b lines s. c.put_and_make.ensures.cause b.first (b.changes ++ s.made) s.keeps
    (few_in_time c.args.self.now.waiting.items.items c.args.self.now.state (subst (λ n. n ≤ MAX_CHANGES) c.requires.waiting.count c.requires.waiting.few) s.in_time)

pub returns-clause-shut : goal.returns-clause-shut
returns-clause-shut g c = λ mixes b lines s file m. c.put_and_make.ensures.shut mixes b.origin (b.changes ++ s.made) s.log file m
