use Rattle.std.proofs.Common.{◌++◌, ◌∙◌, refl, subst, sym}
use Rattle.pb_keep.specs.Conversations.{keeper_view}
use Rattle.pb_keep.specs.Causes.{WhyNotServed}
use Rattle.pb_keep.specs.Served.{ServesNext}
use Rattle.pb_keep.proofs.Mapping.{passed_on}
use Rattle.pb_keep.proofs.Reading.{leaves_on, serves_on, serves_read_none, serves_until}
use Rattle.pb_keep.proofs.service.serve.Goals as goal

pub loop-turn-init : goal.loop-turn-init
loop-turn-init g c = record {
  usable = c.requires.usable;
  waiting = c.requires.waiting;
  faultless = refl;
  same = refl;
  served = λ b lines s. serves_read_none (g.I.LineSource.remaining c.args.input.now) s;
}

pub loop-turn-preserved : goal.loop-turn-preserved
loop-turn-preserved g c = record {
  usable = c.in_ok-went.ensures.usable;
  waiting = c.in_ok-went.ensures.waiting;
  faultless = c.in_ok-went.ensures.faultless ∙ c.loop-turn.invariant.faultless;
  same = c.in_ok-went.ensures.observers ∙ c.loop-turn.invariant.same;
  served = λ b lines s.
      let before = c.loop-turn.invariant.served b lines s in
      let from = g.I.LineSource.remaining c.loop-turn.input in
      let to = g.I.LineSource.remaining c.turn.new.input in
      let now = keeper_view g.D.Disk.seen g.D.Disk.may_leave c.turn.new.keeper (g.S.Sink.taken c.turn.new.out) in
      serves_on before to now (subst (λ w. ServesNext b (lines ++ before.more) from to now w) (c.in_default.ensures.none refl) (c.in_ok-went.ensures.serves b (lines ++ before.more) before.serves));
}

pub returns-in_err-went-clause-crash : goal.returns-in_err-went-clause-crash
returns-in_err-went-clause-crash g c = λ b lines s file m.
    let before = c.loop-turn.invariant.served b lines s in
    leaves_on before (g.S.Sink.taken c.turn.new.out) file (c.in_err-went.ensures.crash b (lines ++ before.more) before.serves file m)

pub returns-in_err-went-clause-cause : goal.returns-in_err-went-clause-cause
returns-in_err-went-clause-cause g c = λ b lines s.
    let before = c.loop-turn.invariant.served b lines s in
    let now = keeper_view g.D.Disk.seen g.D.Disk.may_leave c.turn.new.keeper (g.S.Sink.taken c.turn.new.out) in
    let faults = g.D.Disk.faults c.turn.new.keeper.log.disk in
    let failed = g.S.Sink.failed c.turn.new.out in
    let unread = g.I.LineSource.failed c.turn.new.input in
    passed_on c.from_residual.result c.from_residual.ensures.1
    (λ e is. subst (λ n. WhyNotServed n faults unread failed now e) c.loop-turn.invariant.faultless
    (subst (λ f. WhyNotServed (g.D.Disk.faults c.loop-turn.keeper.log.disk) faults unread failed now f) (sym is) (c.in_err-went.ensures.cause b (lines ++ before.more) before.serves)))

pub returns-in-Some-pause_after-clause-serves : goal.returns-in-Some-pause_after-clause-serves
returns-in-Some-pause_after-clause-serves g c = λ b lines s.
    let before = c.loop-turn.invariant.served b lines s in
    let to = g.I.LineSource.remaining c.turn.new.input in
    let now = keeper_view g.D.Disk.seen g.D.Disk.may_leave c.turn.new.keeper (g.S.Sink.taken c.turn.new.out) in
    serves_until before to now c.args.limit c.in_ok-went.went c.is_large.result c.in-Some-pause_after.paused c.in-Some-pause_after.ensures.some c.is_large.ensures.idle c.is_large.ensures.large c.in_ok-went.ensures.ended c.in_ok-went.ensures.waiting (c.in_ok-went.ensures.serves b (lines ++ before.more) before.serves)

pub returns-in-Some-pause_after-clause-crash : goal.returns-in-Some-pause_after-clause-crash
returns-in-Some-pause_after-clause-crash g c = λ b lines s file m.
    let before = c.loop-turn.invariant.served b lines s in
    leaves_on before (g.S.Sink.taken c.turn.new.out) file (c.in_ok-went.ensures.crash b (lines ++ before.more) before.serves file m)

-- ---- the gates that a crash leaves

pub returns-in_err-went-clause-shut : goal.returns-in_err-went-clause-shut
returns-in_err-went-clause-shut g c = λ mixes b lines s file m.
    let before = c.loop-turn.invariant.served b lines s in
    c.turn.ensures.shut mixes b (lines ++ before.more) before.serves file m

pub returns-in-Some-pause_after-clause-shut : goal.returns-in-Some-pause_after-clause-shut
returns-in-Some-pause_after-clause-shut g c = λ mixes b lines s file m.
    let before = c.loop-turn.invariant.served b lines s in
    c.turn.ensures.shut mixes b (lines ++ before.more) before.serves file m
