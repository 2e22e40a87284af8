use Rattle.std.proofs.Common.{◌≡◌, ◌∷◌, [], List, ℕ, length, inl, sym, ◌∙◌, subst, arith}
use Rattle.sqlite_disk.specs.Disk.{Only}
use Rattle.pb_log.proofs.Copies.{front_crash, gate_crash, gate_opened, gate_stands, last_crash, rest_stands}
use Rattle.pb_log.proofs.copying.write_whole.Goals as goal

-- ---- the first gate

pub returns-in_err-write_at-clause-crash : goal.returns-in_err-write_at-clause-crash
returns-in_err-write_at-clause-crash g c none f left =
    inl (gate_crash (g.E.Disk.seen c.args.disk.now) (g.E.Disk.may_leave c.args.disk.now) (g.E.Disk.may_leave c.write_at.new.self) none c.requires.restarted c.write_at.ensures.crash f left)

pub returns-in_err-sync-clause-crash : goal.returns-in_err-sync-clause-crash
returns-in_err-sync-clause-crash g c none f left =
    inl (gate_crash (g.E.Disk.seen c.args.disk.now) (g.E.Disk.may_leave c.args.disk.now) (g.E.Disk.may_leave c.write_at.new.self) none c.requires.restarted c.write_at.ensures.crash f (c.sync.ensures.crash f left))

-- ---- what comes after it

pub returns-in_err-write_at-2-clause-crash : goal.returns-in_err-write_at-2-clause-crash
returns-in_err-write_at-2-clause-crash g c none f left =
    let is = gate_stands (g.E.Disk.seen c.args.disk.now) (g.E.Disk.seen c.write_at.new.self) none (c.in_ok-write_at.ensures.written (omega arith)) c.write_at.ensures.others in
    inl (front_crash (length c.args.rest.now) (g.E.Disk.seen c.write_at.new.self) (g.E.Disk.may_leave c.sync.new.self) (g.E.Disk.may_leave c.write_at-2.new.self) is c.in_ok-sync.ensures.durable c.write_at-2.ensures.crash f left)

pub returns-in_err-sync-2-clause-crash : goal.returns-in_err-sync-2-clause-crash
returns-in_err-sync-2-clause-crash g c none f left =
    let is = gate_stands (g.E.Disk.seen c.args.disk.now) (g.E.Disk.seen c.write_at.new.self) none (c.in_ok-write_at.ensures.written (omega arith)) c.write_at.ensures.others in
    inl (front_crash (length c.args.rest.now) (g.E.Disk.seen c.write_at.new.self) (g.E.Disk.may_leave c.sync.new.self) (g.E.Disk.may_leave c.write_at-2.new.self) is c.in_ok-sync.ensures.durable c.write_at-2.ensures.crash f (c.sync-2.ensures.crash f left))

-- ---- the gate again

pub returns-in_err-write_at-3-clause-crash : goal.returns-in_err-write_at-3-clause-crash
returns-in_err-write_at-3-clause-crash g c none f left =
    let rest = c.args.rest.now in
    let is = gate_stands (g.E.Disk.seen c.args.disk.now) (g.E.Disk.seen c.write_at.new.self) none (c.in_ok-write_at.ensures.written (omega arith)) c.write_at.ensures.others in
    let stands = rest_stands rest (g.E.Disk.seen c.sync.new.self) (g.E.Disk.seen c.write_at-2.new.self) (c.sync.ensures.seen ∙ is) c.requires.some c.in_ok-write_at-2.ensures.written c.write_at-2.ensures.others in
    last_crash rest (g.E.Disk.seen c.write_at-2.new.self) (g.E.Disk.may_leave c.sync-2.new.self) (g.E.Disk.may_leave c.write_at-3.new.self) stands c.in_ok-sync-2.ensures.durable c.write_at-3.ensures.crash f left

pub returns-in_err-sync-3-clause-crash : goal.returns-in_err-sync-3-clause-crash
returns-in_err-sync-3-clause-crash g c none f left =
    let rest = c.args.rest.now in
    let is = gate_stands (g.E.Disk.seen c.args.disk.now) (g.E.Disk.seen c.write_at.new.self) none (c.in_ok-write_at.ensures.written (omega arith)) c.write_at.ensures.others in
    let stands = rest_stands rest (g.E.Disk.seen c.sync.new.self) (g.E.Disk.seen c.write_at-2.new.self) (c.sync.ensures.seen ∙ is) c.requires.some c.in_ok-write_at-2.ensures.written c.write_at-2.ensures.others in
    last_crash rest (g.E.Disk.seen c.write_at-2.new.self) (g.E.Disk.may_leave c.sync-2.new.self) (g.E.Disk.may_leave c.write_at-3.new.self) stands c.in_ok-sync-2.ensures.durable c.write_at-3.ensures.crash f (c.sync-3.ensures.crash f left)

pub returns-clause-crash : goal.returns-clause-crash
returns-clause-crash g c none f left =
    let rest = c.args.rest.now in
    let is = gate_stands (g.E.Disk.seen c.args.disk.now) (g.E.Disk.seen c.write_at.new.self) none (c.in_ok-write_at.ensures.written (omega arith)) c.write_at.ensures.others in
    let stands = rest_stands rest (g.E.Disk.seen c.sync.new.self) (g.E.Disk.seen c.write_at-2.new.self) (c.sync.ensures.seen ∙ is) c.requires.some c.in_ok-write_at-2.ensures.written c.write_at-2.ensures.others in
    last_crash rest (g.E.Disk.seen c.write_at-2.new.self) (g.E.Disk.may_leave c.sync-2.new.self) (g.E.Disk.may_leave c.write_at-3.new.self) stands c.in_ok-sync-2.ensures.durable c.write_at-3.ensures.crash f (c.sync-3.ensures.crash f left)

pub returns-clause-written : goal.returns-clause-written
returns-clause-written g c none =
    let rest = c.args.rest.now in
    let is = gate_stands (g.E.Disk.seen c.args.disk.now) (g.E.Disk.seen c.write_at.new.self) none (c.in_ok-write_at.ensures.written (omega arith)) c.write_at.ensures.others in
    let stands = rest_stands rest (g.E.Disk.seen c.sync.new.self) (g.E.Disk.seen c.write_at-2.new.self) (c.sync.ensures.seen ∙ is) c.requires.some c.in_ok-write_at-2.ensures.written c.write_at-2.ensures.others in
    c.sync-3.ensures.seen ∙ gate_opened rest (g.E.Disk.seen c.sync-2.new.self) (g.E.Disk.seen c.write_at-3.new.self) (c.sync-2.ensures.seen ∙ stands) (c.in_ok-write_at-3.ensures.written (omega arith)) c.write_at-3.ensures.others

pub returns-clause-durable : goal.returns-clause-durable
returns-clause-durable g c = subst (λ (x : List ℕ). Only x (g.E.Disk.may_leave c.sync-3.new.self)) (sym c.sync-3.ensures.seen) c.in_ok-sync-3.ensures.durable
