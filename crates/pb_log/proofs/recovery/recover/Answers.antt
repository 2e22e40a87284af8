use Rattle.std.proofs.Common.{◌≡◌, ◌≤◌, ℕ, List, [], inr, length, map, ap, sym, ◌∙◌, subst, arith, Vec, Global}
use Rattle.pb_log.specs.Records.{IsAtRest, blocks}
use Rattle.pb_log.proofs.ReadableFiles.{new_crash, new_at_rest, new_short, unwritten_left, readable_at_rest}
use Rattle.pb_log.proofs.recovery.recover.Goals as goal

-- ---- a file that isn't new

pub returns-then-len-gt1-clause-at_rest : goal.returns-then-len-gt1-clause-at_rest
returns-then-len-gt1-clause-at_rest g c clean =
    let file = g.D.Disk.seen c.args.disk.now in
    let own = map (λ (v : Vec ℕ Global). v.items) c.in_ok-records.records.items in
    let may_leave = g.D.Disk.may_leave c.find_records.new.disk in
    subst (λ (x : List ℕ). IsAtRest x may_leave c.in_ok-records.end own) (sym c.find_records.ensures.seen)
    (readable_at_rest file own c.in_ok-records.end may_leave (omega (arith, c.if-len-gt1.true, c.in_ok-records.ensures.bytes clean)) (c.in_ok-records.ensures.records clean) c.in_ok-records.ensures.end (λ x may. c.requires.restarted x (c.find_records.ensures.crash x may)))

-- ---- a new one

pub returns-in_err-write_at-clause-crash : goal.returns-in_err-write_at-clause-crash
returns-in_err-write_at-clause-crash g c clean rs its f left =
    let few : length (g.D.Disk.seen c.args.disk.now) ≤ 1 = omega (arith, c.if-len-gt1.false, c.in_ok-records.ensures.bytes (c.write_at.ensures.clean clean)) in
    new_crash (g.D.Disk.seen c.args.disk.now) (g.D.Disk.may_leave c.find_records.new.disk) (g.D.Disk.may_leave c.write_at.new.self) few (λ x may. c.requires.restarted x (c.find_records.ensures.crash x may)) c.write_at.ensures.crash rs its f left

pub returns-in_err-sync-clause-crash : goal.returns-in_err-sync-clause-crash
returns-in_err-sync-clause-crash g c clean rs its f left =
    let few : length (g.D.Disk.seen c.args.disk.now) ≤ 1 = omega (arith, c.if-len-gt1.false, c.in_ok-records.ensures.bytes (c.write_at.ensures.clean (c.sync.ensures.clean clean))) in
    new_crash (g.D.Disk.seen c.args.disk.now) (g.D.Disk.may_leave c.find_records.new.disk) (g.D.Disk.may_leave c.write_at.new.self) few (λ x may. c.requires.restarted x (c.find_records.ensures.crash x may)) c.write_at.ensures.crash rs its f (c.sync.ensures.crash f left)

pub returns-clause-crash : goal.returns-clause-crash
returns-clause-crash g c clean rs its f left =
    let few : length (g.D.Disk.seen c.args.disk.now) ≤ 1 = omega (arith, c.if-len-gt1.false, c.in_ok-records.ensures.bytes (c.write_at.ensures.clean (c.sync.ensures.clean clean))) in
    new_crash (g.D.Disk.seen c.args.disk.now) (g.D.Disk.may_leave c.find_records.new.disk) (g.D.Disk.may_leave c.write_at.new.self) few (λ x may. c.requires.restarted x (c.find_records.ensures.crash x may)) c.write_at.ensures.crash rs its f (c.sync.ensures.crash f left)

pub returns-clause-at_rest : goal.returns-clause-at_rest
returns-clause-at_rest g c clean =
    let may_leave = g.D.Disk.may_leave c.sync.new.self in
    let none : c.in_ok-records.records.items ≡ [] = c.in_ok-records.ensures.few (omega (arith, c.if-len-gt1.false)) in
    let end : c.in_ok-records.end ≡ 0 = c.in_ok-records.ensures.end ∙ ap (λ (l : List (Vec ℕ Global)). length (blocks 0 (map (λ v. v.items) l))) none in
    let written = new_at_rest (g.D.Disk.seen c.write_at.new.self) may_leave (c.in_ok-write_at.ensures.written (omega arith)) c.in_ok-sync.ensures.durable in
    subst (λ (l : List (Vec ℕ Global)). IsAtRest (g.D.Disk.seen c.sync.new.self) may_leave c.in_ok-records.end (map (λ v. v.items) l)) (sym none)
    (subst (λ (n : ℕ). IsAtRest (g.D.Disk.seen c.sync.new.self) may_leave n []) (sym end)
    (subst (λ (x : List ℕ). IsAtRest x may_leave 0 []) (sym c.sync.ensures.seen) written))

-- ---- the gates that a crash leaves

pub returns-in_err-records-clause-shut : goal.returns-in_err-records-clause-shut
returns-in_err-records-clause-shut g c clean rs readable f left =
    unwritten_left (g.D.Disk.seen c.args.disk.now) rs (g.D.Disk.may_leave c.find_records.new.disk) readable (λ x may. c.requires.restarted x (c.find_records.ensures.crash x may)) f left

pub returns-then-len-gt1-clause-shut : goal.returns-then-len-gt1-clause-shut
returns-then-len-gt1-clause-shut g c clean rs readable f left =
    unwritten_left (g.D.Disk.seen c.args.disk.now) rs (g.D.Disk.may_leave c.find_records.new.disk) readable (λ x may. c.requires.restarted x (c.find_records.ensures.crash x may)) f left

pub returns-in_err-write_at-clause-shut : goal.returns-in_err-write_at-clause-shut
returns-in_err-write_at-clause-shut g c clean rs readable f left =
    let few : length (g.D.Disk.seen c.args.disk.now) ≤ 1 = omega (arith, c.if-len-gt1.false, c.in_ok-records.ensures.bytes (c.write_at.ensures.clean clean)) in
    inr (new_short (g.D.Disk.seen c.args.disk.now) (g.D.Disk.may_leave c.find_records.new.disk) (g.D.Disk.may_leave c.write_at.new.self) few (λ x may. c.requires.restarted x (c.find_records.ensures.crash x may)) c.write_at.ensures.crash f left)

pub returns-in_err-sync-clause-shut : goal.returns-in_err-sync-clause-shut
returns-in_err-sync-clause-shut g c clean rs readable f left =
    let few : length (g.D.Disk.seen c.args.disk.now) ≤ 1 = omega (arith, c.if-len-gt1.false, c.in_ok-records.ensures.bytes (c.write_at.ensures.clean (c.sync.ensures.clean clean))) in
    inr (new_short (g.D.Disk.seen c.args.disk.now) (g.D.Disk.may_leave c.find_records.new.disk) (g.D.Disk.may_leave c.write_at.new.self) few (λ x may. c.requires.restarted x (c.find_records.ensures.crash x may)) c.write_at.ensures.crash f (c.sync.ensures.crash f left))

pub returns-clause-shut : goal.returns-clause-shut
returns-clause-shut g c clean rs readable f left =
    let few : length (g.D.Disk.seen c.args.disk.now) ≤ 1 = omega (arith, c.if-len-gt1.false, c.in_ok-records.ensures.bytes (c.write_at.ensures.clean (c.sync.ensures.clean clean))) in
    inr (new_short (g.D.Disk.seen c.args.disk.now) (g.D.Disk.may_leave c.find_records.new.disk) (g.D.Disk.may_leave c.write_at.new.self) few (λ x may. c.requires.restarted x (c.find_records.ensures.crash x may)) c.write_at.ensures.crash f (c.sync.ensures.crash f left))
