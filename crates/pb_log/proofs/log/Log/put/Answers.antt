use Rattle.std.proofs.Common.{◌≡◌, ◌+◌, ◌<◌, ◌^◌, ◌++◌, ◌∷◌, [], ℕ, List, length, inl, ap, sym, ◌∙◌, subst, arith}
use Rattle.sqlite_disk.specs.Disk.{Only, Torn}
use Rattle.pb_log.specs.Records.{blocks}
use Rattle.pb_log.proofs.TornBlocks.{first_crash, first_shut, second_crash, second_shut, staged_bytes, length-staged, more_of, staged_at, gate_is}
use Rattle.pb_log.proofs.Blocks.{short-push, length-blocks-push}
use Rattle.pb_log.proofs.log.Log.put.Goals as goal

-- the first write leaves the records as they were
pub returns-in_err-write_at-clause-crash : goal.returns-in_err-write_at-clause-crash
returns-in_err-write_at-clause-crash g c rs rest f left =
    inl (first_crash rs rest.short (length c.deref.result.now) c.args.self.now.end (g.D.Disk.seen c.args.self.now.disk) (g.D.Disk.may_leave c.args.self.now.disk) (g.D.Disk.may_leave c.write_at.new.self) rest c.write_at.ensures.crash f left)

pub returns-in_err-sync-clause-crash : goal.returns-in_err-sync-clause-crash
returns-in_err-sync-clause-crash g c rs rest f left =
    inl (first_crash rs rest.short (length c.deref.result.now) c.args.self.now.end (g.D.Disk.seen c.args.self.now.disk) (g.D.Disk.may_leave c.args.self.now.disk) (g.D.Disk.may_leave c.write_at.new.self) rest c.write_at.ensures.crash f (c.sync.ensures.crash f left))

-- the second with the new one or without
pub returns-in_err-write_at-2-clause-crash : goal.returns-in_err-write_at-2-clause-crash
returns-in_err-write_at-2-clause-crash g c rs rest f left =
    let end = c.args.self.now.end in let item = c.args.item.now in
    let bytes : c.deref.result.now ≡ staged_bytes rs rest.short end rest.ends_at item c.requires.short = c.deref.ensures.value ∙ c.in_ok-bytes.ensures in
    let is = staged_at rs rest.short end rest.ends_at item c.requires.short (g.D.Disk.seen c.args.self.now.disk) (g.D.Disk.seen c.write_at.new.self) c.deref.result.now rest.torn rest.is bytes c.in_ok-write_at.ensures.written c.write_at.ensures.others in
    second_crash rs rest.short end rest.ends_at item c.requires.short (more_of rs rest.short end rest.ends_at item c.requires.short (g.D.Disk.seen c.write_at.new.self)) (g.D.Disk.may_leave c.sync.new.self) (g.D.Disk.may_leave c.write_at-2.new.self) (subst (λ (x : List ℕ). Only x (g.D.Disk.may_leave c.sync.new.self)) is c.in_ok-sync.ensures.durable) c.write_at-2.ensures.crash f left

pub returns-in_err-sync-2-clause-crash : goal.returns-in_err-sync-2-clause-crash
returns-in_err-sync-2-clause-crash g c rs rest f left =
    let end = c.args.self.now.end in let item = c.args.item.now in
    let bytes : c.deref.result.now ≡ staged_bytes rs rest.short end rest.ends_at item c.requires.short = c.deref.ensures.value ∙ c.in_ok-bytes.ensures in
    let is = staged_at rs rest.short end rest.ends_at item c.requires.short (g.D.Disk.seen c.args.self.now.disk) (g.D.Disk.seen c.write_at.new.self) c.deref.result.now rest.torn rest.is bytes c.in_ok-write_at.ensures.written c.write_at.ensures.others in
    second_crash rs rest.short end rest.ends_at item c.requires.short (more_of rs rest.short end rest.ends_at item c.requires.short (g.D.Disk.seen c.write_at.new.self)) (g.D.Disk.may_leave c.sync.new.self) (g.D.Disk.may_leave c.write_at-2.new.self) (subst (λ (x : List ℕ). Only x (g.D.Disk.may_leave c.sync.new.self)) is c.in_ok-sync.ensures.durable) c.write_at-2.ensures.crash f (c.sync-2.ensures.crash f left)

pub returns-clause-crash : goal.returns-clause-crash
returns-clause-crash g c rs rest f left =
    let end = c.args.self.now.end in let item = c.args.item.now in
    let bytes : c.deref.result.now ≡ staged_bytes rs rest.short end rest.ends_at item c.requires.short = c.deref.ensures.value ∙ c.in_ok-bytes.ensures in
    let is = staged_at rs rest.short end rest.ends_at item c.requires.short (g.D.Disk.seen c.args.self.now.disk) (g.D.Disk.seen c.write_at.new.self) c.deref.result.now rest.torn rest.is bytes c.in_ok-write_at.ensures.written c.write_at.ensures.others in
    second_crash rs rest.short end rest.ends_at item c.requires.short (more_of rs rest.short end rest.ends_at item c.requires.short (g.D.Disk.seen c.write_at.new.self)) (g.D.Disk.may_leave c.sync.new.self) (g.D.Disk.may_leave c.write_at-2.new.self) (subst (λ (x : List ℕ). Only x (g.D.Disk.may_leave c.sync.new.self)) is c.in_ok-sync.ensures.durable) c.write_at-2.ensures.crash f (c.sync-2.ensures.crash f left)

-- and then the new record is on the disk
pub returns-clause-acknowledged : goal.returns-clause-acknowledged
returns-clause-acknowledged g c rs rest =
    let end = c.args.self.now.end in let item = c.args.item.now in
    let bytes : c.deref.result.now ≡ staged_bytes rs rest.short end rest.ends_at item c.requires.short = c.deref.ensures.value ∙ c.in_ok-bytes.ensures in
    let is = staged_at rs rest.short end rest.ends_at item c.requires.short (g.D.Disk.seen c.args.self.now.disk) (g.D.Disk.seen c.write_at.new.self) c.deref.result.now rest.torn rest.is bytes c.in_ok-write_at.ensures.written c.write_at.ensures.others in
    let more = more_of rs rest.short end rest.ends_at item c.requires.short (g.D.Disk.seen c.write_at.new.self) in
    let after : g.D.Disk.seen c.write_at-2.new.self ≡ blocks 0 (rs ++ item ∷ []) ++ 0 ∷ more =
    gate_is rs rest.short end rest.ends_at item c.requires.short more (g.D.Disk.seen c.write_at-2.new.self) (c.in_ok-write_at-2.ensures.written (omega arith)) (subst (λ (x : List ℕ). Torn end 1 x (g.D.Disk.seen c.write_at-2.new.self)) (c.sync.ensures.seen ∙ is) c.write_at-2.ensures.others) in
    record {
      torn = more;
      is = c.sync-2.ensures.seen ∙ after;
      ends_at = omega (arith, rest.ends_at, c.len.ensures, c.deref.ensures.len, ap length bytes, length-blocks-push rs item, length-staged rs rest.short end rest.ends_at item c.requires.short);
      short = short-push rs item rest.short c.requires.short;
      durable = subst (λ (x : List ℕ). Only x (g.D.Disk.may_leave c.sync-2.new.self)) (sym c.sync-2.ensures.seen) c.in_ok-sync-2.ensures.durable;
    }

-- ---- the gates that a crash leaves

pub returns-in_err-write_at-clause-shut : goal.returns-in_err-write_at-clause-shut
returns-in_err-write_at-clause-shut g c mixes rs rest f left =
    inl (first_shut rs rest.short (length c.deref.result.now) c.args.self.now.end (g.D.Disk.seen c.args.self.now.disk) (g.D.Disk.may_leave c.args.self.now.disk) (g.D.Disk.may_leave c.write_at.new.self) rest c.write_at.ensures.crash f left)

pub returns-in_err-sync-clause-shut : goal.returns-in_err-sync-clause-shut
returns-in_err-sync-clause-shut g c mixes rs rest f left =
    inl (first_shut rs rest.short (length c.deref.result.now) c.args.self.now.end (g.D.Disk.seen c.args.self.now.disk) (g.D.Disk.may_leave c.args.self.now.disk) (g.D.Disk.may_leave c.write_at.new.self) rest c.write_at.ensures.crash f (c.sync.ensures.crash f left))

pub returns-in_err-write_at-2-clause-shut : goal.returns-in_err-write_at-2-clause-shut
returns-in_err-write_at-2-clause-shut g c mixes rs rest f left =
    let end = c.args.self.now.end in let item = c.args.item.now in
    let bytes : c.deref.result.now ≡ staged_bytes rs rest.short end rest.ends_at item c.requires.short = c.deref.ensures.value ∙ c.in_ok-bytes.ensures in
    let is = staged_at rs rest.short end rest.ends_at item c.requires.short (g.D.Disk.seen c.args.self.now.disk) (g.D.Disk.seen c.write_at.new.self) c.deref.result.now rest.torn rest.is bytes c.in_ok-write_at.ensures.written c.write_at.ensures.others in
    second_shut rs rest.short end rest.ends_at item c.requires.short (more_of rs rest.short end rest.ends_at item c.requires.short (g.D.Disk.seen c.write_at.new.self)) (g.D.Disk.may_leave c.sync.new.self) (g.D.Disk.may_leave c.write_at-2.new.self) (subst (λ (x : List ℕ). Only x (g.D.Disk.may_leave c.sync.new.self)) is c.in_ok-sync.ensures.durable) (c.write_at-2.ensures.mixed (mixes c.sync.new.self) (omega (arith, c.if-self-ge-MAX_END.false))) f left

pub returns-in_err-sync-2-clause-shut : goal.returns-in_err-sync-2-clause-shut
returns-in_err-sync-2-clause-shut g c mixes rs rest f left =
    let end = c.args.self.now.end in let item = c.args.item.now in
    let bytes : c.deref.result.now ≡ staged_bytes rs rest.short end rest.ends_at item c.requires.short = c.deref.ensures.value ∙ c.in_ok-bytes.ensures in
    let is = staged_at rs rest.short end rest.ends_at item c.requires.short (g.D.Disk.seen c.args.self.now.disk) (g.D.Disk.seen c.write_at.new.self) c.deref.result.now rest.torn rest.is bytes c.in_ok-write_at.ensures.written c.write_at.ensures.others in
    second_shut rs rest.short end rest.ends_at item c.requires.short (more_of rs rest.short end rest.ends_at item c.requires.short (g.D.Disk.seen c.write_at.new.self)) (g.D.Disk.may_leave c.sync.new.self) (g.D.Disk.may_leave c.write_at-2.new.self) (subst (λ (x : List ℕ). Only x (g.D.Disk.may_leave c.sync.new.self)) is c.in_ok-sync.ensures.durable) (c.write_at-2.ensures.mixed (mixes c.sync.new.self) (omega (arith, c.if-self-ge-MAX_END.false))) f (c.sync-2.ensures.crash f left)

pub returns-clause-shut : goal.returns-clause-shut
returns-clause-shut g c mixes rs rest f left =
    let end = c.args.self.now.end in let item = c.args.item.now in
    let bytes : c.deref.result.now ≡ staged_bytes rs rest.short end rest.ends_at item c.requires.short = c.deref.ensures.value ∙ c.in_ok-bytes.ensures in
    let is = staged_at rs rest.short end rest.ends_at item c.requires.short (g.D.Disk.seen c.args.self.now.disk) (g.D.Disk.seen c.write_at.new.self) c.deref.result.now rest.torn rest.is bytes c.in_ok-write_at.ensures.written c.write_at.ensures.others in
    second_shut rs rest.short end rest.ends_at item c.requires.short (more_of rs rest.short end rest.ends_at item c.requires.short (g.D.Disk.seen c.write_at.new.self)) (g.D.Disk.may_leave c.sync.new.self) (g.D.Disk.may_leave c.write_at-2.new.self) (subst (λ (x : List ℕ). Only x (g.D.Disk.may_leave c.sync.new.self)) is c.in_ok-sync.ensures.durable) (c.write_at-2.ensures.mixed (mixes c.sync.new.self) (omega (arith, c.if-self-ge-MAX_END.false))) f (c.sync-2.ensures.crash f left)
