use Rattle.std.proofs.Common.{◌≡◌, ◌<◌, [], ℕ, List, IsTrue, length, inl, ap, sym, ◌∙◌, subst, arith}
use Rattle.std.proofs.lemmas.List.{nil_from_length}
use Rattle.sqlite_disk.specs.Disk.{Holds}
use Rattle.pb_log.specs.declared.fault.LogFault.{LogFault}
use Rattle.pb_log.specs.Causes.{WhyNotCopied, WhyNotRead}
use Rattle.pb_log.proofs.Copies.{copy_at_rest, copy_crash, copy_readable, empty_crash, reads_within, why_not_read_whole, why_not_written_whole}
use Rattle.pb_log.proofs.OpenedFiles.{err_if}
use Rattle.pb_log.proofs.log.Log.copy_into.Goals as goal

-- ---- nothing is written

pub returns-then-self-eq0-clause-crash : goal.returns-then-self-eq0-clause-crash
returns-then-self-eq0-clause-crash g c rs rest clean none f left = inl (empty_crash (g.E.Disk.seen c.args.copy.now.disk) (g.E.Disk.may_leave c.args.copy.now.disk) none c.requires.restarted f left)

pub returns-in_err-len-clause-crash : goal.returns-in_err-len-clause-crash
returns-in_err-len-clause-crash g c rs rest clean none f left = inl (empty_crash (g.E.Disk.seen c.args.copy.now.disk) (g.E.Disk.may_leave c.args.copy.now.disk) none c.requires.restarted f (c.len.ensures.crash f left))

pub returns-then-len-gt0-clause-crash : goal.returns-then-len-gt0-clause-crash
returns-then-len-gt0-clause-crash g c rs rest clean none f left = inl (empty_crash (g.E.Disk.seen c.args.copy.now.disk) (g.E.Disk.may_leave c.args.copy.now.disk) none c.requires.restarted f (c.len.ensures.crash f left))

pub returns-in_err-rest-clause-crash : goal.returns-in_err-rest-clause-crash
returns-in_err-rest-clause-crash g c rs rest clean none f left = inl (empty_crash (g.E.Disk.seen c.args.copy.now.disk) (g.E.Disk.may_leave c.args.copy.now.disk) none c.requires.restarted f (c.len.ensures.crash f left))

-- ---- what is written

pub returns-in_err-write_whole-clause-crash : goal.returns-in_err-write_whole-clause-crash
returns-in_err-write_whole-clause-crash g c rs rest clean none f left =
    let log = c.args.self.now in
    let bytes = c.deref.result.now in
    let value = c.deref.ensures.value in
    let some : 0 < log.end = grind (arith, c.if-self-eq0.false) in
    let size : length bytes ≡ log.end = ap length value ∙ c.in_ok-rest.ensures.size in
    let holds : Holds (g.D.Disk.seen log.disk) 1 bytes = subst (λ (x : List ℕ). Holds (g.D.Disk.seen log.disk) 1 x) (sym value) (c.in_ok-rest.ensures.bytes clean) in
    copy_crash rs (g.D.Disk.seen log.disk) (g.D.Disk.may_leave log.disk) log.end rest some bytes size holds f (c.write_whole.ensures.crash (c.len.ensures.seen ∙ none) f left)

pub returns-clause-crash : goal.returns-clause-crash
returns-clause-crash g c rs rest clean none f left =
    let log = c.args.self.now in
    let bytes = c.deref.result.now in
    let value = c.deref.ensures.value in
    let some : 0 < log.end = grind (arith, c.if-self-eq0.false) in
    let size : length bytes ≡ log.end = ap length value ∙ c.in_ok-rest.ensures.size in
    let holds : Holds (g.D.Disk.seen log.disk) 1 bytes = subst (λ (x : List ℕ). Holds (g.D.Disk.seen log.disk) 1 x) (sym value) (c.in_ok-rest.ensures.bytes clean) in
    copy_crash rs (g.D.Disk.seen log.disk) (g.D.Disk.may_leave log.disk) log.end rest some bytes size holds f (c.write_whole.ensures.crash (c.len.ensures.seen ∙ none) f left)

pub returns-clause-copied : goal.returns-clause-copied
returns-clause-copied g c rs rest clean clean_copy =
    let log = c.args.self.now in
    let bytes = c.deref.result.now in
    let value = c.deref.ensures.value in
    let some : 0 < log.end = grind (arith, c.if-self-eq0.false) in
    let size : length bytes ≡ log.end = ap length value ∙ c.in_ok-rest.ensures.size in
    let holds : Holds (g.D.Disk.seen log.disk) 1 bytes = subst (λ (x : List ℕ). Holds (g.D.Disk.seen log.disk) 1 x) (sym value) (c.in_ok-rest.ensures.bytes clean) in
    let still : IsTrue (g.E.Disk.is_clean c.len.new.self) = sym c.write_whole.ensures.clean ∙ clean_copy in
    let none : g.E.Disk.seen c.args.copy.now.disk ≡ [] = nil_from_length (g.E.Disk.seen c.args.copy.now.disk) (omega (arith, c.if-len-gt0.false, c.in_ok-len.ensures.len still)) in
    copy_at_rest rs (g.D.Disk.seen log.disk) (g.D.Disk.may_leave log.disk) log.end rest some bytes size holds (g.E.Disk.seen c.write_whole.new.disk) (g.E.Disk.may_leave c.write_whole.new.disk)
    (c.in_ok-write_whole.ensures.written (c.len.ensures.seen ∙ none)) c.in_ok-write_whole.ensures.durable

pub returns-clause-readable : goal.returns-clause-readable
returns-clause-readable g c rs rest clean clean_copy =
    let log = c.args.self.now in
    let bytes = c.deref.result.now in
    let value = c.deref.ensures.value in
    let some : 0 < log.end = grind (arith, c.if-self-eq0.false) in
    let size : length bytes ≡ log.end = ap length value ∙ c.in_ok-rest.ensures.size in
    let holds : Holds (g.D.Disk.seen log.disk) 1 bytes = subst (λ (x : List ℕ). Holds (g.D.Disk.seen log.disk) 1 x) (sym value) (c.in_ok-rest.ensures.bytes clean) in
    let still : IsTrue (g.E.Disk.is_clean c.len.new.self) = sym c.write_whole.ensures.clean ∙ clean_copy in
    let none : g.E.Disk.seen c.args.copy.now.disk ≡ [] = nil_from_length (g.E.Disk.seen c.args.copy.now.disk) (omega (arith, c.if-len-gt0.false, c.in_ok-len.ensures.len still)) in
    copy_readable rs (g.D.Disk.seen log.disk) (g.D.Disk.may_leave log.disk) log.end rest some bytes size holds (g.E.Disk.seen c.write_whole.new.disk) (c.in_ok-write_whole.ensures.written (c.len.ensures.seen ∙ none))

-- ---- the file was empty

pub returns-in_err-write_whole-clause-kept_copy : goal.returns-in_err-write_whole-clause-kept_copy
returns-in_err-write_whole-clause-kept_copy g c clean_copy some =
    let still : IsTrue (g.E.Disk.is_clean c.len.new.self) = sym c.write_whole.ensures.clean ∙ clean_copy in
    let none : g.E.Disk.seen c.args.copy.now.disk ≡ [] = nil_from_length (g.E.Disk.seen c.args.copy.now.disk) (omega (arith, c.if-len-gt0.false, c.in_ok-len.ensures.len still)) in
    absurd (some none)

pub returns-clause-empty : goal.returns-clause-empty
returns-clause-empty g c clean_copy =
    let still : IsTrue (g.E.Disk.is_clean c.len.new.self) = sym c.write_whole.ensures.clean ∙ clean_copy in
    let none : g.E.Disk.seen c.args.copy.now.disk ≡ [] = nil_from_length (g.E.Disk.seen c.args.copy.now.disk) (omega (arith, c.if-len-gt0.false, c.in_ok-len.ensures.len still)) in
    none

pub returns-clause-kept_copy : goal.returns-clause-kept_copy
returns-clause-kept_copy g c clean_copy some =
    let still : IsTrue (g.E.Disk.is_clean c.len.new.self) = sym c.write_whole.ensures.clean ∙ clean_copy in
    let none : g.E.Disk.seen c.args.copy.now.disk ≡ [] = nil_from_length (g.E.Disk.seen c.args.copy.now.disk) (omega (arith, c.if-len-gt0.false, c.in_ok-len.ensures.len still)) in
    absurd (some none)

-- ---- why nothing is

pub returns-in_err-rest-clause-cause : goal.returns-in_err-rest-clause-cause
returns-in_err-rest-clause-cause g c rs rest =
    let log = c.args.self.now in
    let old = g.D.Disk.faults log.disk in let new = g.D.Disk.faults c.read_rest.new.disk in
    let was = g.E.Disk.faults c.args.copy.now.disk in let now = g.E.Disk.faults c.len.new.self in
    let file = g.E.Disk.seen c.args.copy.now.disk in
    err_if c.from_residual-in_err-rest.result c.in_err-rest.field-0.0 (λ (e : LogFault). IsTrue (g.D.Disk.is_clean c.read_rest.new.disk) → IsTrue (g.E.Disk.is_clean c.len.new.self) → WhyNotCopied old new was now log.end file e) c.from_residual-in_err-rest.ensures.1
    (λ clean clean_copy. why_not_read_whole old new was now log.end file c.in_err-rest.field-0.0 (c.in_err-rest.ensures.cause clean (reads_within rs (g.D.Disk.seen log.disk) (g.D.Disk.may_leave log.disk) log.end rest)))

pub returns-in_err-write_whole-clause-cause : goal.returns-in_err-write_whole-clause-cause
returns-in_err-write_whole-clause-cause g c rs rest =
    let log = c.args.self.now in
    let old = g.D.Disk.faults log.disk in let new = g.D.Disk.faults c.read_rest.new.disk in
    let was = g.E.Disk.faults c.args.copy.now.disk in let now = g.E.Disk.faults c.write_whole.new.disk in
    let file = g.E.Disk.seen c.args.copy.now.disk in
    let e = c.in_err-write_whole.field-0.0 in
    err_if c.from_residual-in_err-write_whole.result e (λ (f : LogFault). IsTrue (g.D.Disk.is_clean c.read_rest.new.disk) → IsTrue (g.E.Disk.is_clean c.write_whole.new.disk) → WhyNotCopied old new was now log.end file f) c.from_residual-in_err-write_whole.ensures.1
    (λ clean clean_copy. why_not_written_whole old new was now log.end file e (subst (λ (n : ℕ). WhyNotRead n now e) c.in_ok-len.ensures.faults c.in_err-write_whole.ensures.cause))
