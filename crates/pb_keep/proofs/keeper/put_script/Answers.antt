use Rattle.std.proofs.Common.{◌≡◌, ◌∷◌, ◌++◌, [], length, Ok, IsUtf8, inl, ap, subst, sym, ◌∙◌, arith}
use Rattle.std.proofs.lemmas.Str.{IsUtf8-string_bytes}
use Rattle.pb_keep.specs.Words.{IsAtRest, header, script_of}
use Rattle.pb_keep.specs.Causes.{IsOfPut}
use Rattle.pb_keep.specs.Kept.{head_of, snapshot_records, IsLogOf}
use Rattle.pb_keep.specs.Waits.{changes_in}
use Rattle.std.proofs.lemmas.List.{append_assoc}
use Rattle.pb_keep.proofs.Causing.{put_why}
use Rattle.pb_keep.proofs.Mapping.{passed_on}
use Rattle.pb_keep.proofs.Records.{records_more, texts_more}
use Rattle.pb_keep.proofs.Putting.{waiting_is_read, before_or_after, rest_has_changes, rest_is_shut, no_change_waits, shut_file}
use Rattle.pb_keep.proofs.keeper.put_script.Goals as goal

pub returns-in_err-put-clause-crash : goal.returns-in_err-put-clause-crash
returns-in_err-put-clause-crash g c = λ origin changes log file left.
    let w = c.args.waiting.now in
    let read : script_of c.as_bytes.result.now ≡ Ok (changes_in w.items.items) = ap script_of c.as_bytes.ensures.value ∙ waiting_is_read w c.requires.waiting in
    let text : IsUtf8 c.as_bytes.result.now = subst IsUtf8 (sym c.as_bytes.ensures.value) (IsUtf8-string_bytes w.script) in
    before_or_after origin log.scripts changes (changes_in w.items.items) c.as_bytes.result.now file log.fits log.make read log.texts text (c.put.ensures.crash (header (head_of origin) ∷ (snapshot_records origin.snapshot ++ log.scripts)) log.at_rest file left)

pub returns-in_err-put-clause-cause : goal.returns-in_err-put-clause-cause
returns-in_err-put-clause-cause g c =
    let old = c.args.log.now in
    let now = c.put.new.self in
    passed_on c.from_residual.result c.from_residual.ensures.1
    (λ e is. subst (λ f. IsOfPut (g.D.Disk.faults old.disk) (g.D.Disk.faults now.disk) now.end f) (sym is)
    (put_why (g.D.Disk.faults old.disk) (g.D.Disk.faults now.disk) old.end now.end c.in_err-put.field-0.0 c.in_err-put.ensures.cause (λ begun. ap (λ l. l.end) (c.in_err-put.ensures.refused begun))))

pub returns-in_ok-put-clause-put : goal.returns-in_ok-put-clause-put
returns-in_ok-put-clause-put g c = λ origin changes log.
    let w = c.args.waiting.now in
    let read : script_of c.as_bytes.result.now ≡ Ok (changes_in w.items.items) = ap script_of c.as_bytes.ensures.value ∙ waiting_is_read w c.requires.waiting in
    let text : IsUtf8 c.as_bytes.result.now = subst IsUtf8 (sym c.as_bytes.ensures.value) (IsUtf8-string_bytes w.script) in
    let first = snapshot_records origin.snapshot in
    let now = c.put.new.self in
    let put = c.in_ok-put.ensures.acknowledged (header (head_of origin) ∷ (first ++ log.scripts)) log.at_rest in
    record {
      fits = log.fits;
      scripts = log.scripts ++ c.as_bytes.result.now ∷ [];
      at_rest = subst (λ rs. IsAtRest (g.D.Disk.seen now.disk) (g.D.Disk.may_leave now.disk) now.end (header (head_of origin) ∷ rs)) (append_assoc first log.scripts (c.as_bytes.result.now ∷ [])) put;
      make = records_more log.scripts c.as_bytes.result.now changes (changes_in w.items.items) log.make read;
      texts = texts_more log.scripts c.as_bytes.result.now log.texts text;
    }

pub returns-in_ok-put-clause-crash : goal.returns-in_ok-put-clause-crash
returns-in_ok-put-clause-crash g c = λ origin changes log file left.
    let w = c.args.waiting.now in
    let read : script_of c.as_bytes.result.now ≡ Ok (changes_in w.items.items) = ap script_of c.as_bytes.ensures.value ∙ waiting_is_read w c.requires.waiting in
    let text : IsUtf8 c.as_bytes.result.now = subst IsUtf8 (sym c.as_bytes.ensures.value) (IsUtf8-string_bytes w.script) in
    before_or_after origin log.scripts changes (changes_in w.items.items) c.as_bytes.result.now file log.fits log.make read log.texts text (c.put.ensures.crash (header (head_of origin) ∷ (snapshot_records origin.snapshot ++ log.scripts)) log.at_rest file left)

pub returns-else-waiting-gt0-clause-put : goal.returns-else-waiting-gt0-clause-put
returns-else-waiting-gt0-clause-put g c = λ origin changes log.
    let none : length (changes_in c.args.waiting.now.items.items) ≡ 0 = omega (arith, c.requires.waiting.count, c.if-waiting-gt0.false) in
    subst (λ l. IsLogOf origin l (g.D.Disk.seen c.args.log.now.disk) (g.D.Disk.may_leave c.args.log.now.disk) c.args.log.now.end)
    (sym (no_change_waits c.args.waiting.now none changes)) log

pub returns-else-waiting-gt0-clause-crash : goal.returns-else-waiting-gt0-clause-crash
returns-else-waiting-gt0-clause-crash g c = λ origin changes log file left.
    inl (rest_has_changes origin changes (g.D.Disk.seen c.args.log.now.disk) (g.D.Disk.may_leave c.args.log.now.disk) c.args.log.now.end log file left)

-- ---- the gates that a crash leaves

pub returns-in_err-put-clause-shut : goal.returns-in_err-put-clause-shut
returns-in_err-put-clause-shut g c = λ mixes origin changes log file left.
    let rs = header (head_of origin) ∷ (snapshot_records origin.snapshot ++ log.scripts) in
    shut_file rs c.as_bytes.result.now file (c.put.ensures.shut mixes rs log.at_rest file left)

pub returns-in_ok-put-clause-shut : goal.returns-in_ok-put-clause-shut
returns-in_ok-put-clause-shut g c = λ mixes origin changes log file left.
    let rs = header (head_of origin) ∷ (snapshot_records origin.snapshot ++ log.scripts) in
    shut_file rs c.as_bytes.result.now file (c.put.ensures.shut mixes rs log.at_rest file left)

pub returns-else-waiting-gt0-clause-shut : goal.returns-else-waiting-gt0-clause-shut
returns-else-waiting-gt0-clause-shut g c = λ mixes origin changes log file left.
    rest_is_shut origin changes (g.D.Disk.seen c.args.log.now.disk) (g.D.Disk.may_leave c.args.log.now.disk) c.args.log.now.end log file left
