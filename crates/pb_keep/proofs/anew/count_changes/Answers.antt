use Rattle.std.proofs.Common.{◌≡◌, ◌+◌, ◌++◌, ◌∷◌, arith, [], length, map, take, drop, take-append-drop, IsUtf8, ap, refl, subst, sym, ◌∙◌}
use Rattle.std.proofs.lemmas.List.{append_assoc, length-append, map-append, take_all}
use Rattle.std.proofs.lemmas.Option.{slice_get_read}
use Rattle.pb_keep.specs.Words.{script_of}
use Rattle.pb_keep.specs.Causes.{IsOfReading, IsOfScript}
use Rattle.pb_keep.specs.Kept.{changes_of, reported_count, AreTexts}
use Rattle.pb_keep.proofs.Causing.{of_script, read_among}
use Rattle.pb_keep.proofs.Mapping.{passed_on}
use Rattle.pb_keep.proofs.Records.{map_more, no_changes, records_more, reported_on, texts_more}
use Rattle.pb_state.proofs.Taking.{take_with_next}
use Rattle.pb_keep.proofs.anew.count_changes.Goals as goal

pub loop-record-init : goal.loop-record-init
loop-record-init c = ([], no_changes, tt, grind arith)

pub loop-record-preserved : goal.loop-record-preserved
loop-record-preserved c =
    let i = c.loop-record.invariant in
    let records = c.args.records.now in
    let at = c.loop-record.record-index in
    let one = take_with_next records at c.record-item.result (slice_get_read records (length records) at c.record-item.result refl c.loop-record-test.true c.record-item.is) in
    let script = c.in_ok-batches.batches.items in
    let same = c.in_ok-batches.batches.ok.0 in (
      i.0 ++ script,
      ap (λ l. changes_of (map (λ v. v.items) l)) one
          ∙ ap changes_of (map_more (λ v. v.items) (take at records) c.record-item.result)
          ∙ records_more (map (λ v. v.items) (take at records)) c.record-item.result.items i.0 script i.1 (ap script_of (sym c.deref.ensures.value) ∙ c.in_ok-batches.ensures.ok),
      subst AreTexts (sym (ap (λ l. map (λ v. v.items) l) one ∙ map_more (λ v. v.items) (take at records) c.record-item.result))
          (texts_more (map (λ v. v.items) (take at records)) c.record-item.result.items i.2 (subst IsUtf8 c.deref.ensures.value c.in_ok-batches.ensures.text)),
      c.saturating_add-count.ensures ∙ ap (λ n. reported_count (c.loop-record.count + n)) (c.len.ensures ∙ same) ∙ ap (λ n. reported_count (n + length script)) i.3 ∙ reported_on (length i.0) (length script)
          ∙ ap reported_count (sym (length-append i.0 script)),
    )

pub returns-clause-counted : goal.returns-clause-counted
returns-clause-counted c =
    let i = c.loop-record.invariant in
    (i.0, ap (λ l. changes_of (map (λ v. v.items) l)) (sym (take_all c.loop-record.record-index c.args.records.now c.loop-record-test.false)) ∙ i.1, i.3)

pub returns-clause-texts : goal.returns-clause-texts
returns-clause-texts c =
    subst (λ l. AreTexts (map (λ v. v.items) l)) (take_all c.loop-record.record-index c.args.records.now c.loop-record-test.false) c.loop-record.invariant.2

-- a record that isn't read is one of them
pub returns-in_err-batches-clause-why : goal.returns-in_err-batches-clause-why
returns-in_err-batches-clause-why c =
    let records = c.args.records.now in
    let at = c.loop-record.record-index in
    let x = c.record-item.result in
    let one = take_with_next records at x (slice_get_read records (length records) at x refl c.loop-record-test.true c.record-item.is) in
    let e = c.in_err-batches.field-0.0 in
    let rest = drop (at + 1) records in
    let parts : take at records ++ x ∷ rest ≡ records = sym (append_assoc (take at records) (x ∷ []) rest) ∙ ap (λ l. l ++ rest) (sym one) ∙ take-append-drop (at + 1) records in
    let split = sym (map-append (λ v. v.items) (take at records) (x ∷ rest)) ∙ ap (map (λ v. v.items)) parts in
    let own = of_script x.items e (subst (λ b. IsOfScript b e) c.deref.ensures.value c.in_err-batches.ensures.why) in
    passed_on c.from_residual.result c.from_residual.ensures.1
    (λ f is. subst (IsOfReading (map (λ v. v.items) records)) (sym is)
    (subst (λ l. IsOfReading l e) split (read_among (map (λ v. v.items) (take at records)) x.items (map (λ v. v.items) rest) e own)))
