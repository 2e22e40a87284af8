use Rattle.std.proofs.Common.{◌<◌, inr, length, refl, sym, ap, subst, ◌∙◌}
use Rattle.pb_base.specs.declared.limits.TheConstants.{COLUMNS}
use Rattle.pb_isa.specs.declared.limits.TheConstants.{MAX_RECORD_BYTES}
use Rattle.pb_helpers.specs.Record.{recorded_column}
use Rattle.pb_helpers.specs.OldRecord.{record_with_old}
use Rattle.pb_helpers.proofs.Filled.{record_in_front, is_filled}
use Rattle.pb_helpers.proofs.change.Record.with_old.Goals as goal

pub invariant_of-result : goal.invariant_of-result
invariant_of-result c =
    let r = record_with_old c.args.cell c.args.found.now c.args.acknowledged.0 c.args.old in
    let bytes = c.second_bytes.result in
    let first = record_in_front r bytes MAX_RECORD_BYTES c.second_bytes.ensures.size c.second_bytes.ensures.record in
    (subst (λ bs. recorded_column bs < COLUMNS) (sym first) c.second_bytes.ensures.in_range, is_filled r bytes MAX_RECORD_BYTES (inr refl) c.second_bytes.ensures.size c.second_bytes.ensures.record)

pub returns-clause-record : goal.returns-clause-record
returns-clause-record c = record_in_front (record_with_old c.args.cell c.args.found.now c.args.acknowledged.0 c.args.old) c.second_bytes.result MAX_RECORD_BYTES c.second_bytes.ensures.size c.second_bytes.ensures.record

pub returns-clause-size : goal.returns-clause-size
returns-clause-size c = ap (λ bs. length bs) (record_in_front (record_with_old c.args.cell c.args.found.now c.args.acknowledged.0 c.args.old) c.second_bytes.result MAX_RECORD_BYTES c.second_bytes.ensures.size c.second_bytes.ensures.record) ∙ c.second_bytes.ensures.size
