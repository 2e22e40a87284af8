use Rattle.std.proofs.Common.{◌<◌, inl, length, refl, sym, ap, subst, ◌∙◌}
use Rattle.pb_base.specs.declared.limits.TheConstants.{COLUMNS}
use Rattle.pb_isa.specs.declared.limits.TheConstants.{RECORD_BYTES}
use Rattle.pb_helpers.specs.Record.{record_of, recorded_column}
use Rattle.pb_helpers.proofs.Filled.{record_in_front, is_filled}
use Rattle.pb_helpers.proofs.change.Record.new.Goals as goal

pub invariant_of-result : goal.invariant_of-result
invariant_of-result c =
    let r = record_of c.args.cell c.args.found.now c.args.acknowledged.0 in
    let bytes = c.first_bytes.result in
    let first = record_in_front r bytes RECORD_BYTES c.first_bytes.ensures.size c.first_bytes.ensures.record in
    (subst (λ bs. recorded_column bs < COLUMNS) (sym first) c.first_bytes.ensures.in_range, is_filled r bytes RECORD_BYTES (inl refl) c.first_bytes.ensures.size c.first_bytes.ensures.record)

pub returns-clause-record : goal.returns-clause-record
returns-clause-record c = record_in_front (record_of c.args.cell c.args.found.now c.args.acknowledged.0) c.first_bytes.result RECORD_BYTES c.first_bytes.ensures.size c.first_bytes.ensures.record

pub returns-clause-size : goal.returns-clause-size
returns-clause-size c = ap (λ bs. length bs) (record_in_front (record_of c.args.cell c.args.found.now c.args.acknowledged.0) c.first_bytes.result RECORD_BYTES c.first_bytes.ensures.size c.first_bytes.ensures.record) ∙ c.first_bytes.ensures.size
