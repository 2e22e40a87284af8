use Rattle.pb_parse.proofs.FieldsRefused.{blames_field}
use Rattle.pb_parse.proofs.FieldsTold.{field_fault_told}
use Rattle.pb_parse.proofs.TooManyEvents.{told_too_many}
use Rattle.pb_parse.proofs.schedule.laws.schedule_faults_are_told_where_they_are.Goals as goal

pub returns-clause-field : goal.returns-clause-field
returns-clause-field c = blames_field

pub returns-clause-told : goal.returns-clause-told
returns-clause-told c = field_fault_told

pub returns-clause-too_many : goal.returns-clause-too_many
returns-clause-too_many c = told_too_many
