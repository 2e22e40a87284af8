use Rattle.law_texts.proofs.OperationsWritten.{operation_written}
use Rattle.law_texts.proofs.OperationsRead.{operation_read}
use Rattle.law_texts.proofs.scripts.operations_are_read_as_written.Goals as goal

pub returns : goal.returns
returns c = λ text x content. (operation_written text x content, operation_read text x content)
