use Rattle.pb_files.proofs.FirstFaults.{first_unread_is_told, first_no_text_is_told, texts_are_no_fault}
use Rattle.pb_files.proofs.laws.first_file_fault_is_told.Goals as goal

pub returns-clause-unread : goal.returns-clause-unread
returns-clause-unread c = first_unread_is_told

pub returns-clause-no_text : goal.returns-clause-no_text
returns-clause-no_text c = first_no_text_is_told

pub returns-clause-texts : goal.returns-clause-texts
returns-clause-texts c = texts_are_no_fault
