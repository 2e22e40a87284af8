use Rattle.pb_asm.proofs.FirstFault.{first_is_told}
use Rattle.pb_asm.proofs.text.fault_is_first.Goals as goal

pub returns : goal.returns
returns c = first_is_told
