use Rattle.pb_core.proofs.Grows.{few_marks}
use Rattle.pb_core.proofs.shared.Shared.marks.Goals as goal

pub marks-requires : goal.marks-requires
marks-requires g c = few_marks _ _ _ _ _ c.self.invariant
