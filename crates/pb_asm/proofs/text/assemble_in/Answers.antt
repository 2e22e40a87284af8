use Rattle.std.proofs.Common.{arith, ℕ, ◌≤◌, ◌<◌, length, subst}
use Rattle.pb_asm.specs.Words.{IsRefused, max_slots}
use Rattle.pb_asm.proofs.SlotCounts.{never_refused}
use Rattle.pb_asm.proofs.text.assemble_in.Goals as goal

pub unreachable-requires : goal.unreachable-requires
unreachable-requires c =
    let insns = c.in_ok-lines.lines.insns.items in
    let some : 0 < length insns = grind arith in
    let refused = subst (IsRefused c.args.profile insns) c.in-Err-NotInRange.field-0-is c.in-Err-NotInRange.ensures.err in
    never_refused c.args.profile insns some (subst (λ (n : ℕ). n ≤ max_slots c.args.profile) c.in_ok-lines.lines.counted c.in_ok-lines.ensures.most) refused.1
