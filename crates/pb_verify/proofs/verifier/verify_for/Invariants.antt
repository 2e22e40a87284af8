use Rattle.std.proofs.Common.{◌≡◌, ℕ, ◌<◌, ◌≤◌, ◌+◌, ◌*◌, [], Some, None, length, vec_len, vec_capacity, slice_index_or, option_map, if◌then◌else◌, nat_eq, box_value}
use Rattle.pb_verify.specs.Words.{slots, insn_at, judged_by, merge, outs, frame_before, faults}
use Rattle.pb_verify.proofs.PointersWithin.{AllWithin}
use Rattle.pb_verify.proofs.Resolved.{AreResolvedTo}
use Rattle.pb_verify.proofs.verifier.verify_for.Given as goal

abbrev pub invariant-loop-slot : goal.invariant-loop-slot
invariant-loop-slot l = record {
  len : length l.jumps.items ≡ slots l.fn.program.insns;
  known : (k : ℕ) → l.slot ≤ k → k < slots l.fn.program.insns → merge (option_map box_value (slice_index_or l.jumps.items k None)) (if nat_eq k l.next then Some l.frame else None) ≡ frame_before l.fn.program.insns k (outs l.fn.program.insns l.slot);
  most : l.next ≤ l.slot + 1;
  pair : l.slot < l.next → insn_at l.fn.program.insns l.slot ≡ None;
  fine : (m : ℕ) → m < l.slot → faults (judged_by l.fn.version l.fn.program l.fn.helpers) m ≡ [];
  count : vec_len l.ops ≡ l.slot;
  room : slots l.fn.program.insns ≤ vec_capacity l.ops;
  resolved : AreResolvedTo l.fn.program.insns l.slot l.ops.items;
  near : AllWithin (l.slot * 2147483648) (outs l.fn.program.insns l.slot);
}
