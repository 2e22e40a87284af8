use Rattle.std.proofs.Common.{◌≡◌, ◌+◌, ◌≤◌, [], length}
use Rattle.std.specs.List.{AllByRecursion}
use Rattle.pb_asm.specs.Words.{Fits, max_slots, IsOf, lines_left, lines_of}
use Rattle.pb_asm.specs.Texts.{insns_of_lines}
use Rattle.pb_asm.proofs.text.lines_in.Given as goal

abbrev pub invariant-loop-left : goal.invariant-loop-left
invariant-loop-left l = record {
  so_far : insns_of_lines l.profile l.index l.read.insns.items (lines_left l.left) ≡ insns_of_lines l.profile 0 [] (lines_of l.text);
  most : l.read.taken ≤ max_slots l.profile;
  fits : AllByRecursion Fits l.read.insns.items;
  of_profile : AllByRecursion (IsOf l.profile) l.read.insns.items;
  counted : l.index + length (lines_left l.left) ≤ length l.text + 1;
}

abbrev pub decreases-loop-left : goal.decreases-loop-left
decreases-loop-left l = length (lines_left l.left)
