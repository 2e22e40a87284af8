use Rattle.std.proofs.Common.{◌≡◌, ℕ, subst, ◌<◌, ◌≤◌, ◌+◌, ◌*◌, ◌++◌, take, drop, [], ◌∷◌, Some, None, refl, length, sym, ap, ◌∙◌, arith, rules, below_more, add-one, slice_index_or, option_map, if◌then◌else◌, box_value}
use Rattle.std.proofs.lemmas.List.{take_at}
use Rattle.pb_verify.specs.Words.{slots, insn_at, judged_by, merge, if_leads, outs, in_at, frame_before, frame_after, faults, access_at, effect_of, effect_at, next_imm, IsNextImm, with_next}
use Rattle.pb_verify.specs.Within.{IsWithinIf}
use Rattle.pb_verify.proofs.PointersWithin.{within_arriving, within_if_more, within_push, none_within}
use Rattle.pb_accepted.proofs.FramesAfter.{outs_more, in_is, outs_none}
use Rattle.pb_verify.proofs.Pairs.{behind_pair}
use Rattle.pb_verify.proofs.Resolved.{none_resolved, resolved_more, no_pair_before, all_resolved}
use Rattle.pb_verify.proofs.Pending.{before_next, before_past, merge_none, not_here, none_broken}
use Rattle.pb_verify.proofs.verifier.verify_for.Goals as goal
use Rattle.pb_verify.proofs.verifier.verify_for.Goals.{After-arrive-is_reached}

pub loop-slot-init : goal.loop-slot-init
loop-slot-init c = grind (arith, outs_none, none_resolved, none_within, c.in_ok-jumps.ensures.len, c.slots.ensures.slots, c.in_ok-jumps.ensures.each, c.entry-frame.ensures, c.args.program.insns, c.in_ok-ops.ensures.len, c.in_ok-ops.ensures.items)

pub loop-slot-preserved-in_default : goal.loop-slot-preserved-in_default
loop-slot-preserved-in_default c =
    let n = c.loop-slot.slot in
    let p = c.args.program.insns in
    let none : insn_at p n ≡ None = sym c.at.ensures ∙ c.in_default.is in
    record {
      len = c.loop-slot.invariant.len;
      known = λ k l h.
          let past : n < k = omega (arith, l) in
          c.loop-slot.invariant.known k (omega (arith, l)) h ∙ sym (before_past p k n past none);
      most = let most = c.loop-slot.invariant.most in omega (arith, most);
      pair = λ h. let most = c.loop-slot.invariant.most in absurd (omega (arith, most, h));
      fine = below_more (λ m. faults (judged_by c.args.version c.args.program c.args.helpers) m ≡ []) n c.loop-slot.invariant.fine (rw none refl);
      count = let count = c.loop-slot.invariant.count in let more = c.push_reserved.ensures.len in omega (arith, count, more);
      room = let room = c.loop-slot.invariant.room in let same = c.push_reserved.ensures.capacity in omega (arith, room, same);
      resolved = resolved_more p n c.loop-slot.ops.items _ c.resolve_next.result c.loop-slot.invariant.resolved c.push_reserved.ensures.items (λ i at. let wrong : None ≡ Some i = sym none ∙ at in absurd (cc)) (λ m i same at. let first : c.saturating_sub.result ≡ m = search rules in c.resolve_next.ensures i (c.at-first.ensures ∙ ap (λ k. insn_at p k) first ∙ at));
      near = rw (outs_more p n, none) (within_push (n * 2147483648) ((n + 1) * 2147483648) _ None (omega arith) c.loop-slot.invariant.near tt);
    }

insn_is : (c : After-arrive-is_reached) → insn_at c.args.program.insns c.loop-slot.slot ≡ Some c.in-Some.insn
insn_is c = sym c.at.ensures ∙ c.in-Some.is

-- what `arrive` reports is the frame before the slot, as the definition has it
known_is : (c : After-arrive-is_reached) → (if c.arrive-is_reached.result then Some c.arrive-is_reached.new.frame else None) ≡ in_at c.args.program.insns c.loop-slot.slot
known_is c = grind (arith, in_is, c.loop-slot.slot, c.args.program.insns, c.loop-slot.invariant.known, c.arrive-is_reached.ensures.known, c.loop-slot.next, c.loop-slot.frame, c.deref_mut.ensures.value)

known_near : (c : After-arrive-is_reached) → IsWithinIf (c.loop-slot.slot * 2147483648) (if c.arrive-is_reached.result then Some c.arrive-is_reached.new.frame else None)
known_near c = grind (arith, known_is, in_is, within_arriving, c.loop-slot.slot, c.args.program.insns, c.loop-slot.invariant.near)

-- so near that no sum of a distance and an offset overflows
all_near : (c : After-arrive-is_reached) → IsWithinIf 4611686018427387904 (if c.arrive-is_reached.result then Some c.arrive-is_reached.new.frame else None)
all_near c = within_if_more (c.loop-slot.slot * 2147483648) 4611686018427387904 _ (omega arith) (known_near c)

pub code_at-requires-clause-near : goal.code_at-requires-clause-near
code_at-requires-clause-near c = all_near (goal.at.code_at-requires-clause-near c).After-arrive-is_reached

pub returns-in-Some-code_at-clause-refused : goal.returns-in-Some-code_at-clause-refused
returns-in-Some-code_at-clause-refused c = grind (arith, known_is, insn_is, c.code_at.ensures.value, c.code.ensures, c.in-Some-code_at.is, c.loop-slot.invariant.fine)

pub access_of-access-requires : goal.access_of-access-requires
access_of-access-requires c = grind (arith, all_near, c.in_default-code_at.ensures.reached)

pub step-requires : goal.step-requires
step-requires c = grind (arith, all_near, c.in_default-code_at.ensures.reached)

pub loop-slot-preserved : goal.loop-slot-preserved
loop-slot-preserved c =
    let n = c.loop-slot.slot in
    let p = c.args.program.insns in
    let at = (goal.at.loop-slot-preserved c).After-arrive-is_reached in
    let reached = c.in_default-code_at.ensures.reached in
    let insn = insn_is at in
    let low : c.loop-slot.next ≤ n = search rules in
    let known = rw reached at (known_is at) in
    let near = rw reached at (known_near at) in
    let found = rw (known_is at) at c.code_at.ensures.value in
    let out : frame_after (insn_at p n) (in_at p n) ≡ Some c.step.new.frame = rw (insn, ← known) (ap Some (sym c.step.ensures.value)) in
    let more : outs p (n + 1) ≡ outs p n ++ Some c.step.new.frame ∷ [] = outs_more p n ∙ ap (λ x. outs p n ++ x ∷ []) out in
    let taken : take c.loop-slot.jumps.len (c.arrive-is_reached.new.jumps ++ drop (length c.arrive-is_reached.new.jumps) c.loop-slot.jumps.items) ≡ c.arrive-is_reached.new.jumps = take_at _ _ _ (c.arrive-is_reached.ensures.len ∙ c.deref_mut.ensures.len) in
    let before = c.deref_mut-in-loop-slot.ensures.value ∙ taken in
    let long : length c.deref_mut-in-loop-slot.result.now ≡ slots p = ap length before ∙ c.arrive-is_reached.ensures.len ∙ ap length c.deref_mut.ensures.value ∙ c.loop-slot.invariant.len in
    record {
      len = rw (take_at c.spread.new.jumps _ c.loop-slot.jumps.len (c.spread.ensures.len ∙ c.deref_mut-in-loop-slot.ensures.len)) (c.spread.ensures.len ∙ long);
      known = λ k l h.
          let past : n < k = omega (arith, l) in
          let same = rw (not_here c.loop-slot.next k (omega (arith, l, low))) at (c.loop-slot.invariant.known k (omega (arith, l)) h) in
          let rest = ap (λ xs. option_map box_value (slice_index_or xs k None)) before ∙ ap (option_map box_value) (c.arrive-is_reached.ensures.rest k past ∙ ap (λ xs. slice_index_or xs k None) c.deref_mut.ensures.value) ∙ sym (merge_none _) ∙ same in
          rw (take_at c.spread.new.jumps _ c.loop-slot.jumps.len (c.spread.ensures.len ∙ c.deref_mut-in-loop-slot.ensures.len), more)
          (c.in_ok-next.ensures.each k past (rw long h) ∙ ap (λ o. merge o (if_leads (Some c.in-Some.insn) n k (Some c.step.new.frame))) rest ∙ ap (λ i. merge (frame_before p k (outs p n)) (if_leads i n k (Some c.step.new.frame))) (sym insn) ∙ sym (before_next p k n (Some c.step.new.frame) past));
      most = let most = c.in_ok-next.ensures.most in omega (arith, most);
      pair = λ h. rw add-one (behind_pair p n c.in-Some.insn insn (c.in_ok-next.ensures.pair h));
      fine = below_more (λ m. faults (judged_by c.args.version c.args.program c.args.helpers) m ≡ []) n c.loop-slot.invariant.fine (rw insn (none_broken _ (sym found ∙ c.in_default-code_at.is)));
      count = let count = c.loop-slot.invariant.count in let more = c.push_reserved-in-loop-slot.ensures.len in omega (arith, count, more);
      room = let room = c.loop-slot.invariant.room in let same = c.push_reserved-in-loop-slot.ensures.capacity in omega (arith, room, same);
      resolved = resolved_more p n c.loop-slot.ops.items _ c.resolve.result c.loop-slot.invariant.resolved c.push_reserved-in-loop-slot.ensures.items
          (λ i at.
          let same : c.in-Some.insn ≡ i = (let both : Some c.in-Some.insn ≡ Some i = sym insn ∙ at in cc) in
          let access : c.access_of-access.result ≡ access_at p n = rw (insn, ← known) c.access_of-access.ensures in
          subst (λ k. (h : ℕ) → IsNextImm h k → with_next h (effect_of c.resolve.result) ≡ effect_at n k (access_at p n)) same (subst (λ a. (h : ℕ) → IsNextImm h c.in-Some.insn → with_next h (effect_of c.resolve.result) ≡ effect_at n c.in-Some.insn a) access c.resolve.ensures))
          (λ m i same at. no_pair_before p m i c.in-Some.insn (next_imm c.resolve.result) at (rw same insn));
      near = rw more (within_push (n * 2147483648) ((n + 1) * 2147483648) _ _ (omega arith) c.loop-slot.invariant.near (within_if_more (n * 2147483648 + 2147483648) _ (Some c.step.new.frame) (omega arith) (c.step.ensures.near _ near)));
    }

pub new-requires-2-clause-resolved : goal.new-requires-2-clause-resolved
new-requires-2-clause-resolved c = grind (arith, all_resolved, c.in_ok-packed.ensures, c.args.program.insns, c.loop-slot.slot, c.loop-slot.ops.items, c.loop-slot.invariant.resolved)
