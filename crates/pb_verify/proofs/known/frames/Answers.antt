use Rattle.std.proofs.Common.{◌≡◌, ℕ, ◌<◌, ◌≤◌, ◌+◌, ◌*◌, ◌++◌, take, drop, [], ◌∷◌, Some, None, refl, length, sym, ap, ◌∙◌, arith, rules, add-one, slice_index_or, option_map, if◌then◌else◌, box_value}
use Rattle.std.proofs.lemmas.List.{take_at}
use Rattle.pb_verify.specs.Words.{slots, insn_at, outs, in_at, frame_before, frame_after}
use Rattle.pb_verify.specs.Within.{IsWithinIf}
use Rattle.pb_verify.proofs.PointersWithin.{within_arriving, within_if_more, within_push, none_within}
use Rattle.pb_accepted.proofs.FramesAfter.{outs_more, in_is, outs_none}
use Rattle.pb_verify.proofs.Pairs.{behind_pair}
use Rattle.pb_verify.proofs.Pending.{before_next, before_past, before_unreached, merge_none, not_here}
use Rattle.pb_verify.proofs.KnownFrames.{none_known, known_more}
use Rattle.pb_verify.proofs.known.frames.Goals as goal
use Rattle.pb_verify.proofs.known.frames.Goals.{After-arrive-is_reached}

pub loop-slot-init : goal.loop-slot-init
loop-slot-init c = grind (arith, outs_none, none_known, none_within, c.in_ok-jumps.ensures.len, c.slots.ensures.slots, c.in_ok-jumps.ensures.each, c.entry-frame.ensures, c.args.program.now.insns, c.in_ok-known.ensures.len, c.in_ok-known.ensures.items)

-- a second slot
pub loop-slot-preserved-in_default : goal.loop-slot-preserved-in_default
loop-slot-preserved-in_default c =
    let n = c.loop-slot.slot in
    let p = c.args.program.now.insns in
    let none : insn_at p n ≡ None = sym c.at.ensures ∙ c.in_default.is in
    record {
      len = c.loop-slot.invariant.len;
      waits = λ k l h.
          let past : n < k = omega (arith, l) in
          c.loop-slot.invariant.waits k (omega (arith, l)) h ∙ sym (before_past p k n past none);
      most = let most = c.loop-slot.invariant.most in omega (arith, most);
      pair = λ h. let most = c.loop-slot.invariant.most in absurd (omega (arith, most, h));
      count = let count = c.loop-slot.invariant.count in let more = c.push_reserved.ensures.len in omega (arith, count, more);
      room = let room = c.loop-slot.invariant.room in let same = c.push_reserved.ensures.capacity in omega (arith, room, same);
      told = known_more p n c.loop-slot.known.items _ None c.loop-slot.invariant.told c.push_reserved.ensures.items (rw none refl);
      near = rw (outs_more p n, none) (within_push (n * 2147483648) ((n + 1) * 2147483648) _ None (omega arith) c.loop-slot.invariant.near tt);
    }

insn_is : (c : After-arrive-is_reached) → insn_at c.args.program.now.insns c.loop-slot.slot ≡ Some c.in-Some.insn
insn_is c = sym c.at.ensures ∙ c.in-Some.is

-- what `arrive` reports is the frame before the slot, as the definition has it
reached_is : (c : After-arrive-is_reached) → (if c.arrive-is_reached.result then Some c.arrive-is_reached.new.frame else None) ≡ in_at c.args.program.now.insns c.loop-slot.slot
reached_is c = grind (arith, in_is, c.loop-slot.slot, c.args.program.now.insns, c.loop-slot.invariant.waits, c.arrive-is_reached.ensures.known, c.loop-slot.next, c.loop-slot.frame, c.deref_mut.ensures.value)

reached_near : (c : After-arrive-is_reached) → IsWithinIf (c.loop-slot.slot * 2147483648) (if c.arrive-is_reached.result then Some c.arrive-is_reached.new.frame else None)
reached_near c = grind (arith, reached_is, in_is, within_arriving, c.loop-slot.slot, c.args.program.now.insns, c.loop-slot.invariant.near)

-- the jumps, once this slot's is taken
jumps_left : (c : After-arrive-is_reached) → take c.loop-slot.jumps.len (c.arrive-is_reached.new.jumps ++ drop (length c.arrive-is_reached.new.jumps) c.loop-slot.jumps.items) ≡ c.arrive-is_reached.new.jumps
jumps_left c = take_at _ _ _ (c.arrive-is_reached.ensures.len ∙ c.deref_mut.ensures.len)

long : (c : After-arrive-is_reached) → length c.arrive-is_reached.new.jumps ≡ slots c.args.program.now.insns
long c = c.arrive-is_reached.ensures.len ∙ ap length c.deref_mut.ensures.value ∙ c.loop-slot.invariant.len

low : (c : After-arrive-is_reached) → c.loop-slot.next ≤ c.loop-slot.slot
low c = let insn = insn_is c in search rules

-- what waits at a later slot
later : (c : After-arrive-is_reached) (k : ℕ) → c.loop-slot.slot < k → k < slots c.args.program.now.insns → option_map box_value (slice_index_or c.arrive-is_reached.new.jumps k None) ≡ frame_before c.args.program.now.insns k (outs c.args.program.now.insns c.loop-slot.slot)
later c k past h = grind arith

-- an instruction that nothing leads to
pub loop-slot-preserved-then-not-is_reached : goal.loop-slot-preserved-then-not-is_reached
loop-slot-preserved-then-not-is_reached c =
    let n = c.loop-slot.slot in
    let p = c.args.program.now.insns in
    let b = (goal.at.loop-slot-preserved-then-not-is_reached c).After-arrive-is_reached in
    let insn = insn_is b in
    let nothing : None ≡ in_at p n = rw c.if-not-is_reached.true at (reached_is b) in
    let out : frame_after (insn_at p n) (in_at p n) ≡ None = rw (insn, ← nothing) refl in
    record {
      len = rw (jumps_left b) (long b);
      waits = λ k l h.
          let past : n < k = omega (arith, l) in
          let elsewhere = not_here c.loop-slot.next k (let at = low b in omega (arith, past, at)) in
          rw (jumps_left b, elsewhere) (merge_none _ ∙ later b k past h ∙ sym (before_unreached p k n past out));
      most = let at = low b in omega (arith, at);
      pair = λ h. let at = low b in absurd (omega (arith, at, h));
      count = let count = c.loop-slot.invariant.count in let more = c.push_reserved-then-not-is_reached.ensures.len in omega (arith, count, more);
      room = let room = c.loop-slot.invariant.room in let same = c.push_reserved-then-not-is_reached.ensures.capacity in omega (arith, room, same);
      told = known_more p n c.loop-slot.known.items _ None c.loop-slot.invariant.told c.push_reserved-then-not-is_reached.ensures.items (rw (insn, ← nothing) refl);
      near = rw (outs_more p n, out) (within_push (n * 2147483648) ((n + 1) * 2147483648) _ None (omega arith) c.loop-slot.invariant.near tt);
    }

pub step-requires : goal.step-requires
step-requires c = grind (arith, within_if_more, reached_near, c.loop-slot.slot, c.if-not-is_reached.false)

pub loop-slot-preserved : goal.loop-slot-preserved
loop-slot-preserved c =
    let n = c.loop-slot.slot in
    let p = c.args.program.now.insns in
    let b = (goal.at.loop-slot-preserved c).After-arrive-is_reached in
    let insn = insn_is b in
    let known : Some c.arrive-is_reached.new.frame ≡ in_at p n = rw c.if-not-is_reached.false at (reached_is b) in
    let near = rw c.if-not-is_reached.false at (reached_near b) in
    let out : frame_after (insn_at p n) (in_at p n) ≡ Some c.step.new.frame = rw (insn, ← known) (ap Some (sym c.step.ensures.value)) in
    let more : outs p (n + 1) ≡ outs p n ++ Some c.step.new.frame ∷ [] = outs_more p n ∙ ap (λ x. outs p n ++ x ∷ []) out in
    let before = c.deref_mut-in-loop-slot.ensures.value ∙ jumps_left b in
    let all : length c.deref_mut-in-loop-slot.result.now ≡ slots p = ap length before ∙ long b in
    record {
      len = rw (take_at c.spread.new.jumps _ c.loop-slot.jumps.len (c.spread.ensures.len ∙ c.deref_mut-in-loop-slot.ensures.len)) (c.spread.ensures.len ∙ all);
      waits = grind (arith, take_at, later, before_next, c.step.new.frame, c.spread.new.jumps, c.loop-slot.jumps.len, c.spread.ensures.len, c.deref_mut-in-loop-slot.ensures.len, c.in_ok-next.ensures.each, c.in-Some.insn);
      most = let most = c.in_ok-next.ensures.most in omega (arith, most);
      pair = λ h. rw add-one (behind_pair p n c.in-Some.insn insn (c.in_ok-next.ensures.pair h));
      count = let count = c.loop-slot.invariant.count in let more = c.push_reserved-in-loop-slot.ensures.len in omega (arith, count, more);
      room = let room = c.loop-slot.invariant.room in let same = c.push_reserved-in-loop-slot.ensures.capacity in omega (arith, room, same);
      told = known_more p n c.loop-slot.known.items _ (Some c.arrive-is_reached.new.frame) c.loop-slot.invariant.told c.push_reserved-in-loop-slot.ensures.items (rw (insn, ← known) refl);
      near = rw more (within_push (n * 2147483648) ((n + 1) * 2147483648) _ _ (omega arith) c.loop-slot.invariant.near (within_if_more (n * 2147483648 + 2147483648) _ (Some c.step.new.frame) (omega arith) (c.step.ensures.near _ near)));
    }
