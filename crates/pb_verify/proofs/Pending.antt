-- What is known at later slots while the verifier goes along: the frame that waits there is the join of all that was
-- sent so far.
use Rattle.std.proofs.Common.{◌≡◌, ℕ, suc, ◌+◌, ◌<◌, false, List, [], ◌∷◌, ◌++◌, Option, None, length, refl, arith, nat_eq}
use Rattle.std.proofs.lemmas.Bool.Decides.{nat_tests}
use Rattle.pb_verify.specs.Words.{Insn, insn_at, Frame, RuleCode, lowest_code, merge, if_leads, gather, frame_before, frame_after, outs, in_at}
use Rattle.pb_accepted.proofs.FramesAfter.{length-outs, outs_more}

-- what is gathered of one frame more is what was gathered before, merged with that frame where it leads there
gather_more : (p : List Insn) (n m : ℕ) (known : Option Frame) (fs : List (Option Frame)) (f : Option Frame) → gather p n m known (fs ++ f ∷ []) ≡ merge (gather p n m known fs) (if_leads (insn_at p (m + length fs)) (m + length fs) n f)
gather_more p n m known [] f = let e : m + 0 ≡ m = omega arith in rw e refl
gather_more p n m known (g ∷ gs) f =
    let e : m + suc (length gs) ≡ m + 1 + length gs = omega arith in
    rw e (gather_more p n (m + 1) (merge known (if_leads (insn_at p m) m n g)) gs f)

-- one frame more is merged into the frame before any slot but the first, where its instruction leads there
before_more : (p : List Insn) (n : ℕ) (fs : List (Option Frame)) (f : Option Frame) → 0 < n → frame_before p n (fs ++ f ∷ []) ≡ merge (frame_before p n fs) (if_leads (insn_at p (length fs)) (length fs) n f)
before_more p n fs f h =
    let e : nat_eq n 0 ≡ false = grind (arith, nat_tests) in
    let z : 0 + length fs ≡ length fs = omega arith in
    rw e (rw z at (gather_more p n 0 None fs f))

-- one slot more joins the frame after it to what is known at each later slot
pub before_next : (p : List Insn) (n m : ℕ) (f : Option Frame) → m < n → frame_before p n (outs p m ++ f ∷ []) ≡ merge (frame_before p n (outs p m)) (if_leads (insn_at p m) m n f)
before_next p n m f h = rw (length-outs p m) at (before_more p n (outs p m) f (omega arith))

pub merge_none : (f : Option Frame) → merge f None ≡ f
merge_none f = grind arith

-- a second slot brings nothing
pub before_past : (p : List Insn) (n m : ℕ) → m < n → insn_at p m ≡ None → frame_before p n (outs p (m + 1)) ≡ frame_before p n (outs p m)
before_past p n m h e = grind (arith, before_next, outs_more, merge_none)

-- where nothing is known after an instruction it sends nothing
none_leads : (i : Option Insn) (m n : ℕ) → if_leads i m n None ≡ None
none_leads i m n = grind arith

-- nor does an instruction that nothing leads to
pub before_unreached : (p : List Insn) (n m : ℕ) → m < n → frame_after (insn_at p m) (in_at p m) ≡ None → frame_before p n (outs p (m + 1)) ≡ frame_before p n (outs p m)
before_unreached p n m h e = grind (arith, before_next, outs_more, none_leads, merge_none)

pub not_here : (n m : ℕ) → n < m → nat_eq m n ≡ false
not_here n m h = grind arith

-- where no code is found none is listed
pub none_broken : (cs : List RuleCode) → lowest_code cs ≡ None → cs ≡ []
none_broken cs e = grind arith
