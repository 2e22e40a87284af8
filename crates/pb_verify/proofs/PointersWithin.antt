-- Pointers stay near: each instruction moves one by at most 2 ^ 31, and a join moves none. So no sum of the verifier
-- leaves its 64 bits, also of a program that is refused.
use Rattle.std.proofs.Common.{◌≡◌, ℕ, zero, suc, ◌+◌, ◌≤◌, Bool, cond, List, [], ◌∷◌, ◌++◌, Option, None, set, get_or, arith, slice_index_or}
use Rattle.pb_verify.specs.Words.{Insn, Reg, number, insn_at, Kind, Frame, pointwise, meet, same_kind, join, entry_frame, with_kind, merge, if_leads, gather, frame_before}
use Rattle.pb_verify.specs.Within.{IsNear, IsWithin, IsWithinIf}

-- no pointer is further than so far in any of the frames
pub record AllWithin (b : ℕ) (fs : List (Option Frame)) : Type 0 where
  pub every : (k : ℕ) → IsWithinIf b (slice_index_or fs k None)

near_set : (b : ℕ) (ks : List Kind) (i : ℕ) (k : Kind) → ((r : ℕ) → IsNear b (get_or ks r Kind.Unset)) → IsNear b k → (r : ℕ) → IsNear b (get_or (set ks i k) r Kind.Unset)
near_set b [] i k h n r = h r
near_set b (x ∷ ks) zero k h n zero = n
near_set b (x ∷ ks) zero k h n (suc r) = h (suc r)
near_set b (x ∷ ks) (suc i) k h n zero = h zero
near_set b (x ∷ ks) (suc i) k h n (suc r) = near_set b ks i k (λ j. h (suc j)) n r

-- a register is set to what is near
pub within_kind : (b : ℕ) (f : Frame) (r : Reg) (k : Kind) → IsWithin b f → IsNear b k → IsWithin b (with_kind f r k)
within_kind b f r k h n = record { each = near_set b f.kinds (number r) k h.each n }

near_meet : (b : ℕ) (t : Bool) (k : Kind) → IsNear b k → IsNear b (cond t k Kind.Unset)
near_meet b t k h = grind arith

near_both : (b : ℕ) (ks ms : List Kind) → ((r : ℕ) → IsNear b (get_or ks r Kind.Unset)) → (r : ℕ) → IsNear b (get_or (pointwise meet ks ms) r Kind.Unset)
near_both b [] ms h r = tt
near_both b (k ∷ ks) [] h r = tt
near_both b (k ∷ ks) (m ∷ ms) h zero = near_meet b (same_kind k m) k (h zero)
near_both b (k ∷ ks) (m ∷ ms) h (suc r) = near_both b ks ms (λ j. h (suc j)) r

-- a join keeps the pointers that both frames have, and makes no other
within_join : (b : ℕ) (f g : Frame) → IsWithin b f → IsWithin b (join f g)
unfolding join
within_join b f g h = record { each = near_both b f.kinds g.kinds h.each }

-- at entry both pointers are where their regions begin and end
within_entry : (b : ℕ) → IsWithin b entry_frame
unfolding entry_frame
within_entry b = grind arith

within_merge : (b : ℕ) (f g : Option Frame) → IsWithinIf b f → IsWithinIf b g → IsWithinIf b (merge f g)
within_merge b f g h k = grind (arith, within_join)

-- what is sent on is as near as the frame after the instruction
within_sent : (b : ℕ) (i : Option Insn) (m n : ℕ) (f : Option Frame) → IsWithinIf b f → IsWithinIf b (if_leads i m n f)
within_sent b i m n f h = grind arith

within_gathered : (p : List Insn) (b n m : ℕ) (known : Option Frame) (fs : List (Option Frame)) → IsWithinIf b known → ((k : ℕ) → IsWithinIf b (get_or fs k None)) → IsWithinIf b (gather p n m known fs)
within_gathered p b n m known [] h all = h
within_gathered p b n m known (f ∷ fs) h all =
    within_gathered p b n (m + 1) _ fs (within_merge b known _ h (within_sent b (insn_at p m) m n f (all zero))) (λ k. all (suc k))

within_choice : (b : ℕ) (t : Bool) (f g : Option Frame) → IsWithinIf b f → IsWithinIf b g → IsWithinIf b (cond t f g)
within_choice b t f g h k = grind arith

-- the frame before a slot is as near as the frames after all earlier ones
pub within_arriving : (p : List Insn) (b n : ℕ) (fs : List (Option Frame)) → AllWithin b fs → IsWithinIf b (frame_before p n fs)
within_arriving p b n fs h = grind (arith, within_choice, within_entry, within_gathered, h.every)

pub within_if_more : (a b : ℕ) (f : Option Frame) → a ≤ b → IsWithinIf a f → IsWithinIf b f
within_if_more a b f l h = grind arith

all_push : (b : ℕ) (fs : List (Option Frame)) (f : Option Frame) → ((k : ℕ) → IsWithinIf b (get_or fs k None)) → IsWithinIf b f → (k : ℕ) → IsWithinIf b (get_or (fs ++ f ∷ []) k None)
all_push b [] f h n zero = n
all_push b [] f h n (suc k) = tt
all_push b (g ∷ gs) f h n zero = h zero
all_push b (g ∷ gs) f h n (suc k) = all_push b gs f (λ j. h (suc j)) n k

-- one frame more, whose pointers may be further away than those before
pub within_push : (a b : ℕ) (fs : List (Option Frame)) (f : Option Frame) → a ≤ b → AllWithin a fs → IsWithinIf b f → AllWithin b (fs ++ f ∷ [])
within_push a b fs f l h n = record { every = all_push b fs f (λ k. within_if_more a b (get_or fs k None) l (h.every k)) n }

pub none_within : (fs : List (Option Frame)) → fs ≡ [] → AllWithin 0 fs
none_within fs e = rw e (record { every = λ k. tt })
