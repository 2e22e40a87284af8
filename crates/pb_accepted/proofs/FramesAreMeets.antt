-- The frame before a slot is the meet of the frames that are sent there. It is shown of any property that a join has
-- exactly where both sides have it, since each fact that a frame says is such a property.
use Rattle.std.proofs.Common.{◌≡◌, ℕ, zero, suc, ◌+◌, ◌<◌, false, List, [], ◌∷◌, ◌++◌, Option, Some, None, length, get_or, refl, sym, subst, arith, nat_eq, ◌↔◌, IfSome}
use Rattle.std.proofs.lemmas.Bool.Decides.{leb_tells, nat_tests}
use Rattle.std.proofs.Math.ListN.{get_or-append}
use Rattle.std.proofs.Math.Seq.{get_or-append_seam}
use Rattle.std.proofs.lemmas.List.{get_or_past}
use mathlib.Core.Logic.{inl, inr}
use Rattle.pb_accepted.specs.Words.{Insn, insn_at, Frame, join, entry_frame}
use Rattle.pb_accepted.specs.Arriving.{merge, if_leads, gather, frame_before, frame_after, outs, in_at}
use Rattle.pb_accepted.specs.Ways.{out_at, IsWay, Fact, HasKind, HasByte, Says, FramesAreMeets}
use Rattle.pb_kinds.proofs.JoinIsMeet.{join_is_meet}
use Rattle.pb_accepted.proofs.FramesAfter.{length-outs}

-- a property of the frame, where there is one
abbrev Of : (Frame → Type 0) → Option Frame → Type 0
Of P None = Unit {0}
Of P (Some f) = P f

-- the join has it exactly where both have it
abbrev Meets : (Frame → Type 0) → Type 0
Meets P = (a b : Frame) → P (join a b) ↔ (P a × P b)

-- so has what two ways say in common, also where one of them isn't there
of_merge : (P : Frame → Type 0) → Meets P → (a b : Option Frame) → Of P (merge a b) ↔ (Of P a × Of P b)
of_merge x meets a b = grind arith

-- where there is no frame nothing is sent, which has every property
none_sent : (P : Frame → Type 0) (i : Option Insn) (m n : ℕ) → Of P (if_leads i m n None)
none_sent x i m n = grind arith

-- the frames that are sent to slot n from the slots from m on
abbrev EachSent : (Frame → Type 0) → List Insn → ℕ → ℕ → List (Option Frame) → Type 0
EachSent P p n m fs = (j : ℕ) → Of P (if_leads (insn_at p (m + j)) (m + j) n (get_or fs j None))

each_sent : (P : Frame → Type 0) (p : List Insn) (n m : ℕ) (f : Option Frame) (fs : List (Option Frame)) → Of P (if_leads (insn_at p m) m n f) → EachSent P p n (m + 1) fs → EachSent P p n m (f ∷ fs)
each_sent P p n m f fs h k zero = let e : m + 0 ≡ m = omega arith in rw e h
each_sent P p n m f fs h k (suc j) = let e : m + suc j ≡ m + 1 + j = omega arith in rw e (k j)

first_sent : (P : Frame → Type 0) (p : List Insn) (n m : ℕ) (f : Option Frame) (fs : List (Option Frame)) → EachSent P p n m (f ∷ fs) → Of P (if_leads (insn_at p m) m n f)
first_sent P p n m f fs k = let e : m + 0 ≡ m = omega arith in rw e at (k 0)

later_sent : (P : Frame → Type 0) (p : List Insn) (n m : ℕ) (f : Option Frame) (fs : List (Option Frame)) → EachSent P p n m (f ∷ fs) → EachSent P p n (m + 1) fs
later_sent P p n m f fs k j = let e : m + suc j ≡ m + 1 + j = omega arith in rw e at (k (suc j))

-- what is gathered has the property exactly where what was known has it and each frame that is sent
of_gathered : (P : Frame → Type 0) → Meets P → (p : List Insn) (n m : ℕ) (known : Option Frame) (fs : List (Option Frame)) → Of P (gather p n m known fs) ↔ (Of P known × EachSent P p n m fs)
of_gathered P meets p n m known [] = ((λ h. (h, λ j. none_sent P (insn_at p (m + j)) (m + j) n)), (λ h. h.0))
of_gathered P meets p n m known (f ∷ fs) =
    let rest = of_gathered P meets p n (m + 1) (merge known (if_leads (insn_at p m) m n f)) fs in
    let both = of_merge P meets known (if_leads (insn_at p m) m n f) in (
      (λ h. let r = rest.0 h in let b = both.0 r.0 in (b.0, each_sent P p n m f fs b.1 r.1)),
      (λ h. rest.1 (both.1 (h.0, first_sent P p n m f fs h.1), later_sent P p n m f fs h.1)),
    )

one_more : (n m : ℕ) (xs : List (Option Frame)) (x y : Option Frame) → length xs ≡ n → m < suc n → (m < n → get_or xs m None ≡ y) → (m ≡ n → x ≡ y) → get_or (xs ++ x ∷ []) m None ≡ y
one_more n m xs x y l h before last = grind (arith, leb_tells, inl, get_or-append, inr, get_or-append_seam)

-- the frame after slot m stands at its place in the list
out_in : (p : List Insn) (n m : ℕ) → m < n → get_or (outs p n) m None ≡ out_at p m
unfolding outs in_at
out_in p zero m h = absurd (omega arith)
out_in p (suc n) m h =
    one_more n m (outs p n) (frame_after (insn_at p n) (frame_before p n (outs p n))) (out_at p m) (length-outs p n) h (out_in p n m) (λ e. rw e refl)

in_later : (p : List Insn) (n : ℕ) → 0 < n → in_at p n ≡ gather p n 0 None (outs p n)
unfolding in_at
in_later p n h = let e : nat_eq n 0 ≡ false = grind (arith, nat_tests) in rw e refl

-- each frame that is sent to slot n is the frame after an earlier instruction that leads to it
to_ways : (P : Frame → Type 0) (p : List Insn) (n : ℕ) → EachSent P p n 0 (outs p n) → (m : ℕ) (g : Frame) → IsWay p n m g → P g
to_ways P p n k m g w =
    let e : 0 + m ≡ m = omega arith in
    let sent_m = rw (e, out_in p n m w.earlier, w.leads) at (k m) in
    sent_m

-- what is sent from an earlier slot is a way, if anything is
way_or_none : (P : Frame → Type 0) (p : List Insn) (n m : ℕ) (s : Option Frame) → m < n → if_leads (insn_at p m) m n (out_at p m) ≡ s → ((m : ℕ) (g : Frame) → IsWay p n m g → P g) → Of P s
way_or_none x p n m s l e k = grind arith

-- and what holds on every way holds of each frame that is sent
from_ways : (P : Frame → Type 0) (p : List Insn) (n : ℕ) → ((m : ℕ) (g : Frame) → IsWay p n m g → P g) → EachSent P p n 0 (outs p n)
from_ways P p n k j = grind (arith, leb_tells, inl, out_in, way_or_none, inr, get_or_past, length-outs, none_sent)

-- each fact stands in a join exactly where both sides say it
says_meets : (x : Fact) → Meets (λ f. Says f x)
says_meets (HasKind r k) a b = (join_is_meet a b).kinds r k
says_meets (HasByte i) a b = (join_is_meet a b).bytes i

-- the frame before a later slot says exactly what all ways there say
later : (p : List Insn) (n : ℕ) (o : Option Frame) → o ≡ gather p n 0 None (outs p n) → IfSome o (λ f. (x : Fact) → Says f x ↔ ((m : ℕ) (g : Frame) → IsWay p n m g → Says g x))
later p n None e = tt
later p n (Some f) e = λ x.
    let P : Frame → Type 0 = λ g. Says g x in
    let all = of_gathered P (says_meets x) p n 0 None (outs p n) in (
      (λ h. let o : Of P (gather p n 0 None (outs p n)) = rw (← e) h in to_ways P p n (all.0 o).1),
      (λ k. let o : Of P (gather p n 0 None (outs p n)) = all.1 (tt, from_ways P p n k) in subst (λ t. Of P t) (sym e) o),
    )

-- where there is no frame before a slot, no earlier instruction that has one leads there
no_way : (p : List Insn) (n m : ℕ) (g : Frame) → 0 < n → in_at p n ≡ None → ¬ (IsWay p n m g)
no_way p n m g h e w =
    let P : Frame → Type 0 = λ f. ⊥ in
    let all = of_gathered P (λ a b. ((λ x. absurd x), (λ x. x.0))) p n 0 None (outs p n) in
    let o : Of P (gather p n 0 None (outs p n)) = rw (← in_later p n h, e) tt in
    to_ways P p n (all.0 o).1 m g w

entry_first : (p : List Insn) → in_at p 0 ≡ Some entry_frame
unfolding in_at
entry_first p = refl

-- of every list of instructions
pub frames_are_meets : FramesAreMeets
frames_are_meets p = grind (arith, entry_first, later, in_later, no_way)
