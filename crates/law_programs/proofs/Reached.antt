-- The slots that have a frame are those that are reached.
use Rattle.std.proofs.Common.{◌≡◌, ◌≢◌, ℕ, zero, suc, ◌+◌, ◌<◌, Bool, true, false, ◌⊎◌, inl, inr, nat_eq, ℤ, pos, negsuc, List, [], ◌∷◌, Option, Some, None, refl, sym, ap, subst, ◌∙◌, arith, ◌↔◌, if◌then◌else◌, IfSome, Decides, Contains}
use Rattle.std.proofs.lemmas.List.Elements.{All-contains}
use Rattle.std.proofs.lemmas.Bool.{cases_lt}
use Rattle.std.proofs.lemmas.Bool.Decides.{Decides-eqb, Decides-or}
use Rattle.law_programs.specs.Words.{Insn, JudgedOf, insn_at, Kind, Frame, RuleCode, insn_rules, after, ahead, leads, has_slot, if_leads, frame_after, in_at, codes_at, faults, LeadsAreLater, IsWay, Fact, HasKind, Says, IsMeetOfWays, FramesAreMeets}
use Rattle.law_programs.specs.Targets.{JumpsTo, next_slot}
use Rattle.law_programs.specs.Breaks.{Breaks, RulesAreByCode}
use Rattle.law_programs.specs.Reached.{LeadsTo, IsUnreached, IsReachable, ByEntry, ByStep, TellsReached, IsCodeTold}
use Rattle.law_programs.proofs.Told.{each_one, stands_one}

-- ---- where instructions lead

-- n is the next slot, or one that is jumped to
abbrev Follows : ℕ → ℕ → Insn → Type 0
Follows m n i = (next_slot m i ≡ Some n) ⊎ JumpsTo m i n

Decides-none : (n : ℕ) → Decides (has_slot [] n) ⊥
Decides-none n = ((λ e. cc), (λ e. absurd e))

Decides-one : (n k : ℕ) → Decides (has_slot (k ∷ []) n) ((n ≡ k) ⊎ ⊥)
Decides-one n k = Decides-or (nat_eq n k) (has_slot [] n) (Decides-eqb n k) (Decides-none n)

-- one slot after it, and no jump
only_next : (m n k : ℕ) (i : Insn) → next_slot m i ≡ Some k → leads m i ≡ k ∷ [] → ¬ (JumpsTo m i n) → Decides (has_slot (leads m i) n) (Follows m n i)
only_next m n k i e l none = (
  (λ h. let d = (Decides-one n k).0 (subst (λ ms. has_slot ms n ≡ true) l h) in elim d as (λ _. Follows m n i) [ inl q ↦ inl (e ∙ ap Some (sym q)) | inr q ↦ absurd q ]),
  (λ h. subst (λ ms. has_slot ms n ≡ true) (sym l) ((Decides-one n k).1 (inl (elim h as (λ _. n ≡ k) [ inl q ↦ (let p : Some k ≡ Some n = sym e ∙ q in cc) | inr q ↦ absurd (none q) ])))),
)

Decides-ahead : (m n : ℕ) (o : ℤ) → Decides (has_slot (ahead m o) n) ((z : ℕ) × (o ≡ pos z) × (n ≡ m + 1 + z))
Decides-ahead m n (pos z) = (
  (λ h. elim ((Decides-one n (m + 1 + z)).0 h) as (λ _. (y : ℕ) × (pos z ≡ pos y) × (n ≡ m + 1 + y)) [ inl e ↦ (z, refl, e) | inr e ↦ absurd e ]),
  (λ h. let e : z ≡ h.0 = (let p = h.1 in cc) in (Decides-one n (m + 1 + z)).1 (inl (omega (arith, h.2)))),
)
Decides-ahead m n (negsuc z) = ((λ h. cc), (λ h. let e = h.1 in cc))

-- the verifier's list of the slots that an instruction leads to has exactly those
follows : (m n : ℕ) (i : Insn) → Decides (has_slot (leads m i) n) (Follows m n i)
follows m n (Insn.LoadImm d v) = only_next m n (m + 2) (Insn.LoadImm d v) refl refl (λ h. h)
follows m n (Insn.Jump o) = (
  (λ h. inr ((Decides-ahead m n o).0 h)),
  (λ h. elim h as (λ _. has_slot (ahead m o) n ≡ true) [ inl e ↦ cc | inr e ↦ (Decides-ahead m n o).1 e ]),
)
follows m n (Insn.JumpIf c w d x o) =
    let t = Decides-or (nat_eq n (m + 1)) (has_slot (ahead m o) n) (Decides-eqb n (m + 1)) (Decides-ahead m n o) in (
      (λ h. elim (t.0 h) as (λ _. Follows m n (Insn.JumpIf c w d x o)) [ inl e ↦ inl (ap Some (sym e)) | inr e ↦ inr e ]),
      (λ h. t.1 (elim h as (λ _. (n ≡ m + 1) ⊎ ((z : ℕ) × (o ≡ pos z) × (n ≡ m + 1 + z))) [ inl e ↦ inl cc | inr e ↦ inr e ])),
    )
follows m n Insn.Exit = ((λ h. cc), (λ h. elim h as (λ _. false ≡ true) [ inl e ↦ cc | inr e ↦ absurd e ]))
follows m n (Insn.Alu op w d x) = only_next m n (m + 1) (Insn.Alu op w d x) refl refl (λ h. h)
follows m n (Insn.MovSx w z d r) = only_next m n (m + 1) (Insn.MovSx w z d r) refl refl (λ h. h)
follows m n (Insn.Neg w d) = only_next m n (m + 1) (Insn.Neg w d) refl refl (λ h. h)
follows m n (Insn.Load z x d r o) = only_next m n (m + 1) (Insn.Load z x d r o) refl refl (λ h. h)
follows m n (Insn.StoreImm z d o v) = only_next m n (m + 1) (Insn.StoreImm z d o v) refl refl (λ h. h)
follows m n (Insn.Store z d s o) = only_next m n (m + 1) (Insn.Store z d s o) refl refl (λ h. h)
follows m n (Insn.Call k) = only_next m n (m + 1) (Insn.Call k) refl refl (λ h. h)

-- ---- ways

frame_of : (o : Option Frame) → o ≢ None → (f : Frame) × (o ≡ Some f)
frame_of None h = absurd (h refl)
frame_of (Some f) h = (f, refl)

-- an instruction that leads to a slot sends the frame after it there
way : (p : List Insn) (m n : ℕ) (f : Frame) (l : LeadsTo p m n) → m < n → in_at p m ≡ Some f → IsWay p n m (after f l.insn)
way p m n f l earlier e = record {
  earlier = earlier;
  leads = sent (insn_at p m) (in_at p m) l.there e;
}
  where
    then_sent : (b : Bool) (g : Frame) → b ≡ true → (if b then Some g else None) ≡ Some g
    then_sent true g e = refl
    then_sent false g e = cc

    sent : (i : Option Insn) (s : Option Frame) → i ≡ Some l.insn → s ≡ Some f → if_leads i m n (frame_after i s) ≡ Some (after f l.insn)
    sent i s e h = rw (e, h) (then_sent (has_slot (leads m l.insn) n) (after f l.insn) ((follows m n l.insn).1 l.leads))

-- and where a frame is sent, an instruction that has a frame leads there
sender : (p : List Insn) (m n : ℕ) (g : Frame) → IsWay p n m g → (in_at p m ≢ None) × LeadsTo p m n
sender p m n g w = by (insn_at p m) (in_at p m) refl refl w.leads
  where
    by : (i : Option Insn) (s : Option Frame) → insn_at p m ≡ i → in_at p m ≡ s → if_leads i m n (frame_after i s) ≡ Some g → (in_at p m ≢ None) × LeadsTo p m n
    by None s e h q = cc
    by (Some i) None e h q = absurd (nothing (has_slot (leads m i) n) q)
      where
        nothing : (b : Bool) → (if b then None else None) ≡ Some g → ⊥
        nothing true q = cc
        nothing false q = cc
    by (Some i) (Some f) e h q = ((λ none. cc), record { insn = i; there = e; leads = (follows m n i).0 (some (has_slot (leads m i) n) q) })
      where
        some : (b : Bool) → (if b then Some (after f i) else None) ≡ Some g → b ≡ true
        some true q = refl
        some false q = cc

-- ---- no frame

module _ (p : List Insn) (meets : IsMeetOfWays p) where
  first_reached : (n : ℕ) → in_at p n ≡ None → 0 < n
  first_reached zero e = let f = meets.first in cc
  first_reached (suc n) e = omega arith

  to_unreached : (n : ℕ) → in_at p n ≡ None → IsUnreached p n
  to_unreached n e = record {
    later = first_reached n e;
    none = λ m earlier some l. let f = frame_of (in_at p m) some in meets.none n m (after f.0 l.insn) (first_reached n e) e (way p m n f.0 l earlier f.1);
  }

  -- no register is of two kinds
  two_kinds : (f : Frame) → ¬ ((x : Fact) → Says f x)
  two_kinds f h = let a = (h (HasKind 0 Kind.Number)).kind in let b = (h (HasKind 0 (Kind.Stack (pos 0)))).kind in let c : Kind.Number ≡ Kind.Stack (pos 0) = sym a ∙ b in cc

  from_unreached : (n : ℕ) → IsUnreached p n → in_at p n ≡ None
  from_unreached n u = by (in_at p n) (meets.later n u.later)
    where
      by : (o : Option Frame) → IfSome o (λ f. (x : Fact) → Says f x ↔ ((m : ℕ) (g : Frame) → IsWay p n m g → Says g x)) → o ≡ None
      by None h = refl
      by (Some f) h = absurd (two_kinds f (λ x. (h x).1 (λ m g w. let s = sender p m n g w in absurd (u.none m w.earlier s.0 s.1))))

  -- ---- reached in steps

  module _ (later : LeadsAreLater) where
    lead_later : (m n : ℕ) → LeadsTo p m n → m < n
    lead_later m n l = later m n l.insn ((follows m n l.insn).1 l.leads)

    has_frame : (n : ℕ) → IsReachable p n → in_at p n ≢ None
    has_frame n ByEntry = λ e. let f = meets.first in cc
    has_frame n (ByStep m k r l) = let h = has_frame m r in λ e. (to_unreached n e).none m (lead_later m n l) h l

    -- whether a slot that has a frame leads there
    sends : (m n : ℕ) → ((in_at p m ≢ None) × LeadsTo p m n) ⊎ (in_at p m ≢ None → ¬ (LeadsTo p m n))
    sends m n = by (insn_at p m) (in_at p m) refl refl
      where
        by : (i : Option Insn) (s : Option Frame) → insn_at p m ≡ i → in_at p m ≡ s → ((in_at p m ≢ None) × LeadsTo p m n) ⊎ (in_at p m ≢ None → ¬ (LeadsTo p m n))
        by i None e h = inr (λ some l. some h)
        by None (Some f) e h = inr (λ some l. let t = l.there in cc)
        by (Some i) (Some f) e h = test (has_slot (leads m i) n) (follows m n i)
          where
            test : (b : Bool) → Decides b (Follows m n i) → ((in_at p m ≢ None) × LeadsTo p m n) ⊎ (in_at p m ≢ None → ¬ (LeadsTo p m n))
            test true d = inl ((λ none. cc), record { insn = i; there = e; leads = d.0 refl })
            test false d = inr (λ some l. let is : l.insn ≡ i = (let t = l.there in cc) in let x = d.1 (subst (λ i. Follows m n i) is l.leads) in cc)

    -- one of the first so many slots, or none of them
    search_first : (k n : ℕ) → ((m : ℕ) × (in_at p m ≢ None) × LeadsTo p m n) ⊎ ((m : ℕ) → m < k → in_at p m ≢ None → ¬ (LeadsTo p m n))
    search_first zero n = inr (λ m l. absurd (omega arith))
    search_first (suc k) n = join (search_first k n) (sends k n)
      where
        join : ((m : ℕ) × (in_at p m ≢ None) × LeadsTo p m n) ⊎ ((m : ℕ) → m < k → in_at p m ≢ None → ¬ (LeadsTo p m n)) → ((in_at p k ≢ None) × LeadsTo p k n) ⊎ (in_at p k ≢ None → ¬ (LeadsTo p k n)) → ((m : ℕ) × (in_at p m ≢ None) × LeadsTo p m n) ⊎ ((m : ℕ) → m < suc k → in_at p m ≢ None → ¬ (LeadsTo p m n))
        join (inl h) g = inl h
        join (inr h) (inl g) = inl (k, g.0, g.1)
        join (inr h) (inr g) = inr (λ m l some. last m l some)
          where
            last : (m : ℕ) → m < suc k → in_at p m ≢ None → ¬ (LeadsTo p m n)
            last m l some = elim (cases_lt m k) as (λ _. ¬ (LeadsTo p m n)) [ inl t ↦ h m t some | inr t ↦ (let e : k ≡ m = omega arith in subst (λ q. in_at p q ≢ None → ¬ (LeadsTo p q n)) e g some) ]

    reachable : (b n : ℕ) → n < b → in_at p n ≢ None → IsReachable p n
    reachable zero n l some = absurd (omega arith)
    reachable (suc b) zero l some = ByEntry
    reachable (suc b) (suc n) l some = by (reachable b) (search_first (suc n) (suc n))
      where
        by : ((m : ℕ) → m < b → in_at p m ≢ None → IsReachable p m) → ((m : ℕ) × (in_at p m ≢ None) × LeadsTo p m (suc n)) ⊎ ((m : ℕ) → m < suc n → in_at p m ≢ None → ¬ (LeadsTo p m (suc n))) → IsReachable p (suc n)
        by each (inl h) = let e = lead_later h.0 (suc n) h.2 in ByStep h.0 (suc n) (each h.0 (omega arith) h.1) h.2
        by each (inr h) = absurd (some (from_unreached (suc n) (record { later = omega arith; none = h })))

    tells : TellsReached p
    tells = record {
      none = λ n. (to_unreached n, from_unreached n);
      some = λ n. (reachable (n + 1) n (omega arith), has_frame n);
    }

-- by induction over the slots, since each step leads to a later one
pub reached_are_told : FramesAreMeets → LeadsAreLater → (p : List Insn) → TellsReached p
reached_are_told meets later p = tells p (meets p) later

-- ---- codes at a slot

-- the codes at a slot, by the frame before it or for want of one
pub faults_are_told : FramesAreMeets → LeadsAreLater → RulesAreByCode → (c : RuleCode) (j : JudgedOf) (n : ℕ) → Contains (faults j n) c ↔ IsCodeTold c j n
faults_are_told meets later rules c j n = by (insn_at j.program.insns n) (in_at j.program.insns n) refl refl ((reached_are_told meets later j.program.insns).some n)
  where
    by : (x : Option Insn) (s : Option Frame) → insn_at j.program.insns n ≡ x → in_at j.program.insns n ≡ s → (in_at j.program.insns n ≢ None) ↔ IsReachable j.program.insns n → Contains (codes_at j n x s) c ↔ IsCodeTold c j n
    by None s e h t = ((λ k. absurd (not_in_none k)), (λ k. let q = k.1 in cc))
      where
        not_in_none : ¬ (Contains [] c)
        not_in_none k = omega arith
    by (Some i) None e h t = (
      (λ k. (i, e, inl (sym (only k), (λ r. t.1 r h)))),
      (λ k. elim k.2 as (λ _. Contains (RuleCode.Unreachable ∷ []) c) [ inl q ↦ subst (λ d. Contains (RuleCode.Unreachable ∷ []) d) (sym q.0) (stands_one RuleCode.Unreachable) | inr q ↦ (let g = q.1 in cc) ]),
    )
      where
        only : Contains (RuleCode.Unreachable ∷ []) c → RuleCode.Unreachable ≡ c
        only k = All-contains (λ d. RuleCode.Unreachable ≡ d) (RuleCode.Unreachable ∷ []) c (each_one (λ d. RuleCode.Unreachable ≡ d) RuleCode.Unreachable refl) k
    by (Some i) (Some f) e h t = (
      (λ k. (i, e, inr (f, h, (rules c j n f i).0 k))),
      (λ k. elim k.2 as (λ _. Contains (insn_rules j n f i) c) [
        | inl q ↦ absurd (q.1 (t.0 (λ none. cc)))
        | inr q ↦ (let same_insn : k.0 ≡ i = (let g = k.1 in cc) in let same_frame : q.0 ≡ f = (let g = q.1 in cc) in (rules c j n f i).1 (subst (λ g. Breaks c j n g i) same_frame (subst (λ m. Breaks c j n q.0 m) same_insn q.2)))
      ]),
    )

pub unreachable_is_told : FramesAreMeets → LeadsAreLater → RulesAreByCode → (j : JudgedOf) (n : ℕ) (i : Insn) → insn_at j.program.insns n ≡ Some i → Contains (faults j n) RuleCode.Unreachable ↔ ¬ (IsReachable j.program.insns n)
unreachable_is_told meets later rules j n i e =
    let t = faults_are_told meets later rules RuleCode.Unreachable j n in (
      (λ h. elim (t.0 h).2 as (λ _. ¬ (IsReachable j.program.insns n)) [ inl q ↦ q.1 | inr q ↦ absurd q.2 ]),
      (λ h. t.1 (i, e, inl (refl, h))),
    )
