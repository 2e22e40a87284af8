-- What is known after an instruction whose rules hold.
use Rattle.std.proofs.Common.{◌≡◌, ◌≢◌, ℕ, zero, suc, ◌+◌, ◌<◌, ◌≤◌, Bool, true, false, ◌⊎◌, inl, inr, ℤ, pos, ◌+ℤ◌, neg_ℤ, List, [], ◌∷◌, ◌++◌, Option, Some, None, cond, length, get_or, drop, replicate, refl, sym, ap, subst, ◌∙◌, arith, IsTrue, ◌↔◌, if◌then◌else◌, Contains, IsSomeAnd}
use Rattle.std.proofs.Math.Seq.{drop-nil}
use Rattle.std.proofs.lemmas.List.{get_or-set_other, get_or_past}
use Rattle.std.proofs.lemmas.Grind.{get_or-set_at}
use Rattle.std.proofs.lemmas.Bool.Decides.{not_from_Decides}
use Rattle.law_programs.specs.Words.{Insn, AluOp, Width, Operand, Size, Reg, number, HelperSet, Helper, Read, Write, Delete, Start, helper_of, has_helper, if_declared, declared_helper, JudgedOf, Kind, Frame, kind_of, has_byte, in_stack, from_low, set_flags, with_written, RuleCode, at, bytes_of, insn_rules, with_kind, move_pointer, kind_after, with_store, kinds_after_call, after_call, after}
use Rattle.law_programs.specs.Operands.{SetsRegister}
use Rattle.law_programs.specs.Touches.{Touch, touch, size_bytes, Loading, Storing, Taking, Filling, HelperTouches, Touches}
use Rattle.law_programs.specs.Breaks.{Breaks, RulesAreByCode}
use Rattle.law_programs.specs.Following.{IsMoved, IsSetTo, IsCall, IsWriting, WritesByte, TellsAfter, FramesAfterAreTold}
use Rattle.law_programs.proofs.Tests.{Decides-stack, bytes_are}
use Rattle.pb_isa.proofs.Instructions.{number_below as below_eleven}

-- ---- registers

-- a register that is set has its new kind
kind_set : (f : Frame) (d : Reg) (k : Kind) (r : ℕ) → length f.kinds ≡ 11 → r ≡ number d → kind_of (with_kind f d k) r ≡ k
kind_set f d k r l e = let h = below_eleven d in get_or-set_at f.kinds (number d) r k Kind.Unset e (omega arith)

-- any other keeps its own
kind_kept : (f : Frame) (d : Reg) (k : Kind) (r : ℕ) → r ≢ number d → kind_of (with_kind f d k) r ≡ kind_of f r
kind_kept f d k r e = get_or-set_other f.kinds (number d) r k Kind.Unset e

moved : (k : Kind) (z : ℤ) → IsMoved k z (move_pointer k z)
moved Kind.Unset z = refl
moved Kind.Number z = refl
moved (Kind.Stack k) z = refl
moved (Kind.Record k) z = refl

-- what an operation makes of its destination
set_to : (f : Frame) (op : AluOp) (w : Width) (d : Reg) (x : Operand) → IsSetTo f (Insn.Alu op w d x) (kind_after f op w d x)
set_to f AluOp.Mov Width.Bits64 d (Operand.Reg s) = refl
set_to f AluOp.Mov Width.Bits64 d (Operand.Imm k) = refl
set_to f AluOp.Mov Width.Bits32 d x = refl
set_to f AluOp.Add Width.Bits64 d (Operand.Imm k) = moved (at f d) k
set_to f AluOp.Sub Width.Bits64 d (Operand.Imm k) = moved (at f d) (neg_ℤ k)
set_to f AluOp.Add Width.Bits64 d (Operand.Reg s) = refl
set_to f AluOp.Sub Width.Bits64 d (Operand.Reg s) = refl
set_to f op w d x = refl

-- a call keeps R6 to R10
call_kept : (ks : List Kind) (r : ℕ) → length ks ≡ 11 → 6 ≤ r → get_or (kinds_after_call ks) r Kind.Unset ≡ get_or ks r Kind.Unset
call_kept ks zero l h = absurd (omega arith)
call_kept ks (suc zero) l h = absurd (omega arith)
call_kept ks (suc (suc zero)) l h = absurd (omega arith)
call_kept ks (suc (suc (suc zero))) l h = absurd (omega arith)
call_kept ks (suc (suc (suc (suc zero)))) l h = absurd (omega arith)
call_kept ks (suc (suc (suc (suc (suc zero))))) l h = absurd (omega arith)
call_kept ks (suc (suc (suc (suc (suc (suc zero)))))) l h = refl
call_kept ks (suc (suc (suc (suc (suc (suc (suc zero))))))) l h = refl
call_kept ks (suc (suc (suc (suc (suc (suc (suc (suc zero)))))))) l h = refl
call_kept ks (suc (suc (suc (suc (suc (suc (suc (suc (suc zero))))))))) l h = refl
call_kept ks (suc (suc (suc (suc (suc (suc (suc (suc (suc (suc zero)))))))))) l h = refl
call_kept ks (suc (suc (suc (suc (suc (suc (suc (suc (suc (suc (suc r))))))))))) l h = sym (get_or_past ks (suc (suc (suc (suc (suc (suc (suc (suc (suc (suc (suc r))))))))))) Kind.Unset (omega arith))

-- and leaves R1 to R5 unset
call_unset : (ks : List Kind) (r : ℕ) → 1 ≤ r → r ≤ 5 → get_or (kinds_after_call ks) r Kind.Unset ≡ Kind.Unset
call_unset ks zero l h = absurd (omega arith)
call_unset ks (suc zero) l h = refl
call_unset ks (suc (suc zero)) l h = refl
call_unset ks (suc (suc (suc zero))) l h = refl
call_unset ks (suc (suc (suc (suc zero)))) l h = refl
call_unset ks (suc (suc (suc (suc (suc zero))))) l h = refl
call_unset ks (suc (suc (suc (suc (suc (suc r)))))) l h = absurd (omega arith)

-- ---- bytes

flags_front : (w : List Bool) (n p : ℕ) → (get_or (replicate n true ++ drop n w) p false ≡ true) ↔ ((get_or w p false ≡ true) ⊎ ((0 ≤ p) × (p < 0 + n)))
flags_front w zero p = ((λ h. inl h), (λ h. elim h as (λ _. get_or w p false ≡ true) [ inl e ↦ e | inr e ↦ absurd (omega arith) ]))
flags_front [] (suc n) zero = ((λ h. inr (omega arith, omega arith)), (λ h. refl))
flags_front (b ∷ w) (suc n) zero = ((λ h. inr (omega arith, omega arith)), (λ h. refl))
flags_front [] (suc n) (suc p) =
    let i = subst (λ d. (get_or (replicate n true ++ d) p false ≡ true) ↔ ((get_or [] p false ≡ true) ⊎ ((0 ≤ p) × (p < 0 + n)))) (drop-nil n) (flags_front [] n p) in (
      (λ h. elim (i.0 h) as (λ _. (false ≡ true) ⊎ ((0 ≤ suc p) × (suc p < 0 + suc n))) [ inl e ↦ inl e | inr e ↦ inr (omega arith, omega arith) ]),
      (λ h. i.1 (elim h as (λ _. (get_or [] p false ≡ true) ⊎ ((0 ≤ p) × (p < 0 + n))) [ inl e ↦ inl e | inr e ↦ inr (omega arith, omega arith) ])),
    )
flags_front (b ∷ w) (suc n) (suc p) =
    let i = flags_front w n p in (
      (λ h. elim (i.0 h) as (λ _. (get_or w p false ≡ true) ⊎ ((0 ≤ suc p) × (suc p < 0 + suc n))) [ inl e ↦ inl e | inr e ↦ inr (omega arith, omega arith) ]),
      (λ h. i.1 (elim h as (λ _. (get_or w p false ≡ true) ⊎ ((0 ≤ p) × (p < 0 + n))) [ inl e ↦ inl e | inr e ↦ inr (omega arith, omega arith) ])),
    )

-- flags set from place i on, and those that were set before
flags : (w : List Bool) (i n p : ℕ) → (get_or (set_flags w i n) p false ≡ true) ↔ ((get_or w p false ≡ true) ⊎ ((i ≤ p) × (p < i + n)))
flags w zero n p = flags_front w n p
flags [] (suc i) n zero = ((λ h. inl h), (λ h. elim h as (λ _. false ≡ true) [ inl e ↦ e | inr e ↦ absurd (omega arith) ]))
flags (b ∷ w) (suc i) n zero = ((λ h. inl h), (λ h. elim h as (λ _. b ≡ true) [ inl e ↦ e | inr e ↦ absurd (omega arith) ]))
flags [] (suc i) n (suc p) =
    let s = flags [] i n p in (
      (λ h. elim (s.0 h) as (λ _. (false ≡ true) ⊎ ((suc i ≤ suc p) × (suc p < suc i + n))) [ inl e ↦ inl e | inr e ↦ inr (omega arith, omega arith) ]),
      (λ h. s.1 (elim h as (λ _. (get_or [] p false ≡ true) ⊎ ((i ≤ p) × (p < i + n))) [ inl e ↦ inl e | inr e ↦ inr (omega arith, omega arith) ])),
    )
flags (b ∷ w) (suc i) n (suc p) =
    let s = flags w i n p in (
      (λ h. elim (s.0 h) as (λ _. (get_or w p false ≡ true) ⊎ ((suc i ≤ suc p) × (suc p < suc i + n))) [ inl e ↦ inl e | inr e ↦ inr (omega arith, omega arith) ]),
      (λ h. s.1 (elim h as (λ _. (get_or w p false ≡ true) ⊎ ((i ≤ p) × (p < i + n))) [ inl e ↦ inl e | inr e ↦ inr (omega arith, omega arith) ])),
    )

-- the byte at place p is among n from z on of the stack
abbrev IsAmong : Kind → ℤ → ℕ → ℕ → Type 0
IsAmong base o n p = (k : ℤ) × (base ≡ Kind.Stack k) × (from_low (k +ℤ o) ≤ p) × (p < from_low (k +ℤ o) + n)

-- what a store through a pointer leaves, where its bytes lie in the stack
stored : (f : Frame) (base : Kind) (o : ℤ) (n p : ℕ) → ((k : ℤ) → base ≡ Kind.Stack k → in_stack (k +ℤ o) n ≡ true) → IsTrue (has_byte (with_store f base o n) p) ↔ (IsTrue (has_byte f p) ⊎ IsAmong base o n p)
stored f Kind.Unset o n p lie = ((λ h. inl h), (λ h. elim h as (λ _. IsTrue (has_byte f p)) [ inl e ↦ e | inr e ↦ (let q = e.1 in cc) ]))
stored f Kind.Number o n p lie = ((λ h. inl h), (λ h. elim h as (λ _. IsTrue (has_byte f p)) [ inl e ↦ e | inr e ↦ (let q = e.1 in cc) ]))
stored f (Kind.Record k) o n p lie = ((λ h. inl h), (λ h. elim h as (λ _. IsTrue (has_byte f p)) [ inl e ↦ e | inr e ↦ (let q = e.1 in cc) ]))
stored f (Kind.Stack k) o n p lie =
    let s = flags f.written (from_low (k +ℤ o)) n p in
    rw (lie k refl) (
      (λ h. elim (s.0 h) as (λ _. IsTrue (has_byte f p) ⊎ IsAmong (Kind.Stack k) o n p) [ inl e ↦ inl e | inr e ↦ inr (k, refl, e.0, e.1) ]),
      (λ h. s.1 (elim h as (λ _. (get_or f.written p false ≡ true) ⊎ ((from_low (k +ℤ o) ≤ p) × (p < from_low (k +ℤ o) + n))) [
        | inl e ↦ inl e
        | inr e ↦ (let same : e.0 ≡ k = (let q = e.1 in cc) in inr (subst (λ k. (from_low (k +ℤ o) ≤ p) × (p < from_low (k +ℤ o) + n)) same (e.2, e.3)))
      ])),
    )

-- ---- kinds after stores and calls

-- a store changes no register
store_kinds : (f : Frame) (base : Kind) (o : ℤ) (n : ℕ) → (with_store f base o n).kinds ≡ f.kinds
store_kinds f Kind.Unset o n = refl
store_kinds f Kind.Number o n = refl
store_kinds f (Kind.Record k) o n = refl
store_kinds f (Kind.Stack k) o n = by (in_stack (k +ℤ o) n)
  where
    by : (b : Bool) → (if b then with_written f (k +ℤ o) n else f).kinds ≡ f.kinds
    by true = refl
    by false = refl

call_kinds : (f : Frame) (o : Option Helper) → (after_call f o).kinds ≡ kinds_after_call f.kinds
call_kinds f None = refl
call_kinds f (Some Read) = ap kinds_after_call (store_kinds f (kind_of f 3) (pos 0) 32)
call_kinds f (Some Write) = refl
call_kinds f (Some Delete) = refl
call_kinds f (Some Start) = refl

-- a declared helper is the one of its number
declared_is : (hs : HelperSet) (o : Option Helper) → if_declared hs o ≢ None → if_declared hs o ≡ o
declared_is hs None h = refl
declared_is hs (Some x) h = by (has_helper hs x) h
  where
    by : (b : Bool) → cond b (Some x) None ≢ None → cond b (Some x) None ≡ Some x
    by true h = refl
    by false h = absurd (h refl)

unchanged : {A W : Type 0} → ¬ W → A ↔ (A ⊎ W)
unchanged {A} none = ((λ a. inl a), (λ x. elim x as (λ _. A) [ inl a ↦ a | inr w ↦ absurd (none w) ]))

-- what is loaded or taken isn't written
not_writing : (t : Touch) → (t.how ≡ Loading) ⊎ (t.how ≡ Taking) → ¬ (IsWriting t.how)
not_writing t (inl e) (inl h) = cc
not_writing t (inl e) (inr h) = cc
not_writing t (inr e) (inl h) = cc
not_writing t (inr e) (inr h) = cc

-- ---- instructions

module _ (rules : RulesAreByCode) (j : JudgedOf) (n : ℕ) (f : Frame) (i : Insn) (hold : insn_rules j n f i ≡ []) where
  -- where its rules hold, an instruction breaks none
  breaks_none : (c : RuleCode) → ¬ (Breaks c j n f i)
  breaks_none c b = none (subst (λ cs. Contains cs c) hold ((rules c j n f i).1 b))
    where
      none : ¬ (Contains [] c)
      none k = omega arith

  -- what it touches through a pointer to the stack lies there
  lies : (t : Touch) (k : ℤ) → Touches j i t → kind_of f t.base ≡ Kind.Stack k → in_stack (k +ℤ t.offset) t.bytes ≡ true
  lies t k h is = by (in_stack (k +ℤ t.offset) t.bytes) refl
    where
      by : (b : Bool) → in_stack (k +ℤ t.offset) t.bytes ≡ b → b ≡ true
      by true e = refl
      by false e = absurd (breaks_none RuleCode.OutsideStack (t, k, h, is, not_from_Decides _ (Decides-stack (k +ℤ t.offset) t.bytes) e))

  -- what is written is what one touch writes
  by_touch : (t : Touch) → Touches j i t → IsWriting t.how → ((u : Touch) → Touches j i u → u ≡ t) → (p : ℕ) → IsTrue (has_byte (with_store f (kind_of f t.base) t.offset t.bytes) p) ↔ (IsTrue (has_byte f p) ⊎ WritesByte j f i p)
  by_touch t h w only p =
      let s = stored f (kind_of f t.base) t.offset t.bytes p (λ k is. lies t k h is) in (
        (λ x. elim (s.0 x) as (λ _. IsTrue (has_byte f p) ⊎ WritesByte j f i p) [ inl e ↦ inl e | inr e ↦ inr (t, e.0, h, w, e.1, e.2, e.3) ]),
        (λ x. s.1 (elim x as (λ _. IsTrue (has_byte f p) ⊎ IsAmong (kind_of f t.base) t.offset t.bytes p) [
          | inl e ↦ inl e
          | inr e ↦ inr (subst (λ (u : Touch). IsAmong (kind_of f u.base) u.offset u.bytes p) (only e.0 e.2) (e.1, e.4, e.5, e.6))
        ])),
      )

module _ (rules : RulesAreByCode) (j : JudgedOf) (n : ℕ) (f : Frame) where
  -- the bytes of a store
  store_bytes : (i : Insn) (z : Size) (d : Reg) (o : ℤ) → insn_rules j n f i ≡ [] → Touches j i (touch Storing (number d) o (size_bytes z)) → ((u : Touch) → Touches j i u → u ≡ touch Storing (number d) o (size_bytes z)) → (p : ℕ) → IsTrue (has_byte (with_store f (at f d) o (bytes_of z)) p) ↔ (IsTrue (has_byte f p) ⊎ WritesByte j f i p)
  store_bytes i z d o hold h only p =
      let P : ℕ → Type 0 = λ b. IsTrue (has_byte (with_store f (at f d) o b) p) ↔ (IsTrue (has_byte f p) ⊎ WritesByte j f i p) in
      subst P (bytes_are z) (by_touch rules j n f i hold (touch Storing (number d) o (size_bytes z)) h (inl refl) only p)

  -- the bytes of a helper
  call_bytes : (k : ℤ) (o : Option Helper) → declared_helper j.helpers k ≡ o → insn_rules j n f (Insn.Call k) ≡ [] → (p : ℕ) → IsTrue (has_byte (after_call f o) p) ↔ (IsTrue (has_byte f p) ⊎ WritesByte j f (Insn.Call k) p)
  call_bytes k o e hold p = by o e
    where
      -- what the declared helper touches
      touched : (o : Option Helper) (t : Touch) → declared_helper j.helpers k ≡ o → Touches j (Insn.Call k) t → IsSomeAnd o (λ h. HelperTouches h t)
      touched o t e h = subst (λ o. IsSomeAnd o (λ h. HelperTouches h t)) e h

      by : (o : Option Helper) → declared_helper j.helpers k ≡ o → IsTrue (has_byte (after_call f o) p) ↔ (IsTrue (has_byte f p) ⊎ WritesByte j f (Insn.Call k) p)
      by None e = unchanged (λ w. touched None w.0 e w.2)
      by (Some Read) e =
          let t = touch Filling 3 (pos 0) 32 in
          by_touch rules j n f (Insn.Call k) hold t (subst (λ o. IsSomeAnd o (λ h. HelperTouches h t)) (sym e) refl) (inr refl) (λ u h. touched (Some Read) u e h) p
      by (Some Write) e = unchanged (λ w. not_writing w.0 (inr (ap (λ (u : Touch). u.how) (touched (Some Write) w.0 e w.2))) w.3)
      by (Some Delete) e = unchanged (λ w. touched (Some Delete) w.0 e w.2)
      by (Some Start) e = unchanged (λ w. touched (Some Start) w.0 e w.2)

  -- a declared helper is called
  called : (k : ℤ) → insn_rules j n f (Insn.Call k) ≡ [] → declared_helper j.helpers k ≡ helper_of k
  called k hold = declared_is j.helpers (helper_of k) (λ e. breaks_none rules j n f (Insn.Call k) hold RuleCode.NotDeclared e)

-- an instruction that sets a register alone
sets_one : (j : JudgedOf) (f : Frame) (i : Insn) (d : Reg) (k : Kind) → length f.kinds ≡ 11 → after f i ≡ with_kind f d k → IsSetTo f i k → ((r : ℕ) → SetsRegister i r → r ≡ number d) → ((r : ℕ) → r ≡ number d → SetsRegister i r) → ¬ (IsCall i) → ((p : ℕ) → ¬ (WritesByte j f i p)) → TellsAfter j f i
sets_one j f i d k l is set_to from to other none = rw_after is
  where
    rw_after : after f i ≡ with_kind f d k → TellsAfter j f i
    rw_after e = record {
      set = λ r s. subst (λ g. IsSetTo f i (kind_of g r)) (sym e) (subst (IsSetTo f i) (sym (kind_set f d k r l (from r s))) set_to);
      result = λ c. absurd (other c);
      unset = λ c r a b. absurd (other c);
      kept = λ r s c. subst (λ g. kind_of g r ≡ kind_of f r) (sym e) (kind_kept f d k r (λ q. s (to r q)));
      bytes = λ p. subst (λ g. IsTrue (has_byte g p) ↔ (IsTrue (has_byte f p) ⊎ WritesByte j f i p)) (sym e) (unchanged (none p));
    }

-- every instruction, by its kind
pub frames_after_are_told : RulesAreByCode → FramesAfterAreTold
frames_after_are_told rules j n f (Insn.Alu op w d x) l hold =
    sets_one j f (Insn.Alu op w d x) d (kind_after f op w d x) l refl (set_to f op w d x) (λ r s. s) (λ r s. s) (λ c. c) (λ p w. w.2)
frames_after_are_told rules j n f (Insn.MovSx w z d s) l hold =
    sets_one j f (Insn.MovSx w z d s) d Kind.Number l refl refl (λ r s. s) (λ r s. s) (λ c. c) (λ p w. w.2)
frames_after_are_told rules j n f (Insn.Neg w d) l hold =
    sets_one j f (Insn.Neg w d) d Kind.Number l refl refl (λ r s. s) (λ r s. s) (λ c. c) (λ p w. w.2)
frames_after_are_told rules j n f (Insn.LoadImm d v) l hold =
    sets_one j f (Insn.LoadImm d v) d Kind.Number l refl refl (λ r s. s) (λ r s. s) (λ c. c) (λ p w. w.2)
frames_after_are_told rules j n f (Insn.Load z x d s o) l hold =
    sets_one j f (Insn.Load z x d s o) d Kind.Number l refl refl (λ r s. s) (λ r s. s) (λ c. c) (λ p w. not_writing w.0 (inl (ap (λ (u : Touch). u.how) w.2)) w.3)
frames_after_are_told rules j n f (Insn.StoreImm z d o v) l hold = record {
  set = λ r s. absurd s;
  result = λ c. absurd c;
  unset = λ c r a b. absurd c;
  kept = λ r s c. ap (λ ks. get_or ks r Kind.Unset) (store_kinds f (at f d) o (bytes_of z));
  bytes = store_bytes rules j n f (Insn.StoreImm z d o v) z d o hold refl (λ u h. h);
}
frames_after_are_told rules j n f (Insn.Store z d s o) l hold = record {
  set = λ r s. absurd s;
  result = λ c. absurd c;
  unset = λ c r a b. absurd c;
  kept = λ r s c. ap (λ ks. get_or ks r Kind.Unset) (store_kinds f (at f d) o (bytes_of z));
  bytes = store_bytes rules j n f (Insn.Store z d s o) z d o hold refl (λ u h. h);
}
frames_after_are_told rules j n f (Insn.Call k) l hold = record {
  set = λ r s. absurd s;
  result = λ c. ap (λ ks. get_or ks 0 Kind.Unset) (call_kinds f (helper_of k));
  unset = λ c r a b. ap (λ ks. get_or ks r Kind.Unset) (call_kinds f (helper_of k)) ∙ call_unset f.kinds r a b;
  kept = λ r s c. ap (λ ks. get_or ks r Kind.Unset) (call_kinds f (helper_of k)) ∙ call_kept f.kinds r l (c tt);
  bytes = λ p. call_bytes rules j n f k (helper_of k) (called rules j n f k hold) hold p;
}
frames_after_are_told rules j n f (Insn.Jump o) l hold = record {
  set = λ r s. absurd s;
  result = λ c. absurd c;
  unset = λ c r a b. absurd c;
  kept = λ r s c. refl;
  bytes = λ p. unchanged (λ w. w.2);
}
frames_after_are_told rules j n f (Insn.JumpIf c w d x o) l hold = record {
  set = λ r s. absurd s;
  result = λ c. absurd c;
  unset = λ c r a b. absurd c;
  kept = λ r s c. refl;
  bytes = λ p. unchanged (λ w. w.2);
}
frames_after_are_told rules j n f Insn.Exit l hold = record {
  set = λ r s. absurd s;
  result = λ c. absurd c;
  unset = λ c r a b. absurd c;
  kept = λ r s c. refl;
  bytes = λ p. unchanged (λ w. w.2);
}
