-- The table of opcodes read backwards, and the registers' numbers.
use Rattle.std.proofs.Common.{◌≡◌, ℕ, ◌<◌, Bool, true, false, cond, List, [], ◌∷◌, Option, Some, None, refl, ap, subst, ◌∙◌, arith, ◌==◌}
use Rattle.pb_decode.specs.Words.{Reg, number, reg_of, AluOp, Cmp, Width, Size, Extension, Profile}
use Rattle.pb_decode.specs.declared.forms.Form.{Form}
use Rattle.pb_decode.specs.declared.forms.Source.{Source}
use Rattle.pb_decode.specs.Opcodes.{opcode, forms, with_opcode, is_form_of, IsFormOf, only_of, form_of}
use Rattle.pb_base.proofs.Logic.{same_some as some_is}

found : (n : ℕ) (f g : Form) (fs : List Form) → ((with_opcode n fs ≡ Some g) → opcode g ≡ n) → (b : Bool) → (opcode f == n) ≡ b → cond b (Some f) (with_opcode n fs) ≡ Some g → opcode g ≡ n
found n f g fs others b is h = grind arith

-- a form that is found in a list has the opcode
in_list : (n : ℕ) (g : Form) (fs : List Form) → with_opcode n fs ≡ Some g → opcode g ≡ n
in_list n g [] h = absurd cc
in_list n g (f ∷ fs) h = found n f g fs (in_list n g fs) (opcode f == n) refl h

only_if : (p : Profile) (g f : Form) (b : Bool) → is_form_of p g ≡ b → cond b (Some g) None ≡ Some f → (Some g ≡ Some f) × IsFormOf p f
only_if p g f true is h = (h, subst (IsFormOf p) (some_is g f h) is)
only_if p g f false is h = absurd cc

-- a form that comes through the test of the profile is of it
only_some : (p : Profile) (o : Option Form) (f : Form) → only_of p o ≡ Some f → (o ≡ Some f) × IsFormOf p f
only_some p None f h = absurd cc
only_some p (Some g) f h = only_if p g f (is_form_of p g) refl h

-- a form that is found has the opcode, and is one of the profile
pub form_front : (p : Profile) (n : ℕ) (f : Form) → form_of p n ≡ Some f → (opcode f ≡ n) × IsFormOf p f
form_front p n f h = let o = only_some p (with_opcode n forms) f h in (in_list n f forms o.0, o.1)

-- what holds of each width and source holds of any
each_form : (P : Width → Source → Type 0) → P Width.Bits32 Source.K → P Width.Bits32 Source.X → P Width.Bits64 Source.K → P Width.Bits64 Source.X → (w : Width) (s : Source) → P w s
each_form x a b c d w s = grind arith

-- every form of a profile is found by its opcode
listed : (p : Profile) (f : Form) → IsFormOf p f → with_opcode (opcode f) forms ≡ Some f
unfolding forms
listed p (Form.Alu AluOp.Add w s) of = each_form (λ w s. with_opcode (opcode (Form.Alu AluOp.Add w s)) forms ≡ Some (Form.Alu AluOp.Add w s)) refl refl refl refl w s
listed p (Form.Alu AluOp.Sub w s) of = each_form (λ w s. with_opcode (opcode (Form.Alu AluOp.Sub w s)) forms ≡ Some (Form.Alu AluOp.Sub w s)) refl refl refl refl w s
listed p (Form.Alu AluOp.Mul w s) of = each_form (λ w s. with_opcode (opcode (Form.Alu AluOp.Mul w s)) forms ≡ Some (Form.Alu AluOp.Mul w s)) refl refl refl refl w s
listed p (Form.Alu AluOp.Div w s) of = each_form (λ w s. with_opcode (opcode (Form.Alu AluOp.Div w s)) forms ≡ Some (Form.Alu AluOp.Div w s)) refl refl refl refl w s
listed p (Form.Alu AluOp.Or w s) of = each_form (λ w s. with_opcode (opcode (Form.Alu AluOp.Or w s)) forms ≡ Some (Form.Alu AluOp.Or w s)) refl refl refl refl w s
listed p (Form.Alu AluOp.And w s) of = each_form (λ w s. with_opcode (opcode (Form.Alu AluOp.And w s)) forms ≡ Some (Form.Alu AluOp.And w s)) refl refl refl refl w s
listed p (Form.Alu AluOp.Lsh w s) of = each_form (λ w s. with_opcode (opcode (Form.Alu AluOp.Lsh w s)) forms ≡ Some (Form.Alu AluOp.Lsh w s)) refl refl refl refl w s
listed p (Form.Alu AluOp.Rsh w s) of = each_form (λ w s. with_opcode (opcode (Form.Alu AluOp.Rsh w s)) forms ≡ Some (Form.Alu AluOp.Rsh w s)) refl refl refl refl w s
listed p (Form.Alu AluOp.Mod w s) of = each_form (λ w s. with_opcode (opcode (Form.Alu AluOp.Mod w s)) forms ≡ Some (Form.Alu AluOp.Mod w s)) refl refl refl refl w s
listed p (Form.Alu AluOp.Xor w s) of = each_form (λ w s. with_opcode (opcode (Form.Alu AluOp.Xor w s)) forms ≡ Some (Form.Alu AluOp.Xor w s)) refl refl refl refl w s
listed p (Form.Alu AluOp.Mov w s) of = each_form (λ w s. with_opcode (opcode (Form.Alu AluOp.Mov w s)) forms ≡ Some (Form.Alu AluOp.Mov w s)) refl refl refl refl w s
listed p (Form.Alu AluOp.Arsh w s) of = each_form (λ w s. with_opcode (opcode (Form.Alu AluOp.Arsh w s)) forms ≡ Some (Form.Alu AluOp.Arsh w s)) refl refl refl refl w s
listed p (Form.JumpIf Cmp.Eq w s) of = each_form (λ w s. with_opcode (opcode (Form.JumpIf Cmp.Eq w s)) forms ≡ Some (Form.JumpIf Cmp.Eq w s)) refl refl refl refl w s
listed p (Form.JumpIf Cmp.Gt w s) of = each_form (λ w s. with_opcode (opcode (Form.JumpIf Cmp.Gt w s)) forms ≡ Some (Form.JumpIf Cmp.Gt w s)) refl refl refl refl w s
listed p (Form.JumpIf Cmp.Ge w s) of = each_form (λ w s. with_opcode (opcode (Form.JumpIf Cmp.Ge w s)) forms ≡ Some (Form.JumpIf Cmp.Ge w s)) refl refl refl refl w s
listed p (Form.JumpIf Cmp.Set w s) of = each_form (λ w s. with_opcode (opcode (Form.JumpIf Cmp.Set w s)) forms ≡ Some (Form.JumpIf Cmp.Set w s)) refl refl refl refl w s
listed p (Form.JumpIf Cmp.Ne w s) of = each_form (λ w s. with_opcode (opcode (Form.JumpIf Cmp.Ne w s)) forms ≡ Some (Form.JumpIf Cmp.Ne w s)) refl refl refl refl w s
listed p (Form.JumpIf Cmp.Sgt w s) of = each_form (λ w s. with_opcode (opcode (Form.JumpIf Cmp.Sgt w s)) forms ≡ Some (Form.JumpIf Cmp.Sgt w s)) refl refl refl refl w s
listed p (Form.JumpIf Cmp.Sge w s) of = each_form (λ w s. with_opcode (opcode (Form.JumpIf Cmp.Sge w s)) forms ≡ Some (Form.JumpIf Cmp.Sge w s)) refl refl refl refl w s
listed p (Form.JumpIf Cmp.Lt w s) of = each_form (λ w s. with_opcode (opcode (Form.JumpIf Cmp.Lt w s)) forms ≡ Some (Form.JumpIf Cmp.Lt w s)) refl refl refl refl w s
listed p (Form.JumpIf Cmp.Le w s) of = each_form (λ w s. with_opcode (opcode (Form.JumpIf Cmp.Le w s)) forms ≡ Some (Form.JumpIf Cmp.Le w s)) refl refl refl refl w s
listed p (Form.JumpIf Cmp.Slt w s) of = each_form (λ w s. with_opcode (opcode (Form.JumpIf Cmp.Slt w s)) forms ≡ Some (Form.JumpIf Cmp.Slt w s)) refl refl refl refl w s
listed p (Form.JumpIf Cmp.Sle w s) of = each_form (λ w s. with_opcode (opcode (Form.JumpIf Cmp.Sle w s)) forms ≡ Some (Form.JumpIf Cmp.Sle w s)) refl refl refl refl w s
listed p (Form.Load Size.B Extension.Zeros) of = refl
listed p (Form.Load Size.B Extension.Sign) of = refl
listed p (Form.Load Size.H Extension.Zeros) of = refl
listed p (Form.Load Size.H Extension.Sign) of = refl
listed p (Form.Load Size.W Extension.Zeros) of = refl
listed p (Form.Load Size.W Extension.Sign) of = refl
listed p (Form.Load Size.Dw Extension.Zeros) of = refl
listed Profile.One (Form.Load Size.Dw Extension.Sign) of = absurd cc
listed Profile.Two (Form.Load Size.Dw Extension.Sign) of = absurd cc
listed p (Form.StoreImm Size.B) of = refl
listed p (Form.StoreImm Size.H) of = refl
listed p (Form.StoreImm Size.W) of = refl
listed p (Form.StoreImm Size.Dw) of = refl
listed p (Form.Store Size.B) of = refl
listed p (Form.Store Size.H) of = refl
listed p (Form.Store Size.W) of = refl
listed p (Form.Store Size.Dw) of = refl
listed p (Form.Neg Width.Bits32) of = refl
listed p (Form.Neg Width.Bits64) of = refl
listed p Form.LoadImm of = refl
listed p Form.Jump of = refl
listed p Form.Call of = refl
listed p Form.Exit of = refl

only_back : (p : Profile) (f : Form) (b : Bool) → b ≡ true → cond b (Some f) None ≡ Some f
only_back p f b is = rw is refl

-- each form of a profile is found by its opcode: no two have the same
pub form_back : (p : Profile) (f : Form) → IsFormOf p f → form_of p (opcode f) ≡ Some f
form_back p f of = ap (only_of p) (listed p f of) ∙ only_back p f (is_form_of p f) of

-- each register is that of its number
pub reg_back : (r : Reg) → reg_of (number r) ≡ Some r
reg_back r = grind arith

-- a register that is found has the number
pub reg_front : (n : ℕ) (r : Reg) → reg_of n ≡ Some r → number r ≡ n
reg_front n r h = grind arith

-- a number that is no register's is over 10
pub reg_none : (n : ℕ) → reg_of n ≡ None → 10 < n
reg_none n h = grind arith
