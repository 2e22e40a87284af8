-- A slot is the one that its eight bytes say, and the bytes of a slot say it.
use Rattle.std.proofs.Common.{◌≡◌, ℕ, ◌+◌, ◌^◌, ◌<◌, ◌≤◌, List, [], ◌∷◌, ◌++◌, length, drop, refl, sym, subst, arith}
use Rattle.std.proofs.lemmas.List.{get_or-append-add, get_or-drop}
use Rattle.byteorder.specs.Numbers.{little_from-lt}
use Rattle.pb_decode.specs.declared.fields.SlotFields.{SlotFields}
use Rattle.pb_decode.specs.Fields.{slot_bytes, slot_of_bytes}
use Rattle.pb_decode.specs.Faults.{AreBytes}

-- what the fields are below
pub record IsSlot (s : SlotFields) : Type 0 where
  pub offset : s.offset < 2 ^ 16
  pub imm : s.imm < 2 ^ 32

-- eight bytes are equal where each is
same_bytes : {a b c d e f g b' c' d' e' f' g' h h' : ℕ} (rest : List ℕ) → b ≡ b' → c ≡ c' → d ≡ d' → e ≡ e' → f ≡ f' → g ≡ g' → h ≡ h' → a ∷ b ∷ c ∷ d ∷ e ∷ f ∷ g ∷ h ∷ rest ≡ a ∷ b' ∷ c' ∷ d' ∷ e' ∷ f' ∷ g' ∷ h' ∷ rest
same_bytes rest p q r s t u v = rw (p, q, r, s, t, u, v) refl

short : {X : Type 0} (n : ℕ) → 8 ≤ n → n < 8 → X
short n p q = let no : ⊥ = omega (arith, p, q) in absurd no

-- the first eight bytes are those of the slot that they say
pub front_slot : (bytes : List ℕ) → AreBytes bytes → 8 ≤ length bytes → bytes ≡ slot_bytes (slot_of_bytes bytes) ++ drop 8 bytes
front_slot ([]) fits long = short 0 long (omega arith)
front_slot (a ∷ []) fits long = short 1 long (omega arith)
front_slot (a ∷ b ∷ []) fits long = short 2 long (omega arith)
front_slot (a ∷ b ∷ c ∷ []) fits long = short 3 long (omega arith)
front_slot (a ∷ b ∷ c ∷ d ∷ []) fits long = short 4 long (omega arith)
front_slot (a ∷ b ∷ c ∷ d ∷ e ∷ []) fits long = short 5 long (omega arith)
front_slot (a ∷ b ∷ c ∷ d ∷ e ∷ f ∷ []) fits long = short 6 long (omega arith)
front_slot (a ∷ b ∷ c ∷ d ∷ e ∷ f ∷ g ∷ []) fits long = short 7 long (omega arith)
front_slot (a ∷ b ∷ c ∷ d ∷ e ∷ f ∷ g ∷ h ∷ rest) fits long =
    let bb = fits 1 in let cc' = fits 2 in let dd = fits 3 in let ee = fits 4 in let ff = fits 5 in let gg = fits 6 in let hh = fits 7 in
    same_bytes rest (omega (arith, bb)) (omega (arith, cc', dd)) (omega (arith, cc', dd)) (omega (arith, ee, ff, gg, hh)) (omega (arith, ee, ff, gg, hh)) (omega (arith, ee, ff, gg, hh)) (omega (arith, ee, ff, gg, hh))

pub rest_bytes : (xs ys : List ℕ) → AreBytes (xs ++ ys) → AreBytes ys
rest_bytes xs ys fits i = subst (λ (n : ℕ). n < 256) (get_or-append-add xs ys i 0) (fits (length xs + i))

drop_bytes : (n : ℕ) (bytes : List ℕ) → AreBytes bytes → AreBytes (drop n bytes)
drop_bytes n bytes fits i = subst (λ (k : ℕ). k < 256) (sym (get_or-drop n bytes i 0)) (fits (n + i))

-- offset and immediate of a slot out of bytes have their bits
pub is_slot : (bytes : List ℕ) → AreBytes bytes → IsSlot (slot_of_bytes bytes)
is_slot bytes fits =
    record {
      offset = little_from-lt 0 2 (drop 2 bytes) (drop_bytes 2 bytes fits);
      imm = little_from-lt 0 4 (drop 4 bytes) (drop_bytes 4 bytes fits);
    }

-- a slot is its fields
pub same_slot : (s : SlotFields) (o d r f k : ℕ) → o ≡ s.opcode → d ≡ s.dst → r ≡ s.src → f ≡ s.offset → k ≡ s.imm → record { opcode = o; dst = d; src = r; offset = f; imm = k } ≡ s
same_slot s o d r f k p q t u v = rw (p, q, t, u, v) refl

-- the slot that its own bytes say
pub slot_back : (s : SlotFields) (rest : List ℕ) → s.dst < 16 → s.src < 16 → IsSlot s → slot_of_bytes (slot_bytes s ++ rest) ≡ s
slot_back s rest dst src fits = grind arith
