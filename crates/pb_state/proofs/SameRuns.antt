-- Whether a run is one of a program, a record and a start, by its tests in turn.
use Rattle.std.proofs.Common.{arith, ◌≡◌, ◌↔◌, ℕ, not, ◌==◌, Bool, true, false, ◌&&◌, List, refl, sym, ap, ◌∙◌, IsTrue}
use Rattle.std.specs.Coded.{Coded, coded_ℕ, coded_list}
use Rattle.std.proofs.lemmas.Bool.{false_from_ne_true as not_true}
use Rattle.pb_state.specs.Words.{same, same_is, is_same, JudgedOf, judged_code, Meant, is_made_of}

pub differ_by_code : {A : Type 0} (k : Coded A) (x y : A) → (x ≡ y → ⊥) → same k x y ≡ false
differ_by_code k x y h = not_true (same k x y) (λ e. h (same_is k x y e))

-- a test that decides whether two values are one
pub same_by_test : {A : Type 0} (k : Coded A) (x y : A) (b : Bool) → (IsTrue b ↔ (x ≡ y)) → b ≡ same k x y
same_by_test k x y true h = sym (is_same k x y (h.0 refl))
same_by_test k x y false h = sym (differ_by_code k x y (λ e. let no = h.1 e in cc))

-- what doesn't differ is one
pub not_ne : (r b : Bool) → r ≡ not b → r ≡ false → b ≡ true
not_ne r b e f = grind arith

pub true_and : (a b c : Bool) → a ≡ true → c ≡ b → c ≡ (a && b)
true_and a b c e h = h ∙ ap (λ z. z && b) (sym e)

module _ (f : Meant) (p : JudgedOf) (bytes : List ℕ) (s : ℕ) where
  pub other_program : (f.judged ≡ p → ⊥) → false ≡ is_made_of p bytes s f
  other_program h = let no = sym (differ_by_code judged_code f.judged p h) in (λ i. no i && same (coded_list coded_ℕ) f.bytes bytes && (f.start == s))

  pub other_record : f.judged ≡ p → (f.bytes ≡ bytes → ⊥) → false ≡ is_made_of p bytes s f
  other_record e h = grind (arith, differ_by_code, f.judged, f.bytes, f.start)

  pub by_start : f.judged ≡ p → f.bytes ≡ bytes → (b : Bool) → b ≡ (f.start == s) → b ≡ is_made_of p bytes s f
  by_start e h b is =
      let one = sym (is_same judged_code f.judged p e) in
      let two = sym (is_same (coded_list coded_ℕ) f.bytes bytes h) in
      is ∙ (λ i. one i && two i && (f.start == s))
