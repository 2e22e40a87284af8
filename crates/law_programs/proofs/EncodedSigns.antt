-- The bytes of moves and loads that extend the sign.
use Rattle.std.proofs.Common.{◌≡◌, ℕ, true, false, List, [], ◌∷◌, refl, sym, ap, subst, ◌∙◌, arith, rules}
use Rattle.std.specs.List.{AllByRecursion}
use Rattle.law_programs.specs.Words.{Insn, Profile, Fits, IsOf, is_of, slots, ProgramOf, Encodes, encoding, in_profile}
use Rattle.law_programs.specs.EncodedSigns.{alone, AreBytesOf, SignsAreEncoded}
use Rattle.law_programs.proofs.BothProfiles.{OneProgram, ReadAlike}

module _ (one : OneProgram) (read : ReadAlike) where
  -- a program of profile 1 has no instruction that profile 1 hasn't
  not_of_one : (i : Insn) (is : List Insn) (profile : Profile) → profile ≡ Profile.One → is ≡ i ∷ [] → is_of Profile.One i ≡ false → AllByRecursion (IsOf profile) is → ⊥
  not_of_one i is profile e f none all =
      let here : AllByRecursion (IsOf Profile.One) (i ∷ []) = subst (λ js. AllByRecursion (IsOf Profile.One) js) f (subst (λ (w : Profile). AllByRecursion (IsOf w) is) e all) in
      absurd (let no : false ≡ true = sym none ∙ here.0 in cc)

  -- the bytes of an instruction that profile 2 alone has
  bytes_of : (i : Insn) (bytes : List ℕ) → is_of Profile.One i ≡ false → Encodes bytes (alone i) → AreBytesOf i bytes
  bytes_of i bytes none written =
      record {
        written = written;
        no_other = λ p e h. one bytes p (alone i) e h written;
        not_in_one = λ p e h.
            let same : in_profile Profile.Two p ≡ alone i = one bytes (in_profile Profile.Two p) (alone i) refl (read bytes p e h) written in
            not_of_one i p.insns p.profile e (ap (λ (q : ProgramOf). q.insns) same) none h.program.of_profile;
      }

  -- with its numbers in range, the one slot is a program
  slot_of : (i : Insn) (bytes : List ℕ) → slots (i ∷ []) ≡ 1 → is_of Profile.Two i ≡ true → Fits i → bytes ≡ encoding (i ∷ []) → Encodes bytes (alone i)
  slot_of i bytes one_slot has fits spelt = record { program = record { some = omega (arith, one_slot); most = omega (arith, one_slot); of_profile = (has, tt) }; fits = (fits, tt); spelt = spelt }

  new_bytes : (i : Insn) (bytes : List ℕ) → is_of Profile.One i ≡ false → slots (i ∷ []) ≡ 1 → is_of Profile.Two i ≡ true → Fits i → bytes ≡ encoding (i ∷ []) → AreBytesOf i bytes
  new_bytes i bytes none one_slot has fits spelt = bytes_of i bytes none (slot_of i bytes one_slot has fits spelt)

  pub signs_encoded : SignsAreEncoded
  signs_encoded = record {
    byte_to_64 = new_bytes _ _ refl refl refl tt refl;
    half_to_64 = new_bytes _ _ refl refl refl tt refl;
    word_to_64 = new_bytes _ _ refl refl refl tt refl;
    byte_to_32 = new_bytes _ _ refl refl refl tt refl;
    half_to_32 = new_bytes _ _ refl refl refl tt refl;
    word_load = new_bytes _ _ refl refl refl (search rules) refl;
    half_load = new_bytes _ _ refl refl refl (search rules) refl;
    byte_load = new_bytes _ _ refl refl refl (search rules) refl;
  }
