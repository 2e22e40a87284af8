-- Bytes of a program of profile 1, read in profile 2. `pb_decode` proves which program they are there, and `pb_sound` how
-- programs of the same instructions are judged and what they mean. Here it is one sentence about bytes.
use Rattle.std.specs.Prelude.{◌≡◌, ◌↔◌, ℕ, List}
use Rattle.law_programs.specs.Words.{Writes, Profile, HelperSet, Talk, Means, ProgramOf, JudgedOf, RuleCode, Accepts, Refuses, Encodes}

-- a program, judged for these helpers and a record of this size
abbrev pub judged_for : ProgramOf → HelperSet → ℕ → JudgedOf
judged_for p helpers size = record { program = p; helpers = helpers; record_size = size }

-- two programs have the same instructions, verdict and meaning
pub record AreAlike (p q : ProgramOf) : Type 0 where
  pub insns : q.insns ≡ p.insns
  pub accepted : (helpers : HelperSet) (size : ℕ) → Accepts (judged_for p helpers size) ↔ Accepts (judged_for q helpers size)
  pub refused : (helpers : HelperSet) (size slot : ℕ) (code : RuleCode) → Refuses (judged_for p helpers size) slot code ↔ Refuses (judged_for q helpers size) slot code
  pub meant :
      (helpers : HelperSet) (size : ℕ) (change : List ℕ) (start : ℕ) (talk : Talk) (r : ℕ) (writes : Writes) →
      Means (judged_for p helpers size) change start talk r writes ↔ Means (judged_for q helpers size) change start talk r writes

-- in profile 2 the bytes are one program, and it is like this one
pub record AreReadInTwo (bytes : List ℕ) (p : ProgramOf) : Type 0 where
  pub q : ProgramOf
  pub of_two : q.profile ≡ Profile.Two
  pub read : Encodes bytes q
  pub no_other : (r : ProgramOf) → r.profile ≡ Profile.Two → Encodes bytes r → r ≡ q
  pub alike : AreAlike p q

-- of all bytes that are a program of profile 1
abbrev pub BytesMeanTheSame : Type 0
BytesMeanTheSame = (bytes : List ℕ) (p : ProgramOf) → p.profile ≡ Profile.One → Encodes bytes p → AreReadInTwo bytes p
