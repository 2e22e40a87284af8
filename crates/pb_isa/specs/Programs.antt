-- Programs, and programs with what they are judged for, as contracts see them. Each has a code, since refusal 43
-- compares the program of a declared run with the observer's.
use Rattle.std.specs.Prelude.{◌≡◌, ℕ, ◌<◌, ◌≤◌, ◌⊎◌, List, refl}
use Rattle.std.specs.Coded.{Coded, code_by, coded×, coded_ℕ, coded_list}
use Rattle.std.specs.List.{AllByRecursion}
use Rattle.pb_isa.specs.declared.insn.Insn.{Insn}
use Rattle.pb_isa.specs.declared.profile.Profile.{Profile}
use Rattle.pb_isa.specs.declared.program.NoProgram.{NoProgram}
use Rattle.pb_isa.specs.contracts.insn.Insn as insn
use Rattle.pb_isa.specs.contracts.profile.Profile as profile
use Rattle.pb_isa.specs.Profiles.{IsOf, max_slots}
use Rattle.pb_isa.specs.Helpers.{HelperSet, helper_code}
use Rattle.pb_isa.specs.Slots.{slots}

-- a profile and instructions; the profile is part of the value, so that the same instructions of the other are another
-- program
pub record ProgramOf : Type 0 where
  pub profile : Profile
  pub insns : List Insn

-- a program as a tree, by which two are compared
abbrev pub program_code : Coded ProgramOf
program_code =
    code_by (Profile × List Insn) (coded× profile.the_row.coded (coded_list insn.the_row.coded))
    (λ p. (p.profile, p.insns)) (λ p. record { profile = p.0; insns = p.1 }) (λ _. refl)

-- some slots, no more than its profile has, and instructions of its profile alone
pub record IsProgram (p : ProgramOf) : Type 0 where
  pub some : 0 < slots p.insns
  pub most : slots p.insns ≤ max_slots p.profile
  pub of_profile : AllByRecursion (IsOf p.profile) p.insns

-- the list takes no slot or more than the profile has, and is handed back; or memory was refused
abbrev pub IsRefused : Profile → List Insn → NoProgram → Type 0
IsRefused p is (NoProgram.NoMemory refused) = Unit {0}
IsRefused p is (NoProgram.NotInRange back) = (back.items ≡ is) × ((slots is ≡ 0) ⊎ (max_slots p < slots is))

-- a program with what it is judged for: the helpers that it may call, and how many bytes its record has
pub record JudgedOf : Type 0 where
  pub program : ProgramOf
  pub helpers : HelperSet
  pub record_size : ℕ

-- a judged program as a tree: with other helpers or another record it is another
abbrev pub judged_code : Coded JudgedOf
judged_code =
    code_by (ProgramOf × (HelperSet × ℕ)) (coded× program_code (coded× helper_code coded_ℕ))
    (λ j. (j.program, (j.helpers, j.record_size)))
    (λ p. record { program = p.0; helpers = p.1.0; record_size = p.1.1 })
    (λ _. refl)
