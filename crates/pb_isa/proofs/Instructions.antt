-- What holds of each instruction, by its case.
use Rattle.std.proofs.Common.{◌<◌, arith, length, List, [], ◌∷◌}
use Rattle.pb_isa.specs.declared.insn.Reg.{Reg}
use Rattle.pb_isa.specs.Registers.{number}
use Rattle.pb_isa.specs.declared.insn.Insn.{Insn}
use Rattle.pb_isa.specs.Slots.{places_of}
use Rattle.pb_isa.specs.declared.profile.Profile.{Profile}
use Rattle.pb_isa.specs.Profiles.{IsOf}
use Rattle.std.specs.List.{AllByRecursion}

-- registers are numbered below 11
pub number_below : (r : Reg) → number r < 11
number_below r = grind arith

-- each instruction takes a place at least
pub some_place : (i : Insn) → 0 < length (places_of i)
some_place i = grind arith

-- an instruction of profile 1 is one of profile 2
pub of_next : (i : Insn) → IsOf Profile.One i → IsOf Profile.Two i
of_next i h = grind arith

-- so are all of a program
pub all_next : (p : List Insn) → AllByRecursion (IsOf Profile.One) p → AllByRecursion (IsOf Profile.Two) p
all_next [] all = tt
all_next (i ∷ p) all = (of_next i all.0, all_next p all.1)
