-- How the fault of a manifest is printed, after `manifest: ` in its line. `Display` of `RegistryFault` cites it.
use Rattle.std.specs.Prelude.{ℕ, List, ◌++◌, codes, Option, Some, None, decimal}
use Rattle.pb_registry.specs.Words.{Refused}
use Rattle.pb_registry.specs.Codes.{number_of, refusal_of}
use Rattle.pb_registry.specs.declared.fault.RegistryFault.{RegistryFault}

-- the place, the code, and of a program the slot and the code there; a program's refusal always has a place
abbrev pub fault_words : Option ℕ → ℕ → Option Refused → List ℕ
fault_words None code r = codes "code " ++ decimal code
fault_words (Some observer) code None = codes "observer " ++ (decimal observer ++ (codes " code " ++ decimal code))
fault_words (Some observer) code (Some r) = codes "observer " ++ (decimal observer ++ (codes " code " ++ (decimal code ++ (codes " slot " ++ (decimal r.slot ++ (codes " code " ++ decimal r.code))))))

-- a fault's words, without a newline
abbrev pub fault_text : RegistryFault → List ℕ
fault_text f = fault_words f.observer (number_of f.cause) (refusal_of f.cause)
