-- How faults of events are printed.
use Rattle.std.specs.Prelude.{ℕ, List, ◌++◌, codes, decimal}
use Rattle.pb_world.specs.Words.{refused_growth}
use Rattle.pb_world.specs.declared.fault.EventFault.{EventFault}

-- the number of each fault
abbrev pub fault_code : EventFault → ℕ
fault_code (EventFault.NoMemory refused) = 1
fault_code EventFault.NoSuchActor = 60
fault_code EventFault.Busy = 61
fault_code EventFault.NoSuchJob = 63

-- the fault of an event for which a growth was refused
abbrev pub memory_fault : EventFault
memory_fault = EventFault.NoMemory refused_growth

-- the words of the fault of an event, counted from 0, without a newline
abbrev pub event_and_code : ℕ → ℕ → List ℕ
event_and_code event code = codes "event " ++ (decimal event ++ (codes " code " ++ decimal code))
