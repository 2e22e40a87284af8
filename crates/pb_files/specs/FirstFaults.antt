-- If it is known of files what reading them answers, the first that is at fault is reported: the statements of the law
-- `first_file_fault_is_told`, for any number of files.
use Rattle.std.specs.Prelude.{◌≡◌, ℕ, List, ◌∷◌, ◌++◌, Some, Ok, Err, IsUtf8, All}
use Rattle.pb_files.specs.declared.paths.PathFault.{PathFault}
use Rattle.pb_files.specs.declared.fault.FileFault.{FileFault}
use Rattle.pb_files.specs.Files.{PathBytes, Held}
use Rattle.pb_files.specs.PathFaults.{memory_fault, IsFileFault}

-- the path is known to be read
abbrev pub IsKnownRead : Held → PathBytes → Type 0
IsKnownRead before path = (bytes : List ℕ) × (before path ≡ Some (Ok bytes))

-- the path is known to be text
abbrev pub IsKnownText : Held → PathBytes → Type 0
IsKnownText before path = (bytes : List ℕ) × (before path ≡ Some (Ok bytes)) × IsUtf8 bytes

-- this fault states why the path isn't read, or that memory was refused
abbrev pub TellsUnread : PathBytes → PathFault → FileFault → Type 0
TellsUnread path fault (FileFault.Unreadable p) = (p.now ≡ path) × (fault ≡ PathFault.Failed)
TellsUnread path fault (FileFault.TooLarge p) = (p.now ≡ path) × (fault ≡ PathFault.TooLarge)
TellsUnread path fault (FileFault.NoMemory refused) = Unit {0}
TellsUnread path fault _ = ⊥

-- this fault states that the path is no text, or that memory was refused
abbrev pub TellsNoText : PathBytes → FileFault → Type 0
TellsNoText path (FileFault.NotText p) = p.now ≡ path
TellsNoText path (FileFault.NoMemory refused) = Unit {0}
TellsNoText path _ = ⊥

-- the first path that isn't read is reported with its own fault, whatever comes after it
abbrev pub FirstUnreadIsTold : Type 0
FirstUnreadIsTold = (before : Held) (front back : List PathBytes) (path : PathBytes) (fault : PathFault) (f : FileFault) →
    All (IsKnownRead before) front → before path ≡ Some (Err fault) →
    IsFileFault before (front ++ (path ∷ back)) f → TellsUnread path fault f

-- the first path that is no text is reported, if those after it are read
abbrev pub FirstNoTextIsTold : Type 0
FirstNoTextIsTold = (before : Held) (front back : List PathBytes) (path : PathBytes) (bytes : List ℕ) (f : FileFault) →
    All (IsKnownText before) front → before path ≡ Some (Ok bytes) → (IsUtf8 bytes → ⊥) →
    All (IsKnownRead before) back → IsFileFault before (front ++ (path ∷ back)) f → TellsNoText path f

-- paths that are all text have no fault of their own
abbrev pub TextsAreNoFault : Type 0
TextsAreNoFault = (before : Held) (paths : List PathBytes) (f : FileFault) →
    All (IsKnownText before) paths → IsFileFault before paths f → f ≡ memory_fault
