-- The fault of the first file that can't be read, or isn't text. Every file is read before any is taken as text, so
-- there are two ways to be first. Each command cites it for its own files.
use Rattle.std.specs.Prelude.{◌≡◌, ◌⊎◌, ℕ, List, [], ◌∷◌, Option, Ok, Err, IsUtf8}
use Rattle.pb_base.specs.Growths.{refused_growth}
use Rattle.pb_files.specs.declared.paths.PathFault.{PathFault}
use Rattle.pb_files.specs.declared.fault.FileFault.{FileFault}
use Rattle.pb_files.specs.Files.{PathBytes, ReadAnswer, Held, IsKnownAs}

-- the fault for which a growth was refused
abbrev pub memory_fault : FileFault
memory_fault = FileFault.NoMemory refused_growth

-- ---- a file

-- reading the path answers this fault, which names the path; or memory was refused
abbrev pub IsUnreadAt : Option ReadAnswer → PathBytes → FileFault → Type 0
IsUnreadAt known path (FileFault.Unreadable p) = (p.now ≡ path) × IsKnownAs known (Err PathFault.Failed)
IsUnreadAt known path (FileFault.TooLarge p) = (p.now ≡ path) × IsKnownAs known (Err PathFault.TooLarge)
IsUnreadAt known path (FileFault.NoMemory refused) = Unit {0}
IsUnreadAt known path _ = ⊥

-- the bytes of the file at the path aren't text
abbrev pub IsNoTextAt : List ℕ → List ℕ → FileFault → Type 0
IsNoTextAt path bytes (FileFault.NotText p) = (p.now ≡ path) × (IsUtf8 bytes → ⊥)
IsNoTextAt path bytes _ = ⊥

-- reading a path answers bytes
pub record IsRead (known : Option ReadAnswer) : Type 0 where
  pub bytes : List ℕ
  pub bytes_held : IsKnownAs known (Ok bytes)

-- reading a path answers text
pub record IsText (known : Option ReadAnswer) : Type 0 where
  pub bytes : List ℕ
  pub bytes_held : IsKnownAs known (Ok bytes)
  pub text : IsUtf8 bytes

-- reading the path answers bytes that are no text
pub record IsNoText (known : Option ReadAnswer) (path : PathBytes) (f : FileFault) : Type 0 where
  pub bytes : List ℕ
  pub bytes_held : IsKnownAs known (Ok bytes)
  pub no_text : IsNoTextAt path bytes f

-- ---- files in their order

-- each of the paths is read
abbrev pub AreRead : Held → List PathBytes → Type 0
AreRead before [] = Unit {0}
AreRead before (path ∷ paths) = IsRead (before path) × AreRead before paths

-- the fault of the first path that isn't read
abbrev pub IsFirstUnread : Held → List PathBytes → FileFault → Type 0
IsFirstUnread before [] f = ⊥
IsFirstUnread before (path ∷ paths) f =
    IsUnreadAt (before path) path f ⊎ (IsRead (before path) × IsFirstUnread before paths f)

-- the fault of the first path whose bytes are no text
abbrev pub IsFirstNoText : Held → List PathBytes → FileFault → Type 0
IsFirstNoText before [] f = ⊥
IsFirstNoText before (path ∷ paths) f =
    IsNoText (before path) path f ⊎ (IsText (before path) × IsFirstNoText before paths f)

-- the first fault of files that are all read before any is taken as text
abbrev pub IsFileFault : Held → List PathBytes → FileFault → Type 0
IsFileFault before paths f = IsFirstUnread before paths f ⊎ (AreRead before paths × IsFirstNoText before paths f)
