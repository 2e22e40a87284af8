-- What reading the paths of files answers, if that is known. For a system's file it isn't, since another program may
-- change it between two readings; for files in memory it is. All contracts of commands speak of this.
use Rattle.std.specs.Prelude.{◌≡◌, ◌≢◌, ◌⊎◌, ℕ, Bool, List, Option, Some, None, Result, Err}
use Rattle.pb_base.specs.Growths.{refused_growth}
use Rattle.pb_files.specs.declared.paths.PathFault.{PathFault}

-- the bytes of a path, which are listed like those of any text
abbrev pub PathBytes : Type 0
PathBytes = List ℕ

-- what reading a path answers: the bytes of its file, or why they aren't read
abbrev pub ReadAnswer : Type 0
ReadAnswer = Result (List ℕ) PathFault

-- what reading each path answers
abbrev pub Held : Type 0
Held = PathBytes → Option ReadAnswer

-- this is what reading a path answers, where that is known
abbrev pub IsKnownAs : Option ReadAnswer → ReadAnswer → Type 0
IsKnownAs None answer = Unit {0}
IsKnownAs (Some known) answer = answer ≡ known

-- this is why a path isn't read: memory may be refused at any time, and else it is what is known
abbrev pub IsFaultKnownAs : Option ReadAnswer → PathFault → Type 0
IsFaultKnownAs known fault = (fault ≡ PathFault.NoMemory refused_growth) ⊎ IsKnownAs known (Err fault)

-- reading each other path answers what it answered
abbrev pub KeepsOthers : Held → Held → PathBytes → Type 0
KeepsOthers before after path = (other : PathBytes) → other ≢ path → after other ≡ before other

-- what the paths held before a command and hold after it, and whether a write to one had failed and has
pub record Filing : Type 0 where
  pub before : Held
  pub after : Held
  pub was : Bool
  pub failed : Bool

-- that of paths, by what their `held` and `failed` give
abbrev pub filing : {P : Type 0} → (P → Held) → (P → Bool) → P → P → Filing
filing held failed old new = record { before = held old; after = held new; was = failed old; failed = failed new }

-- nothing was written to a path, and no write failed
abbrev pub KeepsFiles : Filing → Type 0
KeepsFiles files = (files.after ≡ files.before) × (files.failed ≡ files.was)
