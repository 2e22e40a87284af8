-- What is reported of one file, if it is known what reading it answers.
use Rattle.std.proofs.Common.{arith, ◌≡◌, subst, ℕ, List, Option, Some, Ok, Err, IsUtf8}
use Rattle.pb_files.specs.declared.paths.PathFault.{PathFault}
use Rattle.pb_files.specs.declared.fault.FileFault.{FileFault}
use Rattle.pb_files.specs.Files.{PathBytes, ReadAnswer, IsKnownAs}
use Rattle.pb_files.specs.PathFaults.{memory_fault, IsUnreadAt, IsRead, IsText, IsNoText}
use Rattle.pb_files.specs.FirstFaults.{TellsUnread, TellsNoText}

-- if it is known what a reading answers, it answers that
known_as : (known : Option ReadAnswer) (answer told : ReadAnswer) → known ≡ Some answer → IsKnownAs known told → told ≡ answer
known_as known answer told e k = subst (λ (x : Option ReadAnswer). IsKnownAs x told) e k

-- a path that is known not to be read is reported with its own fault, unless memory ran out
pub own_fault : (known : Option ReadAnswer) (path : PathBytes) (fault : PathFault) (f : FileFault) → known ≡ Some (Err fault) → IsUnreadAt known path f → TellsUnread path fault f
own_fault known path fault f e u = grind arith

-- and bytes are not read of it
pub not_read : (known : Option ReadAnswer) (fault : PathFault) → known ≡ Some (Err fault) → IsRead known → ⊥
not_read known fault e r = let k : Ok r.bytes ≡ Err fault = known_as known (Err fault) (Ok r.bytes) e r.bytes_held in cc

-- a path that is known to be read fails for memory alone
pub only_memory : (known : Option ReadAnswer) (bytes : List ℕ) (path : PathBytes) (f : FileFault) → known ≡ Some (Ok bytes) → IsUnreadAt known path f → f ≡ memory_fault
only_memory known bytes path f e u = grind arith

-- what is read of it are its bytes
pub same_bytes : (known : Option ReadAnswer) (bytes told : List ℕ) → known ≡ Some (Ok bytes) → IsKnownAs known (Ok told) → told ≡ bytes
same_bytes known bytes told e k = let same : Ok told ≡ Ok bytes = known_as known (Ok bytes) (Ok told) e k in cc

-- bytes that are no text are reported with their own path
pub own_text : (known : Option ReadAnswer) (path : PathBytes) (f : FileFault) → IsNoText known path f → TellsNoText path f
own_text known path f n = grind arith

-- bytes that are text are not reported as no text
pub text_is_text : (known : Option ReadAnswer) (bytes : List ℕ) (path : PathBytes) (f : FileFault) → known ≡ Some (Ok bytes) → IsUtf8 bytes → IsNoText known path f → ⊥
text_is_text known bytes path f e utf8 n = grind arith

pub not_text : (known : Option ReadAnswer) (bytes : List ℕ) → known ≡ Some (Ok bytes) → (IsUtf8 bytes → ⊥) → IsText known → ⊥
not_text known bytes e bad t = bad (subst IsUtf8 (same_bytes known bytes t.bytes e t.bytes_held) t.text)
