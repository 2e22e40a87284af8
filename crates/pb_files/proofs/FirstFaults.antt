-- The first of known files that is at fault is reported.
use Rattle.std.proofs.Common.{arith, ◌≡◌, sym, subst, ℕ, List, [], ◌∷◌, ◌++◌, Some, Ok, Err, inl, inr, IsUtf8, All}
use Rattle.std.proofs.lemmas.List.Elements.{All-head, All-tail}
use Rattle.pb_files.specs.declared.paths.PathFault.{PathFault}
use Rattle.pb_files.specs.declared.fault.FileFault.{FileFault}
use Rattle.pb_files.specs.Files.{PathBytes, Held}
use Rattle.pb_files.specs.PathFaults.{memory_fault, AreRead, IsFirstUnread, IsFirstNoText}
use Rattle.pb_files.specs.FirstFaults.{IsKnownRead, IsKnownText, TellsUnread, TellsNoText, FirstUnreadIsTold, FirstNoTextIsTold, TextsAreNoFault}
use Rattle.pb_files.proofs.KnownFiles.{own_fault, not_read, only_memory, own_text, text_is_text, not_text}

-- where a path is known not to be read, not all are read
not_all_read : (before : Held) (front back : List PathBytes) (path : PathBytes) (fault : PathFault) → before path ≡ Some (Err fault) → AreRead before (front ++ (path ∷ back)) → ⊥
not_all_read before [] back path fault e r = not_read (before path) fault e r.0
not_all_read before (q ∷ front) back path fault e r = not_all_read before front back path fault e r.1

-- after paths that are read, the first that isn't is reported with its own fault
first_unread : (before : Held) (front back : List PathBytes) (path : PathBytes) (fault : PathFault) (f : FileFault) → All (IsKnownRead before) front → before path ≡ Some (Err fault) → IsFirstUnread before (front ++ (path ∷ back)) f → TellsUnread path fault f
first_unread before [] back path fault f all e (inl u) = own_fault (before path) path fault f e u
first_unread before [] back path fault f all e (inr more) = absurd (not_read (before path) fault e more.0)
first_unread before (q ∷ front) back path fault f all e (inl u) = grind (arith, All-head, only_memory)
first_unread before (q ∷ front) back path fault f all e (inr more) = grind (arith, All-tail, first_unread before front back path fault f (All-tail (IsKnownRead before) q front all) e more.1)

-- whatever stands after it, since files are read in order
pub first_unread_is_told : FirstUnreadIsTold
first_unread_is_told before front back path fault f all e (inl unread) = first_unread before front back path fault f all e unread
first_unread_is_told before front back path fault f all e (inr read) = absurd (not_all_read before front back path fault e read.0)

-- paths that are known to be read fail for memory alone
read_memory : (before : Held) (paths : List PathBytes) (f : FileFault) → All (IsKnownRead before) paths → IsFirstUnread before paths f → f ≡ memory_fault
read_memory before [] f all u = absurd u
read_memory before (q ∷ paths) f all (inl u) = let k = All-head (IsKnownRead before) q paths all in only_memory (before q) k.0 q f k.1 u
read_memory before (q ∷ paths) f all (inr more) = read_memory before paths f (All-tail (IsKnownRead before) q paths all) more.1

memory_among : (before : Held) (front back : List PathBytes) (path : PathBytes) (bytes : List ℕ) (f : FileFault) → All (IsKnownText before) front → before path ≡ Some (Ok bytes) → All (IsKnownRead before) back → IsFirstUnread before (front ++ (path ∷ back)) f → f ≡ memory_fault
memory_among before [] back path bytes f all e rest (inl u) = only_memory (before path) bytes path f e u
memory_among before [] back path bytes f all e rest (inr more) = read_memory before back f rest more.1
memory_among before (q ∷ front) back path bytes f all e rest (inl u) = let k = All-head (IsKnownText before) q front all in only_memory (before q) k.0 q f k.1 u
memory_among before (q ∷ front) back path bytes f all e rest (inr more) = grind (arith, All-tail, memory_among before front back path bytes f (All-tail (IsKnownText before) q front all) e rest more.1)

-- after paths that are text, the first that isn't is reported
first_no_text : (before : Held) (front back : List PathBytes) (path : PathBytes) (bytes : List ℕ) (f : FileFault) → All (IsKnownText before) front → before path ≡ Some (Ok bytes) → (IsUtf8 bytes → ⊥) → IsFirstNoText before (front ++ (path ∷ back)) f → TellsNoText path f
first_no_text before [] back path bytes f all e bad (inl n) = own_text (before path) path f n
first_no_text before [] back path bytes f all e bad (inr more) = absurd (not_text (before path) bytes e bad more.0)
first_no_text before (q ∷ front) back path bytes f all e bad (inl n) =
    let k = All-head (IsKnownText before) q front all in absurd (text_is_text (before q) k.0 q f k.1 k.2 n)
first_no_text before (q ∷ front) back path bytes f all e bad (inr more) = grind (arith, All-tail, first_no_text before front back path bytes f (All-tail (IsKnownText before) q front all) e bad more.1)

-- if all are read, since reading comes first
pub first_no_text_is_told : FirstNoTextIsTold
first_no_text_is_told before front back path bytes f all e bad rest (inl unread) =
    subst (λ (g : FileFault). TellsNoText path g) (sym (memory_among before front back path bytes f all e rest unread)) tt
first_no_text_is_told before front back path bytes f all e bad rest (inr read) = first_no_text before front back path bytes f all e bad read.1

text_memory : (before : Held) (paths : List PathBytes) (f : FileFault) → All (IsKnownText before) paths → IsFirstUnread before paths f → f ≡ memory_fault
text_memory before [] f all u = absurd u
text_memory before (q ∷ paths) f all (inl u) = let k = All-head (IsKnownText before) q paths all in only_memory (before q) k.0 q f k.1 u
text_memory before (q ∷ paths) f all (inr more) = text_memory before paths f (All-tail (IsKnownText before) q paths all) more.1

all_text : (before : Held) (paths : List PathBytes) (f : FileFault) → All (IsKnownText before) paths → IsFirstNoText before paths f → ⊥
all_text before [] f all n = n
all_text before (q ∷ paths) f all (inl n) = let k = All-head (IsKnownText before) q paths all in text_is_text (before q) k.0 q f k.1 k.2 n
all_text before (q ∷ paths) f all (inr more) = all_text before paths f (All-tail (IsKnownText before) q paths all) more.1

-- and where all are text, nothing but memory is refused
pub texts_are_no_fault : TextsAreNoFault
texts_are_no_fault before paths f all w = grind (arith, text_memory, all_text)
