-- Timestamps for the changes that wait.
use Rattle.std.proofs.Common.{arith, ◌≡◌, ℕ, ◌+◌, ◌*◌, ◌<◌, ◌≤◌, Bool, true, false, List, [], ◌∷◌, ◌++◌, length, Result, Ok, Err, refl, ap, subst, ◌∙◌}
use Rattle.std.proofs.lemmas.List.{length-append}
use Rattle.pb_keeper.specs.declared.room.TheConstants.{MAX_CLOCK}
use Rattle.pb_keep.specs.Words.{MAX_CHANGES, Request, ScriptCode, StateOf, Writes, last_timestamp}
use Rattle.pb_keep.specs.declared.waiting.Waits.{Waits}
use Rattle.pb_keep.specs.Waits.{changes_in, Group}
use Rattle.pb_keep.specs.Held.{refuses_changes, unless_full, IsHeldAs}
use Rattle.pb_keep.specs.Left.{most_timestamps, AreInTime}
use Rattle.pb_keep.proofs.Added.{changes_of_both}
use Rattle.pb_keep.proofs.Scripts.{empty_list}

-- for one change
pub one_in_time : {batch : Writes} {item : Waits} (state : StateOf) → item ≡ Waits.Change batch → AreInTime (item ∷ []) state → state.clock + most_timestamps < last_timestamp
one_in_time {batch} {item} state is room =
    let r : AreInTime (Waits.Change batch ∷ []) state = subst (λ i. AreInTime (i ∷ []) state) is room in
    let lt = r (λ e. absurd cc) in
    omega (arith, lt)

-- after the answers so far
pub clock_on : (items : List Waits) (item : Waits) (first old new : ℕ) → old ≤ first + length (changes_in items) * most_timestamps → new ≤ old + length (changes_in (item ∷ [])) * most_timestamps
    → new ≤ first + length (changes_in (items ++ item ∷ [])) * most_timestamps
clock_on items item first old new was one =
    let both : length (changes_in (items ++ item ∷ [])) ≡ length (changes_in items) + length (changes_in (item ∷ [])) =
    ap length (changes_of_both items (item ∷ [])) ∙ length-append (changes_in items) (changes_in (item ∷ [])) in
    omega (arith, was, one, both)

-- the next of all
pub next_in_time : (all items rest : List Waits) (item : Waits) (first now : StateOf) → all ≡ items ++ item ∷ rest → now.clock ≤ first.clock + length (changes_in items) * most_timestamps → AreInTime all first → AreInTime (item ∷ []) now
next_in_time all items rest item first now parts was room some =
    let both : length (changes_in all) ≡ length (changes_in items) + (length (changes_in (item ∷ [])) + length (changes_in rest)) =
    ap (λ l. length (changes_in l)) parts
    ∙ (ap length (changes_of_both items (item ∷ rest)) ∙ (length-append (changes_in items) (changes_in (item ∷ rest))
    ∙ ap (λ n. length (changes_in items) + n) (ap length (changes_of_both (item ∷ []) rest) ∙ length-append (changes_in (item ∷ [])) (changes_in rest)))) in
    let lt = room (λ e. some (empty_list (changes_in (item ∷ [])) (let none = ap length e in omega (arith, none, both)))) in
    omega (arith, was, lt, both)

-- ---- where lines begin to wait

-- a record has few changes
pub few_in_time : (items : List Waits) (state : StateOf) → length (changes_in items) ≤ MAX_CHANGES → ((changes_in items ≡ [] → ⊥) → state.clock ≤ MAX_CLOCK) → AreInTime items state
few_in_time items state few low some = let at = low some in omega (arith, few, at)

taken_if : (full : Bool) (item : Waits) (batch : Writes) → Waits.Change batch ≡ unless_full full item → full ≡ false
taken_if false item batch e = refl
taken_if true (Waits.Change other) batch e = absurd cc
taken_if true (Waits.Unmade newest) batch e = absurd cc
taken_if true (Waits.Refused code) batch e = absurd cc
taken_if true Waits.Begun batch e = absurd cc
taken_if true Waits.Ended batch e = absurd cc

-- a change waits where the table isn't full
pub not_full : (full : Bool) (group : Group) (state : StateOf) (line : List ℕ) (read : Result Request ScriptCode) (batch : Writes) → IsHeldAs full group state line read (Waits.Change batch) → full ≡ false
not_full full group state line (Err code) batch h = absurd cc
not_full full Group.alone state line (Ok Request.Change) batch h = taken_if full _ batch h
not_full full Group.alone state line (Ok (Request.ChangeIf condition)) batch h = taken_if full _ batch h.held.is
not_full full Group.alone state line (Ok Request.Begin) batch h = absurd cc
not_full full Group.alone state line (Ok Request.End) batch h = absurd cc
not_full full Group.alone state line (Ok (Request.Get row column)) batch h = absurd h
not_full full Group.alone state line (Ok (Request.Since above)) batch h = absurd h
not_full full Group.alone state line (Ok Request.List) batch h = absurd h
not_full full Group.alone state line (Ok Request.IsQuiet) batch h = absurd h
not_full full Group.alone state line (Ok Request.Stats) batch h = absurd h
not_full full Group.alone state line (Ok Request.Compact) batch h = absurd h
not_full full Group.alone state line (Ok (Request.Copy number)) batch h = absurd h
not_full full (Group.within changes bytes) state line (Ok Request.Change) batch h = taken_if full _ batch h
not_full full (Group.within changes bytes) state line (Ok Request.End) batch h = absurd cc
not_full full (Group.within changes bytes) state line (Ok (Request.ChangeIf condition)) batch h = absurd cc
not_full full (Group.within changes bytes) state line (Ok Request.Begin) batch h = absurd cc
not_full full (Group.within changes bytes) state line (Ok (Request.Get row column)) batch h = absurd cc
not_full full (Group.within changes bytes) state line (Ok (Request.Since above)) batch h = absurd cc
not_full full (Group.within changes bytes) state line (Ok Request.List) batch h = absurd cc
not_full full (Group.within changes bytes) state line (Ok Request.IsQuiet) batch h = absurd cc
not_full full (Group.within changes bytes) state line (Ok Request.Stats) batch h = absurd cc
not_full full (Group.within changes bytes) state line (Ok Request.Compact) batch h = absurd cc
not_full full (Group.within changes bytes) state line (Ok (Request.Copy number)) batch h = absurd cc

has_time : (limit : ℕ) (state : StateOf) → refuses_changes limit true state ≡ false → state.clock ≤ MAX_CLOCK
has_time limit state e = grind (arith, e)

-- with the first of a record the table has timestamps for all of it
pub first_in_time : (limit : ℕ) (group : Group) (state : StateOf) (line : List ℕ) (read : Result Request ScriptCode) (item : Waits) → IsHeldAs (refuses_changes limit true state) group state line read item → (changes_in (item ∷ []) ≡ [] → ⊥) → state.clock ≤ MAX_CLOCK
first_in_time limit group state line read (Waits.Change batch) h some = has_time limit state (not_full (refuses_changes limit true state) group state line read batch h)
first_in_time limit group state line read (Waits.Unmade newest) h some = absurd (some refl)
first_in_time limit group state line read (Waits.Refused code) h some = absurd (some refl)
first_in_time limit group state line read Waits.Begun h some = absurd (some refl)
first_in_time limit group state line read Waits.Ended h some = absurd (some refl)
