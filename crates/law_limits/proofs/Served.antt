-- How many entries a table has while lines are answered.
use Rattle.std.proofs.Common.{arith, ◌≡◌, ℕ, zero, suc, ◌+◌, ◌*◌, ◌<◌, ◌≤◌, ◌==◌, max, true, false, List, [], ◌∷◌, length, refl, sym, ap, subst, ◌∙◌}
use Rattle.std.specs.FinMap as map
use Rattle.pb_keeper.specs.Stats.{KeptTable}
use Rattle.pb_keep.specs.Conversations.{AreAnswered, none_yet, one_answered, one_asked, record_ended}
use Rattle.pb_keep.specs.Held.{IsLineHeld, refuses_changes}
use Rattle.pb_keep.specs.Waits.{Group, IsAnswer, changes_in}
use Rattle.pb_keep.specs.declared.waiting.Waits.{Waits}
use Rattle.pb_keep.proofs.InTime.{not_full}
use Rattle.law_limits.specs.Words.{MAX_CHANGES, Writes, StateOf}
use Rattle.law_limits.specs.Limits.{entry_count, own_entries, ServedTablesStayWithin}
use Rattle.law_limits.proofs.Kept.{made_within}

-- so many entries, of which the changes of the record so far have left some
record IsWithin (most n : ℕ) (table : KeptTable) : Type 0 where
  all : entry_count table ≤ most + own_entries * MAX_CHANGES
  own : (n ≡ 0 → ⊥) → entry_count table ≤ most + own_entries * n

has_room_then : (limit : ℕ) (state : StateOf) → refuses_changes limit true state ≡ false → map.len state.entries < limit
has_room_then limit state e = grind (arith, e)

-- the first change of a record finds room
first_has_room : (limit n : ℕ) (group : Group) (state : StateOf) (line : List ℕ) (batch : Writes) → IsLineHeld limit (n == 0) group state line (Waits.Change batch) → n ≡ 0 → map.len state.entries < limit
first_has_room limit n group state line batch held first = has_room_then limit state (ap (λ k. refuses_changes limit (k == 0) state) (sym first) ∙ not_full (refuses_changes limit (n == 0) state) group state line held.read batch held.held)

-- a change more
one_more : (limit most n : ℕ) (a b : ℕ) → limit ≤ most → a ≤ most + own_entries * MAX_CHANGES → ((n ≡ 0 → ⊥) → a ≤ most + own_entries * n) → (n ≡ 0 → a < limit) → b ≤ max limit a + own_entries → b ≤ most + own_entries * (n + 1)
one_more limit most zero a b low all own room grown = let lt = room refl in omega (arith, low, lt, grown)
one_more limit most (suc n) a b low all own room grown = let le = own (λ e. absurd (omega (arith, e))) in omega (arith, low, le, grown)

module _ (since limit : ℕ) (start : KeptTable) where
  abbrev most : ℕ
  most = max limit (entry_count start)

  -- nothing else is done
  as_before : (n m : ℕ) (a b : KeptTable) → IsWithin most n a → b ≡ a → m ≡ n → IsWithin most m b
  as_before n m a b w same count = subst (λ k. IsWithin most k b) (sym count) (subst (IsWithin most n) (sym same) w)

  next_within : (n : ℕ) (group : Group) (line : List ℕ) (item : Waits) (a b : KeptTable) (text : List ℕ) → IsWithin most n a → IsLineHeld limit (n == 0) group a.state line item → IsAnswer limit item a b text
      → n + length (changes_in (item ∷ [])) ≤ MAX_CHANGES → IsWithin most (n + length (changes_in (item ∷ []))) b
  next_within n group line (Waits.Change batch) a b text w held answer few =
      let grown = made_within limit batch answer.made.commit a b answer.leads in
      let on = one_more limit most n (entry_count a) (entry_count b) (omega arith) w.all w.own (first_has_room limit n group a.state line batch held) grown in
      record { all = omega (arith, on, few); own = λ some. on }
  next_within n group line (Waits.Unmade newest) a b text w held answer few = as_before n (n + 0) a b w answer.0 (omega arith)
  next_within n group line (Waits.Refused code) a b text w held answer few = as_before n (n + 0) a b w answer.0 (omega arith)
  next_within n group line Waits.Begun a b text w held answer few = as_before n (n + 0) a b w answer.0 (omega arith)
  next_within n group line Waits.Ended a b text w held answer few = as_before n (n + 0) a b w answer.0 (omega arith)

  -- a record ends
  ended : (n : ℕ) (table : KeptTable) → IsWithin most n table → IsWithin most 0 table
  ended n table w = record { all = w.all; own = λ some. absurd (some refl) }

  served : (lines : List (List ℕ)) (made : List Writes) (group : Group) (n : ℕ) (table : KeptTable) (text : List ℕ) → AreAnswered since limit start lines made group n table text → IsWithin most n table
  served lines made group n table text none_yet = record { all = omega arith; own = λ some. absurd (some refl) }
  served lines made group n table text (one_answered before line m g k item a b told more so held answer few) = next_within k g line item a b more (served before m g k a told so) held answer few
  served lines made group n table text (one_asked before line m k t told more so asked) = ended k table (served before m Group.alone k table told so)
  served lines made group n table text (record_ended l m k t told so) = ended k table (served lines made Group.alone k table text so)

pub served_within : ServedTablesStayWithin
served_within since limit start lines made group n table text so = (served since limit start lines made group n table text so).all
