-- The lines that wait, and how they are answered.
use Rattle.std.specs.Prelude.{◌≡◌, ℕ, ◌+◌, ◌≤◌, Bool, true, false, ◌&&◌, ◌==◌, nat_le, nat_lt, List, [], ◌∷◌, ◌++◌, length, None, Ok, codes, decimal, string_bytes}
use Rattle.std.specs.FinMap as map
use Rattle.std.specs.List.{join_with_byte, list_any}
use Rattle.pb_keep.specs.Words.{Writes, commit_count, MAX_CHANGES, IsNextMark, KeptTable, is_skipped, batch_of, SaidLeads, Counted, IsMade, comes_to_rest, runs_within, Made}
use Rattle.pb_keep.specs.declared.waiting.TheConstants.{MAX_RECORD}
use Rattle.pb_keep.specs.declared.waiting.Waits.{Waits}
use Rattle.pb_keep.specs.declared.waiting.Waiting.{Waiting}

-- ---- what a record of the log has

-- lines, each with its newline
abbrev pub script_lines : List (List ℕ) → List ℕ
script_lines lines = join_with_byte 10 (lines ++ [] ∷ [])

-- a line that is read as this change, neither empty nor a remark, and with no newline in it
pub record IsScriptLine (line : List ℕ) (batch : Writes) : Type 0 where
  pub read : batch_of line ≡ Ok batch
  pub shown : is_skipped line ≡ false
  pub whole : list_any (λ b. b == 10) line ≡ false

-- each line is read as the change in its place
abbrev pub AreScriptLines : List (List ℕ) → List Writes → Type 0
AreScriptLines [] [] = Unit {0}
AreScriptLines [] (batch ∷ batches) = ⊥
AreScriptLines (line ∷ lines) [] = ⊥
AreScriptLines (line ∷ lines) (batch ∷ batches) = IsScriptLine line batch × AreScriptLines lines batches

-- the changes among lines that wait, in order
abbrev pub changes_in : List Waits → List Writes
changes_in [] = []
changes_in (Waits.Change batch ∷ items) = batch ∷ changes_in items
changes_in (Waits.Unmade newest ∷ items) = changes_in items
changes_in (Waits.Refused code ∷ items) = changes_in items
changes_in (Waits.Begun ∷ items) = changes_in items
changes_in (Waits.Ended ∷ items) = changes_in items

-- a record of so many changes and bytes has room for a line of this length more
abbrev pub has_line_room : ℕ → ℕ → ℕ → Bool
has_line_room changes bytes line = nat_lt changes MAX_CHANGES && nat_le (bytes + (line + 1)) MAX_RECORD

-- none of these is the end of a group
abbrev pub HasNoEnd : List Waits → Type 0
HasNoEnd [] = Unit {0}
HasNoEnd (Waits.Change batch ∷ items) = HasNoEnd items
HasNoEnd (Waits.Unmade newest ∷ items) = HasNoEnd items
HasNoEnd (Waits.Refused code ∷ items) = HasNoEnd items
HasNoEnd (Waits.Begun ∷ items) = HasNoEnd items
HasNoEnd (Waits.Ended ∷ items) = ⊥

-- a group without its end, and nothing before its `begin`
abbrev pub IsOpenGroup : List Waits → Type 0
IsOpenGroup items = (rest : List Waits) × (items ≡ Waits.Begun ∷ rest) × HasNoEnd rest

-- the next record has the lines of the changes that wait, and those alone; in a group nothing waits that came before it
pub record IsWaiting (waiting : Waiting) : Type 0 where
  pub lines : List (List ℕ)
  pub script : string_bytes waiting.script ≡ script_lines lines
  pub read : AreScriptLines lines (changes_in waiting.items.items)
  pub count : waiting.changes ≡ length (changes_in waiting.items.items)
  pub few : waiting.changes ≤ MAX_CHANGES
  pub bytes : length (string_bytes waiting.script) ≤ MAX_RECORD
  pub open_group : waiting.is_group ≡ true → IsOpenGroup waiting.items.items

-- nothing waits, and no group has begun
pub record IsNoLine (waiting : Waiting) : Type 0 where
  pub items : waiting.items.items ≡ []
  pub script : string_bytes waiting.script ≡ []
  pub changes : waiting.changes ≡ 0
  pub alone : waiting.is_group ≡ false

-- what a line waits as may be added: the record has room for its change, and nothing waits where a group begins
abbrev pub FitsIn : Waiting → List ℕ → Waits → Type 0
FitsIn waiting operations (Waits.Change batch) = (has_line_room waiting.changes (length (string_bytes waiting.script)) (length operations) ≡ true) × IsScriptLine operations batch
FitsIn waiting operations Waits.Begun = IsNoLine waiting
FitsIn waiting operations item = Unit {0}

-- ---- groups

-- whether lines stand in a group, and what its record has so far: how many changes, and how many bytes
pub data Group : Type 0 where
  alone : Group
  within : (changes bytes : ℕ) → Group

abbrev pub grouped : Bool → ℕ → ℕ → Group
grouped true changes bytes = Group.within changes bytes
grouped false changes bytes = Group.alone

-- the group in which the next line stands
abbrev pub group_of : Waiting → Group
group_of waiting = grouped waiting.is_group waiting.changes (length (string_bytes waiting.script))

-- a change more in a group
abbrev pub with_change : ℕ → Group → Group
with_change line Group.alone = Group.alone
with_change line (Group.within changes bytes) = Group.within (changes + 1) (bytes + (line + 1))

-- the group after a line of this length, which waits as this
abbrev pub group_after : Group → ℕ → Waits → Group
group_after group line (Waits.Change batch) = with_change line group
group_after group line Waits.Begun = Group.within 0 0
group_after group line Waits.Ended = Group.alone
group_after group line item = group

-- ---- answers

-- how the line of a change ends: how many runs followed it, or that its observers didn't come to rest within the bounds of a drain
abbrev pub after_commit : Bool → ℕ → List ℕ
after_commit true runs = codes " runs " ++ (decimal runs ++ codes "\n")
after_commit false runs = codes " unquiet\n"

-- the answer to a change
abbrev pub made_line : Made → List ℕ
made_line m = codes "made " ++ (decimal m.commit.0 ++ after_commit m.drained.rests m.drained.runs)

-- the answer to a line that changes nothing
abbrev pub other_line : Waits → List ℕ
other_line (Waits.Change batch) = []
other_line (Waits.Unmade newest) = codes "unmade commit " ++ (decimal newest.0 ++ codes "\n")
other_line (Waits.Refused code) = codes "refused " ++ (decimal code ++ codes "\n")
other_line Waits.Begun = codes "begun\n"
other_line Waits.Ended = codes "ended\n"

-- A change was made, and is answered so: the commit is its transaction's, the runs are those that were committed after it, and where
-- their number is in the line, no cell is marked. The line has `unquiet` only where as many passes as may be made each found a mark, or
-- where a run was due after as many as may be made, and always there. What all of its runs did is counted.
pub record IsMadeAs (limit : ℕ) (batch : Writes) (old new : KeptTable) (text : List ℕ) : Type 0 where
  pub made : Made
  pub leads : SaidLeads (Counted old.state.observers old.stats new.stats (IsMade old.state.observers (runs_within limit (map.len old.state.entries)) batch made.commit)) old.state new.state
  pub runs : made.drained.runs ≡ commit_count leads.form.form.drain
  pub rests : made.drained.rests ≡ comes_to_rest leads.form.form.drained
  pub quiet : made.drained.rests ≡ true → IsNextMark new.state.marks None None
  pub line : text ≡ made_line made

-- a line that waited is answered by this text: a change is made, where the table has this limit of entries, and nothing else is done
abbrev pub IsAnswer : ℕ → Waits → KeptTable → KeptTable → List ℕ → Type 0
IsAnswer limit (Waits.Change batch) old new text = IsMadeAs limit batch old new text
IsAnswer limit (Waits.Unmade newest) old new text = (new ≡ old) × (text ≡ other_line (Waits.Unmade newest))
IsAnswer limit (Waits.Refused code) old new text = (new ≡ old) × (text ≡ other_line (Waits.Refused code))
IsAnswer limit Waits.Begun old new text = (new ≡ old) × (text ≡ other_line Waits.Begun)
IsAnswer limit Waits.Ended old new text = (new ≡ old) × (text ≡ other_line Waits.Ended)

-- lines are answered one after the other, by this text
pub data AreAnswers (limit : ℕ) : List Waits → KeptTable → KeptTable → List ℕ → Type 0 where
  none : (table : KeptTable) → AreAnswers limit [] table table []
  one_more : (items : List Waits) (item : Waits) (old between new : KeptTable) (text more : List ℕ) → AreAnswers limit items old between text → IsAnswer limit item between new more → AreAnswers limit (items ++ item ∷ []) old new (text ++ more)

-- some lines in front are answered, and what is added to a text is these answers
pub record AreSomeAnswers (limit : ℕ) (items : List Waits) (old : KeptTable) (before after : List ℕ) : Type 0 where
  pub front : List Waits
  pub rest : List Waits
  pub parts : items ≡ front ++ rest
  pub now : KeptTable
  pub text : List ℕ
  pub answers : AreAnswers limit front old now text
  pub added : after ≡ before ++ text
