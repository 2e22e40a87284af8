-- Lines that are served: what a log and a table have of them, and what a crash leaves.
use Rattle.std.specs.Prelude.{string_bytes}
use Rattle.std.proofs.Common.{arith, ◌≡◌, ◌==◌, ◌≤◌, ◌⊎◌, inl, inr, ℕ, Bool, true, false, List, [], ◌∷◌, ◌++◌, length, Option, Some, None, Result, Ok, Err, refl, ap, sym, subst, ◌∙◌}
use Rattle.std.specs.Io.KnownBytes.{Appends}
use Rattle.pb_keep.specs.Words.{AppendsPart, MAX_CHANGES, Condition, Keeps, KeptTable, Request, ScriptCode, StateOf, Writes}
use Rattle.pb_keep.specs.declared.fault.KeepFault.{KeepFault}
use Rattle.pb_keep.specs.declared.waiting.Waits.{Waits}
use Rattle.pb_keep.specs.declared.waiting.Waiting.{Waiting}
use Rattle.pb_keep.specs.Kept.{kept_since, HasChanges, IsLogOf, Origin}
use Rattle.pb_keep.specs.Waits.{changes_in, none as no_answer, AreAnswers, AreSomeAnswers, Group, group_after, group_of, grouped, IsNoLine}
use Rattle.pb_keep.specs.Held.{refuses_changes, IsAnswerTo, IsLineHeld, IsHeldAs, IsReadAs}
use Rattle.pb_keep.specs.Taken.{is_question, IsLineReady, IsReadyFor, MayHaveAnswered, WaitsNow}
use Rattle.pb_keep.specs.Conversations.{beginning, none_yet, one_asked, record_ended, AreAnswered, none_held, one_held, AreHeld, Beginning, KeeperView, LeavesFirst, Serves}
use Rattle.pb_keep.specs.Left.{IsLeftBy, IsLeftInLog, IsLeftMade}
use Rattle.std.proofs.lemmas.List.{append_assoc, append-nil}
use Rattle.pb_keep.proofs.Putting.{rest_has_changes}
use Rattle.pb_keep.proofs.Answering.{held_answered, none_waited}
use Rattle.pb_keep.proofs.Added.{changes_of_both}
use Rattle.pb_keep.proofs.InTime.{first_in_time}
use Rattle.pb_keep.proofs.Scripts.{empty_list}
use Rattle.pb_keeper.specs.declared.room.TheConstants.{MAX_CLOCK}

-- ---- what is written

appends_both : (old between new : Option (List ℕ)) (first more : List ℕ) → Appends old between first → Appends between new more → Appends old new (first ++ more)
appends_both None between new first more a b = tt
appends_both (Some o) None new first more a b = absurd a
appends_both (Some o) (Some m) None first more a b = absurd b
appends_both (Some o) (Some m) (Some n) first more a b = b ∙ ap (λ l. l ++ more) a ∙ append_assoc o first more

-- all is a part
pub all_appended : (old new : Option (List ℕ)) (text : List ℕ) → Appends old new text → AppendsPart old new text
all_appended old new text a = ([], (text, sym (append-nil text), a))

part_appended : (old between new : Option (List ℕ)) (first more : List ℕ) → Appends old between first → AppendsPart between new more → AppendsPart old new (first ++ more)
part_appended old between new first more a p = (p.0, (first ++ p.1.0, ap (λ l. first ++ l) p.1.1 ∙ sym (append_assoc first p.1.0 p.0), appends_both old between new first p.1.0 a p.1.2))

-- ---- lines that wait

-- as what a line waits depends on the state where it has a condition, and where the table may be full
same_condition : (full : Bool) (group : Group) (state s : StateOf) (line : List ℕ) (read : Result Request ScriptCode) (item : Waits) → IsHeldAs full group state line read item
    → ((condition : Condition) → group ≡ Group.alone → read ≡ Ok (Request.ChangeIf condition) → s ≡ state) → IsHeldAs full group s line read item
same_condition full group state s line (Err code) item h same = h
same_condition full (Group.within changes bytes) state s line (Ok request) item h same = h
same_condition full Group.alone state s line (Ok Request.Change) item h same = h
same_condition full Group.alone state s line (Ok (Request.ChangeIf condition)) item h same = subst (λ z. IsHeldAs full Group.alone z line (Ok (Request.ChangeIf condition)) item) (sym (same condition refl refl)) h
same_condition full Group.alone state s line (Ok Request.Begin) item h same = h
same_condition full Group.alone state s line (Ok Request.End) item h same = h
same_condition full Group.alone state s line (Ok (Request.Get row column)) item h same = absurd h
same_condition full Group.alone state s line (Ok (Request.Since above)) item h same = absurd h
same_condition full Group.alone state s line (Ok Request.List) item h same = absurd h
same_condition full Group.alone state s line (Ok Request.IsQuiet) item h same = absurd h
same_condition full Group.alone state s line (Ok Request.Stats) item h same = absurd h
same_condition full Group.alone state s line (Ok Request.Compact) item h same = absurd h
same_condition full Group.alone state s line (Ok (Request.Copy number)) item h same = absurd h

held_in_any : (limit : ℕ) (is_first : Bool) (group : Group) (state s : StateOf) (line : List ℕ) (read : Result Request ScriptCode) (item : Waits) → IsHeldAs (refuses_changes limit is_first state) group state line read item
    → (is_first ≡ true → s ≡ state) → ((condition : Condition) → group ≡ Group.alone → read ≡ Ok (Request.ChangeIf condition) → s ≡ state) → IsHeldAs (refuses_changes limit is_first s) group s line read item
held_in_any limit true group state s line read item h first same = subst (λ z. IsHeldAs (refuses_changes limit true z) group z line read item) (sym (first refl)) h
held_in_any limit false group state s line read item h first same = same_condition false group state s line read item h same

in_no_group : (b : Bool) (changes bytes : ℕ) → grouped b changes bytes ≡ Group.alone → b ≡ false
in_no_group true changes bytes e = absurd cc
in_no_group false changes bytes e = refl

is_zero : (n : ℕ) → (n == 0) ≡ true → n ≡ 0
is_zero n e = grind (arith, e)

-- before a line with a condition nothing waits
none_before : (waiting : Waiting) (n : ℕ) (read : Result Request ScriptCode) → IsLineReady waiting n read → (condition : Condition) → group_of waiting ≡ Group.alone → read ≡ Ok (Request.ChangeIf condition) → waiting.items.items ≡ []
none_before waiting n read ready condition alone e =
    let r : IsLineReady waiting n (Ok (Request.ChangeIf condition)) = subst (λ z. IsLineReady waiting n z) e ready in
    (r (in_no_group waiting.is_group waiting.changes (length (string_bytes waiting.script)) alone)).items

-- nor before a question
pub none_before_question : (waiting : Waiting) (n : ℕ) (question : Request) → is_question question ≡ true → IsReadyFor waiting n question → IsNoLine waiting
none_before_question waiting n (Request.Get row column) q r = r
none_before_question waiting n (Request.Since above) q r = r
none_before_question waiting n Request.List q r = r
none_before_question waiting n Request.IsQuiet q r = r
none_before_question waiting n Request.Stats q r = r
none_before_question waiting n Request.Change q r = absurd cc
none_before_question waiting n (Request.ChangeIf condition) q r = absurd cc
none_before_question waiting n Request.Begin q r = absurd cc
none_before_question waiting n Request.End q r = absurd cc
none_before_question waiting n Request.Compact q r = absurd cc
none_before_question waiting n (Request.Copy number) q r = absurd cc

-- ---- what a log and a table have

none_appended : (written : Option (List ℕ)) → Appends written written []
none_appended None = tt
none_appended (Some w) = sym (append-nil w)

none_waits_now : (limit : ℕ) (now : Waiting) (z : StateOf) → IsNoLine now → AreHeld limit z [] now.items.items (group_of now)
none_waits_now limit now z none =
    subst (λ l. AreHeld limit z [] l (group_of now)) (sym none.items)
    (subst (λ g. AreHeld limit z [] [] (grouped g now.changes (length (string_bytes now.script)))) (sym none.alone) none_held)

-- no line is served yet
pub serves_none : (origin : Origin) (first : KeptTable) (changes : List Writes) (k : KeeperView)
    → k.since ≡ kept_since origin → k.limit ≡ origin.limit → IsLogOf origin changes k.seen k.may_leave k.end → Keeps k.limit first changes k.table → IsNoLine k.waiting → Serves (beginning origin first changes k.table k.written) [] k
serves_none origin first changes k since limit log keeps none = record {
  answered = [];
  pending = [];
  parts = refl;
  made = [];
  text = [];
  told = none_yet;
  is_written = none_appended k.written;
  since = since;
  limit = limit;
  log = subst (λ l. IsLogOf origin l k.seen k.may_leave k.end) (sym (append-nil changes)) log;
  keeps = subst (λ l. Keeps k.limit first l k.table) (sym (append-nil changes)) keeps;
  in_time = λ some. absurd (some (ap changes_in none.items));
  held = none_waits_now origin.limit k.waiting k.table.state none;
}

-- lines that come later
pub more_lines : {b : Beginning} {lines : List (List ℕ)} {written : Option (List ℕ)} {file : List ℕ} (more : List (List ℕ)) → LeavesFirst b lines written file → LeavesFirst b (lines ++ more) written file
more_lines more l = record {
  answered = l.answered;
  pending = l.pending;
  rest = l.rest ++ more;
  parts = ap (λ z. z ++ more) l.parts ∙ append_assoc l.answered (l.pending ++ l.rest) more ∙ ap (λ z. l.answered ++ z) (append_assoc l.pending l.rest more);
  made = l.made;
  table = l.table;
  text = l.text;
  told = l.told;
  items = l.items;
  group = l.group;
  held = l.held;
  has = l.has;
}

module _ {b : Beginning} {lines : List (List ℕ)} {k : KeeperView} (s : Serves b lines k) where
  -- a line more waits
  pub serves_held : (line : List ℕ) (read : Result Request ScriptCode) (now : Waiting) → IsReadAs line read → IsLineReady k.waiting (length line) read → k.waiting.changes ≡ length (changes_in k.waiting.items.items) → WaitsNow k.limit k.table.state line read k.waiting now
      → Serves b (lines ++ line ∷ []) (record k { waiting = now })
  serves_held line read now reads ready count w =
      let items = k.waiting.items.items in
      let is_first = length (changes_in items) == 0 in
      let full = λ (limit n : ℕ). refuses_changes limit (n == 0) k.table.state in
      let here : IsHeldAs (refuses_changes b.origin.limit is_first k.table.state) (group_of k.waiting) k.table.state line read w.item =
      subst (λ n. IsHeldAs (full b.origin.limit n) (group_of k.waiting) k.table.state line read w.item) count
      (subst (λ n. IsHeldAs (full n k.waiting.changes) (group_of k.waiting) k.table.state line read w.item) s.limit w.held) in
      let any : (z : StateOf) → (changes_in items ≡ [] → z ≡ k.table.state) → IsLineHeld b.origin.limit is_first (group_of k.waiting) z line w.item = λ z same.
      record {
        read = read;
        reads = reads;
        held = held_in_any b.origin.limit is_first (group_of k.waiting) k.table.state z line read w.item here (λ e. same (empty_list (changes_in items) (is_zero (length (changes_in items)) e)))
            (λ condition alone e. same (ap changes_in (none_before k.waiting (length line) read ready condition alone e)));
      } in
      record {
        answered = s.answered;
        pending = s.pending ++ line ∷ [];
        parts = ap (λ l. l ++ line ∷ []) s.parts ∙ append_assoc s.answered s.pending (line ∷ []);
        made = s.made;
        text = s.text;
        told = s.told;
        is_written = s.is_written;
        since = s.since;
        limit = s.limit;
        log = s.log;
        keeps = s.keeps;
        in_time = λ some. by (changes_in items) refl some;
        held = subst (λ g. AreHeld b.origin.limit k.table.state (s.pending ++ line ∷ []) now.items.items g) (sym w.group)
            (subst (λ l. AreHeld b.origin.limit k.table.state (s.pending ++ line ∷ []) l (group_after (group_of k.waiting) (length line) w.item)) (sym w.items)
            (one_held s.pending line k.waiting.items.items w.item (group_of k.waiting) s.held any));
      }
    where
      of_both : (changes_in k.waiting.items.items ≡ []) → (changes_in (w.item ∷ []) ≡ []) → changes_in now.items.items ≡ []
      of_both none last = ap changes_in w.items ∙ changes_of_both k.waiting.items.items (w.item ∷ []) ∙ (λ i. none i ++ last i)

      first_is : changes_in k.waiting.items.items ≡ [] → (k.waiting.changes == 0) ≡ true
      first_is none = ap (λ n. n == 0) (count ∙ ap length none)

      by : (before : List Writes) → changes_in k.waiting.items.items ≡ before → (changes_in now.items.items ≡ [] → ⊥) → k.table.state.clock ≤ MAX_CLOCK
      by [] none some =
          first_in_time k.limit (group_of k.waiting) k.table.state line read w.item (subst (λ f. IsHeldAs (refuses_changes k.limit f k.table.state) (group_of k.waiting) k.table.state line read w.item) (first_is none) w.held) (λ last. some (of_both none last))
      by (b ∷ bs) is some = s.in_time (λ none. absurd (let no : b ∷ bs ≡ [] = sym is ∙ none in cc))

  all_answered : k.waiting.items.items ≡ [] → lines ≡ s.answered
  all_answered e = s.parts ∙ ap (λ l. s.answered ++ l) (none_waited b.origin.limit k.table.state s.pending k.waiting.items.items (group_of k.waiting) s.held e) ∙ append-nil s.answered

  answered_one : (line text : List ℕ) (question : Request) → k.waiting.items.items ≡ [] → IsReadAs line (Ok question) → IsAnswerTo k.since question k.table text
      → AreAnswered (kept_since b.origin) b.origin.limit b.table (lines ++ line ∷ []) s.made Group.alone 0 k.table (s.text ++ text)
  answered_one line text question none reads answer =
      subst (λ l. AreAnswered (kept_since b.origin) b.origin.limit b.table (l ++ line ∷ []) s.made Group.alone 0 k.table (s.text ++ text)) (sym (all_answered none))
      (one_asked s.answered line s.made 0 k.table s.text text s.told (record { request = question; reads = reads; answer = subst (λ n. IsAnswerTo n question k.table text) s.since answer }))

  -- a question more is answered
  pub serves_asked : (line text : List ℕ) (question : Request) (now : Option (List ℕ)) → IsNoLine k.waiting → IsReadAs line (Ok question) → IsAnswerTo k.since question k.table text → Appends k.written now text
      → Serves b (lines ++ line ∷ []) (record k { written = now })
  serves_asked line text question now none reads answer more = record {
    answered = lines ++ line ∷ [];
    pending = [];
    parts = sym (append-nil (lines ++ line ∷ []));
    made = s.made;
    text = s.text ++ text;
    told = answered_one line text question none.items reads answer;
    is_written = appends_both b.written k.written now s.text text s.is_written more;
    since = s.since;
    limit = s.limit;
    log = s.log;
    keeps = s.keeps;
    in_time = s.in_time;
    held = none_waits_now b.origin.limit k.waiting k.table.state none;
  }

  lines_answered : (new : KeptTable) (text : List ℕ) → k.waiting.is_group ≡ false → length (changes_in k.waiting.items.items) ≤ MAX_CHANGES → AreAnswers b.origin.limit k.waiting.items.items k.table new text
      → AreAnswered (kept_since b.origin) b.origin.limit b.table lines (s.made ++ changes_in k.waiting.items.items) Group.alone 0 new (s.text ++ text)
  lines_answered new text alone few a =
      let w = k.waiting in
      subst (λ l. AreAnswered (kept_since b.origin) b.origin.limit b.table l (s.made ++ changes_in w.items.items) Group.alone 0 new (s.text ++ text)) (sym s.parts)
      (record_ended (s.answered ++ s.pending) (s.made ++ changes_in w.items.items) (length (changes_in w.items.items)) new (s.text ++ text) (subst (λ g. AreAnswered (kept_since b.origin) b.origin.limit b.table (s.answered ++ s.pending) (s.made ++ changes_in w.items.items) (grouped g w.changes (length (string_bytes w.script))) (length (changes_in w.items.items)) new (s.text ++ text)) alone
      (held_answered (kept_since b.origin) b.origin.limit b.table k.table s.answered s.made s.text s.told s.pending w.items.items (group_of w) new text s.held a few)))

  -- what waited is kept
  pub serves_kept : (now : KeeperView) (text : List ℕ) → k.waiting.is_group ≡ false → length (changes_in k.waiting.items.items) ≤ MAX_CHANGES → IsNoLine now.waiting → now.since ≡ k.since → now.limit ≡ k.limit
      → IsLogOf b.origin ((b.changes ++ s.made) ++ changes_in k.waiting.items.items) now.seen now.may_leave now.end → Keeps k.limit b.first ((b.changes ++ s.made) ++ changes_in k.waiting.items.items) now.table
      → AreAnswers k.limit k.waiting.items.items k.table now.table text → Appends k.written now.written text → Serves b lines now
  serves_kept now text alone few none same same_limit log keeps a more =
      let all = append_assoc b.changes s.made (changes_in k.waiting.items.items) in
      record {
        answered = lines;
        pending = [];
        parts = sym (append-nil lines);
        made = s.made ++ changes_in k.waiting.items.items;
        text = s.text ++ text;
        told = lines_answered now.table text alone few (subst (λ n. AreAnswers n k.waiting.items.items k.table now.table text) s.limit a);
        is_written = appends_both b.written k.written now.written s.text text s.is_written more;
        since = same ∙ s.since;
        limit = same_limit ∙ s.limit;
        log = subst (λ l. IsLogOf b.origin l now.seen now.may_leave now.end) all log;
        keeps = subst (λ l. Keeps now.limit b.first l now.table) all (subst (λ n. Keeps n b.first ((b.changes ++ s.made) ++ changes_in k.waiting.items.items) now.table) (sym same_limit) keeps);
        in_time = λ some. absurd (some (ap changes_in none.items));
        held = none_waits_now b.origin.limit now.waiting now.table.state none;
      }

  -- ---- what a crash leaves

  has_made : (file : List ℕ) → k.may_leave file → HasChanges b.origin (b.changes ++ s.made) file
  has_made file m = rest_has_changes b.origin (b.changes ++ s.made) k.seen k.may_leave k.end s.log file m

  leaves : (file : List ℕ) (now : Option (List ℕ)) → (HasChanges b.origin (b.changes ++ s.made) file × AppendsPart b.written now s.text)
      ⊎ ((group_of k.waiting ≡ Group.alone) × HasChanges b.origin ((b.changes ++ s.made) ++ changes_in k.waiting.items.items) file
      × ((more : List ℕ) × AreSomeAnswers b.origin.limit k.waiting.items.items k.table [] more × AppendsPart b.written now (s.text ++ more))) → LeavesFirst b lines now file
  leaves file now has = record {
    answered = s.answered;
    pending = s.pending;
    rest = [];
    parts = s.parts ∙ ap (λ l. s.answered ++ l) (sym (append-nil s.pending));
    made = s.made;
    table = k.table;
    text = s.text;
    told = s.told;
    items = k.waiting.items.items;
    group = group_of k.waiting;
    held = s.held;
    has = has;
  }

  -- where lines are served, the changes of those that are answered
  pub leaves_served : (file : List ℕ) → k.may_leave file → LeavesFirst b lines k.written file
  leaves_served file m = leaves file k.written (inl (has_made file m, all_appended b.written k.written s.text s.is_written))

  no_answers : AreSomeAnswers b.origin.limit k.waiting.items.items k.table [] []
  no_answers = record { front = []; rest = k.waiting.items.items; parts = refl; now = k.table; text = []; answers = no_answer k.table; added = refl }

  -- no group has begun
  no_group : k.waiting.is_group ≡ false → group_of k.waiting ≡ Group.alone
  no_group alone = ap (λ g. grouped g k.waiting.changes (length (string_bytes k.waiting.script))) alone

  left_made : k.waiting.is_group ≡ false → (now : Option (List ℕ)) (may_leave : List ℕ → Type 0) → IsLeftMade k.limit b.origin (b.changes ++ s.made) k.waiting.items.items k.table k.written now may_leave
      → (file : List ℕ) → may_leave file → LeavesFirst b lines now file
  left_made alone now may_leave l file m = leaves file now (inr (no_group alone, l.crash file m, (l.text, subst (λ n. AreSomeAnswers n k.waiting.items.items k.table [] l.text) s.limit l.answers, part_appended b.written k.written now s.text l.text s.is_written l.is_written)))

  left_in_log : k.waiting.is_group ≡ false → (new : KeptTable) (now : Option (List ℕ)) (may_leave : List ℕ → Type 0) → IsLeftInLog b.origin (b.changes ++ s.made) k.waiting.items.items k.table new k.written now may_leave
      → (file : List ℕ) → may_leave file → LeavesFirst b lines now file
  left_in_log alone new now may_leave l file m =
      let same : AppendsPart b.written now s.text = all_appended b.written now s.text (subst (λ w. Appends b.written w s.text) (sym l.unwritten) s.is_written) in
      elim (l.crash file m) as (λ h. LeavesFirst b lines now file) [
        | inl h ↦ leaves file now (inl (h, same))
        | inr h ↦ leaves file now (inr (no_group alone, h, ([], no_answers, subst (λ t. AppendsPart b.written now t) (sym (append-nil s.text)) same)))
      ]

  -- where lines could not be kept, these, or with them those of the lines that waited
  pub leaves_left : k.waiting.is_group ≡ false → (new : KeptTable) (now : Option (List ℕ)) (may_leave : List ℕ → Type 0) (e : KeepFault) → IsLeftBy k.limit b.origin (b.changes ++ s.made) k.waiting.items.items k.table new k.written now may_leave e
      → (file : List ℕ) → may_leave file → LeavesFirst b lines now file
  leaves_left alone new now may_leave (KeepFault.Log e) l file m = left_in_log alone new now may_leave l file m
  leaves_left alone new now may_leave _ l file m = left_made alone now may_leave l file m

  -- where a question could not be answered, those of the lines before it
  pub leaves_asked : (line : List ℕ) (question : Request) (now : Option (List ℕ)) → IsNoLine k.waiting → IsReadAs line (Ok question) → MayHaveAnswered k.since question k.table k.written now
      → (file : List ℕ) → k.may_leave file → LeavesFirst b (lines ++ line ∷ []) now file
  leaves_asked line question now none reads (inl same) file m =
      more_lines (line ∷ []) (subst (λ w. LeavesFirst b lines w file) (sym same) (leaves_served file m))
  leaves_asked line question now none reads (inr a) file m = record {
    answered = lines ++ line ∷ [];
    pending = [];
    rest = [];
    parts = sym (append-nil (lines ++ line ∷ []));
    made = s.made;
    table = k.table;
    text = s.text ++ a.0;
    told = answered_one line a.0 question none.items reads a.1;
    items = [];
    group = Group.alone;
    held = none_held;
    has = inl (has_made file m, part_appended b.written k.written now s.text a.0 s.is_written a.2);
  }
