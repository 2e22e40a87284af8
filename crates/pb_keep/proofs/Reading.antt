-- Lines that are read of an input.
use Rattle.std.proofs.Common.{arith, ◌≡◌, ◌≢◌, ℕ, ◌<◌, ◌≤◌, Bool, true, List, [], ◌∷◌, ◌++◌, length, Option, Result, Ok, Err, false, refl, ap, sym, subst, ◌∙◌}
use Rattle.std.specs.Prelude.{IsUtf8}
use Rattle.pb_reading.specs.Reading.{Gives}
use Rattle.pb_requests.specs.declared.parse.TheConstants.{MAX_LINE}
use Rattle.pb_keep.specs.Words.{Request, ScriptCode, asked_by}
use Rattle.pb_keep.specs.declared.service.Went.{Went}
use Rattle.pb_keep.specs.declared.take.Took.{Took}
use Rattle.pb_keep.specs.declared.waiting.Waiting.{Waiting}
use Rattle.pb_keep.specs.Conversations.{Beginning, KeeperView, LeavesFirst, Serves}
use Rattle.pb_keep.specs.Held.{IsReadAs}
use Rattle.pb_keep.specs.Taken.{IsLeftToCaller, IsLineReady}
use Rattle.pb_keep.specs.Waits.{IsNoLine, IsWaiting}
use Rattle.pb_keep.specs.Input.{none, one_more, AreLinesRead, IsNextLine}
use Rattle.pb_keep.specs.Served.{IsKeptAtEnd, IsPauseAfter, LeavesRead, ServesAll, ServesLine, ServesNext, ServesRead, ServesToAsked, ServesToLarge, ServesUntil}
use Rattle.pb_keep.specs.declared.service.Paused.{Paused}
use Rattle.std.proofs.lemmas.List.{append_assoc, append-nil}

-- ---- as what lines are read

pub read_as : (line : List ℕ) (read : Result Request ScriptCode) → IsUtf8 line → asked_by line ≡ read → IsReadAs line read
read_as line read u e = record { text = λ v. e; bytes = λ other. absurd (other u) }

pub no_text : (line : List ℕ) → (IsUtf8 line → ⊥) → IsReadAs line (Err ScriptCode.Form)
no_text line bytes = record { text = λ u. absurd (bytes u); bytes = λ n. refl }

too_long : (line : List ℕ) → MAX_LINE < length line → asked_by line ≡ Err ScriptCode.Form
unfolding asked_by
too_long line long = grind (arith, long)

pub long_line : (line : List ℕ) → MAX_LINE < length line → IsReadAs line (Err ScriptCode.Form)
long_line line long = record { text = λ u. too_long line long; bytes = λ n. refl }

-- what one asks for that is left to the caller, where it's taken after these
pub left_to_caller : {b : Beginning} {lines : List (List ℕ)} {k : KeeperView} (s : Serves b lines k) (line : List ℕ) (read : Result Request ScriptCode) (took : Took) → IsLineReady k.waiting (length line) read → IsUtf8 line → asked_by line ≡ read
    → IsLeftToCaller k.waiting read took → ServesLine b lines line k took
left_to_caller {b} {lines} {k} s line read Took.Served ready u e left = absurd left
left_to_caller {b} {lines} {k} s line read Took.Asked ready u e left =
    record { serves = s; idle = subst (λ r. IsLineReady k.waiting (length line) r) left.0 ready left.1; asks = read_as line (Ok Request.Compact) u (e ∙ left.0) }
left_to_caller {b} {lines} {k} s line read (Took.Copy number) ready u e left =
    record { serves = s; idle = subst (λ r. IsLineReady k.waiting (length line) r) left.0 ready left.1; asks = read_as line (Ok (Request.Copy number)) u (e ∙ left.0) }

pub is_read : (r read : Result Request ScriptCode) → Gives (λ e. false) (λ x. x) r read → read ≡ r
is_read (Ok x) read h = h
is_read (Err e) read h = h

-- ---- lines after lines

module _ {b : Beginning} {lines : List (List ℕ)} {written : Option (List ℕ)} {file : List ℕ} where
  pub leaves_line : (line : List ℕ) (from to : Option (List ℕ)) → IsNextLine line from to → LeavesFirst b (lines ++ line ∷ []) written file → LeavesRead b lines from written file
  leaves_line line from to next l = record { more = line ∷ []; to = to; read = one_more [] line from to none next; leaves = l }

  pub leaves_none : (from : Option (List ℕ)) → LeavesFirst b lines written file → LeavesRead b lines from written file
  leaves_none from l = record { more = []; to = from; read = none; leaves = subst (λ z. LeavesFirst b z written file) (sym (append-nil lines)) l }

-- what was read before, and what comes after
pub read_both : (from between to : Option (List ℕ)) (front back : List (List ℕ)) → AreLinesRead from front between → AreLinesRead between back to → AreLinesRead from (front ++ back) to
read_both from between to front back f none = subst (λ z. AreLinesRead from z between) (sym (append-nil front)) f
read_both from between to front back f (one_more lines line m n a next) =
    subst (λ z. AreLinesRead from z to) (append_assoc front lines (line ∷ [])) (one_more (front ++ lines) line m to (read_both from between m front lines f a) next)

pub serves_read_none : {b : Beginning} {lines : List (List ℕ)} {k : KeeperView} (from : Option (List ℕ)) → Serves b lines k → ServesRead b lines from from k
serves_read_none {b} {lines} {k} from s = record { more = []; read = none; serves = subst (λ z. Serves b z k) (sym (append-nil lines)) s }

is_some_line : (xs : List (List ℕ)) (x : List ℕ) → xs ++ x ∷ [] ≢ []
is_some_line [] x = λ e. absurd cc
is_some_line (y ∷ ys) x = λ e. absurd cc

-- ---- after lines that were read before

module _ {b : Beginning} {lines : List (List ℕ)} {from between : Option (List ℕ)} {k : KeeperView} (before : ServesRead b lines from between k) where
  pub leaves_on : (written : Option (List ℕ)) (file : List ℕ) → LeavesRead b (lines ++ before.more) between written file → LeavesRead b lines from written file
  leaves_on written file l = record {
    more = before.more ++ l.more;
    to = l.to;
    read = read_both from between l.to before.more l.more before.read l.read;
    leaves = subst (λ z. LeavesFirst b z written file) (append_assoc lines before.more l.more) l.leaves;
  }

  -- a line more
  pub serves_on : (to : Option (List ℕ)) (now : KeeperView) → ServesNext b (lines ++ before.more) between to now (Went.Line Took.Served) → ServesRead b lines from to now
  serves_on to now t = record {
    more = before.more ++ t.0 ∷ [];
    read = one_more before.more t.0 between to before.read t.1;
    serves = subst (λ z. Serves b z now) (append_assoc lines before.more (t.0 ∷ [])) t.2;
  }

  -- or one that asks for a compaction, or for a copy of the log
  serves_to_asked : (to : Option (List ℕ)) (now : KeeperView) → ServesNext b (lines ++ before.more) between to now (Went.Line Took.Asked) → ServesToAsked b lines Request.Compact from to now
  serves_to_asked to now t = record { more = before.more; between = between; read = before.read; line = t.0; next = t.1; asked = t.2 }

  serves_to_copy : (number : ℕ) (to : Option (List ℕ)) (now : KeeperView) → ServesNext b (lines ++ before.more) between to now (Went.Line (Took.Copy number)) → ServesToAsked b lines (Request.Copy number) from to now
  serves_to_copy number to now t = record { more = before.more; between = between; read = before.read; line = t.0; next = t.1; asked = t.2 }

  -- one more, after which the log is large
  serves_to_large : (to : Option (List ℕ)) (now : KeeperView) (limit : ℕ) → IsNoLine now.waiting → limit ≤ now.end → ServesNext b (lines ++ before.more) between to now (Went.Line Took.Served) → ServesToLarge b lines limit from to now
  unfolding serves_on
  serves_to_large to now limit idle large t = record { read = serves_on to now t; some = is_some_line before.more t.0; idle = idle; large = large }

  -- or none, and then what waits was kept
  serves_to_the_end : (to : Option (List ℕ)) (now : KeeperView) → ServesNext b (lines ++ before.more) between to now Went.End → IsKeptAtEnd Went.End now.waiting → IsWaiting now.waiting → ServesAll b lines from now
  serves_to_the_end to now t kept waits = record {
    to = between;
    read = record { more = before.more; read = before.read; serves = t.1 };
    ended = t.0;
    kept = kept;
    open_group = waits.open_group;
  }

  -- the same of whatever pause came
  pub serves_until : (to : Option (List ℕ)) (now : KeeperView) (limit : ℕ) (turn : Went) (large : Bool) (paused : Paused) → IsPauseAfter turn large paused → (large ≡ true → IsNoLine now.waiting) → (large ≡ true → limit ≤ now.end)
      → IsKeptAtEnd turn now.waiting → IsWaiting now.waiting → ServesNext b (lines ++ before.more) between to now turn → ServesUntil b lines limit from to now paused
  serves_until to now limit turn large Paused.Ended is idle end kept waits t =
      serves_to_the_end to now (subst (λ w. ServesNext b (lines ++ before.more) between to now w) is t) (subst (λ w. IsKeptAtEnd w now.waiting) is kept) waits
  serves_until to now limit turn large Paused.Asked is idle end kept waits t = serves_to_asked to now (subst (λ w. ServesNext b (lines ++ before.more) between to now w) is t)
  serves_until to now limit turn large (Paused.Copy number) is idle end kept waits t = serves_to_copy number to now (subst (λ w. ServesNext b (lines ++ before.more) between to now w) is t)
  serves_until to now limit turn large Paused.Large is idle end kept waits t = serves_to_large to now limit (idle is.1) (end is.1) (subst (λ w. ServesNext b (lines ++ before.more) between to now w) is.0 t)

-- ---- a line more

module _ {b : Beginning} {k : KeeperView} (lines : List (List ℕ)) (from to : Option (List ℕ)) where
  pub turn_leaves : (turn : Went) (now : Option (List ℕ)) (file : List ℕ) → ServesNext b lines from to k turn
      → ((all : List (List ℕ)) → Serves b all k → LeavesFirst b all now file) → LeavesRead b lines from now file
  turn_leaves (Went.Line Took.Served) now file t leaves = leaves_line t.0 from to t.1 (leaves (lines ++ t.0 ∷ []) t.2)
  turn_leaves (Went.Line Took.Asked) now file t leaves = leaves_none from (leaves lines t.2.serves)
  turn_leaves (Went.Line (Took.Copy number)) now file t leaves = leaves_none from (leaves lines t.2.serves)
  turn_leaves Went.End now file t leaves = leaves_none from (leaves lines t.1)

  -- what holds after any lines holds after these
  pub after_turn : {P : Type 0} (turn : Went) → ServesNext b lines from to k turn → ((all : List (List ℕ)) → Serves b all k → P) → P
  after_turn (Went.Line Took.Served) t on = on (lines ++ t.0 ∷ []) t.2
  after_turn (Went.Line Took.Asked) t on = on lines t.2.serves
  after_turn (Went.Line (Took.Copy number)) t on = on lines t.2.serves
  after_turn Went.End t on = on lines t.1

  -- what waits may be kept after it
  pub turn_kept : (turn : Went) (now : KeeperView) → ServesNext b lines from to k turn → ((all : List (List ℕ)) → Serves b all k → Serves b all now) → (IsNoLine k.waiting → IsNoLine now.waiting) → ServesNext b lines from to now turn
  turn_kept (Went.Line Took.Served) now t on idle = (t.0, t.1, on (lines ++ t.0 ∷ []) t.2)
  turn_kept (Went.Line Took.Asked) now t on idle = (t.0, t.1, record { serves = on lines t.2.serves; idle = idle t.2.idle; asks = t.2.asks })
  turn_kept (Went.Line (Took.Copy number)) now t on idle = (t.0, t.1, record { serves = on lines t.2.serves; idle = idle t.2.idle; asks = t.2.asks })
  turn_kept Went.End now t on idle = (t.0, on lines t.1)

-- where the input has ended, what waits was kept, unless it is a group
pub kept_at_end : (turn : Went) (kept : Bool) (old now : Waiting) → (kept ≡ false → turn ≡ Went.End → old.is_group ≡ true) → (kept ≡ true → IsNoLine now) → (kept ≡ false → now ≡ old) → IsKeptAtEnd turn now
kept_at_end (Went.Line took) kept old now group all same = tt
kept_at_end Went.End true old now group all same = λ alone. all refl
kept_at_end Went.End false old now group all same = λ alone. let both : true ≡ false = sym (group refl refl) ∙ sym (ap (λ w. w.is_group) (same refl)) ∙ alone in absurd cc
