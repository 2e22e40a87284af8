-- As what lines wait.
use Rattle.std.proofs.Common.{◌≡◌, ℕ, ◌≤◌, Bool, true, false, ◌||◌, ◌==◌, if◌then◌else◌, List, length, Result, Ok, Err, refl, ap, sym, subst, arith}
use Rattle.std.specs.Prelude.{string_bytes}
use Rattle.std.specs.List.{list_any}
use Rattle.pb_requests.specs.declared.parse.TheConstants.{MAX_LINE}
use Rattle.pb_keep.specs.Words.{Condition, Request, ScriptCode, StateOf, Ts, Writes, batch_of, is_skipped, asked_by}
use Rattle.pb_keep.specs.declared.waiting.Waits.{Waits}
use Rattle.pb_keep.specs.declared.waiting.Waiting.{Waiting}
use Rattle.pb_keep.specs.Waits.{has_line_room, FitsIn, IsNoLine}
use Rattle.pb_keep.specs.Held.{change_as_line, commit_seen, if_commit, if_room, unless_full, waits_for, waits_within, IsHeldIf}
use Rattle.pb_keep.specs.Taken.{IsLineReady}
use Rattle.pb_keep.proofs.Conditions.{few_bytes}
use Rattle.pb_keep.proofs.Scripts.{neither_holds}

-- ---- what waits has room

change_fits : (w : Waiting) (l : List ℕ) (b : Bool) (r : Result Writes ScriptCode) → (is_skipped l || list_any (λ x. x == 10) l) ≡ b → batch_of l ≡ r
    → has_line_room w.changes (length (string_bytes w.script)) (length l) ≡ true → FitsIn w l (waits_for (if b then Err ScriptCode.Form else r))
change_fits w l true r e f room = tt
change_fits w l false (Err code) e f room = tt
change_fits w l false (Ok batch) e f room =
    let two = neither_holds (is_skipped l) (list_any (λ x. x == 10) l) e in
    (room, record { read = f; shown = two.0; whole = two.1 })

fits_so : (w : Waiting) (l : List ℕ) → has_line_room w.changes (length (string_bytes w.script)) (length l) ≡ true → FitsIn w l (waits_for (change_as_line l))
fits_so w l room = change_fits w l (is_skipped l || list_any (λ x. x == 10) l) (batch_of l) refl refl room

room_fits : (w : Waiting) (l : List ℕ) (b : Bool) (item : Waits) → has_line_room w.changes (length (string_bytes w.script)) (length l) ≡ b
    → (b ≡ true → FitsIn w l item) → (item ≡ Waits.Begun → ⊥) → FitsIn w l (if_room b item)
room_fits w l true (Waits.Change batch) e f other = f refl
room_fits w l false (Waits.Change batch) e f other = tt
room_fits w l b (Waits.Unmade newest) e f other = tt
room_fits w l b (Waits.Refused code) e f other = tt
room_fits w l b Waits.Begun e f other = absurd (other refl)
room_fits w l b Waits.Ended e f other = tt

-- or it's refused
full_fits : (w : Waiting) (l : List ℕ) (full : Bool) (item : Waits) → FitsIn w l item → FitsIn w l (unless_full full item)
full_fits w l true (Waits.Change batch) f = tt
full_fits w l false (Waits.Change batch) f = f
full_fits w l full (Waits.Unmade newest) f = f
full_fits w l full (Waits.Refused code) f = f
full_fits w l full Waits.Begun f = f
full_fits w l full Waits.Ended f = f

not_begun : (r : Result Writes ScriptCode) → waits_for r ≡ Waits.Begun → ⊥
not_begun (Ok batch) e = absurd cc
not_begun (Err code) e = absurd cc

pub fits_alone : (w : Waiting) (l : List ℕ) (full : Bool) → has_line_room w.changes (length (string_bytes w.script)) (length l) ≡ true → FitsIn w l (unless_full full (waits_for (change_as_line l)))
fits_alone w l full room = full_fits w l full (waits_for (change_as_line l)) (fits_so w l room)

pub fits_within : (full : Bool) (w : Waiting) (l : List ℕ) (request : Request) → FitsIn w l (waits_within full w.changes (length (string_bytes w.script)) l request)
fits_within full w l Request.Change =
    let room = has_line_room w.changes (length (string_bytes w.script)) (length l) in
    full_fits w l full (if_room room (waits_for (change_as_line l))) (room_fits w l room (waits_for (change_as_line l)) refl (fits_so w l) (not_begun (change_as_line l)))
fits_within full w l Request.End = tt
fits_within full w l (Request.ChangeIf condition) = tt
fits_within full w l Request.Begin = tt
fits_within full w l (Request.Get row column) = tt
fits_within full w l (Request.Since above) = tt
fits_within full w l Request.List = tt
fits_within full w l Request.IsQuiet = tt
fits_within full w l Request.Stats = tt
fits_within full w l Request.Compact = tt
fits_within full w l (Request.Copy number) = tt

-- where nothing waits each line has room
first_room : (changes bytes line : ℕ) → changes ≡ 0 → bytes ≡ 0 → line ≤ MAX_LINE → has_line_room changes bytes line ≡ true
first_room changes bytes line c b l = grind (arith, c, b, l)

pub room_for_one : (w : Waiting) (n : ℕ) → IsNoLine w → n ≤ MAX_LINE → has_line_room w.changes (length (string_bytes w.script)) n ≡ true
room_for_one w n none few = first_room w.changes (length (string_bytes w.script)) n none.changes (ap length none.script) few

commit_fits : (w : Waiting) (l : List ℕ) (wanted newest : Ts) (item : Waits) → (item ≡ Waits.Begun → ⊥) → FitsIn w l item → FitsIn w l (if_commit wanted newest item)
commit_fits w l wanted newest (Waits.Change batch) other f = one (newest.0 == wanted.0) where
  one : (b : Bool) → FitsIn w l (if b then Waits.Change batch else Waits.Unmade newest)
  one true = f
  one false = tt
commit_fits w l wanted newest (Waits.Unmade t) other f = tt
commit_fits w l wanted newest (Waits.Refused code) other f = tt
commit_fits w l wanted newest Waits.Begun other f = absurd (other refl)
commit_fits w l wanted newest Waits.Ended other f = tt

pub fits_if : (full : Bool) (w : Waiting) (state : StateOf) (condition : Condition) (operations : List ℕ) (item : Waits) → IsNoLine w → length operations ≤ MAX_LINE → IsHeldIf full state condition operations item → FitsIn w operations item
fits_if full w state condition operations item none few h =
    subst (λ i. FitsIn w operations i) (sym h.is)
    (full_fits w operations full (if_commit condition.commit (commit_seen h.newest) (waits_for (change_as_line operations)))
    (commit_fits w operations condition.commit (commit_seen h.newest) (waits_for (change_as_line operations)) (not_begun (change_as_line operations)) (fits_so w operations (room_for_one w (length operations) none few))))

-- ---- before a line

ready_idle : (w : Waiting) (line : List ℕ) (read : Result Request ScriptCode) → IsNoLine w → asked_by line ≡ read → IsLineReady w (length line) read
ready_idle w line (Err code) none e = tt
ready_idle w line (Ok Request.Change) none e = λ a. room_for_one w (length line) none (few_bytes line Request.Change e)
ready_idle w line (Ok Request.End) none e = λ a. tt
ready_idle w line (Ok (Request.ChangeIf condition)) none e = λ a. none
ready_idle w line (Ok Request.Begin) none e = λ a. none
ready_idle w line (Ok (Request.Get row column)) none e = λ a. none
ready_idle w line (Ok (Request.Since above)) none e = λ a. none
ready_idle w line (Ok Request.List) none e = λ a. none
ready_idle w line (Ok Request.IsQuiet) none e = λ a. none
ready_idle w line (Ok Request.Stats) none e = λ a. none
ready_idle w line (Ok Request.Compact) none e = λ a. none
ready_idle w line (Ok (Request.Copy number)) none e = λ a. none

-- what waits was kept, or need not be
pub ready_now : (before : Bool) (old now : Waiting) (line : List ℕ) (read : Result Request ScriptCode) → (before ≡ false → IsLineReady old (length line) read) → (before ≡ false → now ≡ old) → (before ≡ true → IsNoLine now) → asked_by line ≡ read
    → IsLineReady now (length line) read
ready_now true old now line read ready same kept e = ready_idle now line read (kept refl) e
ready_now false old now line read ready same kept e = subst (λ w. IsLineReady w (length line) read) (sym (same refl)) (ready refl)
