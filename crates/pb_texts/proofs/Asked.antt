-- A command line that `clap` takes asks for something.
use Rattle.std.proofs.Common.{◌≡◌, ℕ, Bool, true, false, cond, List, [], ◌∷◌, Option, Some, None, refl, sym, ap, subst, ◌∙◌, inl, inr, codes, arith, ◌⊎◌, ◌||◌, not, fold, is_some, option_map, option_and_then}
use Rattle.clap.specs.Walk.{Text, Row, Held, Waiting, Step, Walk, Names, next, trailing, subcommand, value}
use Rattle.clap.specs.Walk.{first_of, one_of, subcommand_met, subcommand_or_other, word_met, after_step, walked_from, walked, nothing_held, rows_after}
use Rattle.clap.specs.Simple.{Shape, subcommand_of, built, built_leaf, inherited, with_leaf_noted, marked_built, entered, names_of}
use Rattle.clap.specs.Kinds.{check_kinds}
use Rattle.clap.specs.Takes.{is_given}
use Rattle.clap.specs.Faults.{fault_of, entered_fault, check_fault, walk_fault, turn_fault, word_fault, other_fault}
use Rattle.pb_isa.specs.declared.profile.Profile.{Profile}
use Rattle.pb_helpers.specs.declared.change.Version.{Version}
use Rattle.pb_texts.specs.CommandLines.{most_workers, most_swaps, run_app, last_clock, replay_app, last_profile, asm_app, dis_app, check_app, program_app, Request, Run, Replay, Asm, Dis, Check, with_both, all_three, workers_of, swaps_of, clock_of, profile_numbered, profile_named, with_profile, last_version, version_numbered, version_of, with_version, command_in, command_of, has_plus, has_plus_at}
use Rattle.pb_texts.proofs.Kept.{Each, HasNoDefault, or_else_none, level_none, unless_stopped, rows_kept}
use Rattle.pb_texts.proofs.Filled.{HasValue, ReadsNumber, help_keeps, operand_has_value, operand_keeps_number, number_has_value, number_keeps_number, number_reads, given_first, first_number, one_number}
use Rattle.pb_texts.proofs.Clocks.{has_clock}
use Rattle.pb_texts.proofs.Counts.{has_count}
use Rattle.std.proofs.lemmas.Bool.{or_parts as or_false}

-- ---- the top level

abbrev top : Shape
top = (built program_app).top

abbrev names : Names
names = names_of (built program_app)

abbrev IsName : Text → Type 0
IsName name = (name ≡ codes "run") ⊎ ((name ≡ codes "replay") ⊎ ((name ≡ codes "asm") ⊎ ((name ≡ codes "dis") ⊎ (name ≡ codes "check"))))

-- a walk that stopped did so at one of the subcommands
abbrev Stops : Option (Text × List Text) → Type 0
Stops None = Unit {0}
Stops (Some p) = IsName p.0

abbrev StopStep : Step → Type 0
StopStep (next w) = Unit {0}
StopStep (trailing p) = Unit {0}
StopStep (subcommand name) = IsName name
StopStep value = Unit {0}

abbrev Named : Option Text → Type 0
Named None = Unit {0}
Named (Some name) = IsName name ⊎ (name ≡ codes "help")

abbrev name_if : Bool → Text → Option (Text × List Text) → Option (Text × List Text)
name_if b name others = cond b (Some (name, [])) others

named_by : (a b c d e f : Bool) → Named (option_map (λ (s : Text × List Text). s.0) (name_if a (codes "run") (name_if b (codes "replay") (name_if c (codes "asm") (name_if d (codes "dis") (name_if e (codes "check") (name_if f (codes "help") None)))))))
named_by a b c d e f = grind arith

named : (w : Waiting) (word : Text) → Named (subcommand_met names w word)
named idle1 word = grind (arith, named_by)

other_stops : (o : Option Text) (w : Waiting) (position : ℕ) (word : Text) (h : Held) → Named o → other_fault top o word h ≡ [] → StopStep (subcommand_or_other top.rules o w position word h).1
other_stops o w position word h n e = grind arith

word_stops : (b : Bool) (w : Waiting) (position : ℕ) (word : Text) (h : Held) → word_fault top names b w word h ≡ [] → StopStep (word_met top.rules names b w position word h).1
word_stops b w position word h e = grind (arith, other_stops, named)

step_stops : (word : Text) (w : Walk) (h : Held) (s : Step) → StopStep s → Stops w.stopped → Stops (after_step top.rules word w h s).stopped
step_stops word w h value1 r g = grind arith

-- a word, at a walk that has stopped there or not
turn_stops : (o : Option (Text × List Text)) (w : Walk) (word : Text) → w.stopped ≡ o → Stops o → turn_fault top names w word ≡ [] → Stops (walked_from top.rules names o w word).stopped
turn_stops o w word is g e = grind (arith, step_stops, word_stops, or_else_none, unless_stopped)

walk_stops : (words : List Text) (w : Walk) → Stops w.stopped → walk_fault top names w words ≡ [] → Stops (fold (walked top.rules names) w words).stopped
unfolding walk_fault walked
walk_stops [] w g e = g
walk_stops (word ∷ words) w g e =
    let a = or_else_none _ _ e in
    walk_stops words (walked top.rules names w word) (turn_stops w.stopped w word refl g a.0) a.1

-- ---- the subcommand

-- a subcommand, once built
abbrev leaf : Shape → Shape
leaf s = built_leaf (inherited (with_leaf_noted (marked_built program_app.top)) s)

checked : (b : Bool) → check_kinds false false b ≡ [] → b ≡ false
checked b h = grind arith

one_given : (a : Bool) → (not a || false) ≡ false → a ≡ true
one_given a h = grind arith

both_given : (a b : Bool) → (not a || (not b || false)) ≡ false → (a ≡ true) × (b ≡ true)
both_given a b h = grind arith

all_given : (a b c : Bool) → (not a || (not b || (not c || false))) ≡ false → (a ≡ true) × (b ≡ true) × (c ≡ true)
all_given a b c h = grind arith

one_asks : (make : Text → Request) (id : Text) (rows : List Row) → Each HasValue rows → check_kinds false false (not (is_given id rows) || false) ≡ []
    → (r : Request) × (option_map make (first_of id rows) ≡ Some r)
one_asks make id rows f e =
    let m = given_first id rows f (one_given (is_given id rows) (checked _ e)) in
    (make m.0, ap (option_map make) m.1)

both_some : (make : Text → Text → Request) (a b : Option Text) (s t : Text) → a ≡ Some s → b ≡ Some t → with_both make a b ≡ Some (make s t)
both_some make a b s t e f = ap (λ x. with_both make x b) e ∙ ap (with_both make (Some s)) f

both_ask : (make : Text → Text → Request) (first second : Text) (rows : List Row) → Each HasValue rows → check_kinds false false (not (is_given first rows) || (not (is_given second rows) || false)) ≡ []
    → (r : Request) × (with_both make (first_of first rows) (first_of second rows) ≡ Some r)
both_ask make first second rows f e =
    let g = both_given (is_given first rows) (is_given second rows) (checked _ e) in
    let m = given_first first rows f g.0 in
    let s = given_first second rows f g.1 in
    (make m.0 s.0, both_some make _ _ m.0 s.0 m.1 s.1)

all_some : (make : Text → Text → Text → Request) (a b c : Option Text) (s t u : Text) → a ≡ Some s → b ≡ Some t → c ≡ Some u → all_three make a b c ≡ Some (make s t u)
all_some make a b c s t u e f g = ap (λ x. all_three make x b c) e ∙ both_some (make s) b c t u f g

all_ask : (make : Text → Text → Text → Request) (first second third : Text) (rows : List Row) → Each HasValue rows
    → check_kinds false false (not (is_given first rows) || (not (is_given second rows) || (not (is_given third rows) || false))) ≡ []
    → (r : Request) × (all_three make (first_of first rows) (first_of second rows) (first_of third rows) ≡ Some r)
all_ask make first second third rows f e =
    let g = all_given (is_given first rows) (is_given second rows) (is_given third rows) (checked _ e) in
    let m = given_first first rows f g.0 in
    let s = given_first second rows f g.1 in
    let t = given_first third rows f g.2 in
    (make m.0 s.0 t.0, all_some make _ _ _ m.0 s.0 t.0 m.1 s.1 t.1)

-- what is asked for where the walk stopped at this name, with these words after it
abbrev Asks : Text → List Text → Type 0
Asks name words = has_plus (entered (built program_app) (Some (name, words))) ≡ false → (r : Request) × (command_in (entered (built program_app) (Some (name, words))) ≡ Some r)

-- the same where an option's value is asked for, too
with_value : {A : Type 0} (o : Option A) (ask : A → Option Request) (x : A) → o ≡ Some x → (r : Request) × (ask x ≡ Some r) → (r : Request) × (option_and_then ask o ≡ Some r)
with_value o ask x e asked = (asked.0, ap (option_and_then ask) e ∙ asked.1)

-- the request of a run, by so many workers beside so many swaps
abbrev pub run_with : List Row → ℕ → ℕ → Option Request
run_with rows workers swaps = with_both (λ manifest script. Run manifest script workers swaps) (first_of (codes "MANIFEST") rows) (first_of (codes "SCRIPT") rows)

-- the same, where the number of swaps is named, too
abbrev pub run_by : List Row → ℕ → Option Request
run_by rows workers = option_and_then (run_with rows workers) (swaps_of (first_of (codes "swaps") rows))

-- a run whose words have no fault
module _ (words : List Text) (f : entered_fault (built program_app) (Some (codes "run", words)) ≡ []) where
  bare : Each HasNoDefault (leaf run_app.top).rules
  bare = (refl, (refl, (refl, (refl, (refl, tt)))))

  run_values : Each HasValue (rows_after (leaf run_app.top).rules [] words)
  run_values = rows_kept (leaf run_app.top) HasValue
      (operand_has_value 1 (codes "MANIFEST"), (operand_has_value 2 (codes "SCRIPT"), (number_has_value (codes "workers") 1 most_workers, (number_has_value (codes "swaps") 0 most_swaps, (help_keeps HasValue, tt)))))
      words bare f

  worker_numbers : Each (ReadsNumber (codes "workers") 1 most_workers) (rows_after (leaf run_app.top).rules [] words)
  worker_numbers =
      let name = codes "workers" in
      rows_kept (leaf run_app.top) (ReadsNumber name 1 most_workers)
      (operand_keeps_number 1 (codes "MANIFEST") name 1 most_workers (λ e. absurd cc), (operand_keeps_number 2 (codes "SCRIPT") name 1 most_workers (λ e. absurd cc), (number_reads name 1 most_workers, (number_keeps_number (codes "swaps") 0 most_swaps name 1 most_workers (λ e. absurd cc), (help_keeps (ReadsNumber name 1 most_workers), tt)))))
      words bare f

  swap_numbers : Each (ReadsNumber (codes "swaps") 0 most_swaps) (rows_after (leaf run_app.top).rules [] words)
  swap_numbers =
      let name = codes "swaps" in
      rows_kept (leaf run_app.top) (ReadsNumber name 0 most_swaps)
      (operand_keeps_number 1 (codes "MANIFEST") name 0 most_swaps (λ e. absurd cc), (operand_keeps_number 2 (codes "SCRIPT") name 0 most_swaps (λ e. absurd cc), (number_keeps_number (codes "workers") 1 most_workers name 0 most_swaps (λ e. absurd cc), (number_reads name 0 most_swaps, (help_keeps (ReadsNumber name 0 most_swaps), tt)))))
      words bare f

  pub run_asks : Asks (codes "run") words
  run_asks no_plus =
      let rows = rows_after (leaf run_app.top).rules [] words in
      let plain = or_false (has_plus_at (codes "workers") rows) (has_plus_at (codes "swaps") rows) no_plus in
      let workers = has_count 1 most_workers (omega arith) (first_of (codes "workers") rows) (first_number (codes "workers") 1 most_workers rows worker_numbers) plain.0 in
      let swaps = has_count 0 most_swaps (omega arith) (first_of (codes "swaps") rows) (first_number (codes "swaps") 0 most_swaps rows swap_numbers) plain.1 in
      with_value (workers_of (first_of (codes "workers") rows)) (run_by rows) workers.0 workers.1
      (with_value (swaps_of (first_of (codes "swaps") rows)) (run_with rows workers.0) swaps.0 swaps.1
      (both_ask (λ manifest script. Run manifest script workers.0 swaps.0) (codes "MANIFEST") (codes "SCRIPT") rows run_values (level_none (leaf run_app.top) [] nothing_held words false [] f).3))

-- the request of a replay, from a clock on
abbrev pub replay_from : List Row → ℕ → Option Request
replay_from rows clock = all_three (λ manifest script schedule. Replay manifest script schedule clock) (first_of (codes "MANIFEST") rows) (first_of (codes "SCRIPT") rows) (first_of (codes "SCHEDULE") rows)

replay_asks : (words : List Text) → entered_fault (built program_app) (Some (codes "replay", words)) ≡ [] → Asks (codes "replay") words
replay_asks words f no_plus =
    let s = leaf replay_app.top in
    let name = codes "clock" in
    let rows = rows_after s.rules [] words in
    let bare : Each HasNoDefault s.rules = (refl, (refl, (refl, (refl, (refl, tt))))) in
    let values = rows_kept s HasValue
    (operand_has_value 1 (codes "MANIFEST"), (operand_has_value 2 (codes "SCRIPT"), (operand_has_value 3 (codes "SCHEDULE"), (number_has_value name 0 last_clock, (help_keeps HasValue, tt)))))
    words bare f in
    let numbers = rows_kept s (ReadsNumber name 0 last_clock)
    (operand_keeps_number 1 (codes "MANIFEST") name 0 last_clock (λ e. absurd cc), (operand_keeps_number 2 (codes "SCRIPT") name 0 last_clock (λ e. absurd cc), (operand_keeps_number 3 (codes "SCHEDULE") name 0 last_clock (λ e. absurd cc), (number_reads name 0 last_clock, (help_keeps (ReadsNumber name 0 last_clock), tt)))))
    words bare f in
    let clock = has_clock (one_of name rows) (one_number name 0 last_clock rows numbers) in
    with_value (clock_of (one_of name rows)) (replay_from rows) clock.0 clock.1
    (all_ask (λ manifest script schedule. Replay manifest script schedule clock.0) (codes "MANIFEST") (codes "SCRIPT") (codes "SCHEDULE") rows values (level_none s [] nothing_held words false [] f).3)

-- what is asked for with a profile
profile_asks : (rows : List Row) (ask : Profile → Option Request) → Each (ReadsNumber (codes "profile") 1 last_profile) rows → has_plus_at (codes "profile") rows ≡ false
    → ((profile : Profile) → (r : Request) × (ask profile ≡ Some r)) → (r : Request) × (with_profile ask rows ≡ Some r)
profile_asks rows ask numbers no_plus asked =
    let count = has_count 1 last_profile (omega arith) (first_of (codes "profile") rows) (first_number (codes "profile") 1 last_profile rows numbers) no_plus in
    with_value (profile_named (first_of (codes "profile") rows)) ask (profile_numbered count.0) (ap (option_map profile_numbered) count.1) (asked (profile_numbered count.0))

asm_asks : (words : List Text) → entered_fault (built program_app) (Some (codes "asm", words)) ≡ [] → Asks (codes "asm") words
asm_asks words f no_plus =
    let s = leaf asm_app.top in
    let name = codes "profile" in
    let rows = rows_after s.rules [] words in
    let bare : Each HasNoDefault s.rules = (refl, (refl, (refl, (refl, tt)))) in
    let values = rows_kept s HasValue (operand_has_value 1 (codes "IN"), (operand_has_value 2 (codes "OUT"), (number_has_value name 1 last_profile, (help_keeps HasValue, tt)))) words bare f in
    let numbers = rows_kept s (ReadsNumber name 1 last_profile)
    (operand_keeps_number 1 (codes "IN") name 1 last_profile (λ e. absurd cc), (operand_keeps_number 2 (codes "OUT") name 1 last_profile (λ e. absurd cc), (number_reads name 1 last_profile, (help_keeps (ReadsNumber name 1 last_profile), tt))))
    words bare f in
    profile_asks rows (λ profile. with_both (λ input output. Asm input output profile) (first_of (codes "IN") rows) (first_of (codes "OUT") rows)) numbers no_plus
    (λ profile. both_ask (λ input output. Asm input output profile) (codes "IN") (codes "OUT") rows values (level_none s [] nothing_held words false [] f).3)

dis_asks : (words : List Text) → entered_fault (built program_app) (Some (codes "dis", words)) ≡ [] → Asks (codes "dis") words
dis_asks words f no_plus =
    let s = leaf dis_app.top in
    let name = codes "profile" in
    let rows = rows_after s.rules [] words in
    let bare : Each HasNoDefault s.rules = (refl, (refl, (refl, tt))) in
    let values = rows_kept s HasValue (operand_has_value 1 (codes "FILE"), (number_has_value name 1 last_profile, (help_keeps HasValue, tt))) words bare f in
    let numbers = rows_kept s (ReadsNumber name 1 last_profile) (operand_keeps_number 1 (codes "FILE") name 1 last_profile (λ e. absurd cc), (number_reads name 1 last_profile, (help_keeps (ReadsNumber name 1 last_profile), tt))) words bare f in
    profile_asks rows (λ profile. option_map (λ file. Dis file profile) (first_of (codes "FILE") rows)) numbers no_plus
    (λ profile. one_asks (λ file. Dis file profile) (codes "FILE") rows values (level_none s [] nothing_held words false [] f).3)

-- what is asked for with a version
version_asks : (rows : List Row) (ask : Version → Option Request) → Each (ReadsNumber (codes "record") 1 last_version) rows → has_plus_at (codes "record") rows ≡ false
    → ((version : Version) → (r : Request) × (ask version ≡ Some r)) → (r : Request) × (with_version ask rows ≡ Some r)
version_asks rows ask numbers no_plus asked =
    let count = has_count 1 last_version (omega arith) (first_of (codes "record") rows) (first_number (codes "record") 1 last_version rows numbers) no_plus in
    with_value (version_of (first_of (codes "record") rows)) ask (version_numbered count.0) (ap (option_map version_numbered) count.1) (asked (version_numbered count.0))

-- a check whose words have no fault
module _ (words : List Text) (f : entered_fault (built program_app) (Some (codes "check", words)) ≡ []) where
  check_bare : Each HasNoDefault (leaf check_app.top).rules
  check_bare = (refl, (refl, (refl, (refl, tt))))

  check_values : Each HasValue (rows_after (leaf check_app.top).rules [] words)
  check_values = rows_kept (leaf check_app.top) HasValue
      (operand_has_value 1 (codes "FILE"), (number_has_value (codes "profile") 1 last_profile, (number_has_value (codes "record") 1 last_version, (help_keeps HasValue, tt))))
      words check_bare f

  check_profiles : Each (ReadsNumber (codes "profile") 1 last_profile) (rows_after (leaf check_app.top).rules [] words)
  check_profiles =
      let name = codes "profile" in
      rows_kept (leaf check_app.top) (ReadsNumber name 1 last_profile)
      (operand_keeps_number 1 (codes "FILE") name 1 last_profile (λ e. absurd cc), (number_reads name 1 last_profile, (number_keeps_number (codes "record") 1 last_version name 1 last_profile (λ e. absurd cc), (help_keeps (ReadsNumber name 1 last_profile), tt))))
      words check_bare f

  check_versions : Each (ReadsNumber (codes "record") 1 last_version) (rows_after (leaf check_app.top).rules [] words)
  check_versions =
      let name = codes "record" in
      rows_kept (leaf check_app.top) (ReadsNumber name 1 last_version)
      (operand_keeps_number 1 (codes "FILE") name 1 last_version (λ e. absurd cc), (number_keeps_number (codes "profile") 1 last_profile name 1 last_version (λ e. absurd cc), (number_reads name 1 last_version, (help_keeps (ReadsNumber name 1 last_version), tt))))
      words check_bare f

  check_asks : Asks (codes "check") words
  check_asks no_plus =
      let rows = rows_after (leaf check_app.top).rules [] words in
      let plain = or_false (has_plus_at (codes "profile") rows) (has_plus_at (codes "record") rows) no_plus in
      profile_asks rows (λ profile. with_version (λ version. option_map (λ file. Check file profile version) (first_of (codes "FILE") rows)) rows) check_profiles plain.0
      (λ profile. version_asks rows (λ version. option_map (λ file. Check file profile version) (first_of (codes "FILE") rows)) check_versions plain.1
      (λ version. one_asks (λ file. Check file profile version) (codes "FILE") rows check_values (level_none (leaf check_app.top) [] nothing_held words false [] f).3))

-- the same for a name that is one of these
renamed : (name known : Text) (words : List Text) → name ≡ known → (entered_fault (built program_app) (Some (known, words)) ≡ [] → Asks known words)
    → entered_fault (built program_app) (Some (name, words)) ≡ [] → Asks name words
renamed name known words e asks f = subst (λ (n : Text). entered_fault (built program_app) (Some (n, words)) ≡ [] → Asks n words) (sym e) asks f

asks_at : (o : Option (Text × List Text)) → Stops o → is_some (entered (built program_app) o) ≡ true → entered_fault (built program_app) o ≡ [] → has_plus (entered (built program_app) o) ≡ false
    → (r : Request) × (command_in (entered (built program_app) o) ≡ Some r)
asks_at None r e f = absurd cc
asks_at (Some q) (inl run) e f = renamed q.0 (codes "run") q.1 run (run_asks q.1) f
asks_at (Some q) (inr (inl replay)) e f = renamed q.0 (codes "replay") q.1 replay (replay_asks q.1) f
asks_at (Some q) (inr (inr (inl asm))) e f = renamed q.0 (codes "asm") q.1 asm (asm_asks q.1) f
asks_at (Some q) (inr (inr (inr (inl dis)))) e f = renamed q.0 (codes "dis") q.1 dis (dis_asks q.1) f
asks_at (Some q) (inr (inr (inr (inr check)))) e f = renamed q.0 (codes "check") q.1 check (check_asks q.1) f

has_one : (b : Bool) (rows : List Row) → check_fault top rows b ≡ [] → b ≡ true
has_one b rows h = grind arith

pub taken_asks : (words : List Text) → fault_of program_app words ≡ [] → has_plus (subcommand_of program_app words) ≡ false → (r : Request) × (command_of words ≡ Some r)
taken_asks words e no_plus = grind (arith, level_none, asks_at, walk_stops, has_one)
