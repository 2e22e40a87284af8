-- The plain forms of the subcommands are taken.
use Rattle.std.proofs.Common.{◌≡◌, ℕ, ◌<◌, ◌^◌, Bool, true, false, cond, [], ◌∷◌, Some, None, refl, ◌∙◌, arith, ◌||◌, option_map, option_and_then, bytes_eq}
use Rattle.std.proofs.lemmas.Bool.{and_right as and_false, and_left as false_and, false_from_ne_true as false_unless}
use Rattle.clap.specs.Lexer.{strip_byte}
use Rattle.clap.specs.Walk.{Text}
use Rattle.clap.specs.Kinds.{Kinds, or_else}
use Rattle.clap.specs.ValueTests.{is_unsigned_in}
use Rattle.clap.specs.declared.error.kind.ErrorKind.{ErrorKind}
use Rattle.clap.proofs.OnLiterals.{clap_on_literals}
use Rattle.law_texts.specs.Words.{Profile, Version, count_number}
use Rattle.pb_texts.specs.CommandLines.{most_workers, most_swaps, last_profile, is_plain_word, is_count, is_workers, is_swaps, is_profile, profile_numbered, begins_with_plus, is_clock, clock_number, run_words, workers_words, swaps_words, replay_words, clock_words, asm_words, dis_words, check_words, profile_words, Run, Replay, Asm, Dis, Check, Request, AskFor, HaveBadValue, TakeProfiles, RefuseOtherProfiles, last_version, is_version, version_numbered, record_words, TakeVersions, RefuseOtherVersions}
use Rattle.pb_texts.proofs.Counts.{plus_no_count, plain_count}
use Rattle.pb_base.proofs.Logic.{not_both as true_not_false}

no_hyphen : (w : Text) → is_plain_word w ≡ true → strip_byte 45 w ≡ None
no_hyphen w h = grind arith

no_hyphens : (w : Text) → is_plain_word w ≡ true → bytes_eq w (45 ∷ 45 ∷ []) ≡ false
no_hyphens w h = grind arith

abbrev NoHyphen : Text → Type 0
NoHyphen w = (strip_byte 45 w ≡ None) × (bytes_eq w (45 ∷ 45 ∷ []) ≡ false)

plain_word : (w : Text) → is_plain_word w ≡ true → NoHyphen w
plain_word w h = (no_hyphen w h, no_hyphens w h)

hyphen_no_clock : (xs : Text) → is_clock (45 ∷ xs) ≡ false
hyphen_no_clock xs = false_and _ _ (and_false _ _ refl)

-- a word of a kind that no word with a hyphen is of is plain
plain_of : (is : Text → Bool) → is [] ≡ false → ((xs : Text) → is (45 ∷ xs) ≡ false) → (t : Text) → is t ≡ true → is_plain_word t ≡ true
plain_of is none hyphen t h = grind arith

-- a clock begins with a digit or a plus
clock_plain : (t : Text) → is_clock t ≡ true → is_plain_word t ≡ true
clock_plain t h = plain_of is_clock refl hyphen_no_clock t h

hyphen_no_count : (low high : ℕ) (xs : Text) → is_count low high (45 ∷ xs) ≡ false
hyphen_no_count low high xs = false_and _ _ (and_false _ _ refl)

-- a number of digits alone begins with a digit
count_plain : (low high : ℕ) (t : Text) → is_count low high t ≡ true → is_plain_word t ≡ true
count_plain low high t h = plain_of (is_count low high) refl (hyphen_no_count low high) t h

-- what a level below and the one above make of the fault of a value
abbrev value_fault : Bool → Kinds
value_fault b = or_else (or_else (or_else (cond b [] (ErrorKind.ValueValidation ∷ [])) []) []) []

-- the same with that of a plus
abbrev plus_or_value_fault : Bool → Bool → Kinds
plus_or_value_fault b plus = or_else (value_fault b) (cond plus (ErrorKind.ValueValidation ∷ []) [])

no_fault : (b plus : Bool) → b ≡ true → plus ≡ false → plus_or_value_fault b plus ≡ []
no_fault b plus e f = grind arith

bad_value : (b plus : Bool) → (plus ≡ false → b ≡ false) → plus_or_value_fault b plus ≡ ErrorKind.ValueValidation ∷ []
bad_value b plus f = grind arith

with_value : (b : Bool) (make : ℕ → Request) (n : ℕ) → b ≡ true → option_and_then (λ m. Some (make m)) (cond b (Some n) None) ≡ Some (make n)
with_value b make n is = grind arith

no_plus : (low high : ℕ) (t : Text) → is_count low high t ≡ true → begins_with_plus t ≡ false
no_plus low high t is = false_unless (begins_with_plus t) (λ h. true_not_false (is_count low high t) is (plus_no_count low high t h))

run_by : (program m s : Text) → NoHyphen m → NoHyphen s → AskFor (run_words program m s) (Run m s 1 0)
unfolding clap_on_literals
run_by program m s a b = (rw (a.1, a.0, a.0, b.1, b.0, b.0) refl, rw (a.1, a.0, a.0, b.1, b.0, b.0) refl)

-- the numbers of workers and of swaps are short
few : most_workers < 2 ^ 32
few = omega arith

some : most_swaps < 2 ^ 32
some = omega arith

or_nothing : (b : Bool) → b ≡ false → (b || false) ≡ false
or_nothing b h = grind arith

nothing_or : (b : Bool) → (b || false) ≡ false → b ≡ false
nothing_or b h = grind arith

workers_by : (program m s t : Text) → NoHyphen m → NoHyphen s → NoHyphen t → is_workers t ≡ true → AskFor (workers_words program m s t) (Run m s (count_number t) 0)
unfolding clap_on_literals
workers_by program m s t a b c is = (
  rw (a.1, a.0, a.0, b.1, b.0, b.0, c.1, c.0, c.0) (no_fault (is_unsigned_in 1 most_workers t) (begins_with_plus t || false) (plain_count 1 most_workers few t (no_plus 1 most_workers t is) ∙ is) (or_nothing _ (no_plus 1 most_workers t is))),
  rw (a.1, a.0, a.0, b.1, b.0, b.0, c.1, c.0, c.0) (with_value (is_workers t) (λ n. Run m s n 0) (count_number t) is),
)

other_workers_by : (program m s t : Text) → NoHyphen m → NoHyphen s → NoHyphen t → is_workers t ≡ false → HaveBadValue (workers_words program m s t)
unfolding clap_on_literals
other_workers_by program m s t a b c is = rw (a.1, a.0, a.0, b.1, b.0, b.0, c.1, c.0, c.0) (bad_value (is_unsigned_in 1 most_workers t) (begins_with_plus t || false) (λ h. plain_count 1 most_workers few t (nothing_or _ h) ∙ is))

swaps_by : (program m s t : Text) → NoHyphen m → NoHyphen s → NoHyphen t → is_swaps t ≡ true → AskFor (swaps_words program m s t) (Run m s 1 (count_number t))
unfolding clap_on_literals
swaps_by program m s t a b c is = (
  rw (a.1, a.0, a.0, b.1, b.0, b.0, c.1, c.0, c.0) (no_fault (is_unsigned_in 0 most_swaps t) (begins_with_plus t) (plain_count 0 most_swaps some t (no_plus 0 most_swaps t is) ∙ is) (no_plus 0 most_swaps t is)),
  rw (a.1, a.0, a.0, b.1, b.0, b.0, c.1, c.0, c.0) (with_value (is_swaps t) (Run m s 1) (count_number t) is),
)

other_swaps_by : (program m s t : Text) → NoHyphen m → NoHyphen s → NoHyphen t → is_swaps t ≡ false → HaveBadValue (swaps_words program m s t)
unfolding clap_on_literals
other_swaps_by program m s t a b c is = rw (a.1, a.0, a.0, b.1, b.0, b.0, c.1, c.0, c.0) (bad_value (is_unsigned_in 0 most_swaps t) (begins_with_plus t) (λ h. plain_count 0 most_swaps some t h ∙ is))

replay_by : (program m s e : Text) → NoHyphen m → NoHyphen s → NoHyphen e → AskFor (replay_words program m s e) (Replay m s e 0)
unfolding clap_on_literals
replay_by program m s e a b c = (rw (a.1, a.0, a.0, b.1, b.0, b.0, c.1, c.0, c.0) refl, rw (a.1, a.0, a.0, b.1, b.0, b.0, c.1, c.0, c.0) refl)

clock_by : (program m s e t : Text) → NoHyphen m → NoHyphen s → NoHyphen e → NoHyphen t → is_clock t ≡ true → AskFor (clock_words program m s e t) (Replay m s e (clock_number t))
unfolding clap_on_literals
clock_by program m s e t a b c d is = (rw (a.1, a.0, a.0, b.1, b.0, b.0, c.1, c.0, c.0, d.1, d.0, d.0) (no_fault (is_clock t) false is refl), rw (a.1, a.0, a.0, b.1, b.0, b.0, c.1, c.0, c.0, d.1, d.0, d.0) (with_value (is_clock t) (Replay m s e) (clock_number t) is))

other_clock_by : (program m s e t : Text) → NoHyphen m → NoHyphen s → NoHyphen e → NoHyphen t → is_clock t ≡ false → HaveBadValue (clock_words program m s e t)
unfolding clap_on_literals
other_clock_by program m s e t a b c d is = rw (a.1, a.0, a.0, b.1, b.0, b.0, c.1, c.0, c.0, d.1, d.0, d.0) (bad_value (is_clock t) false (λ _. is))

asm_by : (program i o : Text) → NoHyphen i → NoHyphen o → AskFor (asm_words program i o) (Asm i o Profile.One)
unfolding clap_on_literals
asm_by program i o a b = (rw (a.1, a.0, a.0, b.1, b.0, b.0) refl, rw (a.1, a.0, a.0, b.1, b.0, b.0) refl)

dis_by : (program f : Text) → NoHyphen f → AskFor (dis_words program f) (Dis f Profile.One)
unfolding clap_on_literals
dis_by program f a = (rw (a.1, a.0, a.0) refl, rw (a.1, a.0, a.0) refl)

check_by : (program f : Text) → NoHyphen f → AskFor (check_words program f) (Check f Profile.One Version.First)
unfolding clap_on_literals
check_by program f a = (rw (a.1, a.0, a.0) refl, rw (a.1, a.0, a.0) refl)

-- ---- `--profile`

module _ (t : Text) where
  -- the fault of a profile
  abbrev profile_fault : Kinds
  profile_fault = plus_or_value_fault (is_unsigned_in 1 last_profile t) (begins_with_plus t)

  -- the same where a version may be named, too
  abbrev checked_fault : Kinds
  checked_fault = plus_or_value_fault (is_unsigned_in 1 last_profile t) (begins_with_plus t || false)

  checked_faultless : is_profile t ≡ true → checked_fault ≡ []
  checked_faultless is = grind (arith, no_plus, no_fault, plain_count, or_nothing)

  checked_refused : is_profile t ≡ false → checked_fault ≡ ErrorKind.ValueValidation ∷ []
  checked_refused is = bad_value (is_unsigned_in 1 last_profile t) (begins_with_plus t || false) (λ plain. plain_count 1 last_profile (omega arith) t (nothing_or _ plain) ∙ is)

  -- the fault of a version
  abbrev version_fault : Kinds
  version_fault = plus_or_value_fault (is_unsigned_in 1 last_version t) (begins_with_plus t)

  version_faultless : is_version t ≡ true → version_fault ≡ []
  version_faultless is = grind (arith, no_plus, no_fault, plain_count)

  version_refused : is_version t ≡ false → version_fault ≡ ErrorKind.ValueValidation ∷ []
  version_refused is = bad_value (is_unsigned_in 1 last_version t) (begins_with_plus t) (λ plain. plain_count 1 last_version (omega arith) t plain ∙ is)

  profile_faultless : is_profile t ≡ true → profile_fault ≡ []
  profile_faultless is = grind (arith, no_plus, no_fault, plain_count)

  profile_refused : is_profile t ≡ false → profile_fault ≡ ErrorKind.ValueValidation ∷ []
  profile_refused is = bad_value (is_unsigned_in 1 last_profile t) (begins_with_plus t) (λ plain. plain_count 1 last_profile (omega arith) t plain ∙ is)

with_numbered : {A : Type 0} (numbered : ℕ → A) (b : Bool) (make : A → Request) (n : ℕ) → b ≡ true → option_and_then (λ x. Some (make x)) (option_map numbered (cond b (Some n) None)) ≡ Some (make (numbered n))
with_numbered numbered b make n is = grind arith

asm_profile_by : (program i o t : Text) → NoHyphen i → NoHyphen o → NoHyphen t → is_profile t ≡ true → AskFor (profile_words (asm_words program i o) t) (Asm i o (profile_numbered (count_number t)))
unfolding clap_on_literals
asm_profile_by program i o t a b c is = (
  rw (a.1, a.0, a.0, b.1, b.0, b.0, c.1, c.0, c.0) (profile_faultless t is),
  rw (a.1, a.0, a.0, b.1, b.0, b.0, c.1, c.0, c.0) (with_numbered profile_numbered (is_profile t) (Asm i o) (count_number t) is),
)

other_asm_profile_by : (program i o t : Text) → NoHyphen i → NoHyphen o → NoHyphen t → is_profile t ≡ false → HaveBadValue (profile_words (asm_words program i o) t)
unfolding clap_on_literals
other_asm_profile_by program i o t a b c is = rw (a.1, a.0, a.0, b.1, b.0, b.0, c.1, c.0, c.0) (profile_refused t is)

dis_profile_by : (program f t : Text) → NoHyphen f → NoHyphen t → is_profile t ≡ true → AskFor (profile_words (dis_words program f) t) (Dis f (profile_numbered (count_number t)))
unfolding clap_on_literals
dis_profile_by program f t a c is = grind (arith, profile_faultless, with_numbered)

other_dis_profile_by : (program f t : Text) → NoHyphen f → NoHyphen t → is_profile t ≡ false → HaveBadValue (profile_words (dis_words program f) t)
unfolding clap_on_literals
other_dis_profile_by program f t a c is = rw (a.1, a.0, a.0, c.1, c.0, c.0) (profile_refused t is)

check_profile_by : (program f t : Text) → NoHyphen f → NoHyphen t → is_profile t ≡ true → AskFor (profile_words (check_words program f) t) (Check f (profile_numbered (count_number t)) Version.First)
unfolding clap_on_literals
check_profile_by program f t a c is = grind (arith, checked_faultless, with_numbered)

other_check_profile_by : (program f t : Text) → NoHyphen f → NoHyphen t → is_profile t ≡ false → HaveBadValue (profile_words (check_words program f) t)
unfolding clap_on_literals
other_check_profile_by program f t a c is = rw (a.1, a.0, a.0, c.1, c.0, c.0) (checked_refused t is)

-- ---- `--record`

check_record_by : (program f t : Text) → NoHyphen f → NoHyphen t → is_version t ≡ true → AskFor (record_words (check_words program f) t) (Check f Profile.One (version_numbered (count_number t)))
unfolding clap_on_literals
check_record_by program f t a c is = grind (arith, version_faultless, with_numbered)

other_check_record_by : (program f t : Text) → NoHyphen f → NoHyphen t → is_version t ≡ false → HaveBadValue (record_words (check_words program f) t)
unfolding clap_on_literals
other_check_record_by program f t a c is = rw (a.1, a.0, a.0, c.1, c.0, c.0) (version_refused t is)

-- ---- as the clauses say it

pub run_taken : (program m s : Text) → is_plain_word m ≡ true → is_plain_word s ≡ true → AskFor (run_words program m s) (Run m s 1 0)
run_taken program m s p q = run_by program m s (plain_word m p) (plain_word s q)

pub workers_taken : (program m s t : Text) → is_plain_word m ≡ true → is_plain_word s ≡ true → is_workers t ≡ true → AskFor (workers_words program m s t) (Run m s (count_number t) 0)
workers_taken program m s t p q is = workers_by program m s t (plain_word m p) (plain_word s q) (plain_word t (count_plain 1 most_workers t is)) is

pub other_workers_refused : (program m s t : Text) → is_plain_word m ≡ true → is_plain_word s ≡ true → is_plain_word t ≡ true → is_workers t ≡ false → HaveBadValue (workers_words program m s t)
other_workers_refused program m s t p q u is = other_workers_by program m s t (plain_word m p) (plain_word s q) (plain_word t u) is

pub swaps_taken : (program m s t : Text) → is_plain_word m ≡ true → is_plain_word s ≡ true → is_swaps t ≡ true → AskFor (swaps_words program m s t) (Run m s 1 (count_number t))
swaps_taken program m s t p q is = swaps_by program m s t (plain_word m p) (plain_word s q) (plain_word t (count_plain 0 most_swaps t is)) is

pub other_swaps_refused : (program m s t : Text) → is_plain_word m ≡ true → is_plain_word s ≡ true → is_plain_word t ≡ true → is_swaps t ≡ false → HaveBadValue (swaps_words program m s t)
other_swaps_refused program m s t p q u is = other_swaps_by program m s t (plain_word m p) (plain_word s q) (plain_word t u) is

pub replay_taken : (program m s e : Text) → is_plain_word m ≡ true → is_plain_word s ≡ true → is_plain_word e ≡ true → AskFor (replay_words program m s e) (Replay m s e 0)
replay_taken program m s e p q r = replay_by program m s e (plain_word m p) (plain_word s q) (plain_word e r)

pub clock_taken : (program m s e t : Text) → is_plain_word m ≡ true → is_plain_word s ≡ true → is_plain_word e ≡ true → is_clock t ≡ true → AskFor (clock_words program m s e t) (Replay m s e (clock_number t))
clock_taken program m s e t p q r is = clock_by program m s e t (plain_word m p) (plain_word s q) (plain_word e r) (plain_word t (clock_plain t is)) is

pub other_clock_refused : (program m s e t : Text) → is_plain_word m ≡ true → is_plain_word s ≡ true → is_plain_word e ≡ true → is_plain_word t ≡ true → is_clock t ≡ false → HaveBadValue (clock_words program m s e t)
other_clock_refused program m s e t p q r u is = other_clock_by program m s e t (plain_word m p) (plain_word s q) (plain_word e r) (plain_word t u) is

plain_profile : (t : Text) → is_profile t ≡ true → NoHyphen t
plain_profile t is = plain_word t (count_plain 1 last_profile t is)

pub asm_taken : (program i o : Text) → is_plain_word i ≡ true → is_plain_word o ≡ true → AskFor (asm_words program i o) (Asm i o Profile.One)
asm_taken program i o p q = asm_by program i o (plain_word i p) (plain_word o q)

pub asm_profile_taken : (program i o : Text) → is_plain_word i ≡ true → is_plain_word o ≡ true → TakeProfiles (asm_words program i o) (Asm i o)
asm_profile_taken program i o p q t is = asm_profile_by program i o t (plain_word i p) (plain_word o q) (plain_profile t is) is

pub other_asm_profile_refused : (program i o : Text) → is_plain_word i ≡ true → is_plain_word o ≡ true → RefuseOtherProfiles (asm_words program i o)
other_asm_profile_refused program i o p q t u is = other_asm_profile_by program i o t (plain_word i p) (plain_word o q) (plain_word t u) is

pub dis_taken : (program f : Text) → is_plain_word f ≡ true → AskFor (dis_words program f) (Dis f Profile.One)
dis_taken program f p = dis_by program f (plain_word f p)

pub dis_profile_taken : (program f : Text) → is_plain_word f ≡ true → TakeProfiles (dis_words program f) (Dis f)
dis_profile_taken program f p t is = dis_profile_by program f t (plain_word f p) (plain_profile t is) is

pub other_dis_profile_refused : (program f : Text) → is_plain_word f ≡ true → RefuseOtherProfiles (dis_words program f)
other_dis_profile_refused program f p t u is = other_dis_profile_by program f t (plain_word f p) (plain_word t u) is

pub check_taken : (program f : Text) → is_plain_word f ≡ true → AskFor (check_words program f) (Check f Profile.One Version.First)
check_taken program f p = check_by program f (plain_word f p)

pub check_profile_taken : (program f : Text) → is_plain_word f ≡ true → TakeProfiles (check_words program f) (λ profile. Check f profile Version.First)
check_profile_taken program f p t is = check_profile_by program f t (plain_word f p) (plain_profile t is) is

pub other_check_profile_refused : (program f : Text) → is_plain_word f ≡ true → RefuseOtherProfiles (check_words program f)
other_check_profile_refused program f p t u is = other_check_profile_by program f t (plain_word f p) (plain_word t u) is

pub check_record_taken : (program f : Text) → is_plain_word f ≡ true → TakeVersions (check_words program f) (Check f Profile.One)
check_record_taken program f p t is = check_record_by program f t (plain_word f p) (plain_word t (count_plain 1 last_version t is)) is

pub other_check_record_refused : (program f : Text) → is_plain_word f ≡ true → RefuseOtherVersions (check_words program f)
other_check_record_refused program f p t u is = other_check_record_by program f t (plain_word f p) (plain_word t u) is
