-- A plus before the number of workers, of swaps, of a profile or of a version is a fault, and without one a run's numbers are in range.
use Rattle.std.proofs.Common.{◌≡◌, ℕ, ◌≤◌, Bool, true, false, cond, List, [], ◌∷◌, Option, Some, None, refl, sym, ap, ◌∙◌, subst, arith, inl, codes, ◌⊎◌, ◌||◌, option_and_then, option_map, bytes_eq}
use Rattle.std.specs.Option.{option_map_or}
use Rattle.clap.specs.Walk.{Text, Row, first_of, one_of}
use Rattle.clap.specs.Simple.{subcommand_of}
use Rattle.clap.specs.Kinds.{Kinds, IsAmong, HasKind, or_else}
use Rattle.clap.specs.declared.error.Error.{Error}
use Rattle.clap.specs.Faults.{fault_of}
use Rattle.clap.specs.declared.error.kind.ErrorKind.{ErrorKind}
use Rattle.pb_texts.specs.declared.words.choice.Options.{Options}
use Rattle.pb_isa.specs.declared.profile.Profile.{Profile}
use Rattle.pb_helpers.specs.declared.change.Version.{Version}
use Rattle.pb_texts.specs.CommandLines.{most_workers, most_swaps, last_profile, program_app, Request, Run, Asm, Dis, Check, with_both, count_named, workers_of, clock_of, profile_numbered, profile_named, with_profile, last_version, version_numbered, version_of, with_version, asm_in, dis_in, check_in, command_in, command_of, begins_with_plus, has_plus, has_plus_at, request_of, IsInRange}
use Rattle.pb_texts.proofs.Asked.{run_with, run_by, replay_from, taken_asks}
use Rattle.std.proofs.lemmas.Bool.{true_from_ne_false as true_unless, false_from_ne_true as false_unless}
use Rattle.pb_base.proofs.Logic.{or_cases as either}

-- ---- the fault of a plus

none_at : (low high : ℕ) (o : Option Text) → option_map_or begins_with_plus o false ≡ true → count_named low high o ≡ None
none_at low high o h = grind arith

plus_names_none : (low high : ℕ) (name : Text) (rows : List Row) → has_plus_at name rows ≡ true → count_named low high (first_of name rows) ≡ None
plus_names_none low high name rows h = none_at low high (first_of name rows) h

none_then : {A B : Type 0} (o : Option A) (f : A → Option B) → ((x : A) → f x ≡ None) → option_and_then f o ≡ None
none_then o f h = grind arith

-- a run with a plus before one of its numbers names none
run_names_none : (rows : List Row) → (has_plus_at (codes "workers") rows ≡ true) ⊎ (has_plus_at (codes "swaps") rows ≡ true) → option_and_then (run_by rows) (workers_of (first_of (codes "workers") rows)) ≡ None
run_names_none rows w = grind (arith, run_by, plus_names_none, none_then, run_with)

-- nor does a subcommand with one before the number of a profile
profile_names_none : (rows : List Row) (ask : Profile → Option Request) → has_plus_at (codes "profile") rows ≡ true → with_profile ask rows ≡ None
profile_names_none rows ask plus = ap (λ n. option_and_then ask (option_map profile_numbered n)) (plus_names_none 1 last_profile (codes "profile") rows plus)

version_names_none : (rows : List Row) (ask : Version → Option Request) → has_plus_at (codes "record") rows ≡ true → with_version ask rows ≡ None
version_names_none rows ask plus = ap (λ n. option_and_then ask (option_map version_numbered n)) (plus_names_none 1 last_version (codes "record") rows plus)

check_names_none : (rows : List Row) → (has_plus_at (codes "profile") rows ≡ true) ⊎ (has_plus_at (codes "record") rows ≡ true) → check_in rows ≡ None
check_names_none rows w = grind (arith, profile_names_none, none_then, version_names_none)

none_if : (b : Bool) (x y : Option Request) → x ≡ None → y ≡ None → cond b x y ≡ None
none_if b x y e f = grind arith

none_by : (b plus other : Bool) (x y : Option Request) → (plus ≡ true → x ≡ None) → (other ≡ true → y ≡ None) → cond b plus other ≡ true → cond b x y ≡ None
none_by b plus other x y f g h = grind arith

plus_asks_none : (q : Option (Text × List Row)) → has_plus q ≡ true → command_in q ≡ None
plus_asks_none None h = absurd cc
plus_asks_none (Some p) h =
    none_by (bytes_eq p.0 (codes "run")) _ _ _ _ (λ plus. run_names_none p.1 (either (has_plus_at (codes "workers") p.1) (has_plus_at (codes "swaps") p.1) plus))
    (none_by (bytes_eq p.0 (codes "replay")) false _ _ _ (λ plus. absurd cc)
    (none_by (bytes_eq p.0 (codes "asm")) (has_plus_at (codes "profile") p.1) _ (asm_in p.1) _ (profile_names_none p.1 _)
    (none_by (bytes_eq p.0 (codes "dis")) (has_plus_at (codes "profile") p.1) (has_plus_at (codes "profile") p.1 || has_plus_at (codes "record") p.1) (dis_in p.1) _ (profile_names_none p.1 _)
    (λ plus. none_if (bytes_eq p.0 (codes "check")) (check_in p.1) None (check_names_none p.1 (either (has_plus_at (codes "profile") p.1) (has_plus_at (codes "record") p.1) plus)) refl)))) h

none_is_some : (o : Option Request) (r : Request) → o ≡ None → o ≡ Some r → ⊥
none_is_some o r e f = let absurd_some : None ≡ Some r = sym e ∙ f in cc

some_has_no_plus : (q : Option (Text × List Row)) (r : Request) → command_in q ≡ Some r → has_plus q ≡ false
some_has_no_plus q r e = false_unless (has_plus q) (λ h. none_is_some (command_in q) r (plus_asks_none q h) e)

none_has_plus : (words : List Text) → fault_of program_app words ≡ [] → command_of words ≡ None → has_plus (subcommand_of program_app words) ≡ true
none_has_plus words f n = true_unless (has_plus (subcommand_of program_app words)) (λ h. let a = taken_asks words f h in none_is_some (command_of words) a.0 n a.1)

-- ---- the kinds of fault

abbrev plus_fault : Bool → Kinds
plus_fault b = cond b (ErrorKind.ValueValidation ∷ []) []

faultless : (f : Kinds) (b : Bool) → f ≡ [] → b ≡ false → or_else f (plus_fault b) ≡ []
faultless f b e is = rw (e, is) refl

refused_by_plus : (f : Kinds) (b : Bool) → f ≡ [] → b ≡ true → IsAmong ErrorKind.ValueValidation (or_else f (plus_fault b))
refused_by_plus f b e is = rw (e, is) (inl refl)

pub has_kind_still : (f g : Kinds) (e : Error) → HasKind f e → HasKind (or_else f g) e
has_kind_still f g e w = grind arith

pub asked_faultless : (words : List Text) (r : Request) → fault_of program_app words ≡ [] → command_of words ≡ Some r → or_else (fault_of program_app words) (plus_fault (has_plus (subcommand_of program_app words))) ≡ []
asked_faultless words r f e = faultless _ _ f (some_has_no_plus (subcommand_of program_app words) r e)

pub unasked_fault : (words : List Text) → fault_of program_app words ≡ [] → command_of words ≡ None → IsAmong ErrorKind.ValueValidation (or_else (fault_of program_app words) (plus_fault (has_plus (subcommand_of program_app words))))
unasked_fault words f n = refused_by_plus _ _ f (none_has_plus words f n)

-- ---- the numbers of a run

abbrev InRange : Request → Type 0
InRange (Run m s workers swaps) = (1 ≤ workers) × (workers ≤ most_workers) × (swaps ≤ most_swaps)
InRange other = Unit {0}

abbrev IfAsked : Option Request → Type 0
IfAsked None = Unit {0}
IfAsked (Some r) = InRange r

asked_if : (b : Bool) (x y : Option Request) → IfAsked x → IfAsked y → IfAsked (cond b x y)
asked_if b x y f g = grind arith

both_in_range : (make : Text → Text → Request) (a b : Option Text) → ((m s : Text) → InRange (make m s)) → IfAsked (with_both make a b)
both_in_range make a b f = grind arith

run_in_range : (rows : List Row) → IfAsked (option_and_then (run_by rows) (workers_of (first_of (codes "workers") rows)))
run_in_range rows = grind arith

then_in_range : {A : Type 0} (ask : A → Option Request) (o : Option A) → ((x : A) → IfAsked (ask x)) → IfAsked (option_and_then ask o)
then_in_range ask o f = grind arith

replay_in_range : (rows : List Row) → IfAsked (option_and_then (replay_from rows) (clock_of (one_of (codes "clock") rows)))
replay_in_range rows = grind arith

one_in_range : (make : Text → Request) (o : Option Text) → ((f : Text) → InRange (make f)) → IfAsked (option_map make o)
one_in_range make o h = grind arith

profile_in_range : (rows : List Row) (ask : Profile → Option Request) → ((p : Profile) → IfAsked (ask p)) → IfAsked (with_profile ask rows)
profile_in_range rows ask f = then_in_range ask (profile_named (first_of (codes "profile") rows)) f

version_in_range : (rows : List Row) (ask : Version → Option Request) → ((v : Version) → IfAsked (ask v)) → IfAsked (with_version ask rows)
version_in_range rows ask f = then_in_range ask (version_of (first_of (codes "record") rows)) f

command_in_range : (q : Option (Text × List Row)) → IfAsked (command_in q)
command_in_range None = tt
command_in_range (Some p) =
    asked_if (bytes_eq p.0 (codes "run")) _ _ (run_in_range p.1)
    (asked_if (bytes_eq p.0 (codes "replay")) _ _ (replay_in_range p.1)
    (asked_if (bytes_eq p.0 (codes "asm")) _ _ (profile_in_range p.1 _ (λ v. both_in_range (λ i o. Asm i o v) (first_of (codes "IN") p.1) (first_of (codes "OUT") p.1) (λ i o. tt)))
    (asked_if (bytes_eq p.0 (codes "dis")) _ _ (profile_in_range p.1 _ (λ v. one_in_range (λ f. Dis f v) (first_of (codes "FILE") p.1) (λ f. tt)))
    (asked_if (bytes_eq p.0 (codes "check")) _ _ (profile_in_range p.1 _ (λ v. version_in_range p.1 _ (λ w. one_in_range (λ f. Check f v w) (first_of (codes "FILE") p.1) (λ f. tt)))) tt))))

options_in_range : (o : Options) → InRange (request_of o) → IsInRange o
options_in_range o h = grind arith

pub asked_in_range : (words : List Text) (o : Options) → command_of words ≡ Some (request_of o) → IsInRange o
asked_in_range words o e = options_in_range o (subst IfAsked e (command_in_range (subcommand_of program_app words)))
