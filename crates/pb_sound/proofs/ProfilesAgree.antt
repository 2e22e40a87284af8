-- The profile decides which programs there are, and nothing else.
use Rattle.std.proofs.Common.{◌≡◌, ℕ, zero, suc, List, Option, refl, sym, ap, ◌∙◌, arith}
use Rattle.pb_sound.specs.Words.{Writes, Insn, Profile, insn_at, Helper, HelperSet, Placement, Environment, State, fetch, helps, calls, does, does_at, act, state_at_entry, Talk, Point, onward, point_after, environment_of, EndsWith, Means, Frame, RuleCode, lowest_code, in_at, codes_at, faults, Accepts, Refuses}
use Rattle.pb_sound.specs.ProfilesAgree.{judged_in, ProgramsOfOneAreOfTwo, SameAreAccepted, SameAreRefused, SameIsMeant}
use Rattle.pb_isa.proofs.Instructions.{all_next as all_of_two}

-- ---- programs

-- and 512 slots are fewer than 4,096
pub one_is_of_two : ProgramsOfOneAreOfTwo
one_is_of_two is p = record { some = p.some; most = (let most = p.most in omega (arith, most)); of_profile = all_of_two is p.of_profile }

module _ (p q : Profile) (is : List Insn) (h : HelperSet) (size : ℕ) where
  -- ---- rules

  codes_same : (n : ℕ) (i : Option Insn) (f : Option Frame) → codes_at (judged_in p is h size) n i f ≡ codes_at (judged_in q is h size) n i f
  codes_same n i f = grind arith

  faults_same : (n : ℕ) → faults (judged_in p is h size) n ≡ faults (judged_in q is h size) n
  faults_same n = codes_same n (insn_at is n) (in_at is n)

  accepts : Accepts (judged_in p is h size) → Accepts (judged_in q is h size)
  accepts ok n inside = sym (faults_same n) ∙ ok n inside

  refuses : (n : ℕ) (c : RuleCode) → Refuses (judged_in p is h size) n c → Refuses (judged_in q is h size) n c
  refuses n c r = record { inside = r.inside; code = ap lowest_code (sym (faults_same n)) ∙ r.code; before = λ m l. sym (faults_same m) ∙ r.before m l }

  -- ---- runs

  module _ (bytes : List ℕ) (start : ℕ) (a : Placement) where
    abbrev in_one : Environment
    in_one = environment_of (judged_in p is h size) bytes start a

    abbrev in_other : Environment
    in_other = environment_of (judged_in q is h size) bytes start a

    helps_same : (s : State) (x : Helper) → helps in_one s x ≡ helps in_other s x
    helps_same s x = grind arith

    calls_same : (s : State) (x : Option Helper) → calls in_one s x ≡ calls in_other s x
    calls_same s x = grind arith

    does_same : (s : State) (i : Insn) → does in_one s i ≡ does in_other s i
    unfolding fetch
    does_same s i = grind arith

    does_at_same : (s : State) (i : Option Insn) → does_at in_one s i ≡ does_at in_other s i
    does_at_same s i = grind (arith, does_same)

    acts_same : (s : State) → act in_one s ≡ act in_other s
    unfolding act
    acts_same s = does_at_same s (insn_at is s.slot)

    onward_same : (talk : Talk) (x : Option Point) → onward in_one talk x ≡ onward in_other talk x
    onward_same talk x = grind (arith, acts_same)

    point_same : (talk : Talk) (n : ℕ) → point_after in_one talk n ≡ point_after in_other talk n
    unfolding point_after state_at_entry
    point_same talk zero = refl
    point_same talk (suc n) = ap (onward in_one talk) (point_same talk n) ∙ onward_same talk (point_after in_other talk n)

    ends : (talk : Talk) (r : ℕ) (ws : Writes) → EndsWith in_one talk r ws → EndsWith in_other talk r ws
    ends talk r ws e = record {
      steps = e.steps;
      last = e.last;
      made = e.made;
      leads = sym (point_same talk e.steps) ∙ e.leads;
      ends = sym (acts_same e.last) ∙ e.ends;
      kept = e.kept;
    }

  means : (bytes : List ℕ) (start : ℕ) (talk : Talk) (r : ℕ) (ws : Writes) → Means (judged_in p is h size) bytes start talk r ws → Means (judged_in q is h size) bytes start talk r ws
  means bytes start talk r ws m = record { size = m.size; some = m.some; at = λ a l. ends bytes start a talk r ws (m.at a l) }

-- no rule looks at the profile
pub same_accepted : SameAreAccepted
same_accepted is h size = (accepts Profile.One Profile.Two is h size, accepts Profile.Two Profile.One is h size)

pub same_refused : SameAreRefused
same_refused is h size n c = (refuses Profile.One Profile.Two is h size n c, refuses Profile.Two Profile.One is h size n c)

-- nor does the machine
pub same_meant : SameIsMeant
same_meant is h size bytes start talk r ws = (means Profile.One Profile.Two is h size bytes start talk r ws, means Profile.Two Profile.One is h size bytes start talk r ws)
