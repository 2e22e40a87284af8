-- What each use of an argument keeps of the rows, they keep to the end of a level that is read without fault.
use Rattle.std.proofs.Common.{arith, ◌≡◌, ℕ, zero, suc, Bool, true, false, cond, List, [], ◌∷◌, Option, Some, None, refl, sym, subst, ◌&&◌, not, find, fold, is_some, slice_get, bytes_eq, chars}
use Rattle.std.specs.Option.{option_map_or}
use Rattle.clap.specs.Walk.{Text, Rule, Row, Held, Waiting, Outcome, Step, Walk, Names}
use Rattle.clap.specs.Walk.{used, used_by_id, settled_rows, settled, reacted, reading_by, has_long, has_short}
use Rattle.clap.specs.Walk.{arg_by_id, arg_by_long, arg_by_short, option_met, flag_met, long_met, short_met, bundle_step, bundle_met}
use Rattle.clap.specs.Walk.{plain_word, after_flag, short_or_plain, long_or_other, subcommand_met, subcommand_or_other, word_met}
use Rattle.clap.specs.Walk.{to_positional, after_step, walked_from, walked, walk_from, walk, finished, default_rows, with_default, nothing_held, rows_after, has_row}
use Rattle.clap.specs.Simple.{Shape}
use Rattle.clap.specs.Kinds.{Kinds, or_else}
use Rattle.clap.specs.Faults.{use_fault, settle_fault, react_fault, option_fault, long_fault, short_fault, bundle_step_fault, flags_fault, bundle_fault, flag_word_fault}
use Rattle.clap.specs.Faults.{other_fault, word_fault, positional_fault, stray_fault, step_fault, turn_fault, walk_fault, check_fault, level_fault}
use Rattle.clap.specs.declared.error.kind.ErrorKind.{ErrorKind}

abbrev pub Each : {A : Type 0} → (A → Type 0) → List A → Type 0
Each P [] = Unit {0}
Each P (x ∷ xs) = P x × Each P xs

-- ---- faults, part by part

pub or_else_none : (a b : Kinds) → or_else a b ≡ [] → (a ≡ []) × (b ≡ [])
or_else_none a b h = grind arith

-- the walk, the level below, what is pending at the end, and the checks
pub level_none : (s : Shape) (names : Names) (h : Held) (words : List Text) (b : Bool) (below : Kinds) → level_fault s names h words b below ≡ []
    → (walk_fault s names (walk_from h) words ≡ []) × (below ≡ [])
    × (settle_fault s.rules s.args_override_self (walk s.rules names h words).held ≡ [])
    × (check_fault s (finished s.rules (walk s.rules names h words).held) b ≡ [])
level_none s names h words b below e = grind arith

pub unless_stopped : (o : Option (Text × List Text)) (k : Kinds) → o ≡ None → cond (is_some o) [] k ≡ [] → k ≡ []
unless_stopped o k is h = grind arith

-- ---- arguments

-- a use of the argument without fault keeps this of each row
abbrev pub Keeps : (Row → Type 0) → Rule → Type 0
Keeps P a = (again : Bool) (values : List Text) (rows : List Row) → use_fault again a values rows ≡ [] → Each P rows → Each P (used a values rows)

abbrev KeepsIf : (Row → Type 0) → Option Rule → Type 0
KeepsIf P None = Unit {0}
KeepsIf P (Some a) = Keeps P a

either_keeps : (P : Row → Type 0) (b : Bool) (x y : Option Rule) → KeepsIf P x → KeepsIf P y → KeepsIf P (cond b x y)
either_keeps x b h y k l = grind arith

found_keeps : (P : Row → Type 0) (p : Rule → Bool) (c : List Rule) → Each (Keeps P) c → KeepsIf P (find p c)
found_keeps P p [] k = tt
found_keeps P p (a ∷ c) k = either_keeps P (p a) (Some a) (find p c) k.0 (found_keeps P p c k.1)

abbrev pub HasNoDefault : Rule → Type 0
HasNoDefault a = a.defaults ≡ []

-- ---- a level of the parse

module _ (s : Shape) (P : Row → Type 0) (keeps : Each (Keeps P) s.rules) where
  by_id : (id : Text) → KeepsIf P (arg_by_id s.rules id)
  by_id id = found_keeps P (λ a. bytes_eq a.id id) s.rules keeps

  by_long : (name : Text) → KeepsIf P (arg_by_long s.rules name)
  by_long name = found_keeps P (λ a. not (is_some a.index) && has_long a name) s.rules keeps

  by_short : (x : ℕ) → KeepsIf P (arg_by_short s.rules x)
  by_short x = found_keeps P (λ a. not (is_some a.index) && has_short a x) s.rules keeps

  used_kept : (o : Option Rule) (values : List Text) (rows : List Row) → KeepsIf P o → option_map_or (λ a. use_fault s.args_override_self a values rows) o [] ≡ [] → Each P rows → Each P (used_by_id o values rows)
  used_kept o values rows k e g = grind arith

  pending_kept : (p : Option (Text × List Text)) (rows : List Row) → option_map_or (λ q. option_map_or (λ a. use_fault s.args_override_self a q.1 rows) (arg_by_id s.rules q.0) []) p [] ≡ []
      → Each P rows → Each P (settled_rows s.rules p rows)
  pending_kept p rows e g = grind (arith, used_kept, by_id)

  settled_kept : (h : Held) → settle_fault s.rules s.args_override_self h ≡ [] → Each P h.rows → Each P (settled s.rules h).rows
  settled_kept h e g = pending_kept h.pending h.rows e g

  reacted_kept : (a : Rule) (values : List Text) (h : Held) → Keeps P a → react_fault s.rules s.args_override_self a values h ≡ [] → Each P h.rows → Each P (reacted s.rules a values h).rows
  reacted_kept a values h k e g = grind (arith, or_else_none, settled_kept, s.args_override_self, s.rules)

  option_kept : (a : Rule) (v : Option Text) (h : Held) → Keeps P a → option_fault s.rules s.args_override_self a v h ≡ [] → Each P h.rows → Each P (option_met s.rules a v h).0.rows
  option_kept a (Some v) h k e g = reacted_kept a (v ∷ []) h k e g
  option_kept a None h k e g = settled_kept h e g

  flag_kept : (a : Rule) (v : Option Text) (h : Held) → Keeps P a → cond (is_some v) (ErrorKind.TooManyValues ∷ []) (react_fault s.rules s.args_override_self a [] h) ≡ [] → Each P h.rows
      → Each P (flag_met s.rules a v h).0.rows
  flag_kept a (Some v) h k e g = g
  flag_kept a None h k e g = reacted_kept a [] h k e g

  long_by : (b : Bool) (a : Rule) (v : Option Text) (h : Held) → Keeps P a
      → cond b (option_fault s.rules s.args_override_self a v h) (cond (is_some v) (ErrorKind.TooManyValues ∷ []) (react_fault s.rules s.args_override_self a [] h)) ≡ []
      → Each P h.rows → Each P (cond b (option_met s.rules a v h) (flag_met s.rules a v h)).0.rows
  long_by b a v h k e g = grind (arith, option_kept, flag_kept)

  long_kept : (o : Option Rule) (v : Option Text) (h : Held) → KeepsIf P o → long_fault s.rules s.args_override_self o v h ≡ [] → Each P h.rows → Each P (long_met s.rules o v h).0.rows
  long_kept o v h k e g = grind (arith, long_by)

  short_by : (b : Bool) (a : Rule) (v : Option Text) (h : Held) (more : Held → Held × Outcome) (faults : Held → Kinds) → ((k : Held) → faults k ≡ [] → Each P k.rows → Each P (more k).0.rows) → Keeps P a
      → cond b (option_fault s.rules s.args_override_self a v h) (or_else (react_fault s.rules s.args_override_self a [] h) (faults (reacted s.rules a [] h))) ≡ []
      → Each P h.rows → Each P (cond b (option_met s.rules a v h) (more (reacted s.rules a [] h))).0.rows
  short_by true a v h more faults f k e g = option_kept a v h k e g
  short_by false a v h more faults f k e g =
      let d = or_else_none _ _ e in
      f (reacted s.rules a [] h) d.1 (reacted_kept a [] h k d.0 g)

  short_kept : (o : Option Rule) (rest : Text) (h : Held) (more : Held → Held × Outcome) (faults : Held → Kinds) → ((k : Held) → faults k ≡ [] → Each P k.rows → Each P (more k).0.rows) → KeepsIf P o
      → short_fault s.rules s.args_override_self o rest h faults ≡ [] → Each P h.rows → Each P (short_met s.rules o rest h more).0.rows
  short_kept o rest h more faults f k e g = grind (arith, short_by)

  bundle_step_kept : (o : Option ℕ) (flags : Text) (skip : ℕ) (so_far : Outcome) (h : Held) (more : Text → ℕ → Outcome → Held → Held × Outcome) (faults : Text → ℕ → Held → Kinds)
      → ((t : Text) (n : ℕ) (q : Outcome) (k : Held) → faults t n k ≡ [] → Each P k.rows → Each P (more t n q k).0.rows)
      → bundle_step_fault s.rules s.args_override_self o flags skip h faults ≡ [] → Each P h.rows → Each P (bundle_step s.rules o flags skip so_far h more).0.rows
  bundle_step_kept o flags skip so_far h more faults f e g = grind (arith, short_kept, by_short)

  bundle_kept : (n : ℕ) (flags : Text) (skip : ℕ) (so_far : Outcome) (h : Held) → flags_fault s.rules s.args_override_self n flags skip h ≡ [] → Each P h.rows
      → Each P (bundle_met s.rules n flags skip so_far h).0.rows
  unfolding bundle_met flags_fault
  bundle_kept zero flags skip so_far h e g = g
  bundle_kept (suc n) flags skip so_far h e g =
      bundle_step_kept (slice_get (chars flags) 0) flags skip so_far h (bundle_met s.rules n) (flags_fault s.rules s.args_override_self n) (λ t m q k d r. bundle_kept n t m q k d r) e g

  plain_kept : (w : Waiting) (word : Text) (h : Held) → Each P h.rows → Each P (plain_word s.rules w word h).0.rows
  plain_kept idle1 word h g = grind arith

  flag_word_kept : (w : Waiting) (word : Text) (h : Held) (q : Outcome) → Each P h.rows → Each P (after_flag s.rules w word h q).0.rows
  flag_word_kept w word h done1 g = grind arith

  short_word_kept : (w : Waiting) (word : Text) (o : Option Text) (h : Held) → option_map_or (λ flags. bundle_fault s.rules s.args_override_self flags h) o [] ≡ [] → Each P h.rows
      → Each P (short_or_plain s.rules w word o h).0.rows
  short_word_kept w word o h e g = grind (arith, plain_kept, flag_word_kept, bundle_kept)

  long_word_kept : (w : Waiting) (word : Text) (o : Option (Text × Option Text)) (h : Held) → flag_word_fault s.rules s.args_override_self o word h ≡ [] → Each P h.rows
      → Each P (long_or_other s.rules w word o h).0.rows
  long_word_kept w word o h e g = grind (arith, short_word_kept, flag_word_kept, long_kept, by_long)

  step_if : (b : Bool) (k : Kinds) (x y : Held × Step) → cond b [] k ≡ [] → Each P x.0.rows → (k ≡ [] → Each P y.0.rows) → Each P (cond b x y).0.rows
  step_if b k x y e f g = grind arith

  held_if : (b : Bool) (k : Kinds) (x y : Held) → cond b [] k ≡ [] → Each P x.rows → (k ≡ [] → Each P y.rows) → Each P (cond b x y).rows
  held_if b k x y e f g = grind arith

  other_kept : (o : Option Text) (w : Waiting) (position : ℕ) (word : Text) (h : Held) → other_fault s o word h ≡ [] → Each P h.rows → Each P (subcommand_or_other s.rules o w position word h).0.rows
  other_kept o w position word h e g = grind (arith, step_if, long_word_kept)

  word_kept : (names : Names) (b : Bool) (w : Waiting) (position : ℕ) (word : Text) (h : Held) → word_fault s names b w word h ≡ [] → Each P h.rows
      → Each P (word_met s.rules names b w position word h).0.rows
  word_kept names b w position word h e g = step_if b _ _ _ e g (λ d. other_kept (subcommand_met names w word) w position word h d g)

  positional_kept : (o : Option Rule) (word : Text) (w : Walk) (h : Held) → option_map_or (λ a. positional_fault s.rules s.args_override_self a h) o (stray_fault s) ≡ [] → Each P h.rows
      → Each P (to_positional s.rules o word w h).held.rows
  positional_kept o word w h e g = grind (arith, held_if, settled_kept)

  step_kept : (word : Text) (w : Walk) (h : Held) (t : Step) → step_fault s w.position h t ≡ [] → Each P h.rows → Each P (after_step s.rules word w h t).held.rows
  step_kept word w h value1 e g = grind (arith, positional_kept)

  turn_kept : (names : Names) (o : Option (Text × List Text)) (w : Walk) (word : Text) → w.stopped ≡ o → turn_fault s names w word ≡ [] → Each P w.held.rows
      → Each P (walked_from s.rules names o w word).held.rows
  turn_kept names o w word is e g = grind (arith, or_else_none, unless_stopped, step_kept, word_kept)

  walk_kept : (names : Names) (words : List Text) (w : Walk) → walk_fault s names w words ≡ [] → Each P w.held.rows → Each P (fold (walked s.rules names) w words).held.rows
  unfolding walk_fault walked
  walk_kept names [] w e g = g
  walk_kept names (word ∷ words) w e g =
      let f = or_else_none _ _ e in
      walk_kept names words (walked s.rules names w word) f.1 (turn_kept names w.stopped w word refl f.0 g)

  rows_if : (b : Bool) (x y : List Row) → Each P x → Each P y → Each P (cond b x y)
  rows_if b x y f g = grind arith

  defaults_kept : (c : List Rule) (rows : List Row) → Each HasNoDefault c → Each P rows → Each P (fold with_default rows c)
  defaults_kept [] rows none g = g
  defaults_kept (a ∷ c) rows none g =
      defaults_kept c (with_default rows a) none.1 (rows_if (has_row a.id rows) rows _ g (subst (λ (vs : List Text). Each P (default_rows a.id (reading_by a) vs rows)) (sym none.0) g))

  pub rows_kept : (words : List Text) → Each HasNoDefault s.rules → level_fault s [] nothing_held words false [] ≡ [] → Each P (rows_after s.rules [] words)
  rows_kept words none e = grind (arith, level_none, defaults_kept, settled_kept, walk_kept, s.rules)
