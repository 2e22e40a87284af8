-- What runs did in a conversation is what they did before a transaction begins there, and what they did from there on, since no run
-- begins another.
use Rattle.std.proofs.Common.{arith, ◌≡◌, ℕ, ◌⊎◌, inl, inr, Bool, true, false, List, [], ◌∷◌, ◌++◌, refl, sym, ap, subst, ◌∙◌}
use Rattle.std.proofs.lemmas.List.{append-nil}
use Rattle.pb_keeper.specs.Words.{Writes, Ts, ObserverOf, Step, Answer, Received, told}
use Rattle.pb_keeper.specs.Made.{IsMade}
use Rattle.pb_keeper.specs.Stats.{no_runs, sum_of, only_at, AreStatsOf, nothing_said, other_step, one_run}
use Rattle.pb_keeper.specs.declared.stats.ObserverStats.{ObserverStats}
use Rattle.pb_keeper.proofs.EachStep.{is_step_within, AreWithin}
use Rattle.pb_keeper.proofs.Following.{run_is_of_one}
use Rattle.pb_keeper.proofs.Statistics.{plus_assoc, plus_none}

-- ---- lists

same_tail : {A : Type 0} (x y : A) (xs ys : List A) → x ∷ xs ≡ y ∷ ys → (x ≡ y) × (xs ≡ ys)
same_tail x y xs ys e = (cc, cc)

last_none : {A : Type 0} (xs ys : List A) → ◌≡◌ {A = List A} (xs ++ ys) [] → ys ≡ []
last_none [] ys e = e
last_none (x ∷ xs) ys e = absurd cc

-- the second of two other parts has all of the second of two parts, or that has more
overlap : {A : Type 0} (xs ys a b : List A) → xs ++ ys ≡ a ++ b → ((middle : List A) × (xs ≡ a ++ middle) × (b ≡ middle ++ ys)) ⊎ ((x : A) × (middle : List A) × (ys ≡ x ∷ (middle ++ b)))
overlap xs ys [] b e = inl (xs, refl, sym e)
overlap [] ys (z ∷ a) b e = inr (z, a, e)
overlap (x ∷ xs) ys (z ∷ a) b e =
    let same = same_tail x z (xs ++ ys) (a ++ b) e in
    elim (overlap xs ys a b same.1) [ inl h ↦ inl (h.0, (λ i. same.0 i ∷ h.1 i), h.2) | inr h ↦ inr h ]

-- ---- where a transaction begins

abbrev is_begin : Step → Bool
is_begin (Step.Begin work) = true
is_begin _ = false

-- it begins one, or there is none of it
abbrev pub BeginsOne : List Received → Type 0
BeginsOne [] = Unit {0}
BeginsOne (r ∷ said) = is_begin r.step ≡ true

begins_first : (a b c : List Received) → c ≡ a ++ b → BeginsOne c → BeginsOne a
begins_first [] b c e begins = tt
begins_first (r ∷ a) b c e begins = subst BeginsOne e begins

-- a change does
pub made_begins : (observers : List ObserverOf) (bound : ℕ) (batch : Writes) (commit : Ts) (said : List Received) → IsMade observers bound batch commit said → BeginsOne said
made_begins observers bound batch commit said is = subst BeginsOne (sym (is.said_is ∙ ap (λ l. l ++ is.drain) is.changed.1.said_is)) refl

-- no step within a transaction does
begins_no_other : (s : ℕ) (step : Step) → is_step_within s step ≡ true → is_begin step ≡ true → ⊥
begins_no_other s step within begins = grind (arith, within, begins)

none_after : (s : ℕ) (a b : List Received) → AreWithin s (a ++ b) → BeginsOne b → b ≡ []
none_after s a [] within begins = refl
none_after s [] (r ∷ b) within begins = absurd (begins_no_other s r.step within.0 begins)
none_after s (x ∷ a) (r ∷ b) within begins = none_after s a (r ∷ b) within.1 begins

-- ---- what was counted

-- what was counted in both parts
pub record AreParted (observers : List ObserverOf) (a b : List Received) (total : ℕ → ObserverStats) : Type 0 where
  pub earlier : ℕ → ObserverStats
  pub later : ℕ → ObserverStats
  pub first : AreStatsOf observers a earlier
  pub last : AreStatsOf observers b later
  pub total_is : total ≡ (λ o. sum_of (earlier o) (later o))

module _ (observers : List ObserverOf) where
  -- of no conversation nothing is counted
  pub stats_of_none : (said : List Received) (total : ℕ → ObserverStats) → AreStatsOf observers said total → said ≡ [] → total ≡ (λ o. no_runs)
  stats_of_none said total nothing_said e = refl
  stats_of_none said total (other_step before was r are isnt) e = absurd (let no : ◌≡◌ {A = List Received} (r ∷ []) [] = last_none before (r ∷ []) e in cc)
  stats_of_none said total (one_run before more was n x first end did are job ran) e =
      let one = (run_is_of_one first.watch more end ran.whole.run ran.whole.talk).0 in
      absurd (let no : told (Step.Begin one.work) (Answer.At one.s) ∷ one.rest ≡ [] = sym one.said_is ∙ last_none before more e in cc)

  all_first : (said : List Received) (total : ℕ → ObserverStats) → AreStatsOf observers said total → (a b : List Received) → said ≡ a ++ b → b ≡ [] → AreParted observers a b total
  all_first said total are a b e none = record {
    earlier = total;
    later = λ o. no_runs;
    first = subst (λ l. AreStatsOf observers l total) (e ∙ ap (λ l. a ++ l) none ∙ append-nil a) are;
    last = subst (λ l. AreStatsOf observers l (λ o. no_runs)) (sym none) nothing_said;
    total_is = sym (λ i o. plus_none (total o) i);
  }

  pub stats_parted : (said : List Received) (total : ℕ → ObserverStats) → AreStatsOf observers said total → (a b : List Received) → said ≡ a ++ b → BeginsOne b → AreParted observers a b total
  stats_parted said total nothing_said a b e begins = all_first [] (λ o. no_runs) nothing_said a b e (last_none a b (sym e))
  stats_parted said total (other_step before was r are isnt) a b e begins = elim (overlap before (r ∷ []) a b e) [
    | inl h ↦ (
        let p = stats_parted before was are a h.0 h.1 (begins_first h.0 (r ∷ []) b h.2 begins) in
        record {
          earlier = p.earlier;
          later = p.later;
          first = p.first;
          last = subst (λ l. AreStatsOf observers l p.later) (sym h.2) (other_step h.0 p.later r p.last isnt);
          total_is = p.total_is;
        })
    | inr h ↦ all_first (before ++ r ∷ []) was (other_step before was r are isnt) a b e (last_none h.1 b (sym (same_tail r h.0 [] (h.1 ++ b) h.2).1))
  ]
  stats_parted said total (one_run before more was n x first end did are job ran) a b e begins = elim (overlap before more a b e) [
    | inl h ↦ (
        let p = stats_parted before was are a h.0 h.1 (begins_first h.0 more b h.2 begins) in
        record {
          earlier = p.earlier;
          later = λ o. sum_of (p.later o) (only_at n did o);
          first = p.first;
          last = subst (λ l. AreStatsOf observers l (λ o. sum_of (p.later o) (only_at n did o))) (sym h.2) (one_run h.0 more p.later n x first end did p.last job ran);
          total_is = (λ i o. sum_of (p.total_is i o) (only_at n did o)) ∙ (λ i o. plus_assoc (p.earlier o) (p.later o) (only_at n did o) i);
        })
    | inr h ↦ (
        let one = (run_is_of_one first.watch more end ran.whole.run ran.whole.talk).0 in
        let rest = (same_tail _ h.0 one.rest (h.1 ++ b) (sym one.said_is ∙ h.2)).1 in
        all_first (before ++ more) (λ o. sum_of (was o) (only_at n did o)) (one_run before more was n x first end did are job ran) a b e
        (none_after one.s.0 h.1 b (subst (AreWithin one.s.0) rest one.within) begins))
  ]
