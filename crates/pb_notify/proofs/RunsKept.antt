-- Where a seat's entries end with a conversation, these are all that name its start.
use Rattle.std.proofs.Common.{arith, ◌≡◌, ℕ, inl, inr, Bool, true, false, cond, List, [], ◌∷◌, ◌++◌, refl, sym, ap, subst, ◌∙◌, ◌==◌}
use Rattle.std.proofs.lemmas.Bool.{eq-eqb, eqb-true, or_left as one_of, or_right as or_other}
use Rattle.std.proofs.lemmas.List.Elements.{filter-append}
use Rattle.std.specs.List.{list_any}
use Rattle.pb_notify.specs.Words.{Work, Step, Answer, Entry, Received, entries_of, Has, TransactionsAreTold, names_start, entries_naming, is_begin, BeginsOnce, told}
use Rattle.pb_notify.specs.Allowed.{entries_by, RunsAreKept}
use Rattle.pb_history.proofs.Updates.{has_right as at_end}
use Rattle.pb_notify.proofs.RecordedReads.{same_either}

abbrev entry_of : ℕ → Received → Entry
entry_of seat r = record { seat = seat; step = r.step; answer = r.answer }

-- ---- what stands in lists

-- an entry of a seat's is in the journal
in_journal : (seat : ℕ) (journal : List Entry) (r : Received) → Has (entries_of seat journal) r → Has journal (entry_of seat r)
in_journal seat [] r h = absurd h
in_journal seat (e ∷ es) r h = elim (e.seat == seat) as
    (λ b. (e.seat == seat) ≡ b → Has (cond b (record { step = e.step; answer = e.answer } ∷ entries_of seat es) (entries_of seat es)) r → Has (e ∷ es) (entry_of seat r)) [
      | true ↦ λ is k. elim k [
        | inl q ↦ inl ((λ i. record { seat = eqb-true e.seat seat is i; step = e.step; answer = e.answer }) ∙ ap (entry_of seat) q)
        | inr on ↦ inr (in_journal seat es r on)
      ]
      | false ↦ λ is k. inr (in_journal seat es r k)
    ] refl h

-- an entry that names the start is among those that do
in_naming : (s : ℕ) (journal : List Entry) (e : Entry) → names_start s e.step e.answer ≡ true → Has journal e → Has (entries_naming s journal) e
in_naming s [] e n h = absurd h
in_naming s (d ∷ ds) e n (inl q) = grind arith
in_naming s (d ∷ ds) e n (inr on) = grind (arith, d.step, d.answer, in_naming s ds e n on)

-- ---- entries that name one start

if_first : (s seat : ℕ) (r : Received) (rs : List Received) (c : Bool)
    → entries_naming s (entries_by seat (cond c (r ∷ rs) rs)) ≡ cond c (cond (names_start s r.step r.answer) (entry_of seat r ∷ entries_naming s (entries_by seat rs)) (entries_naming s (entries_by seat rs))) (entries_naming s (entries_by seat rs))
if_first s seat r rs c = grind arith

-- where all of them are one seat's, they are among its entries
of_seat : (s seat : ℕ) (journal : List Entry) → ((e : Entry) → Has (entries_naming s journal) e → e.seat ≡ seat) → entries_naming s journal ≡ entries_naming s (entries_by seat (entries_of seat journal))
of_seat s seat [] are = refl
of_seat s seat (e ∷ es) are =
    let r : Received = record { step = e.step; answer = e.answer } in
    let rest = entries_of seat es in
    let on = entries_naming s (entries_by seat rest) in
    elim (names_start s e.step e.answer) as
    (λ b. ((d : Entry) → Has (cond b (e ∷ entries_naming s es) (entries_naming s es)) d → d.seat ≡ seat)
    → cond b (e ∷ entries_naming s es) (entries_naming s es) ≡ cond (e.seat == seat) (cond b (entry_of seat r ∷ on) on) on) [
      | true ↦ λ all.
          let mine = all e (inl refl) in
          (λ i. record { seat = mine i; step = e.step; answer = e.answer } ∷ of_seat s seat es (λ d h. all d (inr h)) i)
          ∙ ap (λ c. cond c (entry_of seat r ∷ on) on) (sym (eq-eqb e.seat seat mine))
      | false ↦ λ all. of_seat s seat es all ∙ sym (same_either (e.seat == seat) on)
    ] are
    ∙ sym (if_first s seat r rest (e.seat == seat))

-- ---- the begin is the first

begin_in : (xs ys : List Entry) (e : Entry) → Has ys e → is_begin e.step ≡ true → list_any (λ d. is_begin d.step) (xs ++ ys) ≡ true
begin_in [] [] e h b = absurd h
begin_in [] (y ∷ ys) e (inl q) b = one_of (is_begin y.step) _ (ap (λ (z : Entry). is_begin z.step) q ∙ b)
begin_in [] (y ∷ ys) e (inr on) b = or_other (is_begin y.step) _ (begin_in [] ys e on b)
begin_in (x ∷ xs) ys e h b = or_other (is_begin x.step) _ (begin_in xs ys e h b)

-- before a start's begin nothing names it
none_before : (xs ys : List Entry) (e : Entry) → BeginsOnce (xs ++ ys) → Has ys e → is_begin e.step ≡ true → xs ≡ []
none_before [] ys e once h b = refl
none_before (x ∷ xs) ys e once h b = let has = begin_in xs ys e h b in let hasnt = once.1 in absurd cc

by_append : (seat : ℕ) (a b : List Received) → entries_by seat (a ++ b) ≡ entries_by seat a ++ entries_by seat b
by_append seat [] b = refl
by_append seat (r ∷ rs) b = ap (λ l. entry_of seat r ∷ l) (by_append seat rs b)

in_said : (seat : ℕ) (said : List Received) (r : Received) → Has said r → Has (entries_by seat said) (entry_of seat r)
in_said seat [] r h = absurd h
in_said seat (x ∷ xs) r (inl q) = inl (ap (entry_of seat) q)
in_said seat (x ∷ xs) r (inr on) = inr (in_said seat xs r on)

-- all that name the start are one seat's, and none comes before the begin
pub runs_kept : TransactionsAreTold → RunsAreKept
runs_kept told_by observers seats clock journal state legal seat o row before said is s begun =
    let tells = told_by observers seats clock journal state legal in
    let r = told (Step.Begin (Work.Run o row)) (Answer.At s) in
    let b = entry_of seat r in
    let named = eq-eqb s.0 s.0 refl in
    let here = in_naming s.0 journal b named (in_journal seat journal r (subst (λ l. Has l r) (sym is) (at_end before said r begun))) in
    let a = entries_naming s.0 (entries_by seat before) in
    let z = entries_naming s.0 (entries_by seat said) in
    let parts : entries_naming s.0 journal ≡ a ++ z =
    of_seat s.0 seat journal (λ e h. tells.one_seat s.0 e b h here)
    ∙ ap (λ l. entries_naming s.0 (entries_by seat l)) is
    ∙ ap (entries_naming s.0) (by_append seat before said)
    ∙ filter-append (λ (e : Entry). names_start s.0 e.step e.answer) (entries_by seat before) (entries_by seat said) in
    let first = none_before a z b (subst BeginsOnce parts (tells.begins s.0)) (in_naming s.0 (entries_by seat said) b named (in_said seat said r begun)) refl in
    parts ∙ ap (λ l. l ++ z) first
