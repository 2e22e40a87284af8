-- What the table keeps of a transaction, its reads aside, follows from the entries that name its start, reads aside.
use Rattle.std.proofs.Common.{arith, ◌≡◌, ℕ, Bool, true, false, cond, ◌||◌, List, [], ◌∷◌, Option, Some, None, refl, sym, ap, ◌∙◌, option_map}
use Rattle.std.specs.List.{filter, list_any}
use Rattle.pb_txn.specs.Words.{Work, Step, Answer, ObserverOf, TransactionOf, new_transaction, Entry, names_start, entries_naming, transaction_after, transaction_from, transaction_by, is_begin, BeginsOnce}
use Rattle.pb_txn.specs.Allowed.{names}

-- all but the reads
abbrev pub bare : TransactionOf → TransactionOf
bare t = record t { reads = [] }

abbrev bare_if : Option TransactionOf → Option TransactionOf
bare_if o = option_map (λ t. bare t) o

-- the entries that name a start, reads aside
abbrev pub named_in : ℕ → List Entry → List Entry
named_in s journal = filter (λ e. names s e.step) journal

module _ (observers : List ObserverOf) (s : ℕ) where
  -- one entry
  one : (seat : ℕ) (step : Step) (answer : Answer) (t : Option TransactionOf) → is_begin step ≡ false → names_start s step answer ≡ true
      → bare_if (transaction_after observers seat step answer t) ≡ cond (names s step) (transaction_after observers seat step answer (bare_if t)) (bare_if t)
  one seat step answer t b n = grind arith

  -- what names no start, or another, is left out either way
  named_no : (step : Step) (answer : Answer) → names_start s step answer ≡ false → names s step ≡ false
  named_no step answer n = grind arith

  from_first : (e : Entry) (es : List Entry) (t : Option TransactionOf) (b : Bool)
      → transaction_from observers (cond b (transaction_after observers e.seat e.step e.answer t) t) es ≡ transaction_from observers t (cond b (e ∷ es) es)
  from_first e es t b = grind arith

  neither : (a b : Bool) → (a || b) ≡ false → (a ≡ false) × (b ≡ false)
  neither a b e = grind arith

  -- all entries after the begin
  folds : (journal : List Entry) (t : Option TransactionOf) → list_any (λ d. is_begin d.step) (entries_naming s journal) ≡ false
      → bare_if (transaction_from observers t (entries_naming s journal)) ≡ transaction_from observers (bare_if t) (named_in s journal)
  folds [] t n = refl
  folds (e ∷ es) t n = elim (names_start s e.step e.answer) as
      (λ b. names_start s e.step e.answer ≡ b → list_any (λ d. is_begin d.step) (cond b (e ∷ entries_naming s es) (entries_naming s es)) ≡ false
      → bare_if (transaction_from observers t (cond b (e ∷ entries_naming s es) (entries_naming s es))) ≡ transaction_from observers (bare_if t) (named_in s (e ∷ es))) [
        | true ↦ λ is no.
            let p = neither (is_begin e.step) (list_any (λ d. is_begin d.step) (entries_naming s es)) no in
            folds es (transaction_after observers e.seat e.step e.answer t) p.1
            ∙ ap (λ u. transaction_from observers u (named_in s es)) (one e.seat e.step e.answer t p.0 is)
            ∙ from_first e (named_in s es) (bare_if t) (names s e.step)
        | false ↦ λ is no.
            folds es t no ∙ ap (λ b. transaction_from observers (bare_if t) (cond b (e ∷ named_in s es) (named_in s es))) (sym (named_no e.step e.answer is))
      ] refl n

  -- the begin
  pub record IsBegun (seat : ℕ) (step : Step) (answer : Answer) : Type 0 where
    pub work : Work
    pub after : transaction_after observers seat step answer None ≡ Some (new_transaction seat work)
    pub aside : names s step ≡ false

  is_begun : (seat : ℕ) (step : Step) (answer : Answer) → is_begin step ≡ true → names_start s step answer ≡ true → IsBegun seat step answer
  is_begun seat (Step.Begin work) (Answer.At n) b is = record { work = work; after = refl; aside = refl }
  is_begun seat (Step.Begin work) _ b is = absurd cc
  is_begun seat _ answer b is = absurd cc

  -- the entries that name the start lead to it
  pub record Follows (journal : List Entry) (t : TransactionOf) : Type 0 where
    pub seat : ℕ
    pub work : Work
    pub is : transaction_from observers (Some (new_transaction seat work)) (named_in s journal) ≡ Some (bare t)

  pub follows_from_entries : (journal : List Entry) (t : TransactionOf) → BeginsOnce (entries_naming s journal) → transaction_by observers (entries_naming s journal) ≡ Some t → Follows journal t
  follows_from_entries [] t once e = absurd cc
  follows_from_entries (e ∷ es) t once told = elim (names_start s e.step e.answer) as
      (λ b. names_start s e.step e.answer ≡ b → BeginsOnce (cond b (e ∷ entries_naming s es) (entries_naming s es))
      → transaction_by observers (cond b (e ∷ entries_naming s es) (entries_naming s es)) ≡ Some t → Follows (e ∷ es) t) [
        | true ↦ λ is o is-t.
            let b = is_begun e.seat e.step e.answer o.0 is in
            record {
              seat = e.seat;
              work = b.work;
              is = ap (λ c. transaction_from observers (Some (new_transaction e.seat b.work)) (cond c (e ∷ named_in s es) (named_in s es))) b.aside
                  ∙ ap (λ u. transaction_from observers (bare_if u) (named_in s es)) (sym b.after)
                  ∙ sym (folds es (transaction_after observers e.seat e.step e.answer None) o.1)
                  ∙ ap bare_if is-t;
            }
        | false ↦ λ is o is-t.
            let f = follows_from_entries es t o is-t in
            record {
              seat = f.seat;
              work = f.work;
              is = ap (λ c. transaction_from observers (Some (new_transaction f.seat f.work)) (cond c (e ∷ named_in s es) (named_in s es))) (named_no e.step e.answer is) ∙ f.is;
            }
      ] refl once told
