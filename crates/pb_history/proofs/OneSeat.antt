-- The entries that name a start are one seat's.
use Rattle.std.proofs.Common.{◌≡◌, ℕ, inl, inr, Bool, true, false, cond, List, [], ◌∷◌, Option, Some, None, refl, sym, ap, ◌∙◌, arith, nat_cmp}
use Rattle.std.specs.FinMap as map
use Rattle.pb_history.specs.Words.{ObserverOf, StateOf, TransactionOf, opening}
use Rattle.pb_history.specs.declared.entry.Entry.{Entry}
use Rattle.pb_history.specs.Journals.{JournalLeads, IsLegal}
use Rattle.pb_history.specs.History.{Has}
use Rattle.pb_history.specs.Sound.{IsSoundTable}
use Rattle.pb_history.specs.TransactionsTold.{names_start, entries_naming, transaction_after}
use Rattle.pb_history.proofs.Agreement.{got}
use Rattle.pb_history.proofs.StepsKeepSound.{steps_keep}
use Rattle.pb_history.proofs.OpeningSound.{opening_sound}
use Rattle.pb_history.proofs.TransactionAfter.{case_tells}
use Rattle.pb_history.proofs.BeginsOnce.{there_and_not, begins_or_finds, after_begin_is_of, stays_by, begins_by_clock}

-- all entries are this seat's
abbrev AreOf : ℕ → List Entry → Type 0
AreOf seat es = (e : Entry) → Has es e → e.seat ≡ seat

and_first : (seat : ℕ) (e : Entry) (es : List Entry) → e.seat ≡ seat → AreOf seat es → AreOf seat (e ∷ es)
and_first seat e es is are d w = grind arith

-- a transaction keeps its seat
same_seat : (o : Option TransactionOf) (t u : TransactionOf) → o ≡ Some t → o ≡ Some u → u.seat ≡ t.seat
same_seat o t u p q = cc

module _ (s : ℕ) where
  -- once it began, they are its transaction's
  of_transaction : (old : StateOf) (es : List Entry) (new : StateOf) (seat : ℕ) (t : TransactionOf) → IsSoundTable old → got old s ≡ Some t → t.seat ≡ seat → JournalLeads old es new → AreOf seat (entries_naming s es)
  of_transaction old [] new seat t i h mine r = λ e has. absurd has
  of_transaction old (e ∷ es) new seat t i h mine r =
      let sound = steps_keep old e.seat e.step e.answer r.0 i r.1 in
      let after = case_tells old e.seat r.0 s e.step e.answer r.1.taken in
      let told : Bool → Option TransactionOf = λ b. cond b (transaction_after old.observers e.seat e.step e.answer (got old s)) (got old s) in
      elim (names_start s e.step e.answer) as (λ b. names_start s e.step e.answer ≡ b → AreOf seat (cond b (e ∷ entries_naming s es) (entries_naming s es))) [
        | true ↦ λ n. elim (begins_or_finds old e.seat r.0 s e.step e.answer r.1.taken n) [
          | inl f ↦ (let low = begins_by_clock old s i (t, h) in let is = f.1 in absurd (omega (arith, low, is)))
          | inr f ↦ (let u = stays_by old.observers e.seat e.step e.answer (got old s) (t, h) f.0 in
              and_first seat e (entries_naming s es) (sym f.1.2 ∙ same_seat (got old s) t f.1.0 h f.1.1 ∙ mine)
              (of_transaction r.0 es new seat u.0 sound (after ∙ ap told n ∙ u.1) (u.2 ∙ mine) r.2))
        ]
        | false ↦ λ n. of_transaction r.0 es new seat t sound (after ∙ ap told n ∙ h) mine r.2
      ] refl

  -- the first of them names the seat
  of_first : (old : StateOf) (es : List Entry) (new : StateOf) → IsSoundTable old → got old s ≡ None → JournalLeads old es new → (seat : ℕ) × AreOf seat (entries_naming s es)
  of_first old [] new i h r = (0, λ e has. absurd has)
  of_first old (e ∷ es) new i h r =
      let sound = steps_keep old e.seat e.step e.answer r.0 i r.1 in
      let after = case_tells old e.seat r.0 s e.step e.answer r.1.taken in
      let told : Bool → Option TransactionOf = λ b. cond b (transaction_after old.observers e.seat e.step e.answer (got old s)) (got old s) in
      elim (names_start s e.step e.answer) as (λ b. names_start s e.step e.answer ≡ b → (seat : ℕ) × AreOf seat (cond b (e ∷ entries_naming s es) (entries_naming s es))) [
        | true ↦ λ n. elim (begins_or_finds old e.seat r.0 s e.step e.answer r.1.taken n) [
          | inl f ↦ (let u = after_begin_is_of old.observers e.seat s e.step e.answer (got old s) f.0 n in
              (e.seat, and_first e.seat e (entries_naming s es) refl (of_transaction r.0 es new e.seat u.0 sound (after ∙ ap told n ∙ u.1) u.2 r.2)))
          | inr f ↦ absurd (there_and_not (got old s) f.1.0 f.1.1 h)
        ]
        | false ↦ λ n. of_first r.0 es new sound (after ∙ ap told n ∙ h) r.2
      ] refl

pub one_seat : (observers : List ObserverOf) (seats clock : ℕ) (journal : List Entry) (state : StateOf) → IsLegal observers seats clock journal state
    → (s : ℕ) (d e : Entry) → Has (entries_naming s journal) d → Has (entries_naming s journal) e → d.seat ≡ e.seat
one_seat observers seats clock journal state l s d e one other =
    let are = of_first s (opening observers seats clock) journal state (opening_sound observers seats clock l.fits) (map.get-empty {X = TransactionOf} nat_cmp s) l.run in
    are.1 d one ∙ sym (are.1 e other)
