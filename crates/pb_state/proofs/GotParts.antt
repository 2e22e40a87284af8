-- What the view of a state shows of a transaction is of one that the state has.
use Rattle.std.proofs.Common.{arith, ◌≡◌, ℕ, false, true, cond, [], ◌∷◌, Option, Some, None, is_some, option_map, refl, ap, subst}
use Rattle.std.proofs.lemmas.Option.{none-some}
use Rattle.std.specs.FinMap as map
use Rattle.std.specs.Ordering.{is_eq, eq_by_cmp}
use Rattle.std.specs.Cmp.{tied_itself}
use Rattle.pb_base.proofs.Logic.{same_some}
use Rattle.pb_history.specs.TableView.{view_of, declared_by, prewritten_by, reads_recorded}
use Rattle.pb_state.specs.Words.{Cell, Content, Phase, RecordedRead, StateOf, TransactionOf, Writes, Has, cell_cmp, cell_cmp_total, content_in, is_in, primary_in}

-- what there is has a value
pub value_there : {A : Type 0} (o : Option A) → is_some o ≡ true → (k : A) × (o ≡ Some k)
value_there None is = absurd (grind (arith, is))
value_there (Some k) is = (k, refl)

-- what stands first among writes is written
pub first_content : (ws : Writes) (p : Cell) → primary_in ws ≡ Some p → (k : Content) × (content_in ws p ≡ Some k)
first_content [] p is = absurd (none-some p is)
first_content (w ∷ ws) p is = (
  w.1,
  subst (λ (y : Cell). cond (eq_by_cmp cell_cmp y w.0) (Some w.1) (content_in ws y) ≡ Some w.1) (same_some w.0 p is)
      (ap (λ b. cond b (Some w.1) (content_in ws w.0)) (ap is_eq (tied_itself cell_cmp_total w.0))),
)

-- what holds here, but not where there is none, holds of a transaction
of_some : (P : Option TransactionOf → Type 0) → (P None → ⊥) → (o : Option TransactionOf) → P o → (t : TransactionOf) × (o ≡ Some t) × P (Some t)
of_some P not None is = absurd (not is)
of_some P not (Some t) is = (t, refl, is)

module _ (state : StateOf) (s : ℕ) where
  pub got_phase : (h : Phase) → (view_of state).phase s ≡ Some h → (t : TransactionOf) × (map.get state.transactions s ≡ Some t) × (t.phase ≡ h)
  got_phase h is = let g = of_some (λ o. option_map (λ (t : TransactionOf). t.phase) o ≡ Some h) (none-some h) (map.get state.transactions s) is in (g.0, g.1, same_some g.0.phase h g.2)

  pub got_content : (x : Cell) (k : Content) → (view_of state).content s x ≡ Some k → (t : TransactionOf) × (map.get state.transactions s ≡ Some t) × (content_in t.declared x ≡ Some k)
  got_content x k is = of_some (λ o. content_in (declared_by o) x ≡ Some k) (none-some k) (map.get state.transactions s) is

  pub got_primary : (p : Cell) → (view_of state).primary s ≡ Some p → (t : TransactionOf) × (map.get state.transactions s ≡ Some t) × (primary_in t.declared ≡ Some p)
  got_primary p is = of_some (λ o. primary_in (declared_by o) ≡ Some p) (none-some p) (map.get state.transactions s) is

  false_true : false ≡ true → ⊥
  false_true is = grind (arith, is)

  pub got_prewritten : (x : Cell) → (view_of state).prewritten s x ≡ true → (t : TransactionOf) × (map.get state.transactions s ≡ Some t) × (is_in t.prewritten x ≡ true)
  got_prewritten x is = of_some (λ o. is_in (prewritten_by o) x ≡ true) false_true (map.get state.transactions s) is

  pub got_read : (r : RecordedRead) → Has ((view_of state).reads s) r → (t : TransactionOf) × (map.get state.transactions s ≡ Some t) × Has t.reads r
  got_read r is = of_some (λ o. Has (reads_recorded o) r) (λ h. h) (map.get state.transactions s) is
