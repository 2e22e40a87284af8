-- The table as it is opened is sound.
use Rattle.std.proofs.Common.{arith, ◌≡◌, ℕ, ◌<◌, ◌^◌, false, List, [], None, sym, subst, nat_cmp, option_map}
use Rattle.std.specs.FinMap as map
use Rattle.pb_history.specs.Words.{content_in, primary_in, slot_cmp, slot_at, Sort, ObserverOf, TransactionOf, opening, is_in, data_of, primary_of, start_of}
use Rattle.pb_history.specs.TableView.{TableView, declared_by, prewritten_by, reads_recorded, view_of}
use Rattle.pb_history.specs.Sound.{IsSoundView, IsSoundTable}

-- a table without entries and transactions
empty_view : ℕ → TableView
empty_view clock = record { clock = clock; phase = λ s. None; content = λ s x. None; primary = λ s. None; prewritten = λ s x. false; reads = λ s. []; lock = λ x s. None; stored = λ x s. None; write = λ x c. None }

view_at_opening : (observers : List ObserverOf) (seats clock : ℕ) → view_of (opening observers seats clock) ≡ empty_view clock
unfolding empty_view
view_at_opening observers seats clock i = record {
  clock = clock;
  phase = λ s. option_map (λ (t : TransactionOf). t.phase) (map.get-empty nat_cmp s i);
  content = λ s. content_in (declared_by (map.get-empty nat_cmp s i));
  primary = λ s. primary_in (declared_by (map.get-empty nat_cmp s i));
  prewritten = λ s. is_in (prewritten_by (map.get-empty nat_cmp s i));
  reads = λ s. reads_recorded (map.get-empty nat_cmp s i);
  lock = λ x s. primary_of (map.get-empty slot_cmp (slot_at x Sort.Lock s) i);
  stored = λ x s. data_of (map.get-empty slot_cmp (slot_at x Sort.Data s) i);
  write = λ x c. start_of (map.get-empty slot_cmp (slot_at x Sort.Write c) i);
}

holds_empty : (clock : ℕ) → clock < 2 ^ 64 → IsSoundView (empty_view clock)
unfolding empty_view
holds_empty clock small = grind arith

pub opening_sound : (observers : List ObserverOf) (seats clock : ℕ) → clock < 2 ^ 64 → IsSoundTable (opening observers seats clock)
opening_sound observers seats clock small = subst IsSoundView (sym (view_at_opening observers seats clock)) (holds_empty clock small)
