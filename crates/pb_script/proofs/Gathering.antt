-- Committed writes, gathered along the journal.
use Rattle.std.proofs.Common.{◌≡◌, ℕ, ◌+◌, ◌<◌, ◌⊎◌, inl, inr, Bool, true, cond, zero, suc, List, [], ◌∷◌, ◌++◌, length, get_or, take, map, Option, Some, None, slice_get, refl, sym, ap, subst, ◌∙◌, append_assoc, arith, add-one, Contains, is_none, option_map, flat_map}
use Rattle.std.specs.Ordering.{eq_by_cmp}
use Rattle.std.specs.FinMap as finmap
use Rattle.std.proofs.lemmas.List.{append-nil, map-append, take_more}
use Rattle.pb_script.specs.Words.{Ts, Cell, Content, cell_cmp, Writes, content_in, are_distinct, Declared, Step, Answer, Phase, StateOf, TransactionOf, phase_in, cells_of, ObserverOf, Row, Work, Entry, Has, Member, TellsHistory}
use Rattle.pb_script.specs.declared.reports.newest.Put.{Put}
use Rattle.pb_script.specs.Committed.{IsWrite, Gathers}
use Rattle.pb_script.specs.Puts.{put_by, if_committed, written_in, puts_of_entry, puts_by}
use Rattle.pb_base.proofs.Logic.{and_true as both}
use Rattle.pb_base.proofs.SameCells.{cell_is}
use Rattle.pb_history.proofs.Updates.{has_at, has_before as has_left, has_contains, has_right, has_which}

-- the writes that these entries declared, if they are committed
abbrev pub all_puts : StateOf → List Entry → List Put
all_puts state es = flat_map (puts_by state) es

-- one element more of a list is that element after those before it
one_more : {A : Type 0} (xs : List A) (i : ℕ) (x : A) → slice_get xs i ≡ Some x → take (suc i) xs ≡ take i xs ++ x ∷ []
one_more [] zero x e = cc
one_more [] (suc i) x e = cc
one_more (y ∷ xs) zero x e = let h : y ≡ x = cc in ap (λ z. z ∷ []) h
one_more (y ∷ xs) (suc i) x e = ap (λ l. y ∷ l) (one_more xs i x e)

-- one more write of a list is noted after those before it
pub goes_on : {A B : Type 0} (f : A → B) (xs : List A) (i : ℕ) (x : A) (old now : List B) → slice_get xs i ≡ Some x → now ≡ old ++ map f (take i xs) → now ++ f x ∷ [] ≡ old ++ map f (take (i + 1) xs)
goes_on f xs i x old now e h =
    ap (λ l. l ++ f x ∷ []) h
    ∙ append_assoc old (map f (take i xs)) (f x ∷ [])
    ∙ ap (λ l. old ++ l) (sym (map-append f (take i xs) (x ∷ [])) ∙ ap (map f) (sym (rw add-one (one_more xs i x e))))

-- and so it is where the code has the write itself, and not its place
pub goes_on_at : {A B : Type 0} (f : A → B) (xs : List A) (i : ℕ) (x : A) (old : List B) → i < length xs → x ≡ get_or xs i x → (old ++ map f (take i xs)) ++ f x ∷ [] ≡ old ++ map f (take (i + 1) xs)
goes_on_at f xs i x old lt is =
    append_assoc old (map f (take i xs)) (f x ∷ [])
    ∙ ap (λ l. old ++ l) (sym (map-append f (take i xs) (x ∷ [])) ∙ ap (map f) (sym (take_more xs i x lt ∙ ap (λ y. take i xs ++ y ∷ []) (sym is))))

-- ---- one entry more

all_one_more : {A B : Type 0} (f : A → List B) (xs : List A) (y : A) → flat_map f (xs ++ y ∷ []) ≡ flat_map f xs ++ f y
all_one_more f [] y = append-nil (f y)
all_one_more f (x ∷ xs) y = ap (λ l. f x ++ l) (all_one_more f xs y) ∙ sym (append_assoc (f x) (flat_map f xs) (f y))

-- one more entry adds its writes after those of the entries before it
pub gathers_on : {A B : Type 0} (f : A → List B) (xs : List A) (y : A) (now new : List B) → now ≡ flat_map f xs → new ≡ now ++ f y → new ≡ flat_map f (xs ++ y ∷ [])
gathers_on f xs y now new h e = e ∙ ap (λ l. l ++ f y) h ∙ sym (all_one_more f xs y)

-- ---- membership

-- what one entry adds is among what all add
in_block : {A B : Type 0} (f : A → List B) (xs : List A) (x : A) (y : B) → Has xs x → Has (f x) y → Has (flat_map f xs) y
in_block f [] x y h k = absurd h
in_block f (z ∷ xs) x y (inl e) k = has_left (f z) (flat_map f xs) y (subst (λ w. Has (f w) y) (sym e) k)
in_block f (z ∷ xs) x y (inr h) k = has_right (f z) (flat_map f xs) y (in_block f xs x y h k)

contains_has : {A : Type 0} (xs : List A) (x : A) → Contains xs x → Has xs x
contains_has xs x c = has_at xs c.0 x c.1 c.2

has_map : {A B : Type 0} (f : A → B) (xs : List A) (x : A) → Has xs x → Has (map f xs) (f x)
has_map f [] x h = absurd h
has_map f (y ∷ xs) x (inl e) = inl (ap f e)
has_map f (y ∷ xs) x (inr h) = inr (has_map f xs x h)

map_has : {A B : Type 0} (f : A → B) (xs : List A) (y : B) → Has (map f xs) y → (x : A) × Has xs x × (f x ≡ y)
map_has f [] y h = absurd h
map_has f (x ∷ xs) y (inl e) = (x, inl refl, e)
map_has f (x ∷ xs) y (inr h) = let p = map_has f xs y h in (p.0, inr p.1, p.2)

-- ---- what a list of writes has

found_or : (b : Bool) (k : Content) (rest : Option Content) (c : Content) → cond b (Some k) rest ≡ Some c → ((b ≡ true) × (k ≡ c)) ⊎ (rest ≡ Some c)
found_or b k rest c e = grind arith

-- what a cell gets from a transaction is one of its writes
pub content_has : (ws : Writes) (x : Cell) (c : Content) → content_in ws x ≡ Some c → Has ws (x, c)
content_has [] x c e = cc
content_has (w ∷ ws) x c e = elim (found_or (eq_by_cmp cell_cmp x w.0) w.1 (content_in ws x) c e) [
  | inl p ↦ inl (let q = cell_is x w.0 p.0 in λ i. (sym q i, p.1 i))
  | inr h ↦ inr (content_has ws x c h)
]

none_is : (o : Option Content) → is_none o ≡ true → o ≡ None
none_is o e = grind arith

-- where no cell is named twice, each write is what its cell gets
pub distinct_content : (ws : Writes) → are_distinct ws ≡ true → (w : Cell × Content) → Has ws w → content_in ws w.0 ≡ Some w.1
distinct_content [] d w h = absurd h
distinct_content (v ∷ ws) d w (inl e) = grind arith
distinct_content (v ∷ ws) d w (inr h) =
    let p = both (is_none (content_in ws v.0)) (are_distinct ws) d in
    let rest = distinct_content ws p.1 w h in
    let first = none_is (content_in ws v.0) p.0 in
    grind (arith, cell_is)

-- ---- committed writes

-- a transaction that `phase_in` gives as committed is
phase_there : (state : StateOf) (start : ℕ) (t : TransactionOf) (c : Ts) → finmap.get state.transactions start ≡ Some t → phase_in state start ≡ Some (Phase.Committed c) → t.phase ≡ Phase.Committed c
phase_there state start t c there p = let q : Some t.phase ≡ Some (Phase.Committed c) = ap (option_map (λ (u : TransactionOf). u.phase)) (sym there) ∙ p in cc

-- a write to a data cell is no acknowledgment
in_written : (observers : List ObserverOf) (work : Work) (s : ℕ) (what : Declared) (row : Row) (column : ℕ) (k : Content) → Has (cells_of observers work s what) (Cell.Data row column, k) → Has (written_in what) (Cell.Data row column, k)
in_written observers work s what row column k h = grind arith

-- and each is what its cell gets
in_cells : (observers : List ObserverOf) (work : Work) (s : ℕ) (what : Declared) → are_distinct (cells_of observers work s what) ≡ true → (w : Cell × Content) → Has (written_in what) w → content_in (cells_of observers work s what) w.0 ≡ Some w.1
in_cells observers work s what d w h = grind (arith, distinct_content)

module _ (journal : List Entry) (state : StateOf) (tells : TellsHistory journal state) where
  write_of : (seat : ℕ) (start : Ts) (what : Declared) (c : Ts) (w : Cell × Content) → Has journal (record { seat = seat; step = Step.Declare start what; answer = Answer.Done }) → phase_in state start.0 ≡ Some (Phase.Committed c)
      → Has (written_in what) w → IsWrite state.observers journal w.0 c.0 w.1
  write_of seat start what c w entry phase has =
      let d = tells.declared seat start.0 what entry in
      let m : Member = record { start = start.0; commit = c.0; seat = d.t.seat; work = d.t.work; writes = d.t.declared } in
      let apart : are_distinct (cells_of state.observers d.t.work start.0 what) ≡ true = ap are_distinct (sym d.declared) ∙ d.distinct in
      record {
        m = m;
        in_history = tells.member m (record { t = d.t; there = d.there; phase = phase_there state start.0 d.t c d.there phase; seat = refl; work = refl; writes = refl });
        commit_is = refl;
        writes = ap (λ ws. content_in ws w.0) d.declared ∙ in_cells state.observers d.t.work start.0 what apart w has;
      }

  committed_write : (seat : ℕ) (start : Ts) (what : Declared) (p : Put) (h : Option Phase) → phase_in state start.0 ≡ h → Has journal (record { seat = seat; step = Step.Declare start what; answer = Answer.Done })
      → Has (if_committed h (written_in what)) p → IsWrite state.observers journal p.cell p.commit.0 p.content
  committed_write seat start what p h is entry has = grind (arith, map_has, write_of)

  by_step : (seat : ℕ) (step : Step) (answer : Answer) (p : Put) → Has journal (record { seat = seat; step = step; answer = answer }) → Has (puts_of_entry state step answer) p → IsWrite state.observers journal p.cell p.commit.0 p.content
  by_step seat step answer p entry has = grind (arith, committed_write)

  sound_from : (es : List Entry) (p : Put) → ((e : Entry) → Has es e → Has journal e) → Has (all_puts state es) p → IsWrite state.observers journal p.cell p.commit.0 p.content
  sound_from [] p within has = absurd has
  sound_from (e ∷ es) p within has = elim (has_which (puts_by state e) (all_puts state es) p has) [
    | inl here ↦ by_step e.seat e.step e.answer p (within e (inl refl)) here
    | inr later ↦ sound_from es p (λ d h. within d (inr h)) later
  ]

  whole_for : (row : Row) (column commit : ℕ) (content : Content) → IsWrite state.observers journal (Cell.Data row column) commit content → Has (all_puts state journal) (record { cell = Cell.Data row column; commit = record { 0 = commit }; content = content })
  whole_for row column commit content h =
      let x = Cell.Data row column in
      let c = tells.committed h.m h.in_history in
      let i = h.in_history in
      let phase : phase_in state h.m.start ≡ Some (Phase.Committed (record { 0 = commit })) = ap (option_map (λ (u : TransactionOf). u.phase)) c.there ∙ ap Some c.phase ∙ ap (λ n. Some (Phase.Committed (record { 0 = n }))) h.commit_is in
      let all : Has (cells_of state.observers h.m.work h.m.start i.what) (x, content) = subst (λ ws. Has ws (x, content)) i.writes_are (content_has h.m.writes x content h.writes) in
      let has : Has (written_in i.what) (x, content) = in_written state.observers h.m.work h.m.start i.what row column content all in
      in_block (puts_by state) journal (record { seat = h.m.seat; step = Step.Declare (record { 0 = h.m.start }) i.what; answer = Answer.Done }) _ i.declared
      (subst (λ o. Has (if_committed o (written_in i.what)) (record { cell = x; commit = record { 0 = commit }; content = content })) (sym phase) (has_map (put_by (record { 0 = commit })) (written_in i.what) (x, content) has))

  pub gathers_all_puts : Gathers state.observers journal (all_puts state journal)
  gathers_all_puts = record {
    sound = λ p h. sound_from journal p (λ e k. k) (contains_has (all_puts state journal) p h);
    whole = λ row column commit content h. has_contains (all_puts state journal) _ (whole_for row column commit content h);
  }
