-- A version, and the numbers of an observer: what is read is what was written, and what was written is read again.
use Rattle.std.proofs.Common.{◌≡◌, ℕ, zero, suc, ◌^◌, ◌<◌, ◌≤◌, true, false, ltb, List, [], ◌∷◌, ◌++◌, length, take, drop, Option, Some, refl, sym, ap, subst, ◌∙◌, arith, eq-eqb}
use Rattle.std.proofs.lemmas.Bool.{ltb-false, le-ltb, eqb-true}
use Rattle.std.proofs.lemmas.List.{take-append-drop, length-take, length-append, take_at, drop_at}
use Rattle.pb_snapshots.specs.Words.{row_of, column_of, Cell, Content, Revision, Row, Ts, ObserverStats}
use Rattle.pb_base.specs.declared.limits.TheConstants.{COLUMNS, MAX_OBSERVERS}
use Rattle.pb_snapshots.specs.Snapshot.{number_bytes, version_kind, held_bytes, version_bytes, stats_bytes, is_of_its_cell, FitsHeld, FitsVersion, FitsStats}
use Rattle.pb_snapshots.specs.Reading.{◌>>=◌, u64_at, small_at, held_at, version_at, stats_at}
use Rattle.pb_snapshots.proofs.Fields.{IsBytes, bytes-drop, bind_some, guard_some, Takes, takes_then, number_takes, number_again, small_takes, small_again}

abbrev pub found : {A : Type 0} → A → Option A
found x = Some x

pub some_is : {A : Type 0} (x y : A) → found x ≡ found y → x ≡ y
some_is x y e = cc

-- a number is read, and then what follows it
pub number_then : {B : Type 0} (n : ℕ) (more : List ℕ) → n < 2 ^ 64 → (f : ℕ × List ℕ → Option B) → (u64_at (number_bytes n ++ more) >>= f) ≡ f (n, more)
number_then n more lt f = ap (λ (o : Option (ℕ × List ℕ)). o >>= f) (number_again n more lt)

pub small_then : {B : Type 0} (limit n : ℕ) (more : List ℕ) → n < limit → (f : ℕ × List ℕ → Option B) → (small_at limit (n ∷ more) >>= f) ≡ f (n, more)
small_then limit n more lt f = ap (λ (o : Option (ℕ × List ℕ)). o >>= f) (small_again limit n more lt)

-- a number stands at the front, and the rest is read after it
number_step : {A R : Type 0} (bytes : List ℕ) (f : ℕ × List ℕ → Option A) (x : A) → IsBytes bytes → (u64_at bytes >>= f) ≡ Some x → ((n : ℕ × List ℕ) → Takes bytes (number_bytes n.0) n.1 → n.0 < 2 ^ 64 → f n ≡ Some x → R) → R
number_step bytes f x fits e on =
    let n = bind_some (u64_at bytes) f x e in
    let t = number_takes bytes n.0.0 n.0.1 fits n.1 in
    on n.0 t.0 t.1 n.2

small_step : {A R : Type 0} (limit : ℕ) (bytes : List ℕ) (f : ℕ × List ℕ → Option A) (x : A) → IsBytes bytes → (small_at limit bytes >>= f) ≡ Some x → ((n : ℕ × List ℕ) → Takes bytes (n.0 ∷ []) n.1 → n.0 < limit → f n ≡ Some x → R) → R
small_step limit bytes f x fits e on =
    let n = bind_some (small_at limit bytes) f x e in
    let t = small_takes limit bytes n.0.0 n.0.1 fits n.1 in
    on n.0 t.0 t.1 n.2

-- ---- the numbers of an observer

pub stats_takes : (bytes : List ℕ) (x : ObserverStats × List ℕ) → IsBytes bytes → stats_at bytes ≡ Some x → Takes bytes (stats_bytes x.0) x.1 × FitsStats x.0
unfolding stats_at
stats_takes bytes x fits e =
    number_step bytes _ x fits e (λ a ta fa ea.
    number_step a.1 _ x ta.rest_fits ea (λ b tb fb eb.
    number_step b.1 _ x tb.rest_fits eb (λ c tc fc ec.
    number_step c.1 _ x tc.rest_fits ec (λ d td fd ed.
    number_step d.1 _ x td.rest_fits ed (λ i ti fi ei.
    let made : ObserverStats × List ℕ = (record { runs = a.0; nonzero = b.0; conflicts = c.0; asks = d.0; instructions = i.0 }, i.1) in
    let all = takes_then bytes (number_bytes a.0) a.1 (number_bytes b.0 ++ (number_bytes c.0 ++ (number_bytes d.0 ++ number_bytes i.0))) i.1 ta
    (takes_then a.1 (number_bytes b.0) b.1 (number_bytes c.0 ++ (number_bytes d.0 ++ number_bytes i.0)) i.1 tb
    (takes_then b.1 (number_bytes c.0) c.1 (number_bytes d.0 ++ number_bytes i.0) i.1 tc
    (takes_then c.1 (number_bytes d.0) d.1 (number_bytes i.0) i.1 td ti))) in
    subst (λ (y : ObserverStats × List ℕ). Takes bytes (stats_bytes y.0) y.1 × FitsStats y.0) (some_is made x ei) (all, record { runs = fa; nonzero = fb; conflicts = fc; asks = fd; instructions = fi }))))))

pub stats_again : (s : ObserverStats) (rest : List ℕ) → FitsStats s → stats_at (stats_bytes s ++ rest) ≡ Some (s, rest)
unfolding stats_at
stats_again s rest fits =
    let after_asks = number_bytes s.instructions ++ rest in
    let after_conflicts = number_bytes s.asks ++ after_asks in
    let after_nonzero = number_bytes s.conflicts ++ after_conflicts in
    let after_runs = number_bytes s.nonzero ++ after_nonzero in
    number_then s.runs after_runs fits.runs (λ runs. u64_at runs.1 >>= λ nonzero. u64_at nonzero.1 >>= λ conflicts. u64_at conflicts.1 >>= λ asks. u64_at asks.1 >>= λ instructions. Some (record { runs = runs.0; nonzero = nonzero.0; conflicts = conflicts.0; asks = asks.0; instructions = instructions.0 }, instructions.1))
    ∙ number_then s.nonzero after_nonzero fits.nonzero (λ nonzero. u64_at nonzero.1 >>= λ conflicts. u64_at conflicts.1 >>= λ asks. u64_at asks.1 >>= λ instructions. Some (record { runs = s.runs; nonzero = nonzero.0; conflicts = conflicts.0; asks = asks.0; instructions = instructions.0 }, instructions.1))
    ∙ number_then s.conflicts after_conflicts fits.conflicts (λ conflicts. u64_at conflicts.1 >>= λ asks. u64_at asks.1 >>= λ instructions. Some (record { runs = s.runs; nonzero = s.nonzero; conflicts = conflicts.0; asks = asks.0; instructions = instructions.0 }, instructions.1))
    ∙ number_then s.asks after_asks fits.asks (λ asks. u64_at asks.1 >>= λ instructions. Some (record { runs = s.runs; nonzero = s.nonzero; conflicts = s.conflicts; asks = asks.0; instructions = instructions.0 }, instructions.1))
    ∙ number_then s.instructions rest fits.instructions (λ instructions. Some (record { runs = s.runs; nonzero = s.nonzero; conflicts = s.conflicts; asks = s.asks; instructions = instructions.0 }, instructions.1))

-- ---- a version

-- what a version holds, after its timestamps
held_takes : (kind row column start : ℕ) (bytes : List ℕ) (h : (Cell × Content) × List ℕ) → IsBytes bytes → kind < 3 → column < COLUMNS → row < 2 ^ 64 → held_at kind row column start bytes ≡ Some h
    → (commit : ℕ) → Takes bytes (held_bytes h.0.0 h.0.1) h.1 × (version_kind h.0.0 h.0.1 ≡ kind) × (row_of h.0.0 ≡ record { 0 = row }) × (column_of h.0.0 ≡ column) × FitsHeld h.0.0 h.0.1 × (is_of_its_cell (h.0.0, record { start = record { 0 = start }; commit = record { 0 = commit }; content = h.0.1 }) ≡ true)
unfolding held_at
held_takes zero row column start bytes h fits small c r e commit =
    let g = guard_some (ltb (length bytes) 32) ((Cell.Data (record { 0 = row }) column, Content.Value (take 32 bytes)), drop 32 bytes) h e in
    let long : 32 ≤ length bytes = ltb-false _ _ g.0 in
    subst (λ (h : (Cell × Content) × List ℕ). Takes bytes (held_bytes h.0.0 h.0.1) h.1 × (version_kind h.0.0 h.0.1 ≡ 0) × (row_of h.0.0 ≡ record { 0 = row }) × (column_of h.0.0 ≡ column) × FitsHeld h.0.0 h.0.1 × (is_of_its_cell (h.0.0, record { start = record { 0 = start }; commit = record { 0 = commit }; content = h.0.1 }) ≡ true)) g.1
    (record { parts = sym (take-append-drop 32 bytes); rest_fits = bytes-drop 32 bytes fits }, refl, refl, refl, omega (arith, length-take 32 bytes), refl)
held_takes (suc zero) row column start bytes h fits small c r e commit =
    subst (λ (h : (Cell × Content) × List ℕ). Takes bytes (held_bytes h.0.0 h.0.1) h.1 × (version_kind h.0.0 h.0.1 ≡ 1) × (row_of h.0.0 ≡ record { 0 = row }) × (column_of h.0.0 ≡ column) × FitsHeld h.0.0 h.0.1 × (is_of_its_cell (h.0.0, record { start = record { 0 = start }; commit = record { 0 = commit }; content = h.0.1 }) ≡ true)) (some_is ((Cell.Data (record { 0 = row }) column, Content.Deleted), bytes) h e)
    (record { parts = refl; rest_fits = fits }, refl, refl, refl, tt, refl)
held_takes (suc (suc zero)) row column start bytes h fits small c r e commit =
    let a = bind_some (small_at MAX_OBSERVERS bytes) (λ o. Some ((Cell.Ack o.0 (record { 0 = row }) column, Content.Stamp (record { 0 = start })), o.1)) h e in
    let t = small_takes MAX_OBSERVERS bytes a.0.0 a.0.1 fits a.1 in
    subst (λ (h : (Cell × Content) × List ℕ). Takes bytes (held_bytes h.0.0 h.0.1) h.1 × (version_kind h.0.0 h.0.1 ≡ 2) × (row_of h.0.0 ≡ record { 0 = row }) × (column_of h.0.0 ≡ column) × FitsHeld h.0.0 h.0.1 × (is_of_its_cell (h.0.0, record { start = record { 0 = start }; commit = record { 0 = commit }; content = h.0.1 }) ≡ true)) (some_is ((Cell.Ack a.0.0 (record { 0 = row }) column, Content.Stamp (record { 0 = start })), a.0.1) h a.2)
    (t.0, refl, refl, refl, t.1, eq-eqb start start refl)
held_takes (suc (suc (suc kind))) row column start bytes h fits small c r e commit = absurd (omega (arith, small))

-- its parts make a version
joined : (bytes b1 b2 b3 b4 b5 rest : List ℕ) (kind row column start commit : ℕ) (x : Cell) (k : Content) → Takes bytes (kind ∷ []) b1 → Takes b1 (number_bytes row) b2 → Takes b2 (column ∷ []) b3 → Takes b3 (number_bytes start) b4 → Takes b4 (number_bytes commit) b5 → Takes b5 (held_bytes x k) rest
    → version_kind x k ≡ kind → row_of x ≡ record { 0 = row } → column_of x ≡ column → Takes bytes (version_bytes (x, record { start = record { 0 = start }; commit = record { 0 = commit }; content = k })) rest
joined bytes b1 b2 b3 b4 b5 rest kind row column start commit x k tk tr tc ts tm th kind_is row_is column_is =
    let after_start = number_bytes commit ++ held_bytes x k in
    let after_column = number_bytes start ++ after_start in
    let after_row = column ∷ after_column in
    let after_kind = number_bytes row ++ after_row in
    let all = takes_then bytes (kind ∷ []) b1 after_kind rest tk
    (takes_then b1 (number_bytes row) b2 after_row rest tr
    (takes_then b2 (column ∷ []) b3 after_column rest tc
    (takes_then b3 (number_bytes start) b4 after_start rest ts
    (takes_then b4 (number_bytes commit) b5 (held_bytes x k) rest tm th)))) in
    let with_kind : Takes bytes (version_kind x k ∷ after_kind) rest = subst (λ (n : ℕ). Takes bytes (n ∷ after_kind) rest) (sym kind_is) all in
    let with_row : Takes bytes (version_kind x k ∷ (number_bytes (row_of x).0 ++ after_row)) rest = subst (λ (r : Row). Takes bytes (version_kind x k ∷ (number_bytes r.0 ++ after_row)) rest) (sym row_is) with_kind in
    subst (λ (n : ℕ). Takes bytes (version_kind x k ∷ (number_bytes (row_of x).0 ++ (n ∷ after_column))) rest) (sym column_is) with_row

pub version_takes : (bytes : List ℕ) (x : (Cell × Revision) × List ℕ) → IsBytes bytes → version_at bytes ≡ Some x → Takes bytes (version_bytes x.0) x.1 × FitsVersion x.0
unfolding version_at
version_takes bytes x fits e =
    small_step 3 bytes _ x fits e (λ k tk fk ek.
    number_step k.1 _ x tk.rest_fits ek (λ r tr fr er.
    small_step COLUMNS r.1 _ x tr.rest_fits er (λ c tc fc ec.
    number_step c.1 _ x tc.rest_fits ec (λ s ts fs es.
    number_step s.1 _ x ts.rest_fits es (λ m tm fm em.
    let h = bind_some (held_at k.0 r.0 c.0 s.0 m.1) _ x em in
    let th = held_takes k.0 r.0 c.0 s.0 m.1 h.0 tm.rest_fits fk fc fr h.1 m.0 in
    let version : Cell × Revision = (h.0.0.0, record { start = record { 0 = s.0 }; commit = record { 0 = m.0 }; content = h.0.0.1 }) in
    let whole : Takes bytes (version_bytes version) h.0.1 = joined bytes k.1 r.1 c.1 s.1 m.1 h.0.1 k.0 r.0 c.0 s.0 m.0 h.0.0.0 h.0.0.1 tk tr tc ts tm th.0 th.1 th.2 th.3 in
    let bounds : FitsVersion version = record {
      row = subst (λ (n : Row). n.0 < 2 ^ 64) (sym th.2) fr;
      column = subst (λ (n : ℕ). n < COLUMNS) (sym th.3) fc;
      start = fs;
      commit = fm;
      held = th.4;
      own = th.5;
    } in
    subst (λ (y : (Cell × Revision) × List ℕ). Takes bytes (version_bytes y.0) y.1 × FitsVersion y.0) (some_is (version, h.0.1) x h.2) (whole, bounds))))))

kind_small : (x : Cell) (k : Content) → version_kind x k < 3
kind_small (Cell.Ack observer row column) k = omega arith
kind_small (Cell.Data row column) (Content.Value bytes) = omega arith
kind_small (Cell.Data row column) Content.Deleted = omega arith
kind_small (Cell.Data row column) (Content.Stamp at) = omega arith

held_again : (x : Cell) (start commit : Ts) (k : Content) (rest : List ℕ) → FitsHeld x k → is_of_its_cell (x, record { start = start; commit = commit; content = k }) ≡ true
    → held_at (version_kind x k) (row_of x).0 (column_of x) start.0 (held_bytes x k ++ rest) ≡ Some ((x, k), rest)
unfolding held_at
held_again (Cell.Data row column) start commit (Content.Value bytes) rest fits own =
    let long : ltb (length (bytes ++ rest)) 32 ≡ false = le-ltb _ _ (omega (arith, length-append bytes rest, fits)) in
    rw (long, take_at bytes rest 32 fits, drop_at bytes rest 32 fits) refl
held_again (Cell.Data row column) start commit Content.Deleted rest fits own = refl
held_again (Cell.Data row column) start commit (Content.Stamp at) rest fits own = absurd cc
held_again (Cell.Ack observer row column) start commit (Content.Value bytes) rest fits own = absurd cc
held_again (Cell.Ack observer row column) start commit Content.Deleted rest fits own = absurd cc
held_again (Cell.Ack observer row column) start commit (Content.Stamp at) rest fits own =
    small_then MAX_OBSERVERS observer rest fits (λ o. Some ((Cell.Ack o.0 row column, Content.Stamp start), o.1))
    ∙ ap (λ (n : ℕ). Some ((Cell.Ack observer row column, Content.Stamp (record { 0 = n })), rest)) (sym (eqb-true at.0 start.0 own))

held_then : {B : Type 0} (x : Cell) (start commit : Ts) (k : Content) (rest : List ℕ) → FitsHeld x k → is_of_its_cell (x, record { start = start; commit = commit; content = k }) ≡ true → (f : (Cell × Content) × List ℕ → Option B)
    → (held_at (version_kind x k) (row_of x).0 (column_of x) start.0 (held_bytes x k ++ rest) >>= f) ≡ f ((x, k), rest)
held_then x start commit k rest fits own f = ap (λ (o : Option ((Cell × Content) × List ℕ)). o >>= f) (held_again x start commit k rest fits own)

pub version_again : (x : Cell × Revision) (rest : List ℕ) → FitsVersion x → version_at (version_bytes x ++ rest) ≡ Some (x, rest)
unfolding version_at
version_again x rest fits =
    let kind = version_kind x.0 x.1.content in
    let row = (row_of x.0).0 in
    let column = column_of x.0 in
    let made = λ (h : (Cell × Content) × List ℕ) (start commit : ℕ). found {A = (Cell × Revision) × List ℕ} ((h.0.0, record { start = record { 0 = start }; commit = record { 0 = commit }; content = h.0.1 }), h.1) in
    let after_commit = held_bytes x.0 x.1.content ++ rest in
    let after_start = number_bytes x.1.commit.0 ++ after_commit in
    let after_column = number_bytes x.1.start.0 ++ after_start in
    let after_row = column ∷ after_column in
    let after_kind = number_bytes row ++ after_row in
    small_then 3 kind after_kind (kind_small x.0 x.1.content) (λ k. u64_at k.1 >>= λ r. small_at COLUMNS r.1 >>= λ c. u64_at c.1 >>= λ s. u64_at s.1 >>= λ m. held_at k.0 r.0 c.0 s.0 m.1 >>= λ h. made h s.0 m.0)
    ∙ number_then row after_row fits.row (λ r. small_at COLUMNS r.1 >>= λ c. u64_at c.1 >>= λ s. u64_at s.1 >>= λ m. held_at kind r.0 c.0 s.0 m.1 >>= λ h. made h s.0 m.0)
    ∙ small_then COLUMNS column after_column fits.column (λ c. u64_at c.1 >>= λ s. u64_at s.1 >>= λ m. held_at kind row c.0 s.0 m.1 >>= λ h. made h s.0 m.0)
    ∙ number_then x.1.start.0 after_start fits.start (λ s. u64_at s.1 >>= λ m. held_at kind row column s.0 m.1 >>= λ h. made h s.0 m.0)
    ∙ number_then x.1.commit.0 after_commit fits.commit (λ m. held_at kind row column x.1.start.0 m.1 >>= λ h. made h x.1.start.0 m.0)
    ∙ held_then x.0 x.1.start x.1.commit x.1.content rest fits.held fits.own (λ h. made h x.1.start.0 x.1.commit.0)
