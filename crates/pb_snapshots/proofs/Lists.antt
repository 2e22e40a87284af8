-- Lists of versions and of stats: their bytes are those of one list.
use Rattle.std.proofs.Common.{◌≡◌, true, ℕ, ◌+◌, ◌*◌, ◌^◌, ◌<◌, ltb, List, [], ◌∷◌, ◌++◌, length, drop, take, Option, Some, None, IfSome, IfNone, refl, sym, ap, subst, ◌∙◌, append_assoc, arith}
use Rattle.std.specs.List.{flat_map, AllByRecursion}
use Rattle.std.specs.Int.{w64, from_le_bytes}
use Rattle.std.proofs.lemmas.Bool.{and_parts, ltb-false}
use Rattle.std.proofs.lemmas.List.{length-append, length-drop, flat_map_more}
use Rattle.pb_snapshots.specs.Words.{Cell, Revision, ObserverStats}
use Rattle.pb_snapshots.specs.Snapshot.{SnapshotOf, is_of_its_cell, are_of_their_cells, number_bytes, version_bytes, stats_bytes, snapshot_magic, snapshot_bytes, FitsVersion, FitsStats, FitsSnapshot}
use Rattle.pb_snapshots.specs.Reading.{◌>>=◌, u64_at, version_at, stats_at}
use Rattle.pb_snapshots.proofs.Fields.{guard_some, number_again, number_none}
use Rattle.pb_snapshots.proofs.Versions.{some_is, stats_again, version_again}

abbrev pair : {A : Type 0} → A → List ℕ → Option (A × List ℕ)
pair x rest = Some (x, rest)

-- what is found, and what follows it, is one
one_pair : {A : Type 0} (x y : A) (s t : List ℕ) → pair x s ≡ pair y t → (x ≡ y) × (s ≡ t)
one_pair {A} x y s t e =
    let same : (x, s) ≡ (y, t) = some_is (x, s) (y, t) e in
    (ap (λ (p : A × List ℕ). p.0) same, ap (λ (p : A × List ℕ). p.1) same)

nothing_found : {A : Type 0} (x : A) (s : List ℕ) (o : Option (A × List ℕ)) → o ≡ None → o ≡ pair x s → ⊥
nothing_found x s o none some = absurd cc

-- what holds of a value that is there, and what holds where there is none
pub at_some : {A : Type 0} (o : Option A) (x : A) (P : A → Type 0) → o ≡ Some x → IfSome o P → P x
at_some {A} o x P is holds = subst (λ (y : Option A). IfSome y P) is holds

pub at_none : {A : Type 0} (o : Option A) (P : Type 0) → o ≡ None → IfNone o P → P
at_none {A} o P is holds = subst (λ (y : Option A). IfNone y P) is holds

-- ---- one more at the end

pub recursion_push : {X : Type 0} (P : X → Type 0) (xs : List X) (x : X) → AllByRecursion P xs → P x → AllByRecursion P (xs ++ x ∷ [])
recursion_push P [] x all one = (one, tt)
recursion_push P (y ∷ ys) x all one = (all.0, recursion_push P ys x all.1 one)

pub one_more : {X : Type 0} (f : X → List ℕ) (xs : List X) (x : X) (new : List X) (bytes rest more : List ℕ) → new ≡ xs ++ x ∷ [] → bytes ≡ flat_map f xs ++ rest → rest ≡ f x ++ more → bytes ≡ flat_map f new ++ more
one_more {X} f xs x new bytes rest more new_is is front =
    is
    ∙ ap (λ (t : List ℕ). flat_map f xs ++ t) front
    ∙ sym (append_assoc (flat_map f xs) (f x) more)
    ∙ ap (λ (t : List ℕ). t ++ more) (flat_map_more f [] xs x)
    ∙ ap (λ (t : List X). flat_map f t ++ more) (sym new_is)

-- the numbers of a version fit, and so it does where its content is one of its cell
abbrev pub FitsIfOwn : Cell × Revision → Type 0
FitsIfOwn x = is_of_its_cell x ≡ true → FitsVersion x

pub all_own_fit : (xs : List (Cell × Revision)) → AllByRecursion FitsIfOwn xs → are_of_their_cells xs ≡ true → AllByRecursion FitsVersion xs
all_own_fit [] fit own = tt
all_own_fit (x ∷ xs) fit own = let both = and_parts (is_of_its_cell x) (are_of_their_cells xs) own in (fit.0 both.0, all_own_fit xs fit.1 both.1)

-- ---- one of each

pub one_number : (n m : ℕ) (x y : List ℕ) → n < 2 ^ 64 → m < 2 ^ 64 → number_bytes n ++ x ≡ number_bytes m ++ y → (n ≡ m) × (x ≡ y)
one_number n m x y p q e = one_pair n m x y (sym (number_again n x p) ∙ ap u64_at e ∙ number_again m y q)

one_of_stats : (s t : ObserverStats) (x y : List ℕ) → FitsStats s → FitsStats t → stats_bytes s ++ x ≡ stats_bytes t ++ y → (s ≡ t) × (x ≡ y)
one_of_stats s t x y p q e = one_pair s t x y (sym (stats_again s x p) ∙ ap stats_at e ∙ stats_again t y q)

one_version : (s t : Cell × Revision) (x y : List ℕ) → FitsVersion s → FitsVersion t → version_bytes s ++ x ≡ version_bytes t ++ y → (s ≡ t) × (x ≡ y)
one_version s t x y p q e = one_pair s t x y (sym (version_again s x p) ∙ ap version_at e ∙ version_again t y q)

-- ---- the stats of observers

pub all_stats_one : (ss ts : List ObserverStats) (x y : List ℕ) → length ss ≡ length ts → AllByRecursion FitsStats ss → AllByRecursion FitsStats ts → flat_map stats_bytes ss ++ x ≡ flat_map stats_bytes ts ++ y → (ss ≡ ts) × (x ≡ y)
all_stats_one [] [] x y n p q e = (refl, e)
all_stats_one [] (t ∷ ts) x y n p q e = absurd (omega (arith, n))
all_stats_one (s ∷ ss) [] x y n p q e = absurd (omega (arith, n))
all_stats_one (s ∷ ss) (t ∷ ts) x y n p q e =
    let first = one_of_stats s t (flat_map stats_bytes ss ++ x) (flat_map stats_bytes ts ++ y) p.0 q.0
    (sym (append_assoc (stats_bytes s) (flat_map stats_bytes ss) x) ∙ e ∙ append_assoc (stats_bytes t) (flat_map stats_bytes ts) y) in
    let others = all_stats_one ss ts x y (omega (arith, n)) p.1 q.1 first.1 in
    (ap (λ (h : ObserverStats). h ∷ ss) first.0 ∙ ap (λ (l : List ObserverStats). t ∷ l) others.0, others.1)

pub length-stats : (ss : List ObserverStats) → length (flat_map stats_bytes ss) ≡ 40 * length ss
length-stats [] = refl
length-stats (s ∷ ss) = omega (arith, length-stats ss, length-append (stats_bytes s) (flat_map stats_bytes ss))

-- a number that is found takes eight bytes
number_length : (bytes : List ℕ) (x : ℕ × List ℕ) → u64_at bytes ≡ Some x → length bytes ≡ 8 + length x.1
number_length bytes x e =
    let g = guard_some (ltb (length bytes) 8) (from_le_bytes w64 (take 8 bytes), drop 8 bytes) x e in
    omega (arith, ltb-false _ _ g.0, length-drop 8 bytes, ap (λ (p : ℕ × List ℕ). length p.1) g.1)

bind_none : {A B P : Type 0} (o : Option A) (f : A → Option B) → (o >>= f) ≡ None → (o ≡ None → P) → ((x : A) → o ≡ Some x → f x ≡ None → P) → P
bind_none (Some x) f e none some = some x refl e
bind_none None f e none some = none refl

-- what stops at a number or after it is short
number_short : {B : Type 0} (bytes : List ℕ) (n : ℕ) (f : ℕ × List ℕ → Option B) → (u64_at bytes >>= f) ≡ None → ((x : ℕ × List ℕ) → f x ≡ None → length x.1 < n) → length bytes < 8 + n
number_short bytes n f e after =
    bind_none (u64_at bytes) f e (λ none. let short = number_none bytes none in omega (arith, short)) (λ x some none. let long = number_length bytes x some in let less = after x none in omega (arith, long, less))

pub stats_none : (bytes : List ℕ) → stats_at bytes ≡ None → length bytes < 40
unfolding stats_at
stats_none bytes e = number_short bytes 32 _ e (λ a e. number_short a.1 24 _ e (λ b e. number_short b.1 16 _ e (λ c e. number_short c.1 8 _ e (λ d e. number_short d.1 0 _ e (λ i e. absurd cc)))))

-- ---- the versions

pub versions_one : (xs ys : List (Cell × Revision)) → AllByRecursion FitsVersion xs → AllByRecursion FitsVersion ys → flat_map version_bytes xs ≡ flat_map version_bytes ys → xs ≡ ys
versions_one [] [] p q e = refl
versions_one [] (y ∷ ys) p q e = absurd cc
versions_one (x ∷ xs) [] p q e = absurd cc
versions_one (x ∷ xs) (y ∷ ys) p q e =
    let first = one_version x y (flat_map version_bytes xs) (flat_map version_bytes ys) p.0 q.0 e in
    let others = versions_one xs ys p.1 q.1 first.1 in
    ap (λ (h : Cell × Revision). h ∷ xs) first.0 ∙ ap (λ (l : List (Cell × Revision)). y ∷ l) others

-- After some versions nothing is found in what is left: then the bytes are those of no list.
pub versions_stuck : (xs ys : List (Cell × Revision)) (rest : List ℕ) → 0 < length rest → version_at rest ≡ None → AllByRecursion FitsVersion xs → AllByRecursion FitsVersion ys → flat_map version_bytes xs ++ rest ≡ flat_map version_bytes ys → ⊥
versions_stuck [] [] rest some none p q e = absurd (omega (arith, some, ap length e))
versions_stuck [] (y ∷ ys) rest some none p q e = nothing_found y (flat_map version_bytes ys) (version_at rest) none (ap version_at e ∙ version_again y (flat_map version_bytes ys) q.0)
versions_stuck (x ∷ xs) [] rest some none p q e = absurd cc
versions_stuck (x ∷ xs) (y ∷ ys) rest some none p q e =
    let first = one_version x y (flat_map version_bytes xs ++ rest) (flat_map version_bytes ys) p.0 q.0 (sym (append_assoc (version_bytes x) (flat_map version_bytes xs) rest) ∙ e) in
    versions_stuck xs ys rest some none p.1 q.1 first.1

-- ---- a record

-- the clock and the number of the observers, and what follows them, are those of one snapshot
pub one_head : (c d n m : ℕ) (x y : List ℕ) → c < 2 ^ 64 → d < 2 ^ 64 → n < 2 ^ 64 → m < 2 ^ 64 → snapshot_magic ++ (number_bytes c ++ (number_bytes n ++ x)) ≡ snapshot_magic ++ (number_bytes d ++ (number_bytes m ++ y)) → (c ≡ d) × (n ≡ m) × (x ≡ y)
one_head c d n m x y pc pd pn pm e =
    let clock = one_number c d (number_bytes n ++ x) (number_bytes m ++ y) pc pd (ap (λ (l : List ℕ). drop 12 l) e) in
    let count = one_number n m x y pn pm clock.1 in
    (clock.0, count.0, count.1)

pub one_snapshot : (s u : SnapshotOf) → FitsSnapshot s → FitsSnapshot u → snapshot_bytes s ≡ snapshot_bytes u → s ≡ u
one_snapshot s u p q e =
    let head = one_head s.clock u.clock (length s.stats) (length u.stats) (flat_map stats_bytes s.stats ++ flat_map version_bytes s.cells) (flat_map stats_bytes u.stats ++ flat_map version_bytes u.cells) p.clock q.clock p.count q.count e in
    let stats = all_stats_one s.stats u.stats (flat_map version_bytes s.cells) (flat_map version_bytes u.cells) head.1 p.stats q.stats head.2 in
    let cells = versions_one s.cells u.cells p.cells q.cells stats.1 in
    ap (λ (n : ℕ). record { clock = n; stats = s.stats; cells = s.cells }) head.0
    ∙ ap (λ (l : List ObserverStats). record { clock = u.clock; stats = l; cells = s.cells }) stats.0
    ∙ ap (λ (l : List (Cell × Revision)). record { clock = u.clock; stats = u.stats; cells = l }) cells
