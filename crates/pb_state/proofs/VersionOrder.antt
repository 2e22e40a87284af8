-- What the order of versions shows of two of them, and of one more.
use Rattle.std.proofs.Common.{arith, ◌≡◌, ℕ, ◌+◌, ◌-◌, ◌<◌, ◌≤◌, ◌⊎◌, inl, inr, Bool, true, false, ◌&&◌, ◌||◌, nat_lt, List, [], ◌∷◌, ◌++◌, length, take, Some, slice_get, sym, ap, ◌∙◌, subst, Ordering, Less, Equal, MatchBool}
use Rattle.std.specs.Cmp.{tied_itself}
use Rattle.std.specs.Ordering.{is_lt}
use Rattle.std.proofs.lemmas.Bool.{cases_lt, eqb-true, eq-eqb}
use Rattle.std.proofs.lemmas.List.{length_push}
use Rattle.pb_base.proofs.Logic.{and_true, below_true, one_value, or_cases, same_some}
use Rattle.pb_history.proofs.Updates.{has_last, has_more}
use Rattle.pb_state.specs.Words.{Cell, Revision, ObserverOf, Has, cell_cmp, cell_cmp_total}
use Rattle.pb_state.specs.CarriedOver.{CellVersions, comes_before, AreVersionsBy, IsLatest, MayFollow}

abbrev Version : Type 0
Version = Cell × Revision

lt_less : (o : Ordering) → is_lt o ≡ true → o ≡ Less
lt_less o h = grind arith

-- of one transaction, on a later cell
record IsOnLaterCell (a b : Version) : Type 0 where
  start : a.1.start.0 ≡ b.1.start.0
  commit : a.1.commit.0 ≡ b.1.commit.0
  cell : cell_cmp a.0 b.0 ≡ Less

before_by : (a b : Version) → comes_before a b ≡ true → IsOnLaterCell a b ⊎ (a.1.commit.0 < b.1.start.0)
before_by a b is = elim (or_cases _ _ is) [
  | inl same ↦
      let p = and_true _ _ same in
      let q = and_true _ _ p.1 in
      inl (record { start = eqb-true _ _ p.0; commit = eqb-true _ _ q.0; cell = lt_less _ q.1 })
  | inr lt ↦ inr (below_true _ _ lt)
]

both_true : (a b c d : Bool) → a ≡ true → b ≡ true → c ≡ true → ((a && (b && c)) || d) ≡ true
both_true a b c d p q r = grind arith

or_true : (a b : Bool) → b ≡ true → (a || b) ≡ true
or_true a b p = grind arith

lt_true : (m n : ℕ) → m < n → nat_lt m n ≡ true
lt_true m n h = grind arith

by_cell : (a b : Version) → IsOnLaterCell a b → comes_before a b ≡ true
by_cell a b h = both_true _ _ _ _ (eq-eqb _ _ h.start) (eq-eqb _ _ h.commit) (ap is_lt h.cell)

by_commit : (a b : Version) → a.1.commit.0 < b.1.start.0 → comes_before a b ≡ true
by_commit a b h = or_true _ _ (lt_true _ _ h)

-- what comes before another comes before those after it
before_after : (a b c : Version) → b.1.start.0 < b.1.commit.0 → comes_before a b ≡ true → comes_before b c ≡ true → comes_before a c ≡ true
before_after a b c above p q = elim (before_by a b p) [
  | inl x ↦ elim (before_by b c q) [
    | inl y ↦ by_cell a c (record { start = x.start ∙ y.start; commit = x.commit ∙ y.commit; cell = cell_cmp_total.trans a.0 b.0 c.0 x.cell y.cell })
    | inr y ↦ by_commit a c (let same = x.commit in omega (arith, same, y))
  ]
  | inr x ↦ elim (before_by b c q) [
    | inl y ↦ by_commit a c (let same = y.start in omega (arith, same, x))
    | inr y ↦ by_commit a c (omega (arith, x, y, above))
  ]
]

-- a start and a commit go together
same_commit : (a b : Version) → comes_before a b ≡ true → a.1.start.0 < a.1.commit.0 → a.1.start.0 ≡ b.1.start.0 → a.1.commit.0 ≡ b.1.commit.0
same_commit a b p above same = elim (before_by a b p) [
  | inl x ↦ x.commit
  | inr x ↦ absurd (omega (arith, x, above, same))
]

same_start : (a b : Version) → comes_before a b ≡ true → b.1.start.0 < b.1.commit.0 → a.1.commit.0 ≡ b.1.commit.0 → a.1.start.0 ≡ b.1.start.0
same_start a b p above same = elim (before_by a b p) [
  | inl x ↦ x.start
  | inr x ↦ absurd (omega (arith, x, above, same))
]

-- of one cell it was committed before the other began
pub committed_before : (x : Cell) (v w : Revision) → comes_before (x, v) (x, w) ≡ true → v.commit.0 < w.start.0
committed_before x v w p = elim (before_by (x, v) (x, w) p) [
  | inl same ↦ absurd (not_itself (cell_cmp x x) (tied_itself cell_cmp_total x) same.cell)
  | inr before ↦ before
]
  where
    not_itself : (o : Ordering) → o ≡ Equal → o ≡ Less → ⊥
    not_itself o p q = cc

-- it is of the same transaction, or of one that was committed before the other began
in_series : (a b : Version) → comes_before a b ≡ true → (a.1.start.0 ≡ b.1.start.0) ⊎ (a.1.commit.0 < b.1.start.0)
in_series a b p = elim (before_by a b p) [
  | inl same ↦ inl same.start
  | inr before ↦ inr before
]

-- what comes before began with the other at the latest
pub begins_before : (a b : Version) → comes_before a b ≡ true → a.1.start.0 < a.1.commit.0 → (a.1.start.0 ≡ b.1.start.0) ⊎ (a.1.start.0 < b.1.start.0)
begins_before a b p above = elim (before_by a b p) [
  | inl x ↦ inl x.start
  | inr x ↦ inr (omega (arith, x, above))
]

-- the latest decides for all
pub all_come_before : (cells : CellVersions) (c d : Version) → ((e : Version) → Has cells e → e.1.start.0 < e.1.commit.0) → IsLatest cells c → comes_before c d ≡ true → (e : Version) → Has cells e → comes_before e d ≡ true
all_come_before cells c d above latest is e has = elim (latest.1 e has) [
  | inl same ↦ ap (λ (z : Version). comes_before z d) same ∙ is
  | inr before ↦ before_after e c d (above c latest.0) before is
]

pub latest_decides : (cells : CellVersions) (c d : Version) (b : Bool) → ((e : Version) → Has cells e → e.1.start.0 < e.1.commit.0) → IsLatest cells c → b ≡ comes_before c d
    → MatchBool b ((e : Version) → Has cells e → comes_before e d ≡ true) ((e : Version) × Has cells e × (comes_before e d ≡ false))
latest_decides cells c d true above latest is = all_come_before cells c d above latest (sym is)
latest_decides cells c d false above latest is = (c, latest.0, sym is)

get_last : {A : Type 0} (xs : List A) (x y : A) → slice_get (xs ++ x ∷ []) (length xs) ≡ Some y → x ≡ y
get_last [] x y is = same_some x y is
get_last (z ∷ xs) x y is = get_last xs x y is

-- none is there of none
pub no_versions : (last : ℕ) → AreVersionsBy last []
no_versions last = record {
  above = λ c h. absurd h;
  by_then = λ c h. absurd h;
  one_commit = λ c d h _ _. absurd h;
  one_start = λ c d h _ _. absurd h;
  serial = λ c d h _. absurd h;
  once = λ x v w h _ _. absurd h;
  latest = λ c is. absurd (grind (arith, is));
}

module _ (observers : List ObserverOf) (last : ℕ) (cells : CellVersions) (c : Version) (are : AreVersionsBy last cells) (may : MayFollow observers last cells c) where
  abbrev more : CellVersions
  more = cells ++ c ∷ []

  above_more : (d : Version) → Has more d → d.1.start.0 < d.1.commit.0
  above_more d h = elim (has_more cells c d h) [
    | inl same ↦ subst (λ (z : Version). z.1.start.0 < z.1.commit.0) same may.above
    | inr there ↦ are.above d there
  ]

  -- with one that may come next
  pub versions_more : AreVersionsBy last more
  versions_more = record {
    above = above_more;
    by_then = λ d h. elim (has_more cells c d h) [
      | inl same ↦ subst (λ (z : Version). z.1.commit.0 ≤ last) same may.by_then
      | inr there ↦ are.by_then d there
    ];
    one_commit = λ d e h g same. elim (has_more cells c d h) [
      | inl p ↦ elim (has_more cells c e g) [
        | inl q ↦ ap (λ (z : Version). z.1.commit.0) (sym p ∙ q)
        | inr q ↦ sym (same_commit e d (subst (λ (z : Version). comes_before e z ≡ true) p (may.in_order e q)) (are.above e q) (sym same))
      ]
      | inr p ↦ elim (has_more cells c e g) [
        | inl q ↦ same_commit d e (subst (λ (z : Version). comes_before d z ≡ true) q (may.in_order d p)) (are.above d p) same
        | inr q ↦ are.one_commit d e p q same
      ]
    ];
    one_start = λ d e h g same. elim (has_more cells c d h) [
      | inl p ↦ elim (has_more cells c e g) [
        | inl q ↦ ap (λ (z : Version). z.1.start.0) (sym p ∙ q)
        | inr q ↦ sym (same_start e d (subst (λ (z : Version). comes_before e z ≡ true) p (may.in_order e q)) (above_more d h) (sym same))
      ]
      | inr p ↦ elim (has_more cells c e g) [
        | inl q ↦ same_start d e (subst (λ (z : Version). comes_before d z ≡ true) q (may.in_order d p)) (above_more e g) same
        | inr q ↦ are.one_start d e p q same
      ]
    ];
    serial = λ d e h g. elim (has_more cells c d h) [
      | inl p ↦ elim (has_more cells c e g) [
        | inl q ↦ inl (ap (λ (z : Version). z.1.start.0) (sym p ∙ q))
        | inr q ↦ elim (in_series e d (subst (λ (z : Version). comes_before e z ≡ true) p (may.in_order e q))) [
          | inl same ↦ inl (sym same)
          | inr before ↦ inr (inr before)
        ]
      ]
      | inr p ↦ elim (has_more cells c e g) [
        | inl q ↦ elim (in_series d e (subst (λ (z : Version). comes_before d z ≡ true) q (may.in_order d p))) [
          | inl same ↦ inl same
          | inr before ↦ inr (inl before)
        ]
        | inr q ↦ are.serial d e p q
      ]
    ];
    once = λ x v w h g same. elim (has_more cells c (x, v) h) [
      | inl p ↦ elim (has_more cells c (x, w) g) [
        | inl q ↦ ap (λ (z : Version). z.1) (sym p ∙ q)
        | inr q ↦
            let before = committed_before x w v (subst (λ (z : Version). comes_before (x, w) z ≡ true) p (may.in_order (x, w) q)) in
            let above = are.above (x, w) q in
            absurd (omega (arith, before, above, same))
      ]
      | inr p ↦ elim (has_more cells c (x, w) g) [
        | inl q ↦
            let before = committed_before x v w (subst (λ (z : Version). comes_before (x, v) z ≡ true) q (may.in_order (x, v) p)) in
            let above = are.above (x, v) p in
            absurd (omega (arith, before, above, same))
        | inr q ↦ are.once x v w p q same
      ]
    ];
    latest = λ d is.
        let at : length more - 1 ≡ length cells = (let n = length_push cells c in omega (arith, n)) in
        let same = get_last cells c d (ap (λ n. slice_get more n) (sym at) ∙ is) in (
          subst (Has more) same (has_last cells c),
          λ e h. elim (has_more cells c e h) [
            | inl p ↦ inl (sym p ∙ same)
            | inr there ↦ inr (subst (λ (z : Version). comes_before e z ≡ true) same (may.in_order e there))
          ],
        );
  }

-- and those before one more may come next still
pub ordered_more : (observers : List ObserverOf) (last : ℕ) (cells : CellVersions) (i : ℕ) (c : Version) → slice_get cells i ≡ Some c → MayFollow observers last (take i cells) c
    → ((n : ℕ) (d : Version) → n < i → slice_get cells n ≡ Some d → MayFollow observers last (take n cells) d)
    → (n : ℕ) (d : Version) → n < i + 1 → slice_get cells n ≡ Some d → MayFollow observers last (take n cells) d
ordered_more observers last cells i c there may before n d low is = elim (cases_lt n i) [
  | inl earlier ↦ before n d earlier is
  | inr later ↦
      let same : n ≡ i = omega (arith, low, later) in
      subst (λ m. MayFollow observers last (take m cells) d) (sym same) (subst (MayFollow observers last (take i cells)) (one_value (slice_get cells i) c d there (ap (λ m. slice_get cells m) (sym same) ∙ is)) may)
]
