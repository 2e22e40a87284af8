-- Where two tables have the same version of a cell.
use Rattle.std.proofs.Common.{ℕ, ◌≤◌, inl, inr, sym, ◌∙◌, subst, arith}
use Rattle.std.proofs.lemmas.Bool.{cases_lt}
use Rattle.std.proofs.lemmas.Option.{none-some}
use Rattle.pb_generations.specs.Words.{Cell, Revision, Entries, IsVersion}
use Rattle.pb_history.proofs.OneOutcome.{one_version}
use Rattle.pb_generations.specs.LateSteps.{ServesAt}
use Rattle.pb_generations.specs.Mirrored.{SameEntries, SameVersion, SameVersionOn}
use Rattle.pb_generations.proofs.VersionsAbove.{kept_none, kept_version, whole_none, whole_version}

pub same_back : (t : ℕ) (e : Entries) (x : Cell) (f : Entries) (y : Cell) → SameVersionOn t e x f y → SameVersionOn t f y e x
same_back t e x f y same = record { there = λ v. ((same.there v).1, (same.there v).0); none = (same.none.1, same.none.0) }

pub same_on : (t : ℕ) (e : Entries) (x : Cell) (f : Entries) (y : Cell) (g : Entries) (z : Cell) → SameVersionOn t e x f y → SameVersionOn t f y g z → SameVersionOn t e x g z
same_on t e x f y g z first second = record {
  there = λ v. (λ is. (second.there v).0 ((first.there v).0 is), λ is. (first.there v).1 ((second.there v).1 is));
  none = (λ is. second.none.0 (first.none.0 is), λ is. first.none.1 (second.none.1 is));
}

-- where both have this one
pub both_have : (t : ℕ) (e : Entries) (x : Cell) (f : Entries) (y : Cell) (v : Revision) → IsVersion e x t v → IsVersion f y t v → SameVersionOn t e x f y
both_have t e x f y v here there = record {
  there = λ w. (λ is. subst (IsVersion f y t) (one_version e x t v w here is) there, λ is. subst (IsVersion e x t) (one_version f y t v w there is) here);
  none = (λ is. absurd (none-some v.start.0 (sym (is v.commit.0 here.low) ∙ here.written)), λ is. absurd (none-some v.start.0 (sym (is v.commit.0 there.low) ∙ there.written)));
}

-- ---- what serves for a table

-- since c
pub same_later : (c : ℕ) (whole e : Entries) → SameEntries c whole e → (x : Cell) (t : ℕ) → c ≤ t → SameVersion t whole e x
same_later c whole e m x t since = record {
  there = λ v. (kept_version c whole e m x t since v, whole_version c whole e m x t since v);
  none = (kept_none c whole e m x t since, whole_none c whole e m x t since);
}

-- a version stands from its commit on
earlier : (e : Entries) (x : Cell) (c t : ℕ) (v : Revision) → IsVersion e x c v → v.commit.0 ≤ t → t ≤ c → IsVersion e x t v
earlier e x c t v is since low = record { low = since; written = is.written; content = is.content; newest = λ d above by_then. is.newest d above (omega (arith, by_then, low)) }

-- and wherever it serves for a read
pub serves_same : (c : ℕ) (whole e : Entries) → SameEntries c whole e → (x : Cell) (t : ℕ) → ServesAt c whole e x t → SameVersion t whole e x
serves_same c whole e m x t (inr same) = same
serves_same c whole e m x t (inl reaches) = elim (cases_lt c t) [
  | inl later ↦ same_later c whole e m x t (omega (arith, later))
  | inr low ↦ elim (m.either x) [
    | inl v ↦
        let kept = ((m.versions x).there v.0).0 v.1 in
        both_have t whole x e x v.0 (earlier whole x c t v.0 v.1 (reaches v.0 kept) low) (earlier e x c t v.0 kept (reaches v.0 kept) low)
    | inr none ↦ record {
      there = λ v. (
        λ is. absurd (none-some v.start.0 (sym (none v.commit.0 (omega (arith, is.low, low))) ∙ is.written)),
        λ is. absurd (none-some v.start.0 (sym ((m.versions x).none.0 none v.commit.0 (omega (arith, is.low, low))) ∙ is.written)),
      );
      none = (λ is d by_then. (m.versions x).none.0 none d (omega (arith, by_then, low)), λ is d by_then. none d (omega (arith, by_then, low)));
    }
  ]
]
