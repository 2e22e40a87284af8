-- From c on, a table and what serves for it have the same versions.
use Rattle.std.proofs.Common.{◌≡◌, ℕ, ◌<◌, ◌≤◌, inl, inr, sym, ◌∙◌, arith, Some}
use Rattle.std.proofs.lemmas.Bool.{cases_lt}
use Rattle.pb_generations.specs.Words.{Cell, Revision, Entries, IsVersion, NoVersion, data_at, write_at}
use Rattle.pb_generations.specs.Mirrored.{SameEntries}

-- two that are the same above c, and have the same version at c, have the same later on
version_on : (c u : ℕ) (e f : Entries) (x : Cell) → c ≤ u → ((d : ℕ) → c < d → write_at f x d ≡ write_at e x d) → ((d s : ℕ) → c < d → write_at e x d ≡ Some s → data_at f x s ≡ data_at e x s)
    → (v : Revision) → (IsVersion e x c v → IsVersion f x c v) → IsVersion e x u v → IsVersion f x u v
version_on c u e f x since records stored v there is = elim (cases_lt c v.commit.0) [
  | inl late ↦ record {
    low = is.low;
    written = records v.commit.0 late ∙ is.written;
    content = stored v.commit.0 v.start.0 late is.written ∙ is.content;
    newest = λ d above low. records d (omega (arith, late, above)) ∙ is.newest d above low;
  }
  | inr early ↦
      let here : IsVersion f x c v = there (record { low = early; written = is.written; content = is.content; newest = λ d above low. is.newest d above (omega (arith, low, since)) }) in
      record {
        low = is.low;
        written = here.written;
        content = here.content;
        newest = λ d above low. elim (cases_lt c d) [
          | inl past ↦ records d past ∙ is.newest d above low
          | inr by_then ↦ here.newest d above by_then
        ];
      }
]

module _ (c : ℕ) (whole e : Entries) (m : SameEntries c whole e) (x : Cell) (u : ℕ) (since : c ≤ u) where
  pub kept_version : (v : Revision) → IsVersion whole x u v → IsVersion e x u v
  kept_version v = version_on c u whole e x since (m.records x) (λ d s late is. m.stored x s (m.starts x d s late is)) v ((m.versions x).there v).0

  pub whole_version : (v : Revision) → IsVersion e x u v → IsVersion whole x u v
  whole_version v = version_on c u e whole x since (λ d late. sym (m.records x d late)) (λ d s late is. sym (m.stored x s (m.starts x d s late (sym (m.records x d late) ∙ is)))) v ((m.versions x).there v).1

  pub kept_none : NoVersion whole x u → NoVersion e x u
  kept_none is d low = elim (cases_lt c d) [
    | inl past ↦ m.records x d past ∙ is d low
    | inr by_then ↦ (m.versions x).none.0 (λ k early. is k (omega (arith, early, since))) d by_then
  ]

  pub whole_none : NoVersion e x u → NoVersion whole x u
  whole_none is d low = elim (cases_lt c d) [
    | inl past ↦ sym (m.records x d past) ∙ is d low
    | inr by_then ↦ (m.versions x).none.1 (λ k early. is k (omega (arith, early, since))) d by_then
  ]
