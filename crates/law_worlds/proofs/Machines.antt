-- One instruction of a machine has one outcome, at any one placement.
use Rattle.std.proofs.Common.{arith, ◌≡◌, ℕ, length, sym, ◌∙◌, ap, subst}
use Rattle.law_worlds.specs.Words.{Ts, Placement, IsPlacement, Means, Ask, EachHasOneMeaning, Position, SameGiven, Went, AskedFor, Meant, Declared, fresh, Look, RunPlace, ExitLeaves, ComesTo, goes, waits, declares}
use Rattle.pb_notify.specs.Steps as steps

-- ---- instructions that do not do the same

module _ (v : Position) (a : Placement) (p : IsPlacement (length v.bytes) a) where
  -- ---- each with each

  one_position : (w u : Position) → SameGiven v w → SameGiven v u → w.talk ≡ u.talk → w.taken ≡ u.taken → w.phase ≡ u.phase → w ≡ u
  one_position w u g h talk taken phase = grind arith

  went_once : (w u : Position) → Went v w → Went v u → w ≡ u
  went_once w u x y = one_position w u x.given y.given (x.talk ∙ sym y.talk) (x.taken ∙ sym y.taken) (x.phase ∙ sym y.phase)

  asks_once : (s : Ts) (q r : Ask) (w u : Position) → AskedFor v q w → AskedFor v r u → RunPlace.Asking s w q Look.Reading ≡ RunPlace.Asking s u r Look.Reading
  asks_once s q r w u x y = grind arith

  meant_by : (f : Meant) → ExitLeaves v f → Means v.judged v.bytes v.start v.talk f.result f.writes
  meant_by f l = subst (λ (z : Type 0). z) (λ i. Means (l.judged i) (l.bytes i) (l.start i) (l.talk i) f.result f.writes) l.meant

  leaves_once : EachHasOneMeaning → (f g : Meant) → ExitLeaves v f → ExitLeaves v g → f ≡ g
  leaves_once law f g l m =
      let one = law v.judged v.bytes v.start v.talk f.result g.result f.writes g.writes (meant_by f l) (meant_by g m) in
      grind (arith, l.judged, m.judged, l.bytes, m.bytes, l.start, m.start, l.talk, m.talk)

  ends_once : EachHasOneMeaning → (o : ℕ) (s : Ts) (r n : ℕ) (what more : Declared) → steps.ExitsAs o v r what → steps.ExitsAs o v n more → RunPlace.Planning r (fresh s.0 what) ≡ RunPlace.Planning n (fresh s.0 more)
  ends_once law o s r n what more x y =
      let e : x.left ≡ y.left = leaves_once law x.left y.left x.leaves y.leaves in
      λ i. RunPlace.Planning ((x.result ∙ (ap (λ (f : Meant). f.result) e ∙ sym y.result)) i) (fresh s.0 ((x.declares ∙ (ap (Declared.Run o) e ∙ sym y.declares)) i))

  -- ---- each with another

  went_or_asks : (w u : Position) (q : Ask) → Went v w → AskedFor v q u → ⊥
  went_or_asks w u q x y = grind arith

  went_or_ends : (w : Position) (f : Meant) → Went v w → ExitLeaves v f → ⊥
  went_or_ends w f x y = grind arith

  asks_or_leaves : (u : Position) (q : Ask) (f : Meant) → AskedFor v q u → ExitLeaves v f → ⊥
  asks_or_leaves u q f x y = grind arith

  pub comes_once : EachHasOneMeaning → (o : ℕ) (s : Ts) (x y : RunPlace) → ComesTo o s v x → ComesTo o s v y → x ≡ y
  comes_once law o s x y (goes w c) (goes u d) = ap (RunPlace.Computing s) (went_once w u c.went d.went)
  comes_once law o s x y (waits w q c) (waits u r d) = asks_once s q r w u c d
  comes_once law o s x y (declares r what c) (declares n more d) = ends_once law o s r n what more c d
  comes_once law o s x y (goes w c) (waits u q d) = absurd (went_or_asks w u q c.went d)
  comes_once law o s x y (goes w c) (declares r what d) = absurd (went_or_ends w d.left c.went d.leaves)
  comes_once law o s x y (waits w q c) (goes u d) = absurd (went_or_asks u w q d.went c)
  comes_once law o s x y (waits w q c) (declares r what d) = absurd (asks_or_leaves w q d.left c d.leaves)
  comes_once law o s x y (declares r what c) (goes u d) = absurd (went_or_ends u c.left d.went c.leaves)
  comes_once law o s x y (declares r what c) (waits u q d) = absurd (asks_or_leaves u q c.left d c.leaves)
