-- The join of two frames knows exactly what both know.
use Rattle.std.proofs.Common.{◌≡◌, ℕ, zero, suc, Bool, true, false, ◌&&◌, List, [], ◌∷◌, get_or, refl, sym, ◌∙◌, arith, if◌then◌else◌, ◌≢◌}
use Rattle.std.proofs.Math.Bool.{and-false}
use Rattle.pb_kinds.specs.declared.frame.Kind.{Kind}
use Rattle.pb_kinds.specs.declared.frame.Frame.{Frame}
use Rattle.pb_kinds.specs.Frames.{same_kind, meet, meet_kinds, meet_bytes, join}
use Rattle.pb_kinds.specs.Meet.{IsMeet}
use Rattle.pb_base.proofs.Logic.{and_true as both_true}

-- kinds that are found to be the same are one
same_means_equal : (a b : Kind) → same_kind a b ≡ true → a ≡ b
same_means_equal a b h = grind arith

-- each kind is found to be the same as itself
is_same : (a : Kind) → same_kind a a ≡ true
is_same a = grind arith

-- a kind and itself say that kind
meet_self : (a : Kind) → meet a a ≡ a
meet_self a = rw (is_same a) refl

-- the meet with a kind that says nothing says nothing
meet_unset : (a : Kind) → meet a Kind.Unset ≡ Kind.Unset
meet_unset a = grind arith

-- where the meet says something, both kinds are it
by_test : (t : Bool) (a b k : Kind) → (t ≡ true → a ≡ b) → (if t then a else Kind.Unset) ≡ k → k ≢ Kind.Unset → (a ≡ k) × (b ≡ k)
by_test t a b k same e set = grind arith

-- where a meet says something, both say it
meet_known : (a b k : Kind) → meet a b ≡ k → k ≢ Kind.Unset → (a ≡ k) × (b ≡ k)
meet_known a b k = by_test (same_kind a b) a b k (same_means_equal a b)

-- nor the other way round
unset_meet : (a : Kind) → meet Kind.Unset a ≡ Kind.Unset
unset_meet a = grind arith

-- a register of the joined list is the meet of its two kinds, also after the lists' ends
kind_at : (ks ms : List Kind) (r : ℕ) → get_or (meet_kinds ks ms) r Kind.Unset ≡ meet (get_or ks r Kind.Unset) (get_or ms r Kind.Unset)
kind_at [] [] r = refl
kind_at [] (m ∷ ms) r = sym (unset_meet (get_or (m ∷ ms) r Kind.Unset))
kind_at (k ∷ ks) [] r = sym (meet_unset (get_or (k ∷ ks) r Kind.Unset))
kind_at (k ∷ ks) (m ∷ ms) zero = refl
kind_at (k ∷ ks) (m ∷ ms) (suc r) = kind_at ks ms r

-- a flag of the joined list is set where both are
byte_at : (w v : List Bool) (i : ℕ) → get_or (meet_bytes w v) i false ≡ (get_or w i false && get_or v i false)
byte_at [] [] i = refl
byte_at [] (y ∷ v) i = refl
byte_at (x ∷ w) [] i = sym (and-false (get_or (x ∷ w) i false))
byte_at (x ∷ w) (y ∷ v) zero = refl
byte_at (x ∷ w) (y ∷ v) (suc i) = byte_at w v i

-- what the join knows of a register, both frames know
known_both : (ks ms : List Kind) (r : ℕ) (k : Kind) → k ≢ Kind.Unset → get_or (meet_kinds ks ms) r Kind.Unset ≡ k → (get_or ks r Kind.Unset ≡ k) × (get_or ms r Kind.Unset ≡ k)
known_both ks ms r k set e = meet_known (get_or ks r Kind.Unset) (get_or ms r Kind.Unset) k (sym (kind_at ks ms r) ∙ e) set

-- and what both know, it knows
known_joined : (ks ms : List Kind) (r : ℕ) (k : Kind) → get_or ks r Kind.Unset ≡ k → get_or ms r Kind.Unset ≡ k → get_or (meet_kinds ks ms) r Kind.Unset ≡ k
known_joined ks ms r k e f = kind_at ks ms r ∙ rw (e, f) (meet_self k)

-- the join of two frames is their meet, register by register and byte by byte
pub join_is_meet : (a b : Frame) → IsMeet a b (join a b)
unfolding join
join_is_meet a b = grind (arith, known_both, known_joined, both_true, byte_at, a.kinds, b.kinds, a.written, b.written)
