-- What an application of edits to one tablet, done or refused, does to all.
use Rattle.std.proofs.Common.{◌≡◌, ℕ, ◌<◌, List, sym, ap, ◌∙◌, subst, arith, length, get_or, set, Result, OnOk, OnErr}
use Rattle.pb_store.specs.Words.{Row}
use Rattle.pb_store.specs.declared.slot.Edit.{Edit}
use Rattle.pb_store.specs.Contents.{Contents, after_edits, AreOfRow}
use Rattle.pb_store.specs.Tiles.{IsTiling, IsPlace, joined, tiles_of}
use Rattle.pb_store.proofs.Routing.{tiles_changed}
use Rattle.pb_store.proofs.Joined.{edits_in_place}

-- a call is done or refused, and what follows in either case holds
pub result_cases : {U E : Type 0} (r : Result U E) (P Q G : Type 0) → OnOk r P → OnErr r Q → (P → G) → (Q → G) → G
result_cases r h k s p q f g = grind arith

pub err_then : {U E : Type 0} (r : Result U E) (P Q : Type 0) → (P → Q) → OnErr r P → OnErr r Q
err_then r h k f p = grind arith

-- tablet i, with what stands there, p, becomes t
module _ {T : Type 0} (c : T → Contents) (parts : List (Row × T)) (i : ℕ) (p : Row × T) (t : T) (lt : i < length parts) (e : p ≡ get_or parts i p) where
  module _ (edits : List Edit) (row : ℕ) (of : AreOfRow row edits) (tiling : IsTiling (tiles_of c parts)) (place : IsPlace (tiles_of c parts) i row) (done : c t ≡ after_edits edits (c p.1)) where
    pub tiling_after : IsTiling (tiles_of c (set parts i (p.0, t)))
    tiling_after = subst IsTiling (sym (tiles_changed c parts i p t lt e (after_edits edits) done)) (edits_in_place edits row (tiles_of c parts) i of tiling place).tiling

    pub joined_after : joined (tiles_of c (set parts i (p.0, t))) ≡ after_edits edits (joined (tiles_of c parts))
    joined_after = ap joined (tiles_changed c parts i p t lt e (after_edits edits) done) ∙ (edits_in_place edits row (tiles_of c parts) i of tiling place).same
