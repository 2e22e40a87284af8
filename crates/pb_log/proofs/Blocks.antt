-- Lists of blocks, and how long they are.
use Rattle.std.proofs.Common.{◌≡◌, ℕ, ◌+◌, ◌<◌, ◌^◌, List, [], ◌∷◌, ◌++◌, length, sym, ◌∙◌, ap, arith, append_assoc, length-append}
use Rattle.std.proofs.lemmas.List.{append-nil}
use Rattle.std.specs.Int.{w32, w64, to_le_bytes}
use Rattle.sqlite_disk.specs.Digest.{digest}
use Rattle.pb_log.specs.Records.{StandsOpen, AreShort, body, block, blocks}

pub length-body : (at : ℕ) (r : List ℕ) → length (body at r) ≡ 12 + length r
length-body at r = omega (arith, length-append (to_le_bytes w32 (length r) ++ to_le_bytes w64 (digest at r)) r)

pub length-block : (at : ℕ) (r : List ℕ) → length (block at r) ≡ 13 + length r
length-block at r = omega (arith, length-body at r)

-- a list of blocks with one more
pub blocks-push : (rs : List (List ℕ)) (r rest : List ℕ) (at end : ℕ) → end ≡ at + length (blocks at rs) → blocks at (rs ++ r ∷ []) ++ rest ≡ blocks at rs ++ (block end r ++ rest)
blocks-push [] r rest at end ends_at =
    let here : at ≡ end = omega (arith, ends_at) in
    ap (λ (x : List ℕ). x ++ rest) (append-nil (block at r)) ∙ ap (λ (k : ℕ). block k r ++ rest) here
blocks-push (s ∷ rs) r rest at end ends_at =
    let next = at + 13 + length s in
    let there : end ≡ next + length (blocks next rs) = omega (arith, ends_at, length-append (block at s) (blocks next rs), length-block at s) in
    append_assoc (block at s) (blocks next (rs ++ r ∷ [])) rest ∙ ap (λ (x : List ℕ). block at s ++ x) (blocks-push rs r rest next end there) ∙ sym (append_assoc (block at s) (blocks next rs) (block end r ++ rest))

pub short-push : (rs : List (List ℕ)) (r : List ℕ) → AreShort rs → length r < 2 ^ 32 → AreShort (rs ++ r ∷ [])
short-push [] r shorts short = (short, tt)
short-push (s ∷ rs) r shorts short = (shorts.0, short-push rs r shorts.1 short)

pub length-blocks-push : (rs : List (List ℕ)) (r : List ℕ) → length (blocks 0 (rs ++ r ∷ [])) ≡ length (blocks 0 rs) + (13 + length r)
length-blocks-push rs r =
    let end = length (blocks 0 rs) in
    omega (arith, ap length (blocks-push rs r [] 0 end (omega arith)), length-append (blocks 0 (rs ++ r ∷ [])) [], length-append (blocks 0 rs) (block end r ++ []), length-append (block end r) [], length-block end r)

-- nothing begins with a record in fewer bytes than its head has
pub nothing_begins : (at : ℕ) (file : List ℕ) → length file < 13 → StandsOpen at file → ⊥
nothing_begins at file few b = omega (arith, few, ap length b.is, length-append (block at b.item) b.rest, length-block at b.item)
