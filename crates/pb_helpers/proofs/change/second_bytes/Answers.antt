use Rattle.std.proofs.Common.{◌≡◌, ◌≤◌, ◌-◌, ℕ, List, [], ◌++◌, length, take, drop, replicate, arith, refl, sym, ap, subst, ◌∙◌, append_assoc}
use Rattle.std.proofs.lemmas.List.{append-nil, drop_all, length-append, length-replicate, length-take, length-drop, take-append-drop}
use Rattle.std.proofs.Math.Seq.{take-append_seam, drop-append_seam}
use borrow.Rule.Slice.PartMut.{put_mid}
use Rattle.pb_isa.specs.declared.limits.TheConstants.{MAX_RECORD_BYTES}
use Rattle.pb_isa.specs.Machine.{reply_bytes}
use Rattle.pb_helpers.specs.Bytes.{padded}
use Rattle.pb_helpers.specs.Record.{record_of, word_bytes}
use Rattle.pb_helpers.specs.OldRecord.{is_value, record_with_old}
use Rattle.pb_helpers.proofs.change.second_bytes.Goals as goal

first_part : (r y : List ℕ) (n : ℕ) → length r ≡ n → take n (r ++ y) ≡ r
first_part r y n l = subst (λ n. take n (r ++ y) ≡ r) l (take-append_seam r y)

after_first : (r y : List ℕ) (n : ℕ) → length r ≡ n → drop n (r ++ y) ≡ y
after_first r y n l = subst (λ n. drop n (r ++ y) ≡ y) l (drop-append_seam r y)

-- the list after the writes at 88 and at 80
written : (r a b v w x : List ℕ) → x ≡ r ++ (a ++ b) → length r ≡ 80 → length a ≡ 8 → length b ≡ 32 → put_mid 80 8 (put_mid 88 32 x v) w ≡ r ++ (w ++ (v ++ []))
written r a b v w x e lr la lb =
    let s = r ++ a in
    let q = v ++ [] in
    let ls : length s ≡ 88 = length-append r a ∙ omega arith in
    let parts : x ≡ s ++ b = e ∙ sym (append_assoc r a b) in
    let before : take 88 x ≡ s = ap (λ l. take 88 l) parts ∙ first_part s b 88 ls in
    let none : drop 32 (drop 88 x) ≡ [] = ap (λ l. drop 32 (drop 88 l)) parts ∙ ap (λ l. drop 32 l) (after_first s b 88 ls) ∙ drop_all 32 b (omega arith) in
    let old : take 80 (s ++ q) ≡ r = ap (λ l. take 80 l) (append_assoc r a q) ∙ first_part r (a ++ q) 80 lr in
    let new : drop 8 (drop 80 (s ++ q)) ≡ q = ap (λ l. drop 8 (drop 80 l)) (append_assoc r a q) ∙ ap (λ l. drop 8 l) (after_first r (a ++ q) 80 lr) ∙ after_first a q 8 la in
    rw (before, none, old, new) refl

-- a record of version 2 has no zeros after it
whole : (r w v : List ℕ) → length r ≡ 80 → length w ≡ 8 → length v ≡ 32 → r ++ (w ++ (v ++ [])) ≡ padded (r ++ (w ++ v))
whole r w v lr lw lv =
    let l : length (r ++ (w ++ v)) ≡ MAX_RECORD_BYTES = omega (arith, length-append r (w ++ v), length-append w v) in
    ap (λ l. r ++ (w ++ l)) (append-nil v) ∙ sym (append-nil (r ++ (w ++ v))) ∙ sym (ap (λ n. (r ++ (w ++ v)) ++ replicate (MAX_RECORD_BYTES - n) 0) l)

pub slice_bounds-bytes-end-2 : goal.slice_bounds-bytes-end-2
slice_bounds-bytes-end-2 c =
    let x = c.first_bytes-bytes.result in
    let v = c.copy_from_slice.new.self in
    let lx : length x ≡ 120 = omega (arith, ap length c.first_bytes-bytes.ensures.record, c.first_bytes-bytes.ensures.size, length-append {A = ℕ}, length-replicate {A = ℕ}) in
    let ly : length (take 88 x ++ (v ++ drop 32 (drop 88 x))) ≡ 120 = omega (arith, lx, c.copy_from_slice.ensures.len, length-append {A = ℕ}, length-take {A = ℕ}, length-drop {A = ℕ}) in
    omega (arith, ly)

pub returns-clause-record : goal.returns-clause-record
returns-clause-record c =
    let x = c.first_bytes-bytes.result in
    let r = record_of c.args.cell c.args.found.now c.args.acknowledged.0 in
    let w = c.copy_from_slice-2.new.self in
    let v = c.copy_from_slice.new.self in
    let z : List ℕ = replicate (MAX_RECORD_BYTES - length r) 0 in
    let lz : length z ≡ 40 = omega (arith, c.first_bytes-bytes.ensures.size, length-replicate {A = ℕ}) in
    let parts : x ≡ r ++ (take 8 z ++ drop 8 z) = rw (take-append-drop 8 z) c.first_bytes-bytes.ensures.record in
    let all = written r (take 8 z) (drop 8 z) v w x parts c.first_bytes-bytes.ensures.size (omega (arith, lz, length-take 8 z)) (omega (arith, lz, length-drop 8 z)) in
    let we : w ≡ word_bytes (is_value c.args.old) = cc in
    let ve : v ≡ reply_bytes c.args.old = cc in
    let lx : length x ≡ 120 = omega (arith, ap length parts, c.first_bytes-bytes.ensures.size, lz, ap length (take-append-drop 8 z), length-append {A = ℕ}) in
    let lv : length v ≡ 32 = omega (arith, lx, c.copy_from_slice.ensures.len, length-take {A = ℕ}, length-drop {A = ℕ}) in
    let same : padded (r ++ (w ++ v)) ≡ padded (record_with_old c.args.cell c.args.found.now c.args.acknowledged.0 c.args.old) = rw (we, ve) refl in
    all ∙ whole r w v c.first_bytes-bytes.ensures.size (ap length we) lv ∙ same
