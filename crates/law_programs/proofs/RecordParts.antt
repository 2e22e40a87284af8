-- Where the parts of a change record stand.
use Rattle.std.proofs.Common.{◌≡◌, ℕ, ◌+◌, List, ◌++◌, length, take, drop, [], Some, None, refl, sym, ap, subst, ◌∙◌, arith, length-append, IfSome}
use Rattle.std.specs.Int.{from_le_bytes}
use mir.Syntax.{w64}
use Rattle.std.proofs.Math.Seq.{take-append_seam, drop-append-add}
use Rattle.std.proofs.lemmas.List.{append-nil}
use Rattle.std.proofs.lemmas.Nat.{from_le_bytes-to_le_bytes_8}
use Rattle.law_programs.specs.Words.{Cell, Content, Revision, row_of, column_of, Reply, reply_bytes, word_bytes, value_bytes, record_of, is_value, record_with_old}
use Rattle.law_programs.specs.RecordParts.{HasContent, HasOld, HasParts, HasValueSize, FitsRecord, AreRecords}

-- the first 32 bytes of a list that begins with so many
front : (v rest : List ℕ) → length v ≡ 32 → take 32 (v ++ rest) ≡ v
front v rest e = subst (λ n. take n (v ++ rest) ≡ v) e (take-append_seam v rest)

-- a value has 32 bytes, and so have the zeros in place of one
length-value : (c : Content) → HasValueSize c → length (value_bytes c) ≡ 32
length-value c h = grind arith

length-reply : (r : Reply) → IfSome r (λ v. length v ≡ 32) → length (reply_bytes r) ≡ 32
length-reply r h = grind arith

-- the value of a version, in its record with whatever follows
content_in : (x : Cell) (found : Revision) (a : ℕ) (rest : List ℕ) (c : Content) → found.content ≡ c → HasValueSize c → HasContent (record_of x found a ++ rest) c
content_in x found a rest c e h = subst (λ d. HasContent (record_of x (record found { content = d }) a ++ rest) c) (sym e) (of c h)
  where
    of : (c : Content) → HasValueSize c → HasContent (record_of x (record found { content = c }) a ++ rest) c
    of (Content.Value v) h = (from_le_bytes-to_le_bytes_8 1 (omega arith), front v rest h)
    of Content.Deleted h = (from_le_bytes-to_le_bytes_8 0 (omega arith), refl)
    of (Content.Stamp t) h = (from_le_bytes-to_le_bytes_8 0 (omega arith), refl)

-- the parts of a record, with whatever follows
parts : (x : Cell) (found : Revision) (a : ℕ) (rest : List ℕ) → FitsRecord x found a → HasParts (record_of x found a ++ rest) x found a
parts x found a rest fits = record {
  row = from_le_bytes-to_le_bytes_8 (row_of x).0 fits.row;
  column = from_le_bytes-to_le_bytes_8 (column_of x) fits.column;
  start = from_le_bytes-to_le_bytes_8 found.start.0 fits.start;
  commit = from_le_bytes-to_le_bytes_8 found.commit.0 fits.commit;
  content = content_in x found a rest found.content refl fits.content;
  acknowledged = from_le_bytes-to_le_bytes_8 a fits.acknowledged;
}

-- what follows the first record in the second
abbrev old_bytes : Reply → List ℕ
old_bytes old = word_bytes (is_value old) ++ reply_bytes old

-- what stands n bytes after the first 80
behind_first : (x : Cell) (found : Revision) (a n : ℕ) (rest : List ℕ) → FitsRecord x found a → drop (32 + n) (value_bytes found.content ++ rest) ≡ drop n rest
behind_first x found a n rest fits = subst (λ m. drop (m + n) (value_bytes found.content ++ rest) ≡ drop n rest) (length-value found.content fits.content) (drop-append-add (value_bytes found.content) rest n)

whole : (v : List ℕ) → length v ≡ 32 → take 32 v ≡ v
whole v e = ap (take 32) (sym (append-nil v)) ∙ front v [] e

-- the old value, after the first 80 bytes
old_in : (x : Cell) (found : Revision) (a : ℕ) (old : Reply) → FitsRecord x found a → IfSome old (λ v. length v ≡ 32) → HasOld (record_of x found a ++ old_bytes old) old
old_in x found a (Some v) fits h = (
  ap (λ bs. from_le_bytes w64 (take 8 bs)) (behind_first x found a 0 (old_bytes (Some v)) fits) ∙ from_le_bytes-to_le_bytes_8 1 (omega arith),
  ap (take 32) (behind_first x found a 8 (old_bytes (Some v)) fits) ∙ whole v h,
)
old_in x found a None fits h = (
  ap (λ bs. from_le_bytes w64 (take 8 bs)) (behind_first x found a 0 (old_bytes None) fits) ∙ from_le_bytes-to_le_bytes_8 0 (omega arith),
  ap (take 32) (behind_first x found a 8 (old_bytes None) fits),
)

-- a record of version 1 has 80 bytes
length-first : (x : Cell) (found : Revision) (a : ℕ) → FitsRecord x found a → length (record_of x found a) ≡ 80
length-first x found a fits = let e = length-value found.content fits.content in omega (arith, e)

-- one of version 2 has 120
length-second : (x : Cell) (found : Revision) (a : ℕ) (old : Reply) → FitsRecord x found a → IfSome old (λ v. length v ≡ 32) → length (record_with_old x found a old) ≡ 120
length-second x found a old fits h =
    let e = length-first x found a fits in
    let d = length-reply old h in
    simp length-append (omega arith)

-- records of both versions, part by part
pub have_parts : (x : Cell) (found : Revision) (a : ℕ) (old : Reply) → FitsRecord x found a → IfSome old (λ v. length v ≡ 32) → AreRecords x found a old
have_parts x found a old fits h = record {
  first_size = length-first x found a fits;
  first = subst (λ bs. HasParts bs x found a) (append-nil (record_of x found a)) (parts x found a [] fits);
  second_size = length-second x found a old fits h;
  second = parts x found a (old_bytes old) fits;
  told = old_in x found a old fits h;
}
