-- What stands where in a change record: the table of docs/MACHINE.md, by which observers are written. The record itself is
-- defined as its parts one after the other, so that a part of another length would move all that follow.
use Rattle.std.specs.Prelude.{◌≡◌, ℕ, ◌<◌, ◌^◌, List, replicate, take, drop, length, Some, None, IfSome}
use Rattle.law_programs.specs.Words.{Cell, Content, Revision, row_of, column_of, Reply, record_of, word_at, record_with_old}

-- 32 bytes from a place on
abbrev pub value_at : List ℕ → ℕ → List ℕ
value_at bytes n = take 32 (drop n bytes)

-- zeros in place of a value
abbrev pub HasNoValue : List ℕ → ℕ → ℕ → Type 0
HasNoValue bytes flag n = (word_at bytes flag ≡ 0) × (value_at bytes n ≡ replicate 32 0)

-- 1 at the flag's place and the value at its own, or 0 and zeros
abbrev pub HasContent : List ℕ → Content → Type 0
HasContent bytes (Content.Value v) = (word_at bytes 32 ≡ 1) × (value_at bytes 48 ≡ v)
HasContent bytes Content.Deleted = HasNoValue bytes 32 48
HasContent bytes (Content.Stamp t) = HasNoValue bytes 32 48

-- the old value, or that there was none, after the first 80 bytes
abbrev pub HasOld : List ℕ → Reply → Type 0
HasOld bytes (Some v) = (word_at bytes 80 ≡ 1) × (value_at bytes 88 ≡ v)
HasOld bytes None = HasNoValue bytes 80 88

-- of a version of cell x, for an observer that has acknowledged up to a
pub record HasParts (bytes : List ℕ) (x : Cell) (found : Revision) (a : ℕ) : Type 0 where
  pub row : word_at bytes 0 ≡ (row_of x).0
  pub column : word_at bytes 8 ≡ column_of x
  pub start : word_at bytes 16 ≡ found.start.0
  pub commit : word_at bytes 24 ≡ found.commit.0
  pub content : HasContent bytes found.content
  pub acknowledged : word_at bytes 40 ≡ a

-- a value has 32 bytes
abbrev pub HasValueSize : Content → Type 0
HasValueSize (Content.Value v) = length v ≡ 32
HasValueSize Content.Deleted = Unit {0}
HasValueSize (Content.Stamp t) = Unit {0}

-- the numbers have 64 bits, and a value 32 bytes
pub record FitsRecord (x : Cell) (found : Revision) (a : ℕ) : Type 0 where
  pub row : (row_of x).0 < 2 ^ 64
  pub column : column_of x < 2 ^ 64
  pub start : found.start.0 < 2 ^ 64
  pub commit : found.commit.0 < 2 ^ 64
  pub content : HasValueSize found.content
  pub acknowledged : a < 2 ^ 64

-- a record of version 1, and one of version 2, which has 40 bytes more
pub record AreRecords (x : Cell) (found : Revision) (a : ℕ) (old : Reply) : Type 0 where
  pub first_size : length (record_of x found a) ≡ 80
  pub first : HasParts (record_of x found a) x found a
  pub second_size : length (record_with_old x found a old) ≡ 120
  pub second : HasParts (record_with_old x found a old) x found a
  pub told : HasOld (record_with_old x found a old) old

-- of every cell, version and acknowledgment whose numbers have 64 bits
abbrev pub RecordsHaveParts : Type 0
RecordsHaveParts =
    (x : Cell) (found : Revision) (a : ℕ) (old : Reply) → FitsRecord x found a → IfSome old (λ v. length v ≡ 32) →
    AreRecords x found a old
