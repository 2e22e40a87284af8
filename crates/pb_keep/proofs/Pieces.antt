-- A line of an input, as its pieces come.
use Rattle.std.proofs.Common.{◌≡◌, ℕ, ◌+◌, ◌<◌, Bool, true, false, not, ltb, cond, eqb-true, one-add, List, [], ◌∷◌, ◌++◌, ◌||◌, length, take, Option, None, Some, Result, Ok, refl, ap, ap₂, sym, subst, ◌∙◌, arith, append_assoc}
use Rattle.std.specs.List.{list_any, position, position_or_len}
use Rattle.std.specs.Io.KnownBytes.{Consumes}
use Rattle.std.proofs.lemmas.List.{take_more}
use Rattle.std.proofs.lemmas.List.Folds.{list_any-append}
use Rattle.std.proofs.lemmas.List.Sums.{prefix_len_stops, prefix_len-le-length}
use Rattle.std.proofs.lemmas.Bool.{ltb-true, ltb-false}
use Rattle.std.proofs.lemmas.Option.{cond_some, none-some}
use Rattle.std.proofs.KnownBytes.{Consumes-trans}
use Rattle.pb_requests.specs.declared.parse.TheConstants.{MAX_LINE}
use Rattle.pb_keep.specs.declared.lines.Line.{Line}
use Rattle.pb_keep.specs.declared.lines.Piece.{Piece}
use Rattle.pb_keep.specs.declared.source.InputFault.{InputFault}
use Rattle.pb_keep.specs.Input.{is_newline, is_of_reader, HasNoNewline, IsNextLine, IsLineRead, IsReadSoFar, TakesPiece}

-- ---- the front of a buffer

-- what stands before the first newline has none
pub before_newline : (bytes : List ℕ) → HasNoNewline (take (position_or_len is_newline bytes) bytes)
before_newline [] = refl
before_newline (b ∷ bs) = by_case (before_newline bs) (is_newline b) refl
  where
    by_case : HasNoNewline (take (position_or_len is_newline bs) bs) → (t : Bool) → is_newline b ≡ t → HasNoNewline (take (cond (not t) (1 + position_or_len is_newline bs) 0) (b ∷ bs))
    by_case rest true is = refl
    by_case rest false is = rw one-add (ap (λ t. t || list_any is_newline (take (position_or_len is_newline bs) bs)) is ∙ rest)

-- up to the newline and with it
pub through_newline : (bytes : List ℕ) → position_or_len is_newline bytes < length bytes
    → take (position_or_len is_newline bytes + 1) bytes ≡ take (position_or_len is_newline bytes) bytes ++ 10 ∷ []
through_newline bytes has =
    let at = position_or_len is_newline bytes in
    take_more bytes at 0 has ∙ ap (λ b. take at bytes ++ b ∷ []) (eqb-true _ _ (is_true _ (prefix_len_stops (λ b. not (is_newline b)) bytes 0 has)))
  where
    is_true : (t : Bool) → not t ≡ false → t ≡ true
    is_true true is = refl
    is_true false is = sym is

-- where the first newline stands
pub place_of_newline : (found : Option ℕ) (bytes : List ℕ) (place : ℕ) → found ≡ position is_newline bytes → found ≡ Some place → place ≡ position_or_len is_newline bytes
place_of_newline found bytes place is some = sym (cond_some _ _ _ (sym is ∙ some)).1

-- without one, the whole is before it
pub no_newline : (found : Option ℕ) (bytes : List ℕ) → found ≡ position is_newline bytes → found ≡ None → length bytes ≡ position_or_len is_newline bytes
no_newline found bytes is none = by_case (ltb at (length bytes)) refl
  where
    at : ℕ
    at = position_or_len is_newline bytes

    by_case : (t : Bool) → ltb at (length bytes) ≡ t → length bytes ≡ at
    by_case true has = absurd (none-some at (sym none ∙ is ∙ ap (λ t. cond t (Some at) None) has))
    by_case false has_not = omega (arith, ltb-false at (length bytes) has_not, prefix_len-le-length (λ b. not (is_newline b)) bytes)

-- ---- a line as its pieces come

-- bytes of one line, and more of it
of_one_line : (front more : List ℕ) → HasNoNewline front → HasNoNewline more → HasNoNewline (front ++ more)
of_one_line front more p q = list_any-append is_newline front more ∙ ap₂ (λ a b. a || b) p q

module _ (old mid new : Option (List ℕ)) (before after : List ℕ) (was_long is_long : Bool) (so_far : IsReadSoFar old mid before was_long) where
  -- with a part of the line it is still its front
  pub with_part : TakesPiece Piece.Part mid new before was_long after is_long → IsReadSoFar old new after is_long
  with_part took = record {
    front = so_far.front ++ took.bytes;
    of_line = of_one_line so_far.front took.bytes so_far.of_line took.of_line;
    read = Consumes-trans old mid new so_far.front took.bytes so_far.read took.taken;
    held = took.held so_far.front so_far.held;
  }

  -- with the last piece it is the line
  pub with_last : TakesPiece Piece.Last mid new before was_long after is_long → is_long ≡ true → IsLineRead Line.TooLong after old new
  with_last took too_long =
      let line = so_far.front ++ took.bytes in
      let held = took.held so_far.front so_far.held in
      let next : IsNextLine line old new = record {
        whole = of_one_line so_far.front took.bytes so_far.of_line took.of_line;
        read = subst (Consumes old new) (sym (append_assoc so_far.front took.bytes (10 ∷ []))) (Consumes-trans old mid new so_far.front (took.bytes ++ 10 ∷ []) so_far.read took.taken);
      } in
      (held.kept ∙ ap (λ t. cond t [] line) too_long, line, ltb-true MAX_LINE (length line) (sym held.long ∙ too_long), next)

-- ---- whether a read failed

or_false : (b : Bool) → (b || false) ≡ b
or_false true = refl
or_false false = refl

-- after a piece that was read no other read has failed than before
pub read_on : {T : Type 0} (was now : Bool) (result : Result T InputFault) (piece : T) → result ≡ Ok piece → now ≡ (was || is_of_reader result) → now ≡ was
read_on was now result piece is fails = fails ∙ ap (λ r. was || is_of_reader r) is ∙ or_false was
