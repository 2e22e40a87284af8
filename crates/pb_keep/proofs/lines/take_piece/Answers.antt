use Rattle.std.proofs.Common.{ℕ, List, ◌≡◌, ◌+◌, ◌<◌, ◌≤◌, not, length, take, sym, ◌∙◌, subst, arith, ◌++◌, ◌∷◌, []}
use Rattle.std.specs.Io.KnownBytes.{Consumes}
use Rattle.std.specs.Io.BufRead.{FillKeeps}
use Rattle.std.proofs.BufReadLemmas.{Consumes_shown}
use Rattle.std.proofs.lemmas.Bool.{ltb-true}
use Rattle.std.proofs.lemmas.List.Sums.{prefix_len-le-length}
use Rattle.std.specs.List.{position_or_len}
use Rattle.pb_keep.specs.Input.{is_newline, HasNoNewline}
use Rattle.pb_keep.proofs.Pieces.{before_newline, through_newline}
use Rattle.pb_keep.proofs.lines.take_piece.Goals as goal

up_to_newline : (bytes : List ℕ) (count : ℕ) → count ≡ position_or_len is_newline bytes → count < length bytes → take (count + 1) bytes ≡ take count bytes ++ 10 ∷ []
up_to_newline bytes count is has = rw is (through_newline bytes (subst (λ n. n < length bytes) is has))

pub returns-then-is_whole-clause-took : goal.returns-then-is_whole-clause-took
returns-then-is_whole-clause-took g c =
    let shown = c.in_ok-bytes.bytes.now in
    let count = c.front_of-count.result.0 in
    let rested = c.fill_buf.follows.lender-at-none in
    let filled = subst (FillKeeps _ (g.I.Read.remaining rested) (g.I.BufRead.consumable_len rested)) c.in_ok-bytes.was c.fill_buf.follows.holds-at-none in
    let has : count < length shown = ltb-true count (length shown) (sym c.front_of-count.ensures.whole ∙ c.if-is_whole.true) in
    let moved = Consumes_shown _ _ _ _ shown (count + 1) (omega arith) c.in_ok-bytes.ensures.front c.in_ok-bytes.ensures.end filled.0 filled.1 c.consume.ensures.bytes in
    record {
      bytes = take count shown;
      of_line = subst (λ n. HasNoNewline (take n shown)) (sym c.front_of-count.ensures.count) (before_newline shown);
      taken = subst (Consumes _ _) (up_to_newline shown count c.front_of-count.ensures.count has) moved.0;
      held = c.in_ok-add_bytes.ensures.held;
    }

pub returns-clause-took : goal.returns-clause-took
returns-clause-took g c =
    let shown = c.in_ok-bytes.bytes.now in
    let count = c.front_of-count.result.0 in
    let rested = c.fill_buf.follows.lender-at-none in
    let filled = subst (FillKeeps _ (g.I.Read.remaining rested) (g.I.BufRead.consumable_len rested)) c.in_ok-bytes.was c.fill_buf.follows.holds-at-none in
    let within : count ≤ length shown = omega (arith, c.front_of-count.ensures.count, prefix_len-le-length (λ b. not (is_newline b)) shown) in
    let moved = Consumes_shown _ _ _ _ shown count within c.in_ok-bytes.ensures.front c.in_ok-bytes.ensures.end filled.0 filled.1 c.consume-2.ensures.bytes in
    record {
      bytes = take count shown;
      of_line = subst (λ n. HasNoNewline (take n shown)) (sym c.front_of-count.ensures.count) (before_newline shown);
      taken = moved.0;
      held = c.in_ok-add_bytes.ensures.held;
    }
