use Rattle.std.proofs.Common.{◌≡◌, ◌++◌, ◌+◌, length, map, ℕ, List, [], ◌∷◌, ap, sym, ◌∙◌, arith, Vec, Global, length-append, subst}
use Rattle.std.proofs.lemmas.List.{map_push}
use Rattle.pb_log.specs.Records.{block, blocks, AreShort}
use Rattle.pb_log.proofs.Blocks.{blocks-push, short-push, length-block, length-blocks-push}
use Rattle.pb_log.proofs.reading.read_records.Goals as goal

pub loop-preserved : goal.loop-preserved
loop-preserved c =
    let xs = map (λ (v : Vec ℕ Global). v.items) c.loop.records.items in
    let item = c.in-Some.item.now in let rest = c.in-Some.more.now in let at = c.loop.taken in
    let front : c.loop.rest.now ≡ block at item ++ rest = c.in-Some.ensures.some in
    let same : c.in_ok-to_vec.field-0.items ≡ item = c.in_ok-to_vec.ensures.items_if_clones_equal (λ x y e. e) in
    let more : map (λ (v : Vec ℕ Global). v.items) c.push.new.self.items ≡ xs ++ item ∷ [] =
    ap (λ (l : List (Vec ℕ Global)). map (λ (v : Vec ℕ Global). v.items) l) c.in_ok-push.ensures.items ∙ map_push (λ (v : Vec ℕ Global). v.items) c.loop.records.items c.in_ok-to_vec.field-0 ∙ ap (λ (l : List ℕ). xs ++ l ∷ []) same in
    let here : at ≡ 0 + length (blocks 0 xs) = omega (arith, c.loop.invariant.place) in
    record {
      whole = c.loop.invariant.whole ∙ ap (λ (l : List ℕ). blocks 0 xs ++ l) front ∙ sym (blocks-push xs item rest 0 at here) ∙ ap (λ (l : List (List ℕ)). blocks 0 l ++ rest) (sym more);
      shorts = subst AreShort (sym more) (short-push xs item c.loop.invariant.shorts c.in-Some.ensures.short);
      fewer = omega (arith, c.loop.invariant.fewer, ap length front, length-append (block at item) rest, length-block at item);
      place = omega (arith, c.loop.invariant.place, ap (λ (l : List (List ℕ)). length (blocks 0 l)) more, length-blocks-push xs item);
    }
