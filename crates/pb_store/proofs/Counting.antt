-- Entries counted over tablets one after another.
use Rattle.std.proofs.Common.{◌≡◌, ℕ, ◌+◌, ◌-◌, ◌<◌, ◌≤◌, List, [], ◌∷◌, ◌++◌, refl, sym, ap, ◌∙◌, arith, zero, suc, length, drop, get_or, slice_get}
use Rattle.std.proofs.lemmas.List.{at_drop_more}
use Rattle.std.specs.FinMap as map
use Rattle.pb_store.specs.Words.{Row}
use Rattle.pb_store.specs.Contents.{Contents}
use Rattle.pb_store.specs.Tiles.{tiles_of, all_entries}

slice_get-front : {X : Type 0} (xs ys : List X) (n : ℕ) → n < length xs → slice_get (xs ++ ys) n ≡ slice_get xs n
slice_get-front [] ys n lt = absurd (omega arith)
slice_get-front (x ∷ xs) ys zero lt = refl
slice_get-front (x ∷ xs) ys (suc n) lt = slice_get-front xs ys n (omega arith)

slice_get-back : {X : Type 0} (xs ys : List X) (n : ℕ) → length xs ≤ n → slice_get (xs ++ ys) n ≡ slice_get ys (n - length xs)
slice_get-back [] ys n le = ap (slice_get ys) (omega arith)
slice_get-back (x ∷ xs) ys zero le = absurd (omega arith)
slice_get-back (x ∷ xs) ys (suc n) le = slice_get-back xs ys n (omega arith) ∙ ap (slice_get ys) (omega arith)

-- what is left after i tablets, from its entry n on
module _ {T : Type 0} (c : T → Contents) (parts : List (Row × T)) (i n : ℕ) (p : Row × T) (lt : i < length parts) (e : p ≡ get_or parts i p) where
  opened : slice_get (all_entries (tiles_of c (drop i parts))) n ≡ slice_get (map.entries (c p.1).entries ++ all_entries (tiles_of c (drop (i + 1) parts))) n
  opened = at_drop_more (λ ps. slice_get (all_entries (tiles_of c ps)) n) parts i p lt
      ∙ ap (λ (q : Row × T). slice_get (map.entries (c q.1).entries ++ all_entries (tiles_of c (drop (i + 1) parts))) n) (sym e)

  pub counted_here : n < map.len (c p.1).entries → slice_get (all_entries (tiles_of c (drop i parts))) n ≡ slice_get (map.entries (c p.1).entries) n
  counted_here small = let size = map.len-entries (c p.1).entries in opened ∙ slice_get-front _ _ n (omega (arith, size))

  pub counted_later : map.len (c p.1).entries ≤ n → slice_get (all_entries (tiles_of c (drop i parts))) n ≡ slice_get (all_entries (tiles_of c (drop (i + 1) parts))) (n - map.len (c p.1).entries)
  counted_later large = let size = map.len-entries (c p.1).entries in
      opened ∙ slice_get-back (map.entries (c p.1).entries) _ n (omega (arith, size)) ∙ ap (λ k. slice_get (all_entries (tiles_of c (drop (i + 1) parts))) (n - k)) (sym size)
