-- No cell is named twice exactly where no two writes are to one cell.
use Rattle.std.proofs.Common.{◌≡◌, ◌≢◌, ◌↔◌, suc, true, [], ◌∷◌, refl, arith, is_none}
use Rattle.std.specs.List.{AllByRecursion, AllPairs}
use Rattle.std.specs.Ordering.{eq_by_cmp}
use Rattle.std.proofs.lemmas.Bool.{and_parts, false_from_ne_true}
use Rattle.std.proofs.lemmas.List.Elements.{All-from_recursion, recursion_from_All}
use Rattle.std.proofs.lemmas.List.Kept.{AllPairs-cons}
use Rattle.std.proofs.lemmas.Map.Views.{tells_apart}
use Rattle.law_texts.specs.Words.{Cell, Content, cell_cmp, Writes, content_in, are_distinct}
use Rattle.pb_sound.proofs.RunWrites.{lacks_first as none_in}
use Rattle.pb_base.proofs.SameCells.{same_cells as ties}

-- two writes to different cells
abbrev AreApart : Cell × Content → Cell × Content → Type 0
AreApart v w = v.0 ≢ w.0

-- so all its writes are to others
others : (ws : Writes) (w : Cell × Content) → is_none (content_in ws w.0) ≡ true → AllByRecursion (AreApart w) ws
others [] w h = tt
others (v ∷ vs) w h =
    let p = none_in (eq_by_cmp cell_cmp w.0 v.0) v.1 (content_in vs w.0) h in
    (λ e. let t = ties w.0 v.0 e in absurd cc, others vs w p.1)

-- and back: where all writes are to others there is nothing for the cell
none_of_others : (ws : Writes) (w : Cell × Content) → AllByRecursion (AreApart w) ws → is_none (content_in ws w.0) ≡ true
none_of_others [] w h = refl
none_of_others (v ∷ vs) w h = grind (arith, false_from_ne_true, tells_apart, none_of_others vs w h.1)

-- distinct writes are apart, two by two
are_apart : (ws : Writes) → are_distinct ws ≡ true → AllPairs AreApart ws
are_apart [] h = λ i j d lt less. absurd (omega (arith, less))
are_apart (w ∷ ws) h =
    let p = and_parts (is_none (content_in ws w.0)) (are_distinct ws) h in
    AllPairs-cons AreApart w ws (All-from_recursion (AreApart w) ws (others ws w p.0)) (are_apart ws p.1)

-- and writes that are apart are distinct
distinct_back : (ws : Writes) → AllPairs AreApart ws → are_distinct ws ≡ true
distinct_back [] h = refl
distinct_back (w ∷ ws) h =
    let first : AllByRecursion (AreApart w) ws = recursion_from_All (AreApart w) ws (λ k d lt. h 0 (suc k) d (omega arith) (omega (arith, lt))) in
    let rest : AllPairs AreApart ws = λ i j d lt less. h (suc i) (suc j) d (omega (arith, lt)) (omega (arith, less)) in
    rw (none_of_others ws w first) (distinct_back ws rest)

-- both, as the format says it
pub distinct_is : (ws : Writes) → (are_distinct ws ≡ true) ↔ AllPairs (λ v w. v.0 ≢ w.0) ws
distinct_is ws = (are_apart ws, distinct_back ws)
