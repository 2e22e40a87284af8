use Rattle.std.proofs.Common.{◌≡◌, ◌+◌, List, ◌∷◌, ◌∙◌, length, sym, ap, arith}
use Rattle.std.proofs.lemmas.List.{length_push}
use Rattle.std.specs.FinMap as map
use Rattle.pb_answers.specs.Words.{Slot, Item}
use Rattle.pb_state.proofs.EntryWalks.{first_and_rest, rest_shorter, none_left}
use Rattle.pb_answers.proofs.Counting.{units_counted}
use Rattle.pb_answers.proofs.stats.count_entries.Goals as goal

-- the rest has one entry less
one_less : (xs ys : List (Slot × Item)) (x : Slot × Item) → xs ≡ x ∷ ys → length xs ≡ length ys + 1
one_less xs ys x is = let more = ap length is in omega (arith, more)

pub loop-slot-init : goal.loop-slot-init
loop-slot-init g c =
    let none = ap length c.new-walked.ensures.items in
    let all = map.len-entries c.args.table.now.contents.entries in
    omega (arith, none, all)

pub loop-slot-smaller : goal.loop-slot-smaller
loop-slot-smaller g c = rest_shorter _ _ _ (first_and_rest _ _ _ (sym c.in-Some.is ∙ c.next_entry.ensures.entry) c.in-Some.ensures.rest)

pub loop-slot-preserved : goal.loop-slot-preserved
loop-slot-preserved g c =
    let is = one_less _ _ _ (first_and_rest _ _ _ (sym c.in-Some.is ∙ c.next_entry.ensures.entry) c.in-Some.ensures.rest) in
    let unit = ap length c.in_ok-push.ensures.items ∙ length_push c.loop-slot.walked.items tt in
    let so = c.loop-slot.invariant in
    omega (arith, is, unit, so)

pub returns : goal.returns
returns g c =
    let none = ap length (none_left _ (sym c.in_default.is ∙ c.next_entry.ensures.entry)) in
    let so = c.loop-slot.invariant in
    units_counted c.loop-slot.walked _ c.len.ensures ∙ omega (arith, none, so)
