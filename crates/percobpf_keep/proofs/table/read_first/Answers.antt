use Rattle.std.proofs.Common.{◌≡◌, ◌++◌, ℕ, List, [], Option, None, Some, IfSome, ap, option_map, subst, take, ◌∙◌}
use Rattle.percobpf_keep.proofs.table.read_first.Goals as goal

-- the bytes up to a limit, put after none
first_of : (o : Option (List ℕ)) (n m : ℕ) (old new : List ℕ) → n ≡ m → old ≡ [] → IfSome (option_map (take n) o) (λ xs. new ≡ old ++ xs) → IfSome o (λ all. new ≡ take m all)
first_of None n m old new e none h = tt
first_of (Some all) n m old new e none h = h ∙ ap (λ l. l ++ take n all) none ∙ ap (λ k. take k all) e

pub returns : goal.returns
returns g c =
    let old = c.new-bytes.result.items in
    let new = c.read_to_end.new.buf.items in
    let limit = c.take.result.limit in
    let read = subst (λ r. IfSome (option_map (take limit) (g.R.Read.remaining r)) (λ xs. new ≡ old ++ xs)) c.take.ensures.inner c.in_ok-read_to_end.ensures.bytes in
    first_of (g.R.Read.remaining c.args.reader) limit 16777217 old new c.take.ensures.limit c.new-bytes.ensures.items read
