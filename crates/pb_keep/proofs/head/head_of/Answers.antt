use Rattle.std.proofs.Common.{arith, ◌≡◌, ◌+◌, ◌≤◌, ◌∷◌, ◌++◌, codes, decimal, length, subst, sym, ◌∙◌}
use Rattle.std.proofs.lemmas.List.{append_assoc}
use Rattle.pb_keep.proofs.Heads.{head_few, limit_line, no_limit}
use Rattle.pb_keep.proofs.head.head_of.Goals as goal

pub returns-then-limit-clause-exact : goal.returns-then-limit-clause-exact
returns-then-limit-clause-exact c = grind (arith, no_limit, c.in_ok-to_vec.ensures.ok, c.if-limit.true)

pub returns-clause-exact : goal.returns-clause-exact
returns-clause-exact c =
    let line = limit_line c.args.limit c.args.manifest.now (grind (arith, c.if-limit.false)) in
    let text : c.extend_from_slice.new.self.items ≡ codes "limit " ++ (decimal c.args.limit ++ (10 ∷ c.args.manifest.now)) = grind (arith, append_assoc, c.in_ok-extend_from_slice.ensures.items, c.into_bytes-bytes.ensures.value, c.in_ok-format.ensures.ok) in
    text ∙ line

pub returns-clause-short : goal.returns-clause-short
returns-clause-short c = subst (λ l. length l ≤ length c.args.manifest.now + 27) (sym (returns-clause-exact c)) (head_few c.args.limit c.args.manifest.now c.ranges.limit.fits)
