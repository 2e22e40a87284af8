use Rattle.std.proofs.Common.{◌++◌, List, ℕ, Some, sym, ap, subst, ◌∙◌, arith}
use Rattle.std.proofs.lemmas.Bool.Decides.{Decides-eqb}
use Rattle.std.proofs.lemmas.Slice.Eq.{strip_prefix_is}
use Rattle.pb_snapshots.specs.Snapshot.{number_bytes, snapshot_magic}
use Rattle.pb_snapshots.proofs.Fields.{IsBytes, number_takes, bytes-drop}
use Rattle.pb_snapshots.proofs.reading.split_head.Goals as goal

pub returns-clause-some : goal.returns-clause-some
returns-clause-some c =
    let front = strip_prefix_is Decides-eqb c.args.bytes.now snapshot_magic (Some c.in_ok-rest.rest) c.in_ok-rest.ensures.cases in
    let all : IsBytes c.args.bytes.now = λ i. omega (arith, c.type_inv.bytes i) in
    let fits : IsBytes c.in_ok-rest.rest.now = subst IsBytes (sym c.in_ok-rest.ensures.cases.1) (bytes-drop 12 c.args.bytes.now all) in
    let clock = number_takes c.in_ok-rest.rest.now c.in_ok-clock.clock c.in_ok-clock.rest.now fits (sym c.in_ok-clock.ensures) in
    let count = number_takes c.in_ok-clock.rest.now c.in_ok-count.count c.in_ok-count.rest.now clock.0.rest_fits (sym c.in_ok-count.ensures) in
    front ∙ ap (λ (x : List ℕ). snapshot_magic ++ x) (clock.0.parts ∙ ap (λ (x : List ℕ). number_bytes c.in_ok-clock.clock ++ x) count.0.parts)
