use Rattle.std.proofs.Common.{◌≡◌, rules, tests}
use Rattle.std.proofs.lemmas.Iterator.{YieldsList-from_slice}
use Rattle.std.proofs.lemmas.Iterator.Search.{position_from_yields_List}
use Rattle.std.specs.List.{position}
use Rattle.pb_keep.specs.Input.{is_newline}
use Rattle.pb_keep.proofs.Pieces.{place_of_newline, no_newline}
use Rattle.pb_keep.proofs.lines.front_of.Goals as goal

pub returns-in-Some-clause-count : goal.returns-in-Some-clause-count
returns-in-Some-clause-count c =
    let found : c.position.result ≡ position is_newline c.args.bytes.now =
    position_from_yields_List is_newline _ _ c.position.result c.position.ensures.ran (YieldsList-from_slice c.args.bytes.now c.iter.ensures.rest) (λ x b q k. search (rules, tests)) in
    place_of_newline c.position.result c.args.bytes.now c.in-Some.place found c.in-Some.is

pub returns-in-None-clause-count : goal.returns-in-None-clause-count
returns-in-None-clause-count c =
    let found : c.position.result ≡ position is_newline c.args.bytes.now =
    position_from_yields_List is_newline _ _ c.position.result c.position.ensures.ran (YieldsList-from_slice c.args.bytes.now c.iter.ensures.rest) (λ x b q k. search (rules, tests)) in
    no_newline c.position.result c.args.bytes.now found c.in-None.is
