use Rattle.std.proofs.Common.{◌≡◌, ◌<◌, ◌-◌, ℕ, List, IsTrue, inl, length, take, drop, map, ap, sym, ◌∙◌, arith, Vec, Global}
use Rattle.pb_log.specs.Records.{EndsShut}
use Rattle.pb_log.proofs.ReadableFiles.{whole_rest, found_sound, found_damaged}
use Rattle.pb_log.proofs.recovery.find_records.Goals as goal

pub returns-then-not-ends_shut-clause-cause : goal.returns-then-not-ends_shut-clause-cause
returns-then-not-ends_shut-clause-cause g c clean =
    let file = g.D.Disk.seen c.args.disk.now in
    let bytes = c.deref.result.now in
    let end = c.in_ok-records.end in
    let again = c.deref-2.result.now in
    let rest = take (length again - end) (drop end again) in
    let read : bytes ≡ file = c.deref.ensures.value ∙ c.in_ok-bytes.ensures.bytes clean in
    let some : 1 < length bytes = omega (arith, c.if-len-le1.false, c.len.ensures, c.deref.ensures.len) in
    let open_end : EndsShut end rest → ⊥ = λ (s : EndsShut end rest). let shut : IsTrue c.ends_shut.result = c.ends_shut.ensures.1 s in grind (arith, c.if-not-ends_shut.true, shut) in
    found_damaged file bytes (map (λ (v : Vec ℕ Global). v.items) c.in_ok-records.records.items) end read c.in_ok-records.ensures.records c.in_ok-records.ensures.end rest (whole_rest again end ∙ ap (λ (x : List ℕ). drop end x) (c.deref-2.ensures.value ∙ sym c.deref.ensures.value)) some open_end

pub returns-clause-records : goal.returns-clause-records
returns-clause-records g c clean =
    let file = g.D.Disk.seen c.args.disk.now in
    let end = c.in_ok-records.end in
    let again = c.deref-2.result.now in
    let rest = take (length again - end) (drop end again) in
    let read : c.deref.result.now ≡ file = c.deref.ensures.value ∙ c.in_ok-bytes.ensures.bytes clean in
    let shut : IsTrue c.ends_shut.result = grind (arith, c.if-not-ends_shut.false) in
    inl (found_sound file c.deref.result.now (map (λ (v : Vec ℕ Global). v.items) c.in_ok-records.records.items) end read c.in_ok-records.ensures.records c.in_ok-records.ensures.end rest (whole_rest again end ∙ ap (λ (x : List ℕ). drop end x) (c.deref-2.ensures.value ∙ sym c.deref.ensures.value)) (c.ends_shut.ensures.0 shut))
