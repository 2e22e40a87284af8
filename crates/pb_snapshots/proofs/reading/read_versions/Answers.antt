use Rattle.std.proofs.Common.{◌≡◌, ◌++◌, ◌∷◌, ◌<◌, [], length, subst, sym, ap, ◌∙◌, arith, length-append}
use Rattle.std.specs.List.{AllByRecursion}
use Rattle.pb_snapshots.specs.Snapshot.{version_bytes, FitsVersion}
use Rattle.pb_snapshots.proofs.Versions.{version_takes}
use Rattle.pb_snapshots.proofs.Lists.{versions_stuck, recursion_push, one_more}
use Rattle.pb_snapshots.proofs.reading.read_versions.Goals as goal

pub returns-in_default-clause-none : goal.returns-in_default-clause-none
returns-in_default-clause-none c ys fits same =
    let all = c.loop.versions.items in
    let some : 0 < length c.loop.rest.now = grind (arith, c.is_empty.ensures, c.if-is_empty.false) in
    versions_stuck all ys c.loop.rest.now some (sym c.in_default.ensures) c.loop.invariant.fits fits (sym c.loop.invariant.whole ∙ same)

pub loop-preserved : goal.loop-preserved
loop-preserved c =
    let all = c.loop.versions.items in
    let x = c.in-Some.version in
    let more : c.push.new.self.items ≡ all ++ x ∷ [] = c.in_ok-push.ensures.items in
    let took = version_takes c.loop.rest.now (x, c.in-Some.more.now) c.loop.invariant.rest (sym c.in-Some.ensures) in
    record {
      whole = one_more version_bytes all x c.push.new.self.items c.args.bytes.now c.loop.rest.now c.in-Some.more.now more c.loop.invariant.whole took.0.parts;
      fits = subst (AllByRecursion FitsVersion) (sym more) (recursion_push FitsVersion all x c.loop.invariant.fits took.1);
      rest = took.0.rest_fits;
      fewer = omega (arith, c.loop.invariant.fewer, ap length took.0.parts, length-append (version_bytes x) c.in-Some.more.now);
    }
