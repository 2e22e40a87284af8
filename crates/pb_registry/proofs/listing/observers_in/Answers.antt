use Rattle.std.proofs.Common.{rules, ◌≡◌, sym, ap}
use Rattle.pb_registry.specs.Observers.{observers_of}
use Rattle.pb_registry.specs.Judging.{fault_at}
use Rattle.pb_registry.proofs.FirstFault.{no_observers, one_more_observer, told_fault}
use Rattle.pb_registry.proofs.listing.observers_in.Goals as goal

pub loop-place-init : goal.loop-place-init
loop-place-init c = no_observers c.args.profile (observers_of c.new-observers.result.entries) (ap observers_of c.new-observers.ensures.empty)

pub returns-in-Err : goal.returns-in-Err
returns-in-Err c =
    let told : c.fault_at.result ≡ fault_at c.loop-place.place c.in-Err.code = search rules in
    record {
      ok = tt;
      err = told_fault c.args.profile c.args.elements.now c.loop-place.place c.index-elements-place.result c.loop-place-test.true (sym c.index-elements-place.is) (observers_of c.loop-place.observers.entries) c.loop-place.invariant c.in-Err.code c.fault_at.result told c.in-Err.ensures.err;
    }

pub loop-place-preserved : goal.loop-place-preserved
loop-place-preserved c = one_more_observer c.args.profile c.args.elements.now c.loop-place.place c.index-elements-place.result c.loop-place-test.true (sym c.index-elements-place.is) (observers_of c.loop-place.observers.entries) c.loop-place.invariant (observers_of c.add_observer.new.observers.entries) c.in_default.ensures.more c.in_default.ensures.apart
