-- A report that a page took.
use Rattle.std.proofs.Common.{◌≡◌, ℕ, Bool, List, [], Some, Ok}
use Rattle.pb_driver.specs.Replays.{ReplaysTexts}
use Rattle.pb_api.specs.Replays.{took}

-- a page that was empty has the whole report, in the words of what a sink took
pub report_taken : (places clock : ℕ) (manifest script schedule before after : List ℕ) (failed : Bool) → places ≡ 1 → before ≡ []
    → ReplaysTexts places clock manifest script schedule (record { before = Some before; after = Some after; failed = failed }) (Ok tt)
    → ReplaysTexts 1 clock manifest script schedule (took after) (Ok tt)
report_taken places clock manifest script schedule before after failed one empty h =
    let unfailed = h.ends.wrote.taken.1 in
    rw (one, empty, unfailed) at h
