-- A record's size shows its version.
use Rattle.std.proofs.Common.{arith, ◌≡◌, ap, sym, ◌∙◌, nat_eq}
use Rattle.pb_isa.specs.declared.limits.TheConstants.{MAX_RECORD_BYTES}
use Rattle.pb_helpers.specs.declared.change.Version.{Version}
use Rattle.pb_helpers.specs.Bytes.{size_of, is_second}
use Rattle.pb_isa.specs.Programs.{JudgedOf}
use Rattle.pb_helpers.specs.OldRecord.{tells_old}

-- the version of a record by its size
pub by_size : (v : Version) → nat_eq (size_of v) MAX_RECORD_BYTES ≡ is_second v
by_size v = grind arith

-- a record of the larger size is of version 2
pub second_is : (j : JudgedOf) (v : Version) → j.record_size ≡ size_of v → is_second v ≡ tells_old j
second_is j v e = sym (ap (λ n. nat_eq n MAX_RECORD_BYTES) e ∙ by_size v)
