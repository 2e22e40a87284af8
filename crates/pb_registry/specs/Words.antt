-- The words of the crates below, for this crate's definitions and proofs.
pub use Rattle.pb_base.specs.Growths.{refused_growth}
pub use Rattle.pb_base.specs.declared.limits.TheConstants.{COLUMNS, MAX_OBSERVERS}
pub use Rattle.pb_base.specs.declared.refusal.NoMemory.{NoMemory}
pub use Rattle.pb_base.specs.declared.refusal.Refused.{Refused}
pub use Rattle.pb_reading.specs.Reading.{◌>>=◌}
pub use Rattle.pb_isa.specs.Helpers.{Delete, HelperSet, Read, Start, Write, declared_helper, helper_of}
pub use Rattle.pb_isa.specs.Programs.{JudgedOf, ProgramOf}
pub use Rattle.pb_isa.specs.declared.profile.Profile.{Profile}
pub use Rattle.pb_decode.specs.Encoding.{Encodes}
pub use Rattle.pb_decode.specs.Faults.{AreRefusedAs}
pub use Rattle.pb_helpers.specs.Codes.{code_number}
pub use Rattle.pb_helpers.specs.Table.{with_helper}
pub use Rattle.pb_helpers.specs.declared.change.Version.{Version}
pub use Rattle.pb_helpers.specs.declared.code.RuleCode.{RuleCode}
pub use Rattle.pb_accepted.specs.Arriving.{Accepts, Refuses}
pub use Rattle.pb_accepted.specs.Observers.{ObserverOf, observer_code}
pub use Rattle.pb_accepted.specs.Versions.{judged_by}
pub use Rattle.pb_verify.specs.declared.verifier.VerifyFault.{VerifyFault}
