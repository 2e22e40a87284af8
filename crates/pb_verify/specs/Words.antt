-- The words of the crates below, for this crate's definitions and proofs.
pub use Rattle.pb_isa.specs.Helpers.{HelperSet}
pub use Rattle.pb_isa.specs.Programs.{JudgedOf, ProgramOf}
pub use Rattle.pb_isa.specs.Registers.{number}
pub use Rattle.pb_isa.specs.Slots.{insn_at, layout, places_of, slots}
pub use Rattle.pb_isa.specs.declared.insn.Insn.{Insn}
pub use Rattle.pb_isa.specs.declared.insn.Reg.{Reg}
pub use Rattle.pb_kinds.specs.Frames.{kind_of, meet, pointwise, same_kind}
unfoldable pub use Rattle.pb_kinds.specs.Frames.{entry_frame, join}
pub use Rattle.pb_kinds.specs.declared.frame.Frame.{Frame}
pub use Rattle.pb_kinds.specs.declared.frame.Kind.{Kind}
pub use Rattle.pb_helpers.specs.Codes.{code_number, lowest_code}
pub use Rattle.pb_helpers.specs.declared.change.Version.{Version}
pub use Rattle.pb_helpers.specs.declared.code.RuleCode.{RuleCode}
pub use Rattle.pb_accepted.specs.Accesses.{access_at}
pub use Rattle.pb_accepted.specs.Arriving.{Accepts, Refuses, faults, frame_after, frame_before, gather, if_leads, in_at, merge, outs}
pub use Rattle.pb_accepted.specs.Effects.{AreResolved, IsNextImm, effect_at, effect_of, next_imm, with_next}
pub use Rattle.pb_accepted.specs.Following.{with_kind}
pub use Rattle.pb_accepted.specs.Versions.{judged_by}
pub use Rattle.pb_accepted.specs.declared.op.Op.{Op}
