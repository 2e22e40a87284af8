-- The words of the crates below, for this crate's definitions and proofs.
pub use Rattle.pb_reading.specs.Reading.{◌>>=◌}
pub use Rattle.pb_isa.specs.Bounds.{Fits}
pub use Rattle.pb_isa.specs.Profiles.{IsOf, is_narrower, max_slots}
pub use Rattle.pb_isa.specs.Programs.{IsProgram, ProgramOf}
pub use Rattle.pb_isa.specs.Registers.{number, reg_of}
pub use Rattle.pb_isa.specs.Slots.{layout, places_of, slots}
pub use Rattle.pb_isa.specs.declared.insn.AluOp.{AluOp}
pub use Rattle.pb_isa.specs.declared.insn.Cmp.{Cmp}
pub use Rattle.pb_isa.specs.declared.insn.Extension.{Extension}
pub use Rattle.pb_isa.specs.declared.insn.Insn.{Insn}
pub use Rattle.pb_isa.specs.declared.insn.Operand.{Operand}
pub use Rattle.pb_isa.specs.declared.insn.Reg.{Reg}
pub use Rattle.pb_isa.specs.declared.insn.Size.{Size}
pub use Rattle.pb_isa.specs.declared.insn.Width.{Width}
pub use Rattle.pb_isa.specs.declared.profile.Profile.{Profile}
