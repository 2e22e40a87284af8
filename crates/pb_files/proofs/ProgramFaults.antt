-- The fault of a known program's file is reported.
use Rattle.std.proofs.Common.{arith}
use Rattle.pb_files.specs.ProgramFaults.{FaultyTextIsTold, KnownBytesAreAnswered}

-- so for a refused text its place is reported, or that memory was refused
pub faulty_text_is_told : FaultyTextIsTold
faulty_text_is_told profile files input output text line code x e utf8 bad fails = grind arith

-- bytes that are known are listed and checked, unless a write or memory fails
pub known_bytes_are_answered : KnownBytesAreAnswered
known_bytes_are_answered profile version bytes path out f w = grind arith
