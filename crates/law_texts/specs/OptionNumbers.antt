-- What the numbers of `--profile` and `--record` name (docs/FORMATS.md). The words of a command line are taken up to a last
-- number, by name, which could be any.
use Rattle.std.specs.Prelude.{◌≡◌, ◌<◌, codes, Some, None}
use Rattle.clap.specs.Words.{Text}
use Rattle.law_texts.specs.Words.{Profile, Version, count_number, profile_named, version_of}

-- 1 where none is named, else 1 or 2
pub record OptionsNameProfiles : Type 0 where
  pub left_out : profile_named None ≡ Some Profile.One
  pub one : profile_named (Some (codes "1")) ≡ Some Profile.One
  pub two : profile_named (Some (codes "2")) ≡ Some Profile.Two
  pub zero : profile_named (Some (codes "0")) ≡ None
  pub more : (text : Text) → 2 < count_number text → profile_named (Some text) ≡ None

-- and so for versions of the change record
pub record OptionsNameVersions : Type 0 where
  pub left_out : version_of None ≡ Some Version.First
  pub one : version_of (Some (codes "1")) ≡ Some Version.First
  pub two : version_of (Some (codes "2")) ≡ Some Version.Second
  pub zero : version_of (Some (codes "0")) ≡ None
  pub more : (text : Text) → 2 < count_number text → version_of (Some text) ≡ None
