-- What a sink took while something was written to it, as one thing, so that a contract of what writes has one word for it.
use Rattle.std.specs.Prelude.{◌≡◌, ℕ, Bool, true, false, List, Option}
use Rattle.std.specs.Io.KnownBytes.{Appends}
use Rattle.pb_base.specs.Sink.{AppendsPart}

-- what a sink had taken before and has taken since, where that is known, and whether a write to it has failed
pub record Taking : Type 0 where
  pub before : Option (List ℕ)
  pub after : Option (List ℕ)
  pub failed : Bool

-- that of a sink, by what each sink states about itself
abbrev pub taking : {S : Type 0} → (S → Option (List ℕ)) → (S → Bool) → S → S → Taking
taking taken failed old new = record { before = taken old; after = taken new; failed = failed new }

-- it took the whole text
abbrev pub TookAll : Taking → List ℕ → Type 0
TookAll t text = Appends t.before t.after text × (t.failed ≡ false)

-- it took a beginning of the text, as a write failed
abbrev pub TookPart : Taking → List ℕ → Type 0
TookPart t text = AppendsPart t.before t.after text × (t.failed ≡ true)

-- it took nothing, and no write failed
abbrev pub TookNothing : Taking → Type 0
TookNothing t = (t.after ≡ t.before) × (t.failed ≡ false)
