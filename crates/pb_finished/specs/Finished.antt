-- What a machine leaves at its end. The contracts of `Finished` cite it, and by them the table, where a run is
-- declared: what it writes has to be what its program means.
use Rattle.std.specs.Prelude.{ℕ, Bool, true, false, ◌&&◌, List, [], ◌∷◌, refl}
use Rattle.std.specs.Coded.{Coded, code_by, coded×, coded_ℕ, coded_list}
use Rattle.pb_base.specs.Batch.{Writes}
use Rattle.pb_base.specs.contracts.cell.Cell as cell
use Rattle.pb_base.specs.contracts.content.Content as content
use Rattle.pb_isa.specs.Programs.{JudgedOf, judged_code}
use Rattle.pb_isa.specs.Meaning.{Talk, talk_code, Means}

-- a program with what it is judged for, the record's bytes, the run's start timestamp, asks and replies, register 0 and the writes
pub record Meant : Type 0 where
  pub judged : JudgedOf
  pub bytes : List ℕ
  pub start : ℕ
  pub talk : Talk
  pub result : ℕ
  pub writes : Writes

-- result and writes are what the program means by the rest
abbrev pub IsMeant : Meant → Type 0
IsMeant f = Means f.judged f.bytes f.start f.talk f.result f.writes

-- no ask, or no write
abbrev pub is_empty : {X : Type 0} → List X → Bool
is_empty [] = true
is_empty (x ∷ xs) = false

-- it asked nothing and wrote nothing
abbrev pub is_plain : Meant → Bool
is_plain f = is_empty f.talk && is_empty f.writes

-- its code, a tree of numbers, by which two runs are compared where one is declared (43)
abbrev pub meant_code : Coded Meant
meant_code =
    code_by (JudgedOf × (List ℕ × (ℕ × (Talk × (ℕ × Writes)))))
    (coded× judged_code (coded× (coded_list coded_ℕ) (coded× coded_ℕ (coded× talk_code (coded× coded_ℕ (coded_list (coded× cell.the_row.coded content.the_row.coded)))))))
    (λ f. (f.judged, (f.bytes, (f.start, (f.talk, (f.result, f.writes))))))
    (λ p. record { judged = p.0; bytes = p.1.0; start = p.1.1.0; talk = p.1.1.1.0; result = p.1.1.1.1.0; writes = p.1.1.1.1.1 })
    (λ _. refl)
