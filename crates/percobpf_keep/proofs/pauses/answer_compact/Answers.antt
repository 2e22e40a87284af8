use Rattle.std.proofs.Common.{◌≡◌, ℕ, Bool, true, false, List, Option, Result, Ok, Err, IfOk, OnOk, codes, refl, subst, sym}
use Rattle.std.specs.Prelude.{MatchResult}
use Rattle.std.specs.Io.KnownBytes.{Appends}
use Rattle.pb_keeper.specs.Stats.{KeptTable, kept_table}
use Rattle.pb_keep.specs.Anew.{HasVersions}
use Rattle.pb_keep.specs.declared.compact.SnapshotFault.{SnapshotFault}
use Rattle.percobpf_keep.specs.Printed.{compact_answer, printed_text, IsCompactAnswer}
use Rattle.percobpf_keep.specs.declared.printed.Printed.{Printed}
use Rattle.percobpf_keep.proofs.pauses.answer_compact.Goals as goal

-- the answer where a compaction was made or not
as_made : (table : KeptTable) (done : Result ℕ SnapshotFault) (is_done : Bool) → IfOk done (HasVersions table) → MatchResult done (λ _. is_done ≡ true) (λ _. is_done ≡ false) → IsCompactAnswer table is_done (compact_answer done)
as_made table (Ok versions) is_done has is = subst (λ b. IsCompactAnswer table b (printed_text (Printed.Compacted versions))) (sym is) (versions, has, refl)
as_made table (Err why) is_done has is = subst (λ b. IsCompactAnswer table b (codes "refused 78\n")) (sym is) refl

-- and it was written
written_as : {F : Type 0} (table : KeptTable) (done : Result ℕ SnapshotFault) (r : Result Bool F) (was before now : Option (List ℕ)) → before ≡ was → IfOk done (HasVersions table) → OnOk r (Appends before now (compact_answer done)) → IfOk r (λ is_done. MatchResult done (λ _. is_done ≡ true) (λ _. is_done ≡ false))
    → IfOk r (λ is_done. (text : List ℕ) × IsCompactAnswer table is_done text × Appends was now text)
written_as table done (Ok is_done) was before now same has written is = (compact_answer done, as_made table done is_done has is, subst (λ t. Appends t now (compact_answer done)) same written)
written_as table done (Err e) was before now same has written is = tt

pub returns-clause-answer : goal.returns-clause-answer
returns-clause-answer g c =
    written_as (kept_table c.args.keeper.now.state c.args.keeper.now.stats.items) c.in_ok-done.done c.write_compacted.result _ _ _ c.compact_and_follow.ensures.unwritten c.in_ok-done.ensures.versions c.write_compacted.ensures.answer c.write_compacted.ensures.done
