-- What is opened after a crash, or with the log of a compaction.
use Rattle.std.proofs.Common.{◌≡◌, ◌++◌, [], inl, inr, length, Some, refl, subst}
use Rattle.pb_snapshots.specs.Beginnings.{SnapshotsBegin}
use Rattle.pb_keep.specs.Words.{IsCarriedOver, IsMarkedBehind, StateOf}
use Rattle.pb_keep.specs.Kept.{origin_of, IsFirstOf}
use Rattle.pb_keep.specs.Laws.{AreOfLines, CompactionsGoOn, FilesHaveOneList, LinesSurvive}
use Rattle.pb_keep.specs.Waits.{changes_in}

pub lines_survive : FilesHaveOneList → LinesSurvive
lines_survive one b lines written file l snapshot changes had = elim l.has as (λ h. AreOfLines b lines written file l snapshot changes) [
  | inl h ↦ let e = one (origin_of b.origin.limit b.origin.manifest snapshot) b.origin changes (b.changes ++ l.made) file refl had h.0 in record { snapshot_is = e.0; changes_are = inl e.1 }
  | inr h ↦ let e = one (origin_of b.origin.limit b.origin.manifest snapshot) b.origin changes ((b.changes ++ l.made) ++ changes_in l.items) file refl had h.1 in record { snapshot_is = e.0; changes_are = inr e.1 }
]

pub compactions_go_on : FilesHaveOneList → SnapshotsBegin → CompactionsGoOn
compactions_go_on one begin limit next past changes own first old new manifest file s snapshot began leads room taken has had is =
    let e = one (origin_of next manifest snapshot) (origin_of next manifest (Some s)) own [] file refl had has in
    let f : ((over : StateOf) × IsCarriedOver old.state.observers 1 s.clock s.cells over × IsMarkedBehind over new.state) × ((new.stats ≡ s.stats) × (length s.stats ≡ length old.state.observers)) = subst (λ z. IsFirstOf old.state.observers z new) e.0 is in
    (begin limit past changes first old new s f.0.0 began leads room taken f.0.1 f.0.2 f.1.0, e.1)
