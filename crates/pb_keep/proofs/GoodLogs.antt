-- That a good log is opened.
use Rattle.std.proofs.Common.{◌≡◌, ◌==◌, ℕ, true, false, List, [], ◌∷◌, ◌++◌, inl, inr, Option, None, Some, refl, sym, subst, ap, ◌∙◌}
use Rattle.std.specs.Prelude.{IsUtf8}
use Rattle.std.proofs.lemmas.Bool.Decides.{Decides-eqb}
use Rattle.std.proofs.lemmas.List.{append_assoc, append_cancel_left}
use Rattle.pb_log.specs.declared.fault.LogFault.{LogFault}
use Rattle.pb_log.specs.Causes.{IsNoLog}
use Rattle.pb_log.specs.Header.{magic, version}
use Rattle.pb_log.specs.Laws.{FilesHaveOneReading}
use Rattle.pb_log.specs.Records.{IsLog}
use Rattle.pb_snapshots.proofs.NoText.{no_text}
use Rattle.pb_keep.specs.Words.{HasRecords, ObserverOf, SnapshotOf, WhyNotOpened, header, snapshot_bytes}
use Rattle.pb_keep.specs.declared.fault.KeepFault.{KeepFault}
use Rattle.pb_keep.specs.Kept.{begins_as_snapshot, head, snapshot_records, AreTexts, IsSnapshotFor, LacksSnapshot}
use Rattle.pb_keep.specs.Laws.{GoodLogsOpen, IsGoodLog, IsOfCalls, SuitsIfAny}
use Rattle.pb_keep.proofs.Records.{none_or_some, same_records, starts_so}

-- ---- its snapshot

false_or_true : false ≡ true → ⊥
false_or_true e = absurd cc

-- no text begins as a snapshot
text_unmarked : (b : ℕ) (rest : List ℕ) → IsUtf8 (b ∷ rest) → (b == 255) ≡ true → ⊥
text_unmarked b rest text e = no_text rest (subst (λ n. IsUtf8 (n ∷ rest)) ((Decides-eqb b 255).0 e) text)

pub texts_unmarked : (rs : List (List ℕ)) → AreTexts rs → begins_as_snapshot rs ≡ true → ⊥
texts_unmarked [] texts e = false_or_true e
texts_unmarked ([] ∷ rs) texts e = false_or_true e
texts_unmarked ((b ∷ rest) ∷ rs) texts e = text_unmarked b rest texts.0 e

snapshot_suits : (observers : List ObserverOf) (snapshot : Option SnapshotOf) (scripts records : List (List ℕ)) → SuitsIfAny observers snapshot → AreTexts scripts → snapshot_records snapshot ++ scripts ≡ records → LacksSnapshot observers records → ⊥
snapshot_suits observers None scripts records suits texts same lacks = texts_unmarked scripts texts (ap begins_as_snapshot same ∙ lacks.begins_so)
snapshot_suits observers (Some s) scripts records suits texts same lacks =
    let is : snapshot_bytes s ≡ lacks.first = starts_so (snapshot_bytes s) lacks.first scripts lacks.others (same ∙ lacks.records_are) in
    lacks.lacks s (subst (λ b. IsSnapshotFor observers b s) is suits)

-- ---- its first record

module _ (reading : FilesHaveOneReading) (m file : List ℕ) (rs : List (List ℕ)) where
  first_is_header : HasRecords m rs file → (first : List ℕ) (others : List (List ℕ)) → IsLog file (first ∷ others) → first ≡ header m
  first_is_header (inl l) first others is = starts_so first (header m) others rs (reading file (first ∷ others) (header m ∷ rs) is l)
  first_is_header (inr l) first others is = absurd (none_or_some first others (reading file (first ∷ others) [] is l.1))

  pub log_is_opened : (limit : ℕ) (observers : List ObserverOf) (manifest : List ℕ) (before now : ℕ) → head limit manifest ≡ m → IsGoodLog limit observers manifest file → HasRecords m rs file
      → (e : LogFault) → WhyNotOpened m before now file e → IsOfCalls e
  log_is_opened limit observers manifest before now is good has (LogFault.NoMemory e) why = tt
  log_is_opened limit observers manifest before now is good has (LogFault.Disk e) why = tt
  log_is_opened limit observers manifest before now is good has LogFault.Full why = why
  log_is_opened limit observers manifest before now is good has (LogFault.Damaged at) why = why.unreadable good.records good.readable
  log_is_opened limit observers manifest before now is good has LogFault.OtherManifest why =
      let first = first_is_header has why.first why.others why.is in
      why.why.2 (append_cancel_left (magic ++ version) why.why.0 m (sym why.why.1 ∙ first))
  log_is_opened limit observers manifest before now is good has LogFault.NewerVersion why =
      let first = first_is_header has why.first why.others why.is in
      why.why.2 m (append_cancel_left magic why.why.0 (version ++ m) (sym why.why.1 ∙ first ∙ append_assoc magic version m))
  log_is_opened limit observers manifest before now is good has LogFault.NoHeader (inl why) =
      let first = first_is_header has why.first why.others why.is in
      why.why (version ++ m) (first ∙ append_assoc magic version m)
  log_is_opened limit observers manifest before now is good has LogFault.NoHeader (inr why) = good.begun (subst (λ h. IsNoLog h file) (sym is) why)

-- ---- all of it

pub good_logs : FilesHaveOneReading → GoodLogsOpen
good_logs reading limit observers manifest before now file new (KeepFault.NoMemory e) good why = tt
good_logs reading limit observers manifest before now file new (KeepFault.MadeInPart e made all) good why = tt
good_logs reading limit observers manifest before now file new KeepFault.NoTimestamp good why = tt
good_logs reading limit observers manifest before now file new (KeepFault.Log e) good why =
    log_is_opened reading (head limit manifest) file (snapshot_records good.snapshot ++ good.has.scripts) limit observers manifest before now refl good good.has.has e why
good_logs reading limit observers manifest before now file new KeepFault.Record good why = why good.snapshot good.changes good.has
good_logs reading limit observers manifest before now file new KeepFault.Snapshot good why =
    snapshot_suits observers good.snapshot good.has.scripts why.0 good.suits good.has.texts
    (same_records reading (head limit manifest) (snapshot_records good.snapshot ++ good.has.scripts) why.0 file good.has.has why.1) why.2
good_logs reading limit observers manifest before now file new _ good why = absurd why
