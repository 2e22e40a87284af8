-- What a copy of a log has, and how it is counted.
use Rattle.std.proofs.Common.{◌≡◌, ◌⊎◌, inl, inr, ℕ, Bool, true, false, List, [], ◌∷◌, ◌++◌, length, Option, None, Some, Result, Ok, Err, IfOk, refl, sym, ap, subst, ◌∙◌}
use Rattle.std.proofs.lemmas.List.{append_assoc, append_cancel_left}
use Rattle.pb_log.specs.declared.fault.LogFault.{LogFault}
use Rattle.pb_log.specs.Header.{magic, version}
use Rattle.pb_log.specs.Laws.{FilesHaveOneReading}
use Rattle.pb_log.specs.Records.{IsLog, IsReadable}
use Rattle.pb_reading.proofs.Readings.{ok_is}
use Rattle.pb_keep.specs.declared.fault.KeepFault.{KeepFault}
use Rattle.pb_keep.specs.Causes.{IsOfReading}
use Rattle.pb_keep.specs.Copies.{records_of, AreScripts, HasCount, WhyNoCopy, WhyNotCounted}
use Rattle.pb_keep.specs.Kept.{begins_as_snapshot, changes_of, head, head_of, reported_count, snapshot_records, AreTexts, HasChanges, IsLogOf, Origin}
use Rattle.pb_keep.specs.Words.{HasRecords, IsAtRest, SnapshotOf, WhyNotOpened, Writes, header, snapshot_bytes}
use Rattle.pb_keep.proofs.GoodLogs.{texts_unmarked}
use Rattle.pb_keep.proofs.Putting.{rest_is_log}
use Rattle.pb_keep.proofs.Records.{none_or_some, rest_of, same_records, starts_so}

-- ---- what is written

module _ (origin : Origin) (changes : List Writes) (seen : List ℕ) (may_leave : List ℕ → Type 0) (end : ℕ) (log : IsLogOf origin changes seen may_leave end) where
  abbrev pub log_of_copy : (new : List ℕ) (left : List ℕ → Type 0) (at : ℕ) → IsAtRest new left at (records_of origin log.scripts) → IsLogOf origin changes new left at
  log_of_copy new left at rest = record { fits = log.fits; scripts = log.scripts; at_rest = rest; make = log.make; texts = log.texts }

  -- a crash leaves none of its records, or all
  pub crash_of_copy : (c : List ℕ) → IsLog c [] ⊎ IsLog c (records_of origin log.scripts) → IsLog c [] ⊎ HasChanges origin changes c
  crash_of_copy c (inl none) = inl none
  crash_of_copy c (inr all) = inr (record { fits = log.fits; scripts = log.scripts; has = inl all; make = log.make; texts = log.texts })

  -- what is only read stays
  pub still_log : (new : List ℕ) (left : List ℕ → Type 0) (at : ℕ) → new ≡ seen → at ≡ end → ((c : List ℕ) → left c → may_leave c) → IsLogOf origin changes new left at
  still_log new left at same here fewer =
      let r = log.at_rest in
      log_of_copy new left at (record { torn = r.torn; is = same ∙ r.is; ends_at = here ∙ r.ends_at; short = r.short; durable = λ c m. r.durable c (fewer c m) ∙ sym same })

-- where it has been opened, there are no fewer
pub some_stay : (origin : Origin) (scripts : List (List ℕ)) (c first : List ℕ) → IsLog c (records_of origin scripts) ⊎ ((records_of origin scripts ≡ []) × IsLog c (first ∷ [])) → IsLog c (records_of origin scripts)
some_stay origin scripts c first (inl l) = l
some_stay origin scripts c first (inr l) = absurd (none_or_some (header (head_of origin)) (snapshot_records origin.snapshot ++ scripts) l.0)

-- ---- which records are scripts

not_true : (b : Bool) → (b ≡ true → ⊥) → b ≡ false
not_true true never = absurd (never refl)
not_true false never = refl

scripts_are : (snapshot : Option SnapshotOf) (records scripts own : List (List ℕ)) → AreScripts records scripts → AreTexts own → records ≡ snapshot_records snapshot ++ own → scripts ≡ own
scripts_are None records scripts own parts texts is = parts.all (ap begins_as_snapshot is ∙ not_true (begins_as_snapshot own) (texts_unmarked own texts)) ∙ is
scripts_are (Some s) records scripts own parts texts is =
    let first = parts.others (ap begins_as_snapshot is) in
    rest_of first.0 (snapshot_bytes s) scripts own (sym first.1 ∙ is)

-- ---- a log that is counted

module _ (reading : FilesHaveOneReading) (m file : List ℕ) (records scripts : List (List ℕ)) (has : HasRecords m records file) (parts : AreScripts records scripts) (origin : Origin) (changes : List Writes) (same : head_of origin ≡ m) (had : HasChanges origin changes file) where
  records_are : records ≡ snapshot_records origin.snapshot ++ had.scripts
  records_are = same_records reading m records (snapshot_records origin.snapshot ++ had.scripts) file has (subst (λ k. HasRecords k (snapshot_records origin.snapshot ++ had.scripts) file) same had.has)

  pub own_scripts : scripts ≡ had.scripts
  own_scripts = scripts_are origin.snapshot records scripts had.scripts parts had.texts records_are

  pub is_counted : (found : List Writes) (n : ℕ) → changes_of scripts ≡ Ok found → n ≡ reported_count (length found) → n ≡ reported_count (length changes)
  is_counted found n make count = count ∙ ap (λ l. reported_count (length l)) (ok_is found changes (sym make ∙ ap changes_of own_scripts ∙ had.make))

  pub counted_log : (seen : List ℕ) (may_leave : List ℕ → Type 0) (end : ℕ) → IsAtRest seen may_leave end (header m ∷ records) → IsLogOf origin changes seen may_leave end
  counted_log seen may_leave end rest = record {
    fits = had.fits;
    scripts = had.scripts;
    at_rest = subst (λ k. IsAtRest seen may_leave end (header k ∷ (snapshot_records origin.snapshot ++ had.scripts))) (sym same) (subst (λ rs. IsAtRest seen may_leave end (header m ∷ rs)) records_are rest);
    make = had.make;
    texts = had.texts;
  }

-- why it isn't
pub why_not_counted : (limit : ℕ) (manifest : List ℕ) (before now : ℕ) (file : List ℕ) (records scripts : List (List ℕ)) → HasRecords (head limit manifest) records file → AreScripts records scripts → (e : KeepFault) → IsOfReading scripts e
    → WhyNotCounted limit manifest before now file e
why_not_counted limit manifest before now file records scripts has parts (KeepFault.NoMemory e) of = tt
why_not_counted limit manifest before now file records scripts has parts KeepFault.Record of = record { records = records; has = has; scripts = scripts; parts = parts; lacks = of }
why_not_counted limit manifest before now file records scripts has parts _ of = absurd of

-- ---- a copy that is counted

-- what follows of a count, where that has a premise which it gives itself
module _ (A C S : Type 0) (P Q : ℕ → Type 0) where
  pub as_counted : (r : Result ℕ KeepFault) → IfOk r (λ n. C → P n) → (A → C → (n : ℕ) → P n → S) → (S → IfOk r (λ n. C → Q n)) → IfOk r (λ n. A → C → Q n)
  as_counted (Ok n) count gives opened = λ a c. opened (gives a c n (count c)) c
  as_counted (Err e) count gives opened = tt

module _ (reading : FilesHaveOneReading) (origin : Origin) (changes : List Writes) (file : List ℕ) (may_leave : List ℕ → Type 0) (end : ℕ) (log : IsLogOf origin changes file may_leave end) where
  abbrev all : List (List ℕ)
  all = records_of origin log.scripts

  is_log : IsLog file all
  is_log = rest_is_log file may_leave end all log.at_rest

  first_is : (first : List ℕ) (others : List (List ℕ)) → IsLog file (first ∷ others) → first ≡ header (head_of origin)
  first_is first others is = starts_so first (header (head_of origin)) others (snapshot_records origin.snapshot ++ log.scripts) (reading file (first ∷ others) all is is_log)

  some_there : IsLog file [] → ⊥
  some_there none = none_or_some (header (head_of origin)) (snapshot_records origin.snapshot ++ log.scripts) (reading file all [] is_log none)

  -- it is counted as a log of its own limit and manifest
  own_head : (m : List ℕ) (records : List (List ℕ)) → HasRecords m records file → head_of origin ≡ m
  own_head m records (inl l) = append_cancel_left (magic ++ version) (head_of origin) m (sym (first_is (header m) records l))
  own_head m records (inr l) = absurd (some_there l.1)

  pub own_count : (limit : ℕ) (manifest : List ℕ) (n : ℕ) → HasCount limit manifest file n → head_of origin ≡ head limit manifest
  own_count limit manifest n h = own_head (head limit manifest) h.records h.has

  module _ (limit : ℕ) (manifest : List ℕ) (old new old_copy new_copy at : ℕ) (was : List ℕ) (readable : IsReadable file all) where
    abbrev Why : KeepFault → Type 0
    Why e = WhyNoCopy origin limit manifest old new old_copy new_copy at was e

    not_opened : (e : LogFault) → WhyNotOpened (head limit manifest) old_copy new_copy file e → Why (KeepFault.Log e)
    not_opened (LogFault.NoMemory n) why = inl tt
    not_opened (LogFault.Disk x) why = inl (inr why)
    not_opened LogFault.Full why = absurd why
    not_opened (LogFault.Damaged place) why = absurd (why.unreadable all readable)
    not_opened LogFault.OtherManifest why =
        inr (refl, λ same. why.why.2 (append_cancel_left (magic ++ version) why.why.0 (head limit manifest) (sym why.why.1 ∙ first_is why.first why.others why.is ∙ ap header same)))
    not_opened LogFault.NewerVersion why =
        absurd (why.why.2 (head_of origin) (append_cancel_left magic why.why.0 (version ++ head_of origin) (sym why.why.1 ∙ first_is why.first why.others why.is ∙ append_assoc magic version (head_of origin))))
    not_opened LogFault.NoHeader (inl why) = absurd (why.why (version ++ head_of origin) (first_is why.first why.others why.is ∙ append_assoc magic version (head_of origin)))
    not_opened LogFault.NoHeader (inr why) = absurd (some_there why.none)

    pub no_copy : (e : KeepFault) → WhyNotCounted limit manifest old_copy new_copy file e → Why e
    no_copy (KeepFault.NoMemory e) why = tt
    no_copy (KeepFault.Log e) why = not_opened e why
    no_copy KeepFault.Record why =
        let same = own_head (head limit manifest) why.records why.has in
        let had : HasChanges origin changes file = record { fits = log.fits; scripts = log.scripts; has = inl is_log; make = log.make; texts = log.texts } in
        let is : why.scripts ≡ log.scripts = own_scripts reading (head limit manifest) file why.records why.scripts why.has why.parts origin changes same had in
        absurd (why.lacks changes (subst AreTexts (sym is) log.texts) (ap changes_of is ∙ log.make))
    no_copy _ why = absurd why
