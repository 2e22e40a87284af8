-- What a put leaves of the changes that a log makes.
use Rattle.std.proofs.Common.{◌≡◌, ◌⊎◌, inl, inr, ℕ, ◌≤◌, List, [], ◌∷◌, ◌++◌, length, Ok, Option, refl, ap, sym, subst, ◌∙◌}
use Rattle.std.specs.Prelude.{string_bytes, IsUtf8}
use Rattle.pb_log.specs.Records.{IsBeforeOrAfter, IsLog, IsShutBeforeOrAfter}
use Rattle.pb_keep.specs.Words.{HasRecords, IsAtRest, SnapshotOf, Writes, MAX_CHANGES, header, script_of}
use Rattle.pb_keep.specs.declared.waiting.Waiting.{Waiting}
use Rattle.pb_keep.specs.Kept.{changes_of, head, head_of, origin_of, snapshot_records, AreTexts, FitsIfAny, HasChanges, IsLogOf, IsShutFile, Origin}
use Rattle.pb_keep.specs.Waits.{changes_in, IsWaiting}
use Rattle.std.proofs.lemmas.List.{append_assoc, append-nil}
use Rattle.pb_keep.proofs.Scripts.{empty_list, script_is}
use Rattle.pb_keep.proofs.Records.{none_or_some, records_more, texts_more}

-- the record of the lines that wait is read as their changes
pub waiting_is_read : (w : Waiting) → IsWaiting w → script_of (string_bytes w.script) ≡ Ok (changes_in w.items.items)
waiting_is_read w h =
    let few : length (changes_in w.items.items) ≤ MAX_CHANGES = subst (λ n. n ≤ MAX_CHANGES) h.count h.few in
    ap script_of h.script ∙ script_is h.lines (changes_in w.items.items) h.read few

-- a crash leaves the changes of before, or with those of the record
pub before_or_after : (origin : Origin) (scripts : List (List ℕ)) (changes more : List Writes) (item c : List ℕ) → FitsIfAny origin.snapshot → changes_of scripts ≡ Ok changes → script_of item ≡ Ok more → AreTexts scripts → IsUtf8 item
    → IsBeforeOrAfter (header (head_of origin) ∷ (snapshot_records origin.snapshot ++ scripts)) item c → HasChanges origin changes c ⊎ HasChanges origin (changes ++ more) c
before_or_after origin scripts changes more item c fits m s texts text (inl l) = inl (record { fits = fits; scripts = scripts; has = inl l; make = m; texts = texts })
before_or_after origin scripts changes more item c fits m s texts text (inr l) =
    let first = snapshot_records origin.snapshot in
    inr (record {
      fits = fits;
      scripts = scripts ++ item ∷ [];
      has = inl (subst (λ rs. IsLog c (header (head_of origin) ∷ rs)) (append_assoc first scripts (item ∷ [])) l);
      make = records_more scripts item changes more m s;
      texts = texts_more scripts item texts text;
    })

-- a log at rest has its changes after a crash
shut : (torn bytes : List ℕ) → 0 ∷ torn ≡ 165 ∷ bytes → ⊥
shut torn bytes e = absurd cc

pub rest_is_log : (seen : List ℕ) (may_leave : List ℕ → Type 0) (end : ℕ) (rs : List (List ℕ)) → IsAtRest seen may_leave end rs → IsLog seen rs
rest_is_log seen may_leave end rs r = record { tail = 0 ∷ r.torn; is = r.is; ends = λ b. shut r.torn _ b.is; short = r.short }

pub log_has_changes : (origin : Origin) (changes : List Writes) (seen : List ℕ) (may_leave : List ℕ → Type 0) (end : ℕ) → IsLogOf origin changes seen may_leave end → HasChanges origin changes seen
log_has_changes origin changes seen may_leave end log =
    record {
      fits = log.fits;
      scripts = log.scripts;
      has = inl (rest_is_log seen may_leave end (header (head_of origin) ∷ (snapshot_records origin.snapshot ++ log.scripts)) log.at_rest);
      make = log.make;
      texts = log.texts;
    }

pub rest_has_changes : (origin : Origin) (changes : List Writes) (seen : List ℕ) (may_leave : List ℕ → Type 0) (end : ℕ) → IsLogOf origin changes seen may_leave end → (c : List ℕ) → may_leave c → HasChanges origin changes c
rest_has_changes origin changes seen may_leave end log c m =
    subst (λ file. HasChanges origin changes file) (sym (log.at_rest.durable c m)) (log_has_changes origin changes seen may_leave end log)

-- where a crash leaves the same records, or the first one where there were none, it leaves the same changes
some_kept : (m : List ℕ) (rs : List (List ℕ)) (c : List ℕ) → IsLog c (header m ∷ rs) ⊎ ((header m ∷ rs ≡ []) × IsLog c (header m ∷ [])) → HasRecords m rs c
some_kept m rs c (inl l) = inl l
some_kept m rs c (inr l) = absurd (none_or_some (header m) rs l.0)

no_record_kept : (m : List ℕ) (rs all : List (List ℕ)) (c : List ℕ) → rs ≡ [] → all ≡ [] → IsLog c all ⊎ ((all ≡ []) × IsLog c (header m ∷ [])) → HasRecords m rs c
no_record_kept m rs all c none empty (inl l) = inr (none, subst (λ l. IsLog c l) empty l)
no_record_kept m rs all c none empty (inr l) = inl (subst (λ l. IsLog c (header m ∷ l)) (sym none) l.1)

kept_records : (m : List ℕ) (rs : List (List ℕ)) (old c : List ℕ) → HasRecords m rs old → ((all : List (List ℕ)) → IsLog old all → IsLog c all ⊎ ((all ≡ []) × IsLog c (header m ∷ []))) → HasRecords m rs c
kept_records m rs old c (inl l) left = some_kept m rs c (left (header m ∷ rs) l)
kept_records m rs old c (inr l) left = no_record_kept m rs [] c l.0 refl (left [] l.1)

pub kept_changes : (limit : ℕ) (manifest : List ℕ) (snapshot : Option SnapshotOf) (changes : List Writes) (old c : List ℕ) → HasChanges (origin_of limit manifest snapshot) changes old
    → ((all : List (List ℕ)) → IsLog old all → IsLog c all ⊎ ((all ≡ []) × IsLog c (header (head limit manifest) ∷ []))) → HasChanges (origin_of limit manifest snapshot) changes c
kept_changes limit manifest snapshot changes old c h left = record {
  fits = h.fits;
  scripts = h.scripts;
  has = kept_records (head limit manifest) (snapshot_records snapshot ++ h.scripts) old c h.has left;
  make = h.make;
  texts = h.texts;
}

-- and closed gates after its records
pub rest_is_shut : (origin : Origin) (changes : List Writes) (seen : List ℕ) (may_leave : List ℕ → Type 0) (end : ℕ) → IsLogOf origin changes seen may_leave end → (c : List ℕ) → may_leave c → IsShutFile c
rest_is_shut origin changes seen may_leave end log c m =
    let r = log.at_rest in
    (header (head_of origin) ∷ (snapshot_records origin.snapshot ++ log.scripts), record { torn = r.torn; is = r.durable c m ∙ r.is; short = r.short })

pub shut_file : (rs : List (List ℕ)) (r file : List ℕ) → IsShutBeforeOrAfter rs r file → IsShutFile file
shut_file rs r file (inl s) = (rs, s)
shut_file rs r file (inr s) = (rs ++ r ∷ [], s)

pub no_change_waits : (w : Waiting) → length (changes_in w.items.items) ≡ 0 → (changes : List Writes) → changes ++ changes_in w.items.items ≡ changes
no_change_waits w e changes = ap (λ l. changes ++ l) (empty_list (changes_in w.items.items) e) ∙ append-nil changes
