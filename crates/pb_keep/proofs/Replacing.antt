-- What is opened with a log that begins with a snapshot.
use Rattle.std.proofs.Common.{◌≡◌, ℕ, ◌<◌, List, [], ◌∷◌, ◌++◌, Option, Some, refl, sym, ap, subst, ◌∙◌}
use Rattle.sqlite_disk.specs.Disk.{Only}
use Rattle.pb_snapshots.specs.Beginnings.{SnapshotsBegin}
use Rattle.pb_keep.specs.Words.{IsFirstTable, KeepsFrom, KeptTable, ObserverOf, SnapshotOf, StateOf, Writes, last_timestamp}
use Rattle.pb_keep.specs.Anew.{BeginsAnew}
use Rattle.pb_keep.specs.Conversations.{KeeperView}
use Rattle.pb_keep.specs.Folders.{leaves_of_closed, seen_of_closed}
use Rattle.pb_keep.specs.Kept.{head, head_of, kept_since, origin_of, HasChanges, IsFirstOf, IsLogOf, Origin}
use Rattle.pb_keep.specs.Laws.{FilesHaveOneList}
use Rattle.pb_keep.specs.Opened.{IsOpenedLog}
use Rattle.pb_keep.specs.Replaced.{HasBegunAnew, IsReplacedBy}
use Rattle.pb_keep.proofs.Lasts.{last_is_some}
use Rattle.pb_keep.proofs.Putting.{log_has_changes}

-- of a file that is there only what it has is left, if that is so of the folder
pub only_there : {F : Type 0} (seen : F → List ℕ) (may_leave : F → List ℕ → Type 0) (found : Option F) (file : F) → found ≡ Some file → Only (seen_of_closed seen found) (leaves_of_closed may_leave found) → Only (seen file) (may_leave file)
only_there seen may_leave found file is only = subst (λ f. Only (seen_of_closed seen f) (leaves_of_closed may_leave f)) is only

-- with no change a table is the first one
only_first : (limit : ℕ) (first : KeptTable) (changes : List Writes) (table : KeptTable) → KeepsFrom limit first changes table → changes ≡ [] → table ≡ first
only_first limit first _ _ KeepsFrom.none_made e = refl
only_first limit first _ table (KeepsFrom.one_made changes batch between _ leads kept) e = absurd (last_is_some changes batch e)

-- a log of which a crash leaves no more is at rest too
pub log_of_fewer : (origin : Origin) (changes : List Writes) (seen now : List ℕ) (may_leave leaves : List ℕ → Type 0) (end : ℕ) → now ≡ seen → ((c : List ℕ) → leaves c → may_leave c) → IsLogOf origin changes seen may_leave end → IsLogOf origin changes now leaves end
log_of_fewer origin changes seen now may_leave leaves end same fewer log =
    let r = log.at_rest in
    record {
      fits = log.fits;
      scripts = log.scripts;
      at_rest = record { torn = r.torn; is = same ∙ r.is; ends_at = r.ends_at; short = r.short; durable = λ c m. r.durable c (fewer c m) ∙ sym same };
      make = log.make;
      texts = log.texts;
    }

pub begun_with_fewer : (limit : ℕ) (manifest : List ℕ) (table : KeptTable) (n : ℕ) (seen now : List ℕ) (may_leave leaves : List ℕ → Type 0) (end : ℕ) → now ≡ seen → ((c : List ℕ) → leaves c → may_leave c)
    → BeginsAnew limit manifest table n seen may_leave end → BeginsAnew limit manifest table n now leaves end
begun_with_fewer limit manifest table n seen now may_leave leaves end same fewer b =
    record { snapshot = b.snapshot; taken = b.taken; log = log_of_fewer (origin_of limit manifest (Some b.snapshot)) [] seen now may_leave leaves end same fewer b.log; room = b.room; count = b.count }

module _ (one : FilesHaveOneList) (limit : ℕ) (manifest : List ℕ) (table : KeptTable) (n : ℕ) (file : List ℕ) (may_leave : List ℕ → Type 0) (end : ℕ) (b : BeginsAnew limit manifest table n file may_leave end)
    (observers : List ObserverOf) (count : ℕ) (k : KeeperView) (o : IsOpenedLog manifest file observers count k) (limited : k.limit ≡ limit) where
  -- its origin is that of the log, and it has no change
  is_head : head_of o.origin ≡ head limit manifest
  is_head = (λ i. head ((o.limit_is ∙ limited) i) (o.manifest_is i))

  one_origin : (o.origin.snapshot ≡ Some b.snapshot) × (o.changes ≡ [])
  one_origin = one o.origin (origin_of limit manifest (Some b.snapshot)) o.changes [] file is_head o.had (log_has_changes (origin_of limit manifest (Some b.snapshot)) [] file may_leave end b.log)

  origin_is : o.origin ≡ origin_of limit manifest (Some b.snapshot)
  origin_is = (λ i. origin_of ((o.limit_is ∙ limited) i) (o.manifest_is i) (one_origin.0 i))

  is_log : IsLogOf (origin_of limit manifest (Some b.snapshot)) [] k.seen k.may_leave k.end
  is_log = subst (λ changes. IsLogOf (origin_of limit manifest (Some b.snapshot)) changes k.seen k.may_leave k.end) one_origin.1 (subst (λ origin. IsLogOf origin o.changes k.seen k.may_leave k.end) origin_is o.log)

  pub is_replaced : IsReplacedBy limit manifest table n k
  is_replaced = record {
    log = record { snapshot = b.snapshot; taken = b.taken; log = is_log; room = b.room; count = b.count };
    since = o.since ∙ ap kept_since origin_is ∙ b.taken.clock;
  }

  -- and of a table that keeps changes it begins the next generation
  pub begins_next : SnapshotsBegin → observers ≡ table.state.observers → (own : ℕ) (past changes : List Writes) (first : KeptTable) → IsFirstTable past first → KeepsFrom own first changes table → IsFirstTable (past ++ changes) k.table
  begins_next begin same own past changes first began leads =
      let f : IsFirstOf table.state.observers (Some b.snapshot) o.first = subst (λ v. IsFirstOf v (Some b.snapshot) o.first) same (subst (λ s. IsFirstOf observers s o.first) one_origin.0 o.first_is) in
      let next : IsFirstTable (past ++ changes) o.first = begin own past changes first table o.first b.snapshot f.0.0 began leads b.room b.taken f.0.1 f.0.2 f.1.0 in
      subst (λ t. IsFirstTable (past ++ changes) t) (sym (only_first k.limit o.first o.changes k.table (o.keeps (past ++ changes) next) one_origin.1)) next
