-- What a record more makes.
use Rattle.std.proofs.Common.{arith, ◌≡◌, inl, inr, ℕ, ◌+◌, true, false, not, ◌==◌, List, [], ◌∷◌, ◌++◌, codes, length, Option, None, Some, Ok, Err, map, refl, sym, ap, subst, ◌∙◌}
use Rattle.std.specs.List.{flat_map, list_all, AllByRecursion}
use Rattle.std.specs.Prelude.{IsUtf8}
use Rattle.pb_log.specs.Laws.{FilesHaveOneReading}
use Rattle.pb_parse.specs.ScriptLines.{with_line, with_operation}
use Rattle.pb_parse.specs.ScriptWords.{write_of}
use Rattle.pb_reading.specs.Reading.{lines_of}
use Rattle.pb_reading.specs.Faults.{in_lines}
use Rattle.pb_snapshots.specs.RecordLaws.{RecordsAreOfOneSnapshot, SnapshotsAreNoTexts}
use Rattle.pb_snapshots.specs.Snapshot.{number_bytes, snapshot_magic, stats_bytes, version_bytes}
use Rattle.pb_keep.specs.Words.{HasRecords, ScriptCode, SnapshotOf, Writes, header, script_code, script_of, snapshot_bytes, ◌>>=◌}
use Rattle.pb_reading.proofs.Parts.{lacks_if}
use Rattle.pb_reading.proofs.Readings.{ok_is, then_ok}
use Rattle.pb_keep.specs.Kept.{begins_as_snapshot, changes_of, head, head_of, reported_count, snapshot_records, AreTexts, FitsIfAny, HaveNoScript, HasNoChanges, IsNoScript}
use Rattle.pb_keep.specs.Laws.{FilesHaveOneList}
use Rattle.std.proofs.lemmas.List.{append_assoc, append-nil}
use Rattle.std.proofs.lemmas.List.Elements.{All-from_recursion}
use Rattle.std.proofs.lemmas.List.Splits.{slice_split_at}

-- the changes of the first record, and of the others
record Parts (r : List ℕ) (rs : List (List ℕ)) (cs : List Writes) : Type 0 where
  first : List Writes
  others : List Writes
  of_first : script_of r ≡ Ok first
  of_others : changes_of rs ≡ Ok others
  are : first ++ others ≡ cs

parts_of : (r : List ℕ) (rs : List (List ℕ)) (cs : List Writes) → changes_of (r ∷ rs) ≡ Ok cs → Parts r rs cs
unfolding changes_of
parts_of r rs cs h =
    let p = then_ok (script_of r) (λ first. changes_of rs >>= λ others. Ok (first ++ others)) cs h in
    let q = then_ok (changes_of rs) (λ others. Ok (p.0 ++ others)) cs p.2 in
    record { first = p.0; others = q.0; of_first = p.1; of_others = q.1; are = ok_is (p.0 ++ q.0) cs q.2 }

together : (r : List ℕ) (rs : List (List ℕ)) (first others : List Writes) → script_of r ≡ Ok first → changes_of rs ≡ Ok others → changes_of (r ∷ rs) ≡ Ok (first ++ others)
unfolding changes_of
together r rs first others f o = rw (f, o) refl

pub no_changes : changes_of [] ≡ Ok []
unfolding changes_of
no_changes = refl

pub records_more : (rs : List (List ℕ)) (r : List ℕ) (cs ds : List Writes) → changes_of rs ≡ Ok cs → script_of r ≡ Ok ds → changes_of (rs ++ r ∷ []) ≡ Ok (cs ++ ds)
records_more [] r cs ds h s = let e = ok_is [] cs (sym no_changes ∙ h) in together r [] ds [] s no_changes ∙ ap (λ l. Ok l) (append-nil ds ∙ ap (λ l. l ++ ds) e)
records_more (x ∷ rs) r cs ds h s =
    let p = parts_of x rs cs h in
    together x (rs ++ r ∷ []) p.first (p.others ++ ds) p.of_first (records_more rs r p.others ds p.of_others s)
    ∙ ap (λ l. Ok l) (sym (append_assoc p.first p.others ds) ∙ ap (λ l. l ++ ds) p.are)

-- the changes of the first records, of one more, and of the others
pub changes_parted : (rs : List (List ℕ)) (r : List ℕ) (ss : List (List ℕ)) (cs ds : List Writes) → changes_of (rs ++ r ∷ ss) ≡ Ok cs → changes_of rs ≡ Ok ds
    → (script : List Writes) × (others : List Writes) × (script_of r ≡ Ok script) × (cs ≡ ds ++ (script ++ others))
changes_parted [] r ss cs ds all first =
    let p = parts_of r ss cs all in
    let none = ok_is [] ds (sym no_changes ∙ first) in
    (p.first, p.others, p.of_first, sym p.are ∙ ap (λ l. l ++ (p.first ++ p.others)) none)
changes_parted (x ∷ rs) r ss cs ds all first =
    let p = parts_of x (rs ++ r ∷ ss) cs all in
    let q = parts_of x rs ds first in
    let same : q.first ≡ p.first = ok_is q.first p.first (sym q.of_first ∙ p.of_first) in
    let rest = changes_parted rs r ss p.others q.others p.of_others q.of_others in (
      rest.0,
      rest.1,
      rest.2,
      sym p.are ∙ ap (λ l. p.first ++ l) rest.3 ∙ sym (append_assoc p.first q.others (rest.0 ++ rest.1)) ∙ ap (λ l. (l ++ q.others) ++ (rest.0 ++ rest.1)) (sym same) ∙ ap (λ l. l ++ (rest.0 ++ rest.1)) q.are,
    )

pub map_more : {A B : Type 0} (f : A → B) (xs : List A) (x : A) → map f (xs ++ x ∷ []) ≡ map f xs ++ f x ∷ []
map_more f [] x = refl
map_more f (y ∷ ys) x = ap (λ l. f y ∷ l) (map_more f ys x)

pub reported_on : (n m : ℕ) → reported_count (reported_count n + m) ≡ reported_count (n + m)
reported_on n m = grind arith

-- ---- records that are texts, and scripts

pub texts_more : (rs : List (List ℕ)) (r : List ℕ) → AreTexts rs → IsUtf8 r → AreTexts (rs ++ r ∷ [])
texts_more [] r texts text = (text, tt)
texts_more (x ∷ rs) r texts text = (texts.0, texts_more rs r texts.1 text)

text_among : (rs : List (List ℕ)) (r : List ℕ) (ss : List (List ℕ)) → AreTexts (rs ++ r ∷ ss) → IsUtf8 r
text_among [] r ss texts = texts.0
text_among (x ∷ rs) r ss texts = text_among rs r ss texts.1

script_at : (rs : List (List ℕ)) (r : List ℕ) (ss : List (List ℕ)) (changes : List Writes) → changes_of (rs ++ r ∷ ss) ≡ Ok changes → (own : List Writes) × (script_of r ≡ Ok own)
script_at [] r ss changes h = let p = parts_of r ss changes h in (p.first, p.of_first)
script_at (x ∷ rs) r ss changes h = let p = parts_of x (rs ++ r ∷ ss) changes h in script_at rs r ss p.others p.of_others

-- a record that is no script, alone and among others
pub one_no_script : (r : List ℕ) → IsNoScript r → HaveNoScript (r ∷ [])
one_no_script r lacks changes texts h = let own = script_at [] r [] changes h in lacks own.0 texts.0 own.1

pub no_script_among : (rs : List (List ℕ)) (r : List ℕ) (ss : List (List ℕ)) → HaveNoScript (r ∷ []) → HaveNoScript (rs ++ r ∷ ss)
no_script_among rs r ss lacks changes texts h =
    let own = script_at rs r ss changes h in
    lacks (own.0 ++ []) (text_among rs r ss texts, tt) (together r [] own.0 [] own.1 no_changes)

-- ---- the changes of a file

pub rest_of : (a b : List ℕ) (rs ss : List (List ℕ)) → a ∷ rs ≡ b ∷ ss → rs ≡ ss
rest_of a b rs ss e = cc

pub none_or_some : (a : List ℕ) (rs : List (List ℕ)) → a ∷ rs ≡ [] → ⊥
none_or_some a rs e = absurd cc

pub same_records : FilesHaveOneReading → (manifest : List ℕ) (rs ss : List (List ℕ)) (file : List ℕ) → HasRecords manifest rs file → HasRecords manifest ss file → rs ≡ ss
same_records one manifest rs ss file (inl l) (inl m) = rest_of (header manifest) (header manifest) rs ss (one file (header manifest ∷ rs) (header manifest ∷ ss) l m)
same_records one manifest rs ss file (inl l) (inr m) = absurd (none_or_some (header manifest) rs (one file (header manifest ∷ rs) [] l m.1))
same_records one manifest rs ss file (inr l) (inl m) = absurd (none_or_some (header manifest) ss (one file (header manifest ∷ ss) [] m l.1))
same_records one manifest rs ss file (inr l) (inr m) = l.0 ∙ sym m.0

-- ---- a snapshot's record is no script

-- the first line of each, and it is no change
first_line : (rest : List ℕ) → lines_of (snapshot_magic ++ rest) ≡ (255 ∷ codes "snapshot 1") ∷ lines_of rest
first_line rest = slice_split_at (λ b. b == 10) (255 ∷ codes "snapshot 1") 10 rest (All-from_recursion (λ b. (b == 10) ≡ false) (255 ∷ codes "snapshot 1") (by_test refl)) refl
  where
    by_test : list_all (λ b. not (b == 10)) (255 ∷ codes "snapshot 1") ≡ true → AllByRecursion (λ b. (b == 10) ≡ false) (255 ∷ codes "snapshot 1")
    by_test h = lacks_if 10 (255 ∷ codes "snapshot 1") h

no_change : with_line [] (255 ∷ codes "snapshot 1") ≡ Err ScriptCode.Form
unfolding with_line with_operation write_of
no_change = refl

err_or_ok : (fault : ℕ × ℕ) (changes : List Writes) → Err fault ≡ Ok changes → ⊥
err_or_ok fault changes e = absurd cc

first_fails : (before : List Writes) (line : List ℕ) (lines : List (List ℕ)) (code : ScriptCode) → with_line before line ≡ Err code → (fault : ℕ × ℕ) × (in_lines script_code with_line 0 before (line ∷ lines) ≡ Err fault)
first_fails before line lines code h = ((1, script_code code), rw (h) refl)

no_script : (before : List Writes) (line : List ℕ) (lines : List (List ℕ)) (code : ScriptCode) (changes : List Writes) → with_line before line ≡ Err code → in_lines script_code with_line 0 before (line ∷ lines) ≡ Ok changes → ⊥
no_script before line lines code changes h e = let f = first_fails before line lines code h in err_or_ok f.0 changes (sym f.1 ∙ e)

is_no_script : (s : SnapshotOf) (changes : List Writes) → script_of (snapshot_bytes s) ≡ Ok changes → ⊥
is_no_script s changes e =
    let rest = number_bytes s.clock ++ (number_bytes (length s.stats) ++ (flat_map stats_bytes s.stats ++ flat_map version_bytes s.cells)) in
    let line : List ℕ = 255 ∷ codes "snapshot 1" in
    let cut : lines_of (snapshot_bytes s) ≡ line ∷ lines_of rest = first_line rest in
    let read : in_lines script_code with_line 0 [] (line ∷ lines_of rest) ≡ Ok changes = subst (λ ls. in_lines script_code with_line 0 [] ls ≡ Ok changes) cut e in
    no_script [] line (lines_of rest) ScriptCode.Form changes no_change read

-- the rest of a record of a snapshot, in front of which stands its first byte
pub starts_so : (a b : List ℕ) (rs ss : List (List ℕ)) → a ∷ rs ≡ b ∷ ss → a ≡ b
starts_so a b rs ss e = cc

not_first : (s : SnapshotOf) (scripts others : List (List ℕ)) (changes : List Writes) → changes_of scripts ≡ Ok changes → scripts ≡ snapshot_bytes s ∷ others → ⊥
not_first s scripts others changes make e =
    let p = parts_of (snapshot_bytes s) others changes (ap changes_of (sym e) ∙ make) in
    is_no_script s p.first p.of_first

-- records that begin with a snapshot or not, before scripts, begin with one snapshot
module _ (one : RecordsAreOfOneSnapshot) where
  one_snapshot : (a b : Option SnapshotOf) (rs ss : List (List ℕ)) (changes others : List Writes) → FitsIfAny a → FitsIfAny b → changes_of rs ≡ Ok changes → changes_of ss ≡ Ok others
      → snapshot_records a ++ rs ≡ snapshot_records b ++ ss → (a ≡ b) × (rs ≡ ss)
  one_snapshot None None rs ss changes others f g m n e = (refl, e)
  one_snapshot None (Some u) rs ss changes others f g m n e = absurd (not_first u rs ss changes m e)
  one_snapshot (Some s) None rs ss changes others f g m n e = absurd (not_first s ss rs others n (sym e))
  one_snapshot (Some s) (Some u) rs ss changes others f g m n e = (ap (λ z. Some z) (one s u f g (starts_so (snapshot_bytes s) (snapshot_bytes u) rs ss e)), rest_of (snapshot_bytes s) (snapshot_bytes u) rs ss e)

pub one_list : FilesHaveOneReading → RecordsAreOfOneSnapshot → FilesHaveOneList
one_list one records origin other changes others file same h k =
    let both = same_records one (head_of other) (snapshot_records origin.snapshot ++ h.scripts) (snapshot_records other.snapshot ++ k.scripts) file (subst (λ m. HasRecords m (snapshot_records origin.snapshot ++ h.scripts) file) same h.has) k.has in
    let parts = one_snapshot records origin.snapshot other.snapshot h.scripts k.scripts changes others h.fits k.fits h.make k.make both in
    (parts.0, ok_is changes others (sym h.make ∙ ap changes_of parts.1 ∙ k.make))

-- ---- a file of which a record is no script

true_or_false : true ≡ false → ⊥
true_or_false e = absurd cc

marked_first : (u : SnapshotOf) (ss : List (List ℕ)) → begins_as_snapshot (snapshot_bytes u ∷ ss) ≡ false → ⊥
marked_first u ss e = true_or_false e

module _ (reading : FilesHaveOneReading) (no_texts : SnapshotsAreNoTexts) where
  -- what follows a snapshot, or none where no record begins as one, are the scripts after any other
  same_scripts : (a b : Option SnapshotOf) (rs ss : List (List ℕ)) → (a ≡ None → begins_as_snapshot rs ≡ false) → AreTexts ss → snapshot_records a ++ rs ≡ snapshot_records b ++ ss → rs ≡ ss
  same_scripts None None rs ss off texts e = e
  same_scripts None (Some u) rs ss off texts e = absurd (marked_first u ss (ap begins_as_snapshot (sym e) ∙ off refl))
  same_scripts (Some s) None rs ss off texts e = let all : IsUtf8 (snapshot_bytes s) × AreTexts rs = subst AreTexts (sym e) texts in absurd (no_texts s all.0)
  same_scripts (Some s) (Some u) rs ss off texts e = rest_of (snapshot_bytes s) (snapshot_bytes u) rs ss e

  pub has_no_changes : (limit : ℕ) (manifest file : List ℕ) (snapshot : Option SnapshotOf) (scripts : List (List ℕ)) → (snapshot ≡ None → begins_as_snapshot scripts ≡ false)
      → HasRecords (head limit manifest) (snapshot_records snapshot ++ scripts) file → HaveNoScript scripts → HasNoChanges limit manifest file
  has_no_changes limit manifest file snapshot scripts off has lacks other changes h =
      let e = same_records reading (head limit manifest) (snapshot_records snapshot ++ scripts) (snapshot_records other ++ h.scripts) file has h.has in
      let same : scripts ≡ h.scripts = same_scripts snapshot other scripts h.scripts off h.texts e in
      lacks changes (subst AreTexts (sym same) h.texts) (ap changes_of same ∙ h.make)
