-- What a log that is opened has, by its first record.
use Rattle.std.proofs.Common.{◌≡◌, ◌⊎◌, ◌==◌, ℕ, zero, suc, Bool, true, false, ◌<◌, Result, Ok, Err, IsErrAnd, IfErr, List, [], ◌∷◌, ◌++◌, inl, inr, length, map, Some, take, drop, get_or, slice_get, refl, sym, ◌∙◌, ap, subst, arith, Vec, Global}
use Rattle.pb_log.specs.Records.{IsLog, IsReadable}
use Rattle.std.proofs.lemmas.Bool.Decides.{Decides-eqb}
use Rattle.sqlite_disk.specs.Disk.{MoreFaults}
use Rattle.pb_log.specs.declared.fault.LogFault.{LogFault}
use Rattle.pb_log.specs.declared.fault.LogFault.TheVariants.{NoMemory, Disk, Full, Damaged, OtherManifest, NewerVersion, NoHeader}
use Rattle.pb_log.specs.Header.{header, HasRecords, WhyNoHeader, WhyNotOurs}
use Rattle.pb_log.specs.Causes.{IsOfTheFile, WhyNotPut, WhyNotRecovered, WhyNotOpened, WhyNoManifest}
use Rattle.pb_log.proofs.OneReading.{one_reading}

-- the first record and the others
pub first_split : (vs ws : List (Vec ℕ Global)) (v : Vec ℕ Global) → 0 < length vs → v ≡ get_or vs 0 v → ws ≡ take 0 vs ++ drop 1 vs → map (λ (x : Vec ℕ Global). x.items) vs ≡ v.items ∷ map (λ (x : Vec ℕ Global). x.items) ws
first_split [] ws v some is rest = absurd (omega (arith, some))
first_split (u ∷ us) ws v some is rest = ap (λ (x : Vec ℕ Global). x.items ∷ map (λ (y : Vec ℕ Global). y.items) us) (sym is) ∙ ap (λ (l : List (Vec ℕ Global)). v.items ∷ map (λ (y : Vec ℕ Global). y.items) l) (sym rest)

pub first_of : (vs : List (Vec ℕ Global)) (v : Vec ℕ Global) → Some v ≡ slice_get vs 0 → map (λ (x : Vec ℕ Global). x.items) vs ≡ v.items ∷ map (λ (x : Vec ℕ Global). x.items) (drop 1 vs)
first_of [] v is = absurd cc
first_of (u ∷ us) v is =
    let same : v ≡ u = cc in
    ap (λ (x : Vec ℕ Global). x.items ∷ map (λ (y : Vec ℕ Global). y.items) us) (sym same)

pub no_records : (vs : List (Vec ℕ Global)) → length vs ≡ 0 → map (λ (x : Vec ℕ Global). x.items) vs ≡ []
no_records [] none = refl
no_records (v ∷ vs) none = absurd (omega (arith, none))

-- a file without a record is a log of none
pub fresh_has_none : (file manifest : List ℕ) (own : List (List ℕ)) → own ≡ [] → IsLog file own → HasRecords manifest own file
fresh_has_none file manifest own none mine = inr (none, subst (λ (l : List (List ℕ)). IsLog file l) none mine)

pub others_are_kept : (file manifest first : List ℕ) (all others : List (List ℕ)) → IsLog file all → all ≡ first ∷ others → first ≡ header manifest → HasRecords manifest others file
others_are_kept file manifest first all others mine split is = inl (subst (λ (l : List (List ℕ)). IsLog file l) (split ∙ ap (λ (x : List ℕ). x ∷ others) is) mine)

-- each reading of a file that is opened is the one that was found
pub same_readable : (file : List ℕ) (own all : List (List ℕ)) → IsLog file own → IsReadable file own → IsLog file all → IsReadable file all
same_readable file own all mine readable its = subst (λ (l : List (List ℕ)). IsReadable file l) (one_reading file own all mine its).0 readable

-- a crash while the header is put
pub header_crash : (file c item h : List ℕ) (own rs : List (List ℕ)) → own ≡ [] → IsLog file own → IsLog file rs → item ≡ h → IsLog c [] ⊎ IsLog c ([] ++ item ∷ []) → IsLog c rs ⊎ ((rs ≡ []) × IsLog c (h ∷ []))
header_crash file c item h own rs none mine its same left =
    let empty : rs ≡ [] = (one_reading file rs own its mine).0 ∙ none in
    elim left [
      | inl before ↦ inl (subst (λ (l : List (List ℕ)). IsLog c l) (sym empty) before)
      | inr after ↦ inr (empty, subst (λ (x : List ℕ). IsLog c (x ∷ [])) same after)
    ]

-- ---- why it isn't opened

pub why_not_found : (manifest file : List ℕ) (old new : ℕ) (e : LogFault) → WhyNotRecovered old new file e → WhyNotOpened manifest old new file e
why_not_found manifest file old new (NoMemory n) why = tt
why_not_found manifest file old new (Disk x) why = why
why_not_found manifest file old new Full why = why
why_not_found manifest file old new (Damaged at) why = why
why_not_found manifest file old new OtherManifest why = absurd why
why_not_found manifest file old new NewerVersion why = absurd why
why_not_found manifest file old new NoHeader why = absurd why

pub why_no_header_put : (manifest file : List ℕ) (old mid new end : ℕ) (e : LogFault) → mid ≡ old → end ≡ 0 → WhyNotPut mid new end e → WhyNotOpened manifest old new file e
why_no_header_put manifest file old mid new end (NoMemory n) same first why = tt
why_no_header_put manifest file old mid new end (Disk x) same first why = subst (λ (k : ℕ). MoreFaults k new) same why
why_no_header_put manifest file old mid new end Full same first why = omega (arith, why, first)
why_no_header_put manifest file old mid new end (Damaged at) same first why = absurd why
why_no_header_put manifest file old mid new end OtherManifest same first why = absurd why
why_no_header_put manifest file old mid new end NewerVersion same first why = absurd why
why_no_header_put manifest file old mid new end NoHeader same first why = absurd why

pub put_is_not_of_file : (old new end : ℕ) (e : LogFault) → WhyNotPut old new end e → IsOfTheFile e → ⊥
put_is_not_of_file old new end (NoMemory n) why of = of
put_is_not_of_file old new end (Disk x) why of = of
put_is_not_of_file old new end Full why of = of
put_is_not_of_file old new end (Damaged at) why of = why
put_is_not_of_file old new end OtherManifest why of = why
put_is_not_of_file old new end NewerVersion why of = why
put_is_not_of_file old new end NoHeader why of = why

pub why_not_ours : (manifest file first : List ℕ) (others : List (List ℕ)) (old new : ℕ) (e : LogFault) → IsLog file (first ∷ others) → WhyNotOurs manifest first e → WhyNotOpened manifest old new file e
why_not_ours manifest file first others old new (NoMemory n) its why = tt
why_not_ours manifest file first others old new (Disk x) its why = absurd why
why_not_ours manifest file first others old new Full its why = why
why_not_ours manifest file first others old new (Damaged at) its why = absurd why
why_not_ours manifest file first others old new OtherManifest its why = record { first = first; others = others; is = its; why = why }
why_not_ours manifest file first others old new NewerVersion its why = record { first = first; others = others; is = its; why = why }
why_not_ours manifest file first others old new NoHeader its why = inl (record { first = first; others = others; is = its; why = why })

-- ---- why its manifest isn't read

pub not_ours : (manifest first : List ℕ) (e : LogFault) → WhyNoHeader first e → WhyNotOurs manifest first e
not_ours manifest first (NoMemory n) why = absurd why
not_ours manifest first (Disk x) why = absurd why
not_ours manifest first Full why = absurd why
not_ours manifest first (Damaged at) why = absurd why
not_ours manifest first OtherManifest why = absurd why
not_ours manifest first NewerVersion why = why
not_ours manifest first NoHeader why = why

pub why_no_manifest : (file first : List ℕ) (others : List (List ℕ)) (old new : ℕ) (e : LogFault) → IsLog file (first ∷ others) → WhyNoHeader first e → WhyNoManifest old new file e
why_no_manifest file first others old new (NoMemory n) its why = tt
why_no_manifest file first others old new (Disk x) its why = absurd why
why_no_manifest file first others old new Full its why = absurd why
why_no_manifest file first others old new (Damaged at) its why = absurd why
why_no_manifest file first others old new OtherManifest its why = absurd why
why_no_manifest file first others old new NewerVersion its why = record { first = first; others = others; is = its; why = why }
why_no_manifest file first others old new NoHeader its why = record { first = first; others = others; is = its; why = why }

pub has_a_record : (first : List ℕ) (others : List (List ℕ)) → first ∷ others ≡ [] → ⊥
has_a_record first others e = absurd cc

-- ---- what a `?` passes on, and a number that isn't zero

pub err_if : {T : Type 0} (r : Result T LogFault) (e : LogFault) (P : LogFault → Type 0) → IsErrAnd r (λ f. f ≡ e) → P e → IfErr r P
err_if (Ok x) e P is holds = tt
err_if (Err f) e P is holds = subst P (sym is) holds

pub is_zero : (n : ℕ) (r : Bool) → r ≡ (n == 0) → r ≡ true → n ≡ 0
is_zero n r is zero_found = (Decides-eqb n 0).0 (sym is ∙ zero_found)

pub is_some_number : (n : ℕ) (r : Bool) → r ≡ (n == 0) → r ≡ false → 0 < n
is_some_number zero r is none =
    let wrong : true ≡ false = sym is ∙ none in
    absurd (grind (arith, wrong))
is_some_number (suc n) r is none = omega arith
