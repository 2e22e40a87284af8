-- The versions of a table, gathered entry by entry, and listed.
use Rattle.std.specs.BTreeMap as tree
use Rattle.std.specs.BTreeMap.{BTreeMap}
use Rattle.std.proofs.Common.{◌≡◌, ◌⊎◌, inl, inr, Bool, true, false, cond, List, [], ◌∷◌, Some, None, is_some, refl, sym, ap, ◌∙◌, subst, map, Equal, Less}
use Rattle.std.specs.Cmp.{IsTotalOrder, nat_cmp_total, tied_itself, Equal-is}
use Rattle.std.specs.Ordering.{is_eq}
use Rattle.std.specs.Map.{lookup}
use Rattle.std.specs.FinMap as fin
use Rattle.std.specs.FinMap.{nat_cmp-IsAntisymmetric}
use Rattle.std.specs.FinMap.Entries.{find}
use Rattle.std.specs.List.Sorted.{IsStrictlySortedBy}
use Rattle.std.proofs.lemmas.Bool.{cases_Bool}
use Rattle.std.proofs.lemmas.Cmp.{on_total, then_total}
use Rattle.std.proofs.lemmas.Map.Views.{btree_map_get_iff}
use Rattle.pb_snapshots.specs.Words.{both_equal, cell_cmp_total, cell_cmp-IsAntisymmetric, Cell, Revision, Ts, slot_cmp, Item, Slot, data_at, write_at, StateOf, Has}
use Rattle.pb_base.proofs.Logic.{same_some}
use Rattle.pb_history.proofs.Updates.{has_at, has_contains}
use Rattle.pb_state.proofs.EntryWalks.{here_or_left, record_there}
use Rattle.pb_snapshots.specs.Taken.{IsTakenOf}
use Rattle.pb_snapshots.specs.VersionWalks.{AreListed, AreTakenVersions, HasNoted, HasTaken, IsTakenIn, commit_cmp, commit_of_version, version_listed, version_slot}

-- ---- one version

-- a cell has one version at most of one commit
pub one_taken : (state : StateOf) (x : Cell) (v w : Revision) → IsTakenOf state x v → IsTakenOf state x w → v.commit ≡ w.commit → v ≡ w
one_taken state x v w a b commit =
    let start : v.start.0 ≡ w.start.0 = same_some v.start.0 w.start.0 (sym a.written ∙ ap (λ (c : Ts). write_at state.entries x c.0) commit ∙ b.written) in
    let content : v.content ≡ w.content = same_some v.content w.content (sym a.content ∙ ap (data_at state.entries x) start ∙ b.content) in
    λ i. record { start = record { 0 = start i }; commit = commit i; content = content i }

-- ---- keys

pub key_total : IsTotalOrder commit_cmp
key_total = then_total (on_total (λ k. k.0.0) nat_cmp_total) (on_total (λ k. k.1) cell_cmp_total)

-- keys that tie are one
key_exact : (x y : Ts × Cell) → commit_cmp x y ≡ Equal → x ≡ y
key_exact x y e =
    let b = both_equal _ _ e in
    let t = nat_cmp-IsAntisymmetric _ _ b.0 in
    let c = cell_cmp-IsAntisymmetric _ _ b.1 in
    λ i. (record { 0 = t i }, c i)

key_is : (x y : Ts × Cell) → tree.is_at (commit_cmp x) y ≡ true → x ≡ y
key_is x y h = key_exact x y ((Equal-is (commit_cmp x y)).0 h)

key_tied : (x : Ts × Cell) → tree.is_at (commit_cmp x) x ≡ true
key_tied x = ap is_eq (tied_itself key_total x)

-- a key isn't below itself
pub not_below_itself : (k : Ts × Cell) → commit_cmp k k ≡ Less → ⊥
not_below_itself k e = let tied = tied_itself key_total k in cc

-- ---- one version is noted

module _ (is : Cell → Revision → Type 0) where
  -- before anything is noted all is left
  pub nothing_noted : (m : BTreeMap (Ts × Cell) Revision) → m.entries ≡ [] → tree.IsOrdered commit_cmp m → HasNoted is is m
  nothing_noted m empty rising = record {
    sound = λ k v g. let none : tree.get commit_cmp m k ≡ None = ap (λ es. lookup (tree.is_at (commit_cmp k)) es) empty in absurd cc;
    whole = λ x v its. inr its;
    rising = rising;
  }

  module _ (left rest : Cell → Revision → Type 0) (old : BTreeMap (Ts × Cell) Revision) (so : HasNoted is left old) where
    -- what is left is the same
    pub passed_over : ((x : Cell) (v : Revision) → is x v → left x v → rest x v) → HasNoted is rest old
    passed_over same = record {
      sound = so.sound;
      whole = λ x v its. elim (so.whole x v its) [
        | inl g ↦ inl g
        | inr l ↦ inr (same x v its l)
      ];
      rising = so.rising;
    }

    -- a cell has one of them at most of one commit
    module _ (apart : (x : Cell) (v w : Revision) → is x v → is x w → v.commit ≡ w.commit → v ≡ w) (y : Cell) (v : Revision) (its : is y v) (new : BTreeMap (Ts × Cell) Revision)
        (updates : (q : Ts × Cell) → tree.get commit_cmp new q ≡ cond (tree.is_at (commit_cmp (v.commit, y)) q) (Some v) (tree.get commit_cmp old q)) where
      at_key : (q : Ts × Cell) (b : Bool) → tree.is_at (commit_cmp (v.commit, y)) q ≡ b → tree.get commit_cmp new q ≡ cond b (Some v) (tree.get commit_cmp old q)
      at_key q b h = updates q ∙ ap (λ t. cond t (Some v) (tree.get commit_cmp old q)) h

      new_sound : (k : Ts × Cell) (w : Revision) → tree.get commit_cmp new k ≡ Some w → is k.1 w × (w.commit ≡ k.0)
      new_sound k w g = elim (cases_Bool (tree.is_at (commit_cmp (v.commit, y)) k)) [
        | inl here ↦
            let same : Some v ≡ Some w = sym (at_key k true here) ∙ g in
            let one : v ≡ w = cc in
            let key : (v.commit, y) ≡ k = key_is (v.commit, y) k here in
            subst (λ (z : Revision). is k.1 z × (z.commit ≡ k.0)) one (subst (λ (x : Cell). is x v) (ap (λ (q : Ts × Cell). q.1) key) its, ap (λ (q : Ts × Cell). q.0) key)
        | inr there ↦ so.sound k w (sym (at_key k false there) ∙ g)
      ]

      at_itself : (x : Cell) (w : Revision) → y ≡ x → v ≡ w → tree.get commit_cmp new (w.commit, x) ≡ Some w
      at_itself x w same one =
          let key : (v.commit, y) ≡ (w.commit, x) = λ i. ((one i).commit, same i) in
          at_key (w.commit, x) true (subst (λ (q : Ts × Cell). tree.is_at (commit_cmp (v.commit, y)) q ≡ true) key (key_tied (v.commit, y))) ∙ ap Some one

      keeps : (x : Cell) (w : Revision) → is x w → tree.get commit_cmp old (w.commit, x) ≡ Some w → tree.get commit_cmp new (w.commit, x) ≡ Some w
      keeps x w at g = elim (cases_Bool (tree.is_at (commit_cmp (v.commit, y)) (w.commit, x))) [
        | inl here ↦
            let key : (v.commit, y) ≡ (w.commit, x) = key_is (v.commit, y) (w.commit, x) here in
            let same : y ≡ x = ap (λ (q : Ts × Cell). q.1) key in
            at_itself x w same (apart x v w (subst (λ (z : Cell). is z v) same its) at (ap (λ (q : Ts × Cell). q.0) key))
        | inr there ↦ at_key (w.commit, x) false there ∙ g
      ]

      -- it is noted, beside those that were
      pub one_added : tree.IsOrdered commit_cmp new → ((x : Cell) (w : Revision) → is x w → left x w → ((y ≡ x) × (v ≡ w)) ⊎ rest x w) → HasNoted is rest new
      one_added rising here_or_rest = record {
        sound = new_sound;
        whole = λ x w at. elim (so.whole x w at) [
          | inl g ↦ inl (keeps x w at g)
          | inr l ↦ elim (here_or_rest x w at l) [
            | inl here ↦ inl (at_itself x w here.0 here.1)
            | inr r ↦ inr r
          ]
        ];
        rising = rising;
      }

-- ---- a walk

module _ (state : StateOf) where
  abbrev IsThere : Cell → Revision → Type 0
  IsThere x v = IsTakenOf state x v

  abbrev IsLeftIn : List (Slot × Item) → Cell → Revision → Type 0
  IsLeftIn rest x v = is_some (find slot_cmp (version_slot x v) rest) ≡ true

  -- before it nothing is noted, and each version's record is left
  pub none_noted : (m : BTreeMap (Ts × Cell) Revision) → m.entries ≡ [] → tree.IsOrdered commit_cmp m → HasTaken state (fin.entries state.entries) m
  none_noted m empty rising =
      passed_over IsThere IsThere (IsLeftIn (fin.entries state.entries)) m (nothing_noted IsThere m empty rising)
      (λ x v its is. ap is_some (sym (fin.get-entries state.entries (version_slot x v))) ∙ record_there (fin.get state.entries (version_slot x v)) v.start.0 is.written)

  module _ (slot : Slot) (item : Item) (rest : List (Slot × Item)) (old : BTreeMap (Ts × Cell) Revision) (so : HasTaken state ((slot, item) ∷ rest) old) where
    -- an entry of which nothing is taken is passed over
    pub not_noted : ((v : Revision) → IsTakenIn state slot v → ⊥) → HasTaken state rest old
    not_noted none = passed_over IsThere (IsLeftIn ((slot, item) ∷ rest)) (IsLeftIn rest) old so (λ x v is l. elim (here_or_left slot item (version_slot x v) rest l) [
      | inl here ↦
          let cell : slot.cell ≡ x = ap (λ (q : Slot). q.cell) here in
          absurd (none v (subst (λ (y : Cell). IsTakenOf state y v × (slot ≡ version_slot y v)) (sym cell) (is, here)))
      | inr left ↦ left
    ])

    -- the version of an entry is noted
    pub one_noted : (v : Revision) → IsTakenIn state slot v → (new : BTreeMap (Ts × Cell) Revision)
        → ((q : Ts × Cell) → tree.get commit_cmp new q ≡ cond (tree.is_at (commit_cmp (v.commit, slot.cell)) q) (Some v) (tree.get commit_cmp old q)) → tree.IsOrdered commit_cmp new → HasTaken state rest new
    one_noted v is new updates rising =
        one_added IsThere (IsLeftIn ((slot, item) ∷ rest)) (IsLeftIn rest) old so (one_taken state) slot.cell v is.0 new updates rising
        (λ x w at l. elim (here_or_left slot item (version_slot x w) rest l) [
          | inl here ↦
              let cell : slot.cell ≡ x = ap (λ (q : Slot). q.cell) here in
              let commit : v.commit ≡ w.commit = ap (λ (q : Slot). q.ts) (sym is.1 ∙ here) in
              inl (cell, one_taken state x v w (subst (λ (y : Cell). IsTakenOf state y v) cell is.0) at commit)
          | inr left ↦ inr left
        ])

-- ---- a list

has_mapped : {A B : Type 0} (f : A → B) (xs : List A) (x : A) → Has xs x → Has (map f xs) (f x)
has_mapped f [] x h = absurd h
has_mapped f (y ∷ xs) x (inl e) = inl (ap f e)
has_mapped f (y ∷ xs) x (inr h) = inr (has_mapped f xs x h)

mapped_has : {A B : Type 0} (f : A → B) (xs : List A) (y : B) → Has (map f xs) y → (x : A) × Has xs x × (f x ≡ y)
mapped_has f [] y h = absurd h
mapped_has f (x ∷ xs) y (inl e) = (x, inl refl, e)
mapped_has f (x ∷ xs) y (inr h) = let p = mapped_has f xs y h in (p.0, inr p.1, p.2)

-- listed, the versions are known by the keys that they had
keys_listed : (es : List ((Ts × Cell) × Revision)) → ((k : Ts × Cell) (v : Revision) → Has es (k, v) → v.commit ≡ k.0) → map (λ w. w.0) es ≡ map commit_of_version (map version_listed es)
keys_listed [] starts = refl
keys_listed (w ∷ es) starts =
    let here : w.0 ≡ commit_of_version (version_listed w) = λ i. (sym (starts w.0 w.1 (inl refl)) i, w.0.1) in
    λ i. here i ∷ keys_listed es (λ k v h. starts k v (inr h)) i

module _ (is left : Cell → Revision → Type 0) (m : BTreeMap (Ts × Cell) Revision) (h : HasNoted is left m) (none : (x : Cell) (v : Revision) → left x v → ⊥) where
  there : (k : Ts × Cell) (v : Revision) → Has m.entries (k, v) → tree.get commit_cmp m k ≡ Some v
  there k v has = (btree_map_get_iff key_total key_exact m h.rising k v).1 (has_contains m.entries (k, v) has)

  listed_has : (x : Cell) (v : Revision) → Has (map version_listed m.entries) (x, v) → is x v
  listed_has x v has =
      let w = mapped_has version_listed m.entries (x, v) has in
      let its : is w.0.0.1 w.0.1 = (h.sound w.0.0 w.0.1 (there w.0.0 w.0.1 w.1)).0 in
      subst (λ (p : Cell × Revision). is p.0 p.1) w.2 its

  has_listed : (x : Cell) (v : Revision) → is x v → Has (map version_listed m.entries) (x, v)
  has_listed x v its =
      let got : tree.get commit_cmp m (v.commit, x) ≡ Some v = elim (h.whole x v its) [
        | inl g ↦ g
        | inr l ↦ absurd (none x v l)
      ] in
      let c = (btree_map_get_iff key_total key_exact m h.rising (v.commit, x) v).0 got in
      has_mapped version_listed m.entries ((v.commit, x), v) (has_at m.entries c.0 ((v.commit, x), v) c.1 c.2)

  -- a map that has them all lists them
  pub all_listed : AreListed is (map version_listed m.entries)
  all_listed = record {
    each = listed_has;
    all = has_listed;
    rising = subst (IsStrictlySortedBy commit_cmp) (keys_listed m.entries (λ k v has. (h.sound k v (there k v has)).1)) h.rising;
  }

-- after a walk no version's record is left
pub versions_listed : (state : StateOf) (m : BTreeMap (Ts × Cell) Revision) → HasTaken state [] m → AreTakenVersions state (map version_listed m.entries)
versions_listed state m h = all_listed (IsThere state) (IsLeftIn state []) m h (λ x v l. let left : false ≡ true = l in absurd cc)
