-- Each committed change of an observed cell is handled by at most one committed run of an observer, and by one where the
-- table is quiet.
use Rattle.std.proofs.Common.{◌≡◌, ℕ, zero, suc, ◌<◌, ◌≤◌, ◌^◌, cond, ◌⊎◌, inl, inr, List, ◌∷◌, Some, sym, ap, subst, ◌∙◌, arith}
use Rattle.std.specs.FinMap as map
use Rattle.pb_history.specs.Words.{Cell, Row, Ts, Content, Writes, content_in, Work, Phase, StateOf, TransactionOf, ObserverOf, column_or_zero, observed_column, acknowledgment, write_at, NoLock}
use Rattle.pb_history.specs.declared.entry.Entry.{Entry}
use Rattle.pb_history.specs.Journals.{IsLegal}
use Rattle.pb_history.specs.History.{Member, InHistory, WritesTo}
use Rattle.pb_history.specs.Sound.{IsSoundTable}
use Rattle.pb_history.specs.Handled.{Handles, TellsOneHandler, TellsHandlers}
use Rattle.pb_history.proofs.Updates.{same_cell, same_cell_itself, same_number}
use Rattle.pb_history.proofs.Agreement.{ts, Agrees}
use Rattle.pb_history.proofs.StepsAgree.{legal_agrees}
use Rattle.pb_history.proofs.HistoryTold.{one_under_start, is_committed}
use Rattle.pb_history.proofs.JournalsAreSound.{legal_sound}
use Rattle.pb_history.proofs.SnapshotsTold.{phase_in_view, stands_at, written_by, no_writers_overlap}
use Rattle.pb_history.proofs.Acknowledgments.{acknowledged_by}
use Rattle.pb_history.proofs.RunsTold.{run_of_member}
use Rattle.pb_history.proofs.MarksCover.{IsCovered, legal_covers}

lower : (a b : ℕ) → (a < b) ⊎ (b ≤ a)
lower a b = grind arith

-- the first of some writes is what they write to its cell
own_content : (x : Cell) (k : Content) (ws : Writes) → content_in ((x, k) ∷ ws) x ≡ Some k
unfolding same_cell
own_content x k ws = ap (λ b. cond b (Some k) (content_in ws x)) (same_cell_itself x)

-- two stamps alike are of one timestamp
same_stamps : (a b : ℕ) → Content.Stamp (ts a) ≡ Content.Stamp (ts b) → a ≡ b
same_stamps a b e = let same : ts a ≡ ts b = cc in ap (λ (t : Ts). t.0) same

module _ (journal : List Entry) (state : StateOf) (a : Agrees journal state) (i : IsSoundTable state) where
  -- a run writes its acknowledgment, with its start
  writes_ack : (m : Member) → InHistory state.observers journal m → (o : ℕ) (row : Row) → m.work ≡ Work.Run o row → WritesTo m (acknowledgment state.observers o row) (Content.Stamp (ts m.start))
  writes_ack m h o row work =
      let r = run_of_member journal state a i m o row h work in
      ap (λ ws. content_in ws (acknowledgment state.observers o row)) r.writes_are ∙ own_content (acknowledgment state.observers o row) (Content.Stamp (ts m.start)) r.writes

  -- whose stamp it is
  stamp_of_writer : (m : Member) → InHistory state.observers journal m → (o : ℕ) (row : Row) (b : ℕ) → WritesTo m (acknowledgment state.observers o row) (Content.Stamp (ts b)) → b ≡ m.start
  stamp_of_writer m h o row b w = same_stamps b m.start (acknowledged_by journal state a i m h o row (observed_column state.observers o) (Content.Stamp (ts b)) w).stamp

  above : (m : Member) → InHistory state.observers journal m → m.start < m.commit
  above m h = (i.stamped m.start m.commit (inr (phase_in_view journal state a i m h))).0

  -- a run that begins after another was committed doesn't handle what that one saw
  not_again : (m n : Member) → InHistory state.observers journal m → InHistory state.observers journal n → (o : ℕ) (row : Row) (c : ℕ) → Handles state.observers journal m o row c → Handles state.observers journal n o row c → m.commit < n.start → ⊥
  not_again m n hm hn o row c p q after =
      let wm = writes_ack m hm o row p.run in
      elim q.acknowledges [
        | inl z ↦ (let l = z.0 m (Content.Stamp (ts m.start)) hm wm in omega (arith, l, after))
        | inr z ↦
            (let s = z.2 in
            let stamp : q.acknowledged ≡ s.m.start = stamp_of_writer s.m s.in_history o row q.acknowledged s.writes in
            let most = s.greatest m (Content.Stamp (ts m.start)) hm wm (omega (arith, after)) in
            elim (same_number m.start s.m.start) [
              | inl e ↦ omega (arith, e, stamp)
              | inr e ↦ elim (no_writers_overlap journal state a i m s.m hm s.in_history e (acknowledgment state.observers o row) (Content.Stamp (ts m.start)) (Content.Stamp (ts q.acknowledged)) wm s.writes) [
                | inl l ↦ (let first = above m hm in omega (arith, l, first, stamp))
                | inr l ↦ (let first = above m hm in omega (arith, l, first, most))
              ]
            ])
      ]

  -- transactions of one start are one
  same_member : (m n : Member) → InHistory state.observers journal m → InHistory state.observers journal n → m.start ≡ n.start → m ≡ n
  same_member m n hm hn start =
      let c = is_committed journal state a m hm in
      let d = is_committed journal state a n hn in
      let same : c.t ≡ d.t = one_under_start _ d.t c.t (subst (λ s. got_there s d.t) (sym start) d.there) c.there in
      let phase : Phase.Committed (ts m.commit) ≡ Phase.Committed (ts n.commit) = sym c.phase ∙ ap (λ (t : TransactionOf). t.phase) same ∙ d.phase in
      let commit : m.commit ≡ n.commit = same_commits m.commit n.commit phase in
      let seat : m.seat ≡ n.seat = c.seat ∙ ap (λ (t : TransactionOf). t.seat) same ∙ sym d.seat in
      let work : m.work ≡ n.work = c.work ∙ ap (λ (t : TransactionOf). t.work) same ∙ sym d.work in
      let writes : m.writes ≡ n.writes = c.writes ∙ ap (λ (t : TransactionOf). t.declared) same ∙ sym d.writes in
      λ j. record { start = start j; commit = commit j; seat = seat j; work = work j; writes = writes j }
    where
      got_there : ℕ → TransactionOf → Type 0
      got_there s t = map.get state.transactions s ≡ Some t

      same_commits : (c d : ℕ) → Phase.Committed (ts c) ≡ Phase.Committed (ts d) → c ≡ d
      same_commits c d e = let k : ts c ≡ ts d = cc in ap (λ (t : Ts). t.0) k

  once : TellsOneHandler journal state
  once m n hm hn o row c p q = elim (same_number m.start n.start) [
    | inl e ↦ same_member m n hm hn e
    | inr e ↦ elim (no_writers_overlap journal state a i m n hm hn e (acknowledgment state.observers o row) (Content.Stamp (ts m.start)) (Content.Stamp (ts n.start)) (writes_ack m hm o row p.run) (writes_ack n hn o row q.run)) [
      | inl l ↦ absurd (not_again m n hm hn o row c p q l)
      | inr l ↦ absurd (not_again n m hn hm o row c q p l)
    ]
  ]

  -- from a run at or after c, down to the one that handles c
  first_run : (fuel : ℕ) (m : Member) → InHistory state.observers journal m → (o : ℕ) (row : Row) (c : ℕ) → m.work ≡ Work.Run o row → 0 < c → c ≤ m.start → m.start < fuel
      → (n : Member) × InHistory state.observers journal n × Handles state.observers journal n o row c
  first_run zero m h o row c work some low up = absurd (omega (arith, up))
  first_run (suc fuel) m h o row c work some low up =
      let r = run_of_member journal state a i m o row h work in
      let newer = r.newer in
      elim (lower r.acknowledged c) [
        | inl l ↦ (m, h, record { run = work; acknowledged = r.acknowledged; acknowledges = r.acknowledges; newer = l; seen = low })
        | inr l ↦ elim r.acknowledges [
          | inl z ↦ (let none = z.1 in absurd (omega (arith, none, l, some)))
          | inr z ↦
              (let s = z.2 in
              let by = acknowledged_by journal state a i s.m s.in_history o row (observed_column state.observers o) (Content.Stamp (ts r.acknowledged)) s.writes in
              let stamp = same_stamps r.acknowledged s.m.start by.stamp in
              first_run fuel s.m s.in_history o row c by.run some (omega (arith, l, stamp)) (omega (arith, up)))
        ]
      ]

  -- a change is handled by a run where its observer has an acknowledgment of a start at or after its commit
  pub handled_by_then : (u : Member) → InHistory state.observers journal u → (o : ℕ) (row : Row) (column d s : ℕ) → write_at state.entries (Cell.Ack o row column) d ≡ Some s → u.commit ≤ s
      → (n : Member) × InHistory state.observers journal n × Handles state.observers journal n o row u.commit
  handled_by_then u h o row column d s acknowledged low =
      let m = written_by journal state a i (Cell.Ack o row column) d s acknowledged in
      let by = acknowledged_by journal state a i m.m m.in_history o row column m.content m.writes in
      let first = above u h in
      let start = m.start_is in
      first_run (suc m.m.start) m.m m.in_history o row u.commit by.run (omega (arith, first)) (omega (arith, start, low)) (omega arith)

  -- what a committed transaction wrote to an unlocked cell stands there
  pub stands_unlocked : (u : Member) → InHistory state.observers journal u → (x : Cell) (content : Content) → WritesTo u x content → NoLock state.entries x → write_at state.entries x u.commit ≡ Some u.start
  stands_unlocked u h x content w unlocked = elim (stands_at journal state a i u h x content w) [
    | inl p ↦ p
    | inr p ↦ (let none = unlocked u.start small_start in let there = p.1 in absurd cc)
  ]
    where
      small_start : u.start < 2 ^ 64
      small_start = let b = i.stamped u.start u.commit (inr (phase_in_view journal state a i u h)) in let first = b.0 in let up = b.1 in let k = i.small in omega (arith, first, up, k)

  handlers : IsCovered state → TellsHandlers journal state
  handlers cov quiet u h o observer there row content w =
      let column : observed_column state.observers o ≡ observer.column = ap column_or_zero there in
      let x : Cell = Cell.Data row observer.column in
      let wx : WritesTo u x content = ap (λ c. content_in u.writes (Cell.Data row c)) (sym column) ∙ w in
      let k = cov.covers o observer there row (quiet.unmarked x) u.commit u.start (stands_unlocked u h x content wx (quiet.unlocked x)) in
      handled_by_then u h o row observer.column k.0 k.1 k.2 k.3

module _ (observers : List ObserverOf) (seats clock : ℕ) (journal : List Entry) (state : StateOf) (l : IsLegal observers seats clock journal state) where
  pub tells_one_handler : TellsOneHandler journal state
  tells_one_handler = once journal state (legal_agrees observers seats clock journal state l) (legal_sound observers seats clock journal state l)

  pub tells_handlers : TellsHandlers journal state
  tells_handlers = handlers journal state (legal_agrees observers seats clock journal state l) (legal_sound observers seats clock journal state l) (legal_covers observers seats clock journal state l)
