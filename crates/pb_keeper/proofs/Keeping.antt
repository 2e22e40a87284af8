-- Changes that are kept, one after another, and from generation to generation.
use Rattle.std.proofs.Common.{arith, ◌≡◌, ℕ, ◌<◌, List, [], ◌∷◌, ◌++◌, ◌+◌, length, slice_index_or, Some, slice_get, refl, sym, ap, subst, ◌∙◌}
use Rattle.std.proofs.lemmas.List.{append_assoc, append-nil, length-append, length-map, length-replicate}
use Rattle.std.proofs.lemmas.Option.{slice_get_within}
use Rattle.pb_keeper.specs.Words.{Writes, ObserverOf, last_timestamp, StateOf, StepsKeepSound, OpeningIsSound, IsSoundTable, Received, entries_by, HasMoreObservers, IsUnlocked, AreChosen, ChosenAreSound, new_number, renumbered_said, IsKeptTable, opened as opened_kept, anew as anew_kept, chosen as chosen_kept, RunsKeepTables, WholeChangesKeepTables, MarksKeepTables, LeftAreSound, no_part, one_part}
use Rattle.pb_generations.proofs.ChosenNumbers.{said_renumbered}
use Rattle.pb_keeper.specs.Drains.{IsDrainWithin}
use Rattle.pb_keeper.specs.Leads.{SaidLeads}
use Rattle.pb_keeper.specs.Keeps.{AreMadeInAll, nothing_made, change_made, observers_changed, total_in, CatchesUp, IsChosenOf, IsKeptAfter, Keeps, KeepsFrom, none_made, one_made, IsFirstTable, opened, anew, changed, BeginningKeepsNone, IsWholeTable, KeptIsWhole}
use Rattle.pb_keeper.specs.Stats.{no_runs, sum_of, AreKeptStats, AreStatsOf, Counted, KeptTable, chosen_stats, first_stats, kept_table}
use Rattle.pb_keeper.specs.Stops.{WasKept}
use Rattle.pb_keeper.specs.declared.stats.ObserverStats.{ObserverStats}
use Rattle.pb_keeper.proofs.BoundedDrains.{of_drain_within}
use Rattle.pb_keeper.proofs.EachPart.{AreMade, of_all}
use Rattle.pb_keeper.proofs.CatchingUp.{kept_with_none, none_counted, none_of_any}
use Rattle.pb_keeper.proofs.KeptTables.{change_leaves, parts_leave}
use Rattle.pb_keeper.proofs.Leading.{leads_observers}
use Rattle.pb_keeper.proofs.LedTables.{led_by}
use Rattle.pb_keeper.proofs.NoConflicts.{counts_none, parts_meet_none, change_meets_none}
use Rattle.pb_keeper.proofs.Parting.{made_begins, stats_parted, stats_of_none}
use Rattle.pb_keeper.proofs.Resting.{first_sound, first_free, from_free, from_sound, marked_free, marked_sound}
use Rattle.pb_keeper.proofs.Statistics.{plus_assoc, plus_none}

-- one more change
pub kept_on : (limit : ℕ) (first : KeptTable) (changes : List Writes) (batch : Writes) (old new : KeptTable) → Keeps limit first changes old → IsKeptAfter limit batch old new → Keeps limit first (changes ++ batch ∷ []) new
kept_on limit first changes batch old new k is = record { past = k.past; began = k.began; leads = one_made changes batch old new k.leads is }

pub beginning_keeps_none : BeginningKeepsNone
beginning_keeps_none limit past first began = record { past = past; began = began; leads = none_made }

-- it got more observers, and a drain led on
abbrev pub caught : (more : List ObserverOf) (bound : ℕ) (old : KeptTable) (marked new : StateOf) (begun stats : List ObserverStats) → HasMoreObservers more old.state marked → begun ≡ old.stats ++ first_stats more
    → SaidLeads (Counted marked.observers begun stats (IsDrainWithin marked.observers bound)) marked new → CatchesUp more old (kept_table new stats)
caught more bound old marked new begun stats has are g = record { marked = kept_table marked begun; observed = has; stats_are = are; bound = bound; drained = g }

-- ---- all generations

-- a generation's changes are made after those of the generations before
made_on : (observers gone : List ObserverOf) (past changes : List Writes) (said more : List Received) (total did : ℕ → ObserverStats) → AreMadeInAll observers gone past said total → AreMade observers changes more → AreStatsOf observers more did
    → AreMadeInAll observers gone (past ++ changes) (said ++ more) (λ o. sum_of (total o) (did o))
made_on observers gone past changes said more total did a no_part are =
    subst (λ (t : ℕ → ObserverStats). AreMadeInAll observers gone (past ++ []) (said ++ []) t) (sym (λ i o. plus_none (total o) i) ∙ (λ i o. sum_of (total o) (sym (stats_of_none observers [] did are refl) i o)))
    (subst (λ cs. AreMadeInAll observers gone cs (said ++ []) total) (sym (append-nil past)) (subst (λ l. AreMadeInAll observers gone past l total) (sym (append-nil said)) a))
made_on observers gone past changes said more total did a (one_part cs now before last b next) are =
    let p = stats_parted observers (before ++ last) did are before last refl (made_begins observers next.bound next.batch next.commit last next.made) in
    subst (λ (t : ℕ → ObserverStats). AreMadeInAll observers gone (past ++ now) (said ++ (before ++ last)) t)
    ((λ i o. plus_assoc (total o) (p.earlier o) (p.later o) i) ∙ (λ i o. sum_of (total o) (sym p.total_is i o)))
    (subst (λ l. AreMadeInAll observers gone (past ++ now) l (λ o. sum_of (sum_of (total o) (p.earlier o)) (p.later o))) (append_assoc said before last)
    (subst (λ l. AreMadeInAll observers gone l ((said ++ before) ++ last) (λ o. sum_of (sum_of (total o) (p.earlier o)) (p.later o))) (append_assoc past cs (next.batch ∷ []) ∙ ap (λ l. past ++ l) (sym next.now_is))
    (change_made observers gone (past ++ cs) (said ++ before) last (λ o. sum_of (total o) (p.earlier o)) p.later next.bound next.batch next.commit (made_on observers gone past cs said before total p.earlier a b p.first) next.few next.made p.last)))

-- so many stats are kept as there are observers that stay, and others
as_many_chosen : (places : List ℕ) (front more : List ObserverOf) (old between : KeptTable) (marked : List ObserverStats) → IsChosenOf places front old between → marked ≡ between.stats ++ first_stats more → length marked ≡ length (front ++ more)
as_many_chosen places front more old between marked is are =
    let stay : length between.stats ≡ length front = ap length is.stats_are ∙ length-map places (λ p. slice_index_or old.stats p no_runs) ∙ sym is.are.as_many in
    ap length are ∙ length-append between.stats (first_stats more) ∙ (λ i. stay i + length-replicate (length more) no_runs i) ∙ sym (length-append front more)

-- and each of those that stay has its stats
place_within : (places : List ℕ) (front : List ObserverOf) (old between : KeptTable) → IsChosenOf places front old between → length old.stats ≡ length old.state.observers → (n p : ℕ) → slice_get places n ≡ Some p → p < length old.stats
place_within places front old between is many n p e = let o = is.are.each n p e in subst (λ l. p < l) (sym many) (slice_get_within old.state.observers p o.0 o.1)

module _ (keeps : StepsKeepSound) (opens : OpeningIsSound) (left : LeftAreSound) (chosen : ChosenAreSound) (runs : RunsKeepTables) (whole : WholeChangesKeepTables) (marks : MarksKeepTables) where
  -- a generation's changes, after those of the generations before
  whole_on : (limit : ℕ) (observers : List ObserverOf) (past changes : List Writes) (first table : KeptTable) → IsFirstTable past first → first.state.observers ≡ observers → IsWholeTable observers past first → KeepsFrom limit first changes table
      → IsWholeTable observers (past ++ changes) table
  whole_on limit observers past changes first table began same w k =
      on (subst (λ (l : List ObserverOf). SaidLeads (Counted l first.stats table.stats (AreMade l changes)) first.state table.state) same (led_by limit first changes table k))
    where
      on : SaidLeads (Counted observers first.stats table.stats (AreMade observers changes)) first.state table.state → IsWholeTable observers (past ++ changes) table
      on g = record {
        gone = w.gone;
        said = w.said ++ g.said;
        total = λ o. sum_of (w.total o) (g.form.total o);
        made = made_on observers w.gone past changes w.said g.said w.total g.form.total w.made g.form.form g.form.did;
        c = w.c;
        kept = of_all observers (parts_leave observers runs marks) (change_leaves observers whole) changes g.said g.form.form w.gone w.c w.said first.state table.state w.kept g.leads;
        clean = λ o.
            let met = (of_all observers (parts_meet_none keeps observers) (change_meets_none keeps observers) changes g.said g.form.form).1 first.state table.state (first_sound keeps opens left chosen past first began) (first_free keeps opens left chosen past first began) g.leads in
            let later = counts_none observers g.said g.form.total g.form.did met o in
            omega (arith, w.clean o, later);
        as_many = g.form.as_many ∙ w.as_many;
        are = g.form.grows w.total w.are;
      }

  -- where such a table gets other observers it is kept over generations still
  kept_chosen : (observers gone : List ObserverOf) (c : ℕ) (said : List Received) (old between : KeptTable) (marked : StateOf) (places : List ℕ) (front more : List ObserverOf) → IsKeptTable observers gone 1 0 c (entries_by 0 said) old.state
      → old.state.observers ≡ observers → IsSoundTable old.state → IsUnlocked old.state → old.state.clock < last_timestamp → IsChosenOf places front old between → HasMoreObservers more between.state marked
      → IsKeptTable (front ++ more) (observers ++ gone) 1 0 old.state.clock (entries_by 0 (renumbered_said (new_number places (length (front ++ more))) said)) marked
  kept_chosen observers gone c said old between marked places front more k same sound free room is has =
      let number = new_number places (length (front ++ more)) in
      let ended = (chosen places front old.state between.state.entries between.state.transactions sound is.are is.snapshot is.left).1 in
      subst (λ es. IsKeptTable (front ++ more) (observers ++ gone) 1 0 old.state.clock es marked) (sym (said_renumbered number 0 said))
      (chosen_kept observers gone 1 0 c (entries_by 0 said) old.state places front more between.state.entries between.state.transactions between.state marked k free room
      (subst (λ l. AreChosen places l front) same is.are) is.snapshot ended is.marked has)

  first_whole : (past : List Writes) (first : KeptTable) → IsFirstTable past first → IsWholeTable first.state.observers past first
  first_whole past first (opened observers) = record {
    gone = [];
    said = [];
    total = λ o. no_runs;
    made = nothing_made observers;
    c = 0;
    kept = opened_kept observers 1 0 (grind arith);
    clean = λ o. refl;
    as_many = length-replicate (length observers) no_runs;
    are = λ o lt. none_counted (length observers) o;
  }
  first_whole past first (anew limit before changes start old new began k room is stats) =
      over (whole_on limit start.state.observers before changes start old began refl (first_whole before start began) k)
    where
      over : IsWholeTable start.state.observers (before ++ changes) old → IsWholeTable first.state.observers (before ++ changes) first
      over w =
          let sound = from_sound keeps opens left chosen limit before changes start old began k in
          let ended = (left old.state first.state.entries first.state.transactions sound is.snapshot is.left).1 in
          let observers = start.state.observers in
          let same : first.state.observers ≡ observers = ap (λ (z : StateOf). z.observers) is.marked.is ∙ leads_observers start.state old.state (led_by limit start changes old k) in
          subst (λ (l : List ObserverOf). IsWholeTable l (before ++ changes) first) (sym same) (record {
            gone = w.gone;
            said = w.said;
            total = w.total;
            made = w.made;
            c = old.state.clock;
            kept =
                anew_kept observers w.gone 1 0 w.c (entries_by 0 w.said) old.state first.state.entries first.state.transactions first.state w.kept
                (from_free keeps opens left chosen limit before changes start old began (first_free keeps opens left chosen before start began) k) room is.snapshot ended is.marked;
            clean = w.clean;
            as_many = ap length stats ∙ w.as_many;
            are = subst (AreKeptStats w.total) (sym stats) w.are;
          })
  first_whole past first (changed limit before changes start old between new places front more began k room is up) =
      over (whole_on limit start.state.observers before changes start old began refl (first_whole before start began) k)
    where
      observers : List ObserverOf
      observers = front ++ more

      was : old.state.observers ≡ start.state.observers
      was = leads_observers start.state old.state (led_by limit start changes old k)

      same : up.marked.state.observers ≡ observers
      same = ap (λ (z : StateOf). z.observers) up.observed.is ∙ ap (λ (z : StateOf). z.observers ++ more) is.marked.is

      drain : SaidLeads (Counted observers up.marked.stats first.stats (IsDrainWithin observers up.bound)) up.marked.state first.state
      drain = subst (λ (l : List ObserverOf). SaidLeads (Counted l up.marked.stats first.stats (IsDrainWithin l up.bound)) up.marked.state first.state) same up.drained

      over : IsWholeTable start.state.observers (before ++ changes) old → IsWholeTable first.state.observers (before ++ changes) first
      over w =
          let said = renumbered_said (new_number places (length observers)) w.said in
          let stats : up.marked.stats ≡ chosen_stats places old.stats ++ first_stats more = up.stats_are ∙ ap (λ l. l ++ first_stats more) is.stats_are in
          let within = place_within places front old between is (w.as_many ∙ ap length (sym was)) in
          subst (λ (l : List ObserverOf). IsWholeTable l (before ++ changes) first) (sym (leads_observers up.marked.state first.state up.drained ∙ same)) (record {
            gone = start.state.observers ++ w.gone;
            said = said ++ drain.said;
            total = λ o. sum_of (total_in places w.total o) (drain.form.total o);
            made = observers_changed start.state.observers w.gone front more places up.bound (before ++ changes) w.said drain.said w.total drain.form.total w.made (subst (λ l. AreChosen places l front) was is.are) drain.form.form drain.form.did;
            c = old.state.clock;
            kept = of_drain_within observers (parts_leave observers runs marks) up.bound drain.said drain.form.form (start.state.observers ++ w.gone) old.state.clock said up.marked.state first.state
                (kept_chosen start.state.observers w.gone w.c w.said old between up.marked.state places front more w.kept was (from_sound keeps opens left chosen limit before changes start old began k)
                (from_free keeps opens left chosen limit before changes start old began (first_free keeps opens left chosen before start began) k) room is up.observed) drain.leads;
            clean = λ o.
                let earlier = none_of_any w.total w.clean (slice_get places o) in
                let met = (of_drain_within observers (parts_meet_none keeps observers) up.bound drain.said drain.form.form).1 up.marked.state first.state
                (marked_sound keeps opens left chosen limit before changes start old between new places front more began k is up) (marked_free keeps opens left chosen old between new places front more is up) drain.leads in
                let later = counts_none observers drain.said drain.form.total drain.form.did met o in
                omega (arith, earlier, later);
            as_many = drain.form.as_many ∙ as_many_chosen places front more old between up.marked.stats is up.stats_are;
            are = drain.form.grows (total_in places w.total) (subst (AreKeptStats (total_in places w.total)) (sym stats) (λ o lt. kept_with_none w.total old.stats w.are (length more) places within o));
          })

  pub kept_is_whole : KeptIsWhole
  kept_is_whole limit first changes table k = whole_on limit first.state.observers k.past changes first table k.began refl (first_whole k.past first k.began) k.leads

  -- so it is kept over generations
  pub kept_before : (limit : ℕ) (first : KeptTable) (changes : List Writes) (table : KeptTable) → Keeps limit first changes table → WasKept table.state
  kept_before limit first changes table k = let w = kept_is_whole limit first changes table k in record { observers = first.state.observers; gone = w.gone; c = w.c; said = w.said; kept = w.kept }

  -- also where it has got other observers
  pub kept_marked : (limit : ℕ) (past changes : List Writes) (first old between : KeptTable) (marked : StateOf) (places : List ℕ) (front more : List ObserverOf) → IsFirstTable past first → KeepsFrom limit first changes old
      → old.state.clock < last_timestamp → IsChosenOf places front old between → HasMoreObservers more between.state marked → WasKept marked
  kept_marked limit past changes first old between marked places front more began k room is has =
      let w = whole_on limit first.state.observers past changes first old began refl (first_whole past first began) k in
      record {
        observers = front ++ more;
        gone = first.state.observers ++ w.gone;
        c = old.state.clock;
        said = renumbered_said (new_number places (length (front ++ more))) w.said;
        kept = kept_chosen first.state.observers w.gone w.c w.said old between marked places front more w.kept (leads_observers first.state old.state (led_by limit first changes old k)) (from_sound keeps opens left chosen limit past changes first old began k)
            (from_free keeps opens left chosen limit past changes first old began (first_free keeps opens left chosen past first began) k) room is has;
      }
