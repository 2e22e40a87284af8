use Rattle.std.proofs.Common.{◌≡◌, ℕ, inl, inr, true, false, MatchBool, sym, ap, subst, ◌∙◌}
use Rattle.pb_history.proofs.OneOutcome.{behind_or_not}
use Rattle.pb_snapshots.specs.Words.{AllUpToDate, Entries, Slot, SomeBehind}
use Rattle.pb_snapshots.specs.Taken.{IsLastRecord}
use Rattle.pb_snapshots.proofs.taking.taken_in.Goals as goal
use Rattle.pb_snapshots.proofs.taking.taken_in.Goals.{then-is_last, else-is_last}

-- neither the last of its cell nor one that an observer isn't up to date on
pub returns-else-is_behind : goal.returns-else-is_behind
returns-else-is_behind g c v is = elim c.if-is_last.branch [
  | then-is_last w ↦ let wrong : true ≡ false = sym w.if-is_last.true ∙ sym w.value-is ∙ c.if-is_behind.false in absurd cc
  | else-is_last w ↦
      let state = c.args.state.now in
      let cell = c.args.slot.now.cell in
      let commit : c.args.slot.now.ts.0 ≡ v.commit.0 = ap (λ (q : Slot). q.ts.0) is.1 in
      let not_last : IsLastRecord c.table-2.result.now.contents.entries c.clock-2.result.0 cell c.args.slot.now.ts.0 → ⊥ =
      subst (λ b. MatchBool b (IsLastRecord c.table-2.result.now.contents.entries c.clock-2.result.0 cell c.args.slot.now.ts.0) (IsLastRecord c.table-2.result.now.contents.entries c.clock-2.result.0 cell c.args.slot.now.ts.0 → ⊥)) w.if-is_last.false c.is_last.ensures in
      let all : AllUpToDate state.observers state.entries cell =
      subst (λ b. MatchBool b (SomeBehind state.observers state.entries cell) (AllUpToDate state.observers state.entries cell)) (sym w.value-is ∙ c.if-is_behind.false) w.is_behind.ensures in
      elim is.0.wanted [
        | inl last ↦
            let there = subst (λ (n : ℕ). IsLastRecord state.entries state.clock cell n) (sym commit) last in
            not_last (subst (λ (e : Entries). IsLastRecord e c.clock-2.result.0 cell c.args.slot.now.ts.0) (sym c.table-2.ensures.entries) (subst (λ (n : ℕ). IsLastRecord state.entries n cell c.args.slot.now.ts.0) (sym c.clock-2.ensures) there))
        | inr behind ↦ behind_or_not state.observers state.entries cell behind all
      ]
]
