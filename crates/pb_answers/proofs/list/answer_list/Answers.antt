use Rattle.std.proofs.Common.{ℕ, IfOk, Result, String, Global, string_bytes, subst, ◌∙◌}
use Rattle.std.specs.FinMap as map
use Rattle.pb_keeper.specs.Stats.{kept_table}
use Rattle.pb_answers.specs.Words.{Entries, NoMemory, Tallies, IsReport, IsReportOf}
use Rattle.pb_answers.specs.Seen.{IsSeenIn}
use Rattle.pb_answers.specs.Lists.{tallies_in}
use Rattle.pb_answers.proofs.Newests.{seen_reported}
use Rattle.pb_answers.proofs.list.answer_list.Goals as goal

pub returns : goal.returns
returns g c =
    let n = c.in_ok-newest.ensures in
    let s = c.args.state.now in
    let table = kept_table s c.args.stats.now in
    let runs = c.as_slice.result.now in
    let marks = c.in_ok-marks.marks in
    let locks = c.in_ok-locks.locks in
    let text = string_bytes c.in_ok-text.text in
    let made = subst (λ (r : Result (String Global) NoMemory). IfOk r (λ t. IsReport n.puts runs marks locks (string_bytes t))) c.in_ok-text.was (c.report_of.ensures n.puts n.newest) in
    let seen = seen_reported c.table.result.now.contents.entries c.clock.result.0 n.puts n.gathered runs marks locks text made in
    let of_entries = subst (λ (e : Entries). IsReportOf (IsSeenIn e c.clock.result.0) runs marks locks text) c.table.ensures.entries seen in
    let at_clock = subst (λ (k : ℕ). IsReportOf (IsSeenIn s.entries k) runs marks locks text) c.clock.ensures of_entries in
    let of_runs = subst (λ (ts : Tallies). IsReportOf (IsSeenIn s.entries s.clock) ts marks locks text) (c.as_slice.ensures.value ∙ c.in_ok-tallies.ensures) at_clock in
    let of_marks = subst (λ (k : ℕ). IsReportOf (IsSeenIn s.entries s.clock) (tallies_in table) k locks text) c.in_ok-marks.ensures of_runs in
    record {
      report = text;
      reported = subst (λ (k : ℕ). IsReportOf (IsSeenIn s.entries s.clock) (tallies_in table) (map.len s.marks) k text) c.in_ok-locks.ensures of_marks;
      ended = c.in_ok-push_str.ensures.bytes;
    }
