use Rattle.std.proofs.Common.{◌≡◌, ◌∙◌, Some, sym, ap, map, option_map, codes}
use Rattle.std.proofs.lemmas.Result.{IfOk-weaker}
use Rattle.clap.specs.Words.{found_of}
use Rattle.clap.proofs.WalkLemmas.{raw_values-rows}
use Rattle.pb_texts.specs.TrialWords.{trial_cells_of}
use Rattle.pb_texts.proofs.words.trial.trial_cells_in.Goals as goal

pub returns-in-Some : goal.returns-in-Some
returns-in-Some c = IfOk-weaker c.cells_named.result _ _ (λ o h. h ∙ ap trial_cells_of (ap (option_map (λ s. map (λ v. v.now) s.now)) (sym c.in-Some.is) ∙ (c.get_strs.ensures ∙ raw_values-rows (found_of c.args.trial.now) (codes "cell")))) c.cells_named.ensures

pub returns-in-None : goal.returns-in-None
returns-in-None c = ap (λ x. Some x) c.new.ensures.items ∙ ap trial_cells_of (ap (option_map (λ s. map (λ v. v.now) s.now)) (sym c.in-None.is) ∙ (c.get_strs.ensures ∙ raw_values-rows (found_of c.args.trial.now) (codes "cell")))
