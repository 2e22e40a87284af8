use Rattle.law_texts.proofs.Taken.{run_taken, workers_taken, other_workers_refused, swaps_taken, other_swaps_refused, replay_taken, clock_taken, other_clock_refused, asm_taken, asm_profile_taken, other_asm_profile_refused, dis_taken, dis_profile_taken, other_dis_profile_refused, check_taken, check_profile_taken, other_check_profile_refused, check_record_taken, other_check_record_refused}
use Rattle.law_texts.proofs.words.plain_words_are_taken.Goals as goal

pub returns-clause-run : goal.returns-clause-run
returns-clause-run c = run_taken

pub returns-clause-workers : goal.returns-clause-workers
returns-clause-workers c = workers_taken

pub returns-clause-other_workers : goal.returns-clause-other_workers
returns-clause-other_workers c = other_workers_refused

pub returns-clause-swaps : goal.returns-clause-swaps
returns-clause-swaps c = swaps_taken

pub returns-clause-other_swaps : goal.returns-clause-other_swaps
returns-clause-other_swaps c = other_swaps_refused

pub returns-clause-replay : goal.returns-clause-replay
returns-clause-replay c = replay_taken

pub returns-clause-clock : goal.returns-clause-clock
returns-clause-clock c = clock_taken

pub returns-clause-other_clock : goal.returns-clause-other_clock
returns-clause-other_clock c = other_clock_refused

pub returns-clause-asm : goal.returns-clause-asm
returns-clause-asm c = asm_taken

pub returns-clause-asm_profile : goal.returns-clause-asm_profile
returns-clause-asm_profile c = asm_profile_taken

pub returns-clause-other_asm_profile : goal.returns-clause-other_asm_profile
returns-clause-other_asm_profile c = other_asm_profile_refused

pub returns-clause-dis : goal.returns-clause-dis
returns-clause-dis c = dis_taken

pub returns-clause-dis_profile : goal.returns-clause-dis_profile
returns-clause-dis_profile c = dis_profile_taken

pub returns-clause-other_dis_profile : goal.returns-clause-other_dis_profile
returns-clause-other_dis_profile c = other_dis_profile_refused

pub returns-clause-check : goal.returns-clause-check
returns-clause-check c = check_taken

pub returns-clause-check_profile : goal.returns-clause-check_profile
returns-clause-check_profile c = check_profile_taken

pub returns-clause-other_check_profile : goal.returns-clause-other_check_profile
returns-clause-other_check_profile c = other_check_profile_refused

pub returns-clause-check_record : goal.returns-clause-check_record
returns-clause-check_record c = check_record_taken

pub returns-clause-other_check_record : goal.returns-clause-other_check_record
returns-clause-other_check_record c = other_check_record_refused
