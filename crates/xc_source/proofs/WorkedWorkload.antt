-- Small workloads, computed to the logs that they make.
use Rattle.std.specs.Prelude.{◌≡◌, [], ◌∷◌, codes, refl}
use Rattle.std.specs.Fmt.{digits}
use Rattle.rand_core.specs.Steps.{first_words}
use Rattle.xc_record.specs.declared.record.Kind.TheVariants.{Write, Intent, Abort, Safe}
use Rattle.xc_record.specs.Hash.{hash_of}
use Rattle.xc_source.specs.Waiting.{tablets_of, holder, commits_on, pending}
use Rattle.xc_source.specs.Commands.{step}
use Rattle.xc_source.specs.Workload.{root, words, workload, generated, word_commands, split_commands}
use Rattle.xc_source.proofs.WorkedScripts.{at, sets, log_of}

-- the words of two seeds, by the generator's reference
words_of_0 : words 0 3 ≡ 16294208416658607535 ∷ 7960286522194355700 ∷ 487617019471545679 ∷ []
unfolding first_words
words_of_0 = refl

words_of_1 : words 1 3 ≡ 10451216379200822465 ∷ 13757245211066428519 ∷ 17911839290282890590 ∷ []
unfolding first_words
words_of_1 = refl

one_step : (generated 0 1).tablets ≡
    log_of (root 0 0 16383) (at 3 (Safe 3) ∷ [])
    ∷ log_of (root 1 16384 32767) (at 4 (Safe 4) ∷ [])
    ∷ log_of (root 2 32768 49151)
    (at 1 (Intent 0 1 (sets (codes "k970") (codes "41") ∷ [])) ∷ at 2 (Abort 1) ∷ at 5 (Safe 5) ∷ [])
    ∷ log_of (root 3 49152 65535) (at 6 (Safe 6) ∷ []) ∷ []
unfolding generated workload first_words digits word_commands split_commands step hash_of tablets_of holder commits_on pending
one_step = refl

one_step_commits : (generated 0 1).commits ≡ []
unfolding generated workload first_words digits word_commands split_commands step hash_of tablets_of holder commits_on pending
one_step_commits = refl

three_steps : (generated 0 3).tablets ≡
    log_of (root 0 0 16383) (at 6 (Safe 6) ∷ [])
    ∷ log_of (root 1 16384 32767)
    (at 3 (Write (sets (codes "k231") (codes "637") ∷ [])) ∷ at 4 (Intent 0 2 (sets (codes "k604") (codes "716") ∷ []))
    ∷ at 5 (Abort 2) ∷ at 7 (Safe 7) ∷ [])
    ∷ log_of (root 2 32768 49151)
    (at 1 (Intent 0 1 (sets (codes "k970") (codes "41") ∷ [])) ∷ at 2 (Abort 1) ∷ at 8 (Safe 8) ∷ [])
    ∷ log_of (root 3 49152 65535) (at 9 (Safe 9) ∷ []) ∷ []
unfolding generated workload first_words digits word_commands split_commands step hash_of tablets_of holder commits_on pending
three_steps = refl

three_steps_commits : (generated 0 3).commits ≡ record { time = 3; txn = 0; ops = sets (codes "k231") (codes "637") ∷ [] } ∷ []
unfolding generated workload first_words digits word_commands split_commands step hash_of tablets_of holder commits_on pending
three_steps_commits = refl
