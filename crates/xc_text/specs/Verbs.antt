-- The verbs that say what kind a record is of.
--     verb_word verb      the word for it in a text
use Rattle.std.specs.Prelude.{ℕ, List, codes}
use Rattle.xc_text.specs.declared.verb.Verb.{Verb}
use Rattle.xc_text.specs.declared.verb.Verb.TheVariants as verb

abbrev pub verb_word : Verb → List ℕ
verb_word verb.Write = codes "write"
verb_word verb.Intent = codes "intent"
verb_word verb.Apply = codes "apply"
verb_word verb.Abort = codes "abort"
verb_word verb.Safe = codes "safe"
verb_word verb.Split = codes "split"
