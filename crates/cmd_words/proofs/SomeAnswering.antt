-- `words` has an outcome.
use Rattle.std.proofs.Common.{ℕ, List}
use Rattle.wf_io.specs.Told.{File}
use Rattle.wf_words.specs.Answers.{IsWordByWords}
use Rattle.wf_stage.specs.Outcomes.{HasOutcome}
use Rattle.wf_inputs.proofs.SomeInputs.{some_spec_stage, some_view_stage, some_labels_stage, told_labels}
use Rattle.wf_inputs.proofs.ToldGrammars.{told_formed, told_proper}
use Rattle.wf_inputs.proofs.ViewComposites.{told_composites}
use Rattle.wf_asking.proofs.SomeQueries.{some_queries_stage}
use Rattle.cmd_words.specs.Words.{Command, Words}
use Rattle.cmd_words.specs.Does.{AnswersByWords, Does}
use Rattle.cmd_words.proofs.ToldAutomata.{told_safely}
use Rattle.cmd_words.proofs.SomeAutoStage.{some_auto_stage}
use Rattle.cmd_words.proofs.SomeByWords.{some_word_by_words}

some_by_words : (spec view auto labels queries : File) → HasOutcome (AnswersByWords spec view auto labels queries)
some_by_words spec view auto labels queries =
    some_spec_stage spec _ (λ h p.
    let formed = told_formed spec.bytes h p in
    let proper = told_proper spec.bytes h p in
    some_view_stage spec.bytes h p view _ (λ u q.
    let composites = told_composites h.core formed view.bytes u q in
    some_auto_stage h.core u formed proper composites auto _ (λ a r.
    let safely = told_safely h.core auto.bytes a u formed proper composites r in
    some_labels_stage h labels _ (λ es told.
    some_queries_stage (IsWordByWords h.core u a es) (some_word_by_words h.core es (told_labels h labels.bytes es told) u a safely) queries))))

pub some_answering : (files : List ℕ → File) (c : Command) → HasOutcome (Does files c)
some_answering files (Words s v a l q) = some_by_words (files s) (files v) (files a) (files l) (files q)
