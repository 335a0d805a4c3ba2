-- `words` has one outcome at most.
use Rattle.std.proofs.Common.{ℕ, List, []}
use Rattle.wf_io.specs.Told.{File}
use Rattle.wf_words.specs.Answers.{IsWordByWords}
use Rattle.wf_stage.specs.Stages.{OfWhole}
use Rattle.wf_stage.specs.Outcomes.{HasOneOutcome}
use Rattle.wf_stage.proofs.TwoStages.{same_outcome}
use Rattle.wf_inputs.specs.Inputs.{labels_kind}
use Rattle.wf_inputs.specs.LabelsTold.{TellsEntries, RefusesLabels}
use Rattle.wf_inputs.proofs.ToldGrammars.{told_formed, told_proper}
use Rattle.wf_inputs.proofs.OneLabels.{one_entries, one_refusal_of_labels, no_refusal_of_labels, told_differ}
use Rattle.wf_inputs.proofs.OneStages.{one_spec_stage, one_view_stage}
use Rattle.wf_inputs.proofs.ViewComposites.{told_composites}
use Rattle.wf_asking.proofs.OneQueries.{one_queries_stage}
use Rattle.cmd_words.specs.Words.{Command, Words}
use Rattle.cmd_words.specs.Does.{AnswersByWords, Does}
use Rattle.cmd_words.proofs.ToldAutomata.{told_safely}
use Rattle.cmd_words.proofs.OneAutoStage.{one_auto_stage}
use Rattle.cmd_words.proofs.OneByWords.{one_word_by_words}

one_by_words : (spec view auto labels queries : File) → HasOneOutcome (AnswersByWords spec view auto labels queries)
one_by_words spec view auto labels queries =
    one_spec_stage spec _ (λ h p.
    let formed = told_formed spec.bytes h p in
    one_view_stage spec.bytes h p view _ (λ u q.
    one_auto_stage h.core u formed auto _ (λ a r.
    let safely = told_safely h.core auto.bytes a u formed (told_proper spec.bytes h p) (told_composites h.core formed view.bytes u q) r in
    same_outcome labels_kind [] labels (TellsEntries h) (OfWhole (RefusesLabels h)) _ _ (one_entries h labels.bytes) (one_refusal_of_labels h labels.bytes) (no_refusal_of_labels h labels.bytes) (λ es told.
    one_queries_stage (IsWordByWords h.core u a es) (one_word_by_words h.core u a safely es (told_differ h labels.bytes es told)) queries))))

pub one_answering : (files : List ℕ → File) (c : Command) → HasOneOutcome (Does files c)
one_answering files (Words s v a l q) = one_by_words (files s) (files v) (files a) (files l) (files q)
