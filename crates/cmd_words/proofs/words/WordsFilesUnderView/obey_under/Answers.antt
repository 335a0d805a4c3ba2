use Rattle.std.proofs.Common.{refl, subst, inl}
use Rattle.std.specs.Prelude.{Result, Ok, Err, codes}
use Rattle.std.proofs.lemmas.Result.{err_from_is_err_and}
use Rattle.wf_spec.specs.Held.{HeldGrammar}
use Rattle.words_model.specs.Automata.{Automaton}
use Rattle.wf_automaton.specs.Rules.{TellsAutomaton}
use Rattle.wf_message.specs.Endings.{end_of}
use Rattle.wf_message.specs.declared.ending.Stop.{Stop}
use Rattle.wf_stage.specs.Stages.{Declines, OfWhole}
use Rattle.wf_stage.proofs.Obeying.{obeys_passed}
use Rattle.wf_stage.proofs.Reading.{reads_on, reads_stop}
use Rattle.wf_stage.proofs.Stages.{declines_by}
use Rattle.cmd_words.specs.AutoTold.{TellsAuto, RefusesAutomaton, RefusesAuto}
use Rattle.cmd_words.proofs.AutoTaking.{auto_stops}
use Rattle.cmd_words.proofs.LiftedTaking.{auto_taken}
use Rattle.cmd_words.proofs.words.WordsFilesUnderView.obey_under.Goals as goal

pub returns-in_err-bytes : goal.returns-in_err-bytes
returns-in_err-bytes g c =
    let h = c.args.v.now.accepted.grammar in
    let u = c.args.v.now.view.core in
    let d = c.in_err-bytes.field-0.0 in
    let none : Result Automaton Stop = Err d in
    record {
      obeys = obeys_passed _ _ _ _ _ _ c.from_residual.result d (err_from_is_err_and c.from_residual.result c.from_residual.ensures.1)
          (auto_stops h.core u _ _ _ _ _ (reads_stop g.H.Shelf.at_last (TellsAuto h.core u) (λ a. a) (OfWhole (RefusesAuto h.core u)) _ _ d none (d, refl, refl) c.in_err-bytes.ensures.reads));
      untouched = λ wants held. (refl, refl);
    }

pub returns-in_err-automaton : goal.returns-in_err-automaton
returns-in_err-automaton g c =
    let h = c.args.v.now.accepted.grammar in
    let u = c.args.v.now.view.core in
    let d = c.in_err-automaton.field-0.0 in
    let held = c.deref.result.now in
    let none : Result Automaton Stop = Err d in
    record {
      obeys = obeys_passed _ _ _ _ _ _ c.from_residual-in_err-automaton.result d (err_from_is_err_and c.from_residual-in_err-automaton.result c.from_residual-in_err-automaton.ensures.1)
          (auto_stops h.core u _ _ _ _ _ (reads_on g.H.Shelf.at_last (TellsAuto h.core u) (λ a. a) (OfWhole (RefusesAuto h.core u)) _ _ _ held c.in_ok-bytes.ensures.reads c.deref.ensures.value none tt
          (declines_by (codes "auto") (OfWhole (RefusesAutomaton h.core) held) (OfWhole (RefusesAuto h.core u) held) (λ line fault r. (r.0, inl r.1)) _
          (subst (λ (x : HeldGrammar). Declines (codes "auto") (OfWhole (RefusesAutomaton x.core) held) (end_of d)) c.grammar.ensures.grammar c.in_err-automaton.ensures.declines))));
      untouched = λ wants held. (refl, refl);
    }

pub returns : goal.returns
returns g c =
    let h = c.args.v.now.accepted.grammar in
    let a = c.in_ok-automaton.automaton in
    let held = c.deref.result.now in
    let all : Result Automaton Stop = Ok a in
    let tells = subst (λ (x : HeldGrammar). TellsAutomaton x.core held a) c.grammar.ensures.grammar c.in_ok-automaton.ensures.tells in
    record {
      obeys = auto_taken h c.args.v.now.view.core a _ _ _ _ _ _
          (reads_on g.H.Shelf.at_last (TellsAutomaton h.core) (λ b. b) (OfWhole (RefusesAutomaton h.core)) _ _ _ held c.in_ok-bytes.ensures.reads c.deref.ensures.value all tells tt)
          c.answer_read-ended.ensures.obeys;
      untouched = λ wants held. c.answer_read-ended.ensures.untouched wants;
    }
