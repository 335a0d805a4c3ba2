use Rattle.std.proofs.Common.{sym, ap, subst}
use Rattle.wf_model.specs.Grammar.{Grammar}
use Rattle.label_file.specs.Stored.{AreHeldOf, IsStoreFor}
use Rattle.cmd_words.proofs.WordViews.{is_word_view, of_word_view, answered_by_same}
use Rattle.cmd_words.proofs.labels.answer_over.Goals as goal

pub answer_under-ended-requires-clause-words : goal.answer_under-ended-requires-clause-words
answer_under-ended-requires-clause-words g c =
    let v = c.args.v.now in
    is_word_view v.accepted.grammar.core v.view.core c.args.automaton.now c.args.lifted.now c.requires.fits c.requires.lifted c.args.plain.now c.in-Ok.raised c.requires.grammar c.in-Ok.ensures.grammar

pub answer_under-ended-requires-clause-store : goal.answer_under-ended-requires-clause-store
answer_under-ended-requires-clause-store g c = subst (λ (x : Grammar). IsStoreFor x c.args.store.now) (sym c.requires.grammar) c.requires.store

pub returns : goal.returns
returns g c =
    let v = c.args.v.now in
    let u = v.view.core in
    let a = c.args.automaton.now in
    let plain = c.args.plain.now in
    let raised = c.in-Ok.raised in
    let same = c.requires.grammar in
    let accepted = c.grammar-accepted.ensures.safe.accepted in
    let of = of_word_view v.accepted.grammar.core u a c.args.lifted.now c.requires.fits c.requires.lifted plain raised same c.in-Ok.ensures.grammar accepted.formed accepted.proper c.requires.label c.in-Ok.ensures.label in
    record {
      obeys = λ entries held.
          answered_by_same u entries (plain.grammar, a) (v.accepted.grammar.core, a) _ _ _ _ _ (ap (λ (x : Grammar). (x, a)) same)
          (c.answer_under-ended.ensures.obeys u entries of (subst (λ (x : Grammar). AreHeldOf x entries c.args.store.now) (sym same) held));
      untouched = c.answer_under-ended.ensures.untouched;
    }
