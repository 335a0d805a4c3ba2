use Rattle.std.proofs.Common.{◌≡◌, refl, sym, ap, subst}
use Rattle.wf_model.specs.Grammar.{Grammar}
use Rattle.words_model.specs.Automata.{Automaton}
use Rattle.label_file.specs.Stored.{AreHeldOf, IsStoreFor}
use Rattle.wf_words.specs.WordViews.{WordViewSeen, AreOfWordView}
use Rattle.cmd_words.specs.Prepared.{WordsKnown, AreOfView}
use Rattle.cmd_words.proofs.OneByWords.{one_word_told}
use Rattle.cmd_words.proofs.WordViews.{answered_by_same}
use Rattle.cmd_words.proofs.labels.answer_under.Goals as goal

pub returns : goal.returns
returns g c =
    let grammar = c.args.plain.now.grammar in
    let a = c.args.automaton.now in
    let w = c.new-words.result in
    let is = c.new-words.ensures in
    let told : (w.plain.grammar, w.automaton) ≡ (grammar, a) = ap (λ (x : WordViewSeen). (x.plain.grammar, x.automaton)) is in
    let store = subst (λ (x : Grammar × Automaton). IsStoreFor x.0 c.args.store.now) (sym told) c.requires.store in
    record {
      obeys = λ u entries of held.
          let k : WordsKnown = record { words = w; held = c.args.store.now; view = u; entries = entries } in
          let known : AreOfView k = record {
            words = subst (λ (x : WordViewSeen). AreOfWordView x u) (sym is) of;
            held = subst (λ (x : Grammar × Automaton). AreHeldOf x.0 entries c.args.store.now) (sym told) held;
          } in
          answered_by_same u entries (w.plain.grammar, w.automaton) (grammar, a) _ _ _ _ _ told
          (c.queries_stage-ended.ensures.obeys k (refl, refl, known) (one_word_told k store known));
      untouched = c.queries_stage-ended.ensures.untouched (λ e. e);
    }
