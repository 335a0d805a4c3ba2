-- A view of the grammar is, lifted, one of the lifted grammar.
use Rattle.std.proofs.Common.{◌<◌, sym, subst}
use Rattle.std.proofs.Math.Arith.{digits_lt}
use Rattle.wf_model.specs.Grammar.{inputs_of, outputs_of}
use Rattle.words_model.specs.Automata.{next_state}
use Rattle.words_model.specs.Lifting.{in_state, lift}
use Rattle.words_model.specs.Laws.{LiftedViewLaw}
use Rattle.words_model.proofs.SameShape.{composite_there}
use Rattle.words_model.proofs.LiftedParts.{lifted_inputs, lifted_outputs, lifted_shape}
use Rattle.words_model.proofs.LiftedPairs.{next_below, shows_from}

pub lifted_view_law : LiftedViewLaw
lifted_view_law g u a ia view = record {
  expanded = λ m e. composite_there g (lift g a.states) (lifted_shape g a.states) m (view.expanded m e);
  shown = λ m i o e.
      let f = shows_from a u m i o e in
      let there = view.shown m f.i0 f.o0 f.shown in (
        subst (λ z. m < z) (sym (lifted_shape g a.states).modules) there.0,
        subst (λ z. z < inputs_of (lift g a.states) m) (sym f.input_is) (subst (λ z. in_state a.states f.s f.i0 < z) (sym (lifted_inputs g a.states m)) (digits_lt there.1 f.state)),
        subst (λ z. z < outputs_of (lift g a.states) m) (sym f.output_is) (subst (λ z. in_state a.states (next_state a f.s m) f.o0 < z) (sym (lifted_outputs g a.states m)) (digits_lt there.2 (next_below a ia f.s m f.state))),
      );
}
