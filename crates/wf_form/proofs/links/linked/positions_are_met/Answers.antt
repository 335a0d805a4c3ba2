use Rattle.std.proofs.Common.{◌≡◌, List, length, map, subst, sym, ap}
use Rattle.wf_model.specs.declared.body.Position.{Position as PositionHeld}
use Rattle.wf_model.specs.Lists.{IsIn}
use Rattle.wf_model.specs.Grammar.{Inner}
use Rattle.wf_model.specs.Meaning.{position_of}
use Rattle.wf_spec.specs.Bodies.{modules_at}
use Rattle.wf_form.specs.Bodies.{inputs_in, outputs_in}
use Rattle.wf_form.specs.Ends.{HaveFew}
use Rattle.wf_form.specs.Resolving.{IsInputIn, IsOutputIn}
use Rattle.wf_form.specs.Wiring.{AreSmall, fed_by, used_by, body_of}
use Rattle.wf_form.proofs.LinkEnds.{read_as, and_then_both}
use Rattle.wf_form.proofs.Sided.{input_port, output_port, modules_there, few_inputs, few_outputs, small_ports, body_side, counts_read}
use Rattle.wf_form.proofs.links.linked.positions_are_met.Goals as goal
use Rattle.wf_form.proofs.links.linked.positions_are_met.Goals.{After-deref-3, After-deref-6}

pub input_counts-requires : goal.input_counts-requires
input_counts-requires c = λ m i. modules_there c.args.modules.now (body_of c.args.one.now) c.requires.within.of_modules m (subst (λ (l : List PositionHeld). IsIn m (modules_at (map position_of l))) c.deref.ensures.value i)

pub output_counts-requires : goal.output_counts-requires
output_counts-requires c = λ m i. modules_there c.args.modules.now (body_of c.args.one.now) c.requires.within.of_modules m (subst (λ (l : List PositionHeld). IsIn m (modules_at (map position_of l))) c.deref-4.ensures.value i)

inputs_are : (c : After-deref-3) → c.deref-2.result.now ≡ map (inputs_in c.args.modules.now) (modules_at (body_of c.args.one.now))
inputs_are c = counts_read (inputs_in c.args.modules.now) c.deref-2.result.now c.in_ok-inputs.inputs.items c.deref.result.now c.args.one.now.positions.items c.deref-2.ensures.value c.in_ok-inputs.ensures c.deref.ensures.value

outputs_are : (c : After-deref-6) → c.deref-5.result.now ≡ map (outputs_in c.args.modules.now) (modules_at (body_of c.args.one.now))
outputs_are c = counts_read (outputs_in c.args.modules.now) c.deref-5.result.now c.in_ok-outputs.outputs.items c.deref-4.result.now c.args.one.now.positions.items c.deref-5.ensures.value c.in_ok-outputs.ensures c.deref-4.ensures.value

pub are_met-requires-clause-few : goal.are_met-requires-clause-few
are_met-requires-clause-few c = subst HaveFew (sym (inputs_are (goal.at.are_met-requires-clause-few c).After-deref-3)) (few_inputs c.args.modules.now (body_of c.args.one.now) c.requires.few_ports c.requires.within.of_modules)

pub are_met-requires-2-clause-few : goal.are_met-requires-2-clause-few
are_met-requires-2-clause-few c = subst HaveFew (sym (outputs_are (goal.at.are_met-requires-2-clause-few c).After-deref-6)) (few_outputs c.args.modules.now (body_of c.args.one.now) c.requires.few_ports c.requires.within.of_modules)

pub are_met-requires-clause-small : goal.are_met-requires-clause-small
are_met-requires-clause-small c =
    let is = inputs_are (goal.at.are_met-requires-clause-small c).After-deref-3 in
    read_as (AreSmall (length c.deref-2.result.now)) c.deref-3.result.now c.in_ok-to.to.items (fed_by c.args.one.now) c.deref-3.ensures.value c.in_ok-to.ensures
    (small_ports (map (inputs_in c.args.modules.now) (modules_at (body_of c.args.one.now))) (length c.deref-2.result.now) (fed_by c.args.one.now)
    (few_inputs c.args.modules.now (body_of c.args.one.now) c.requires.few_ports c.requires.within.of_modules) (sym (ap length is))
    (λ i h. (input_port c.args.modules.now (body_of c.args.one.now) i).0 (c.requires.within.fed i h)))

pub are_met-requires-2-clause-small : goal.are_met-requires-2-clause-small
are_met-requires-2-clause-small c =
    let is = outputs_are (goal.at.are_met-requires-2-clause-small c).After-deref-6 in
    read_as (AreSmall (length c.deref-5.result.now)) c.deref-6.result.now c.in_ok-from.from.items (used_by c.args.one.now) c.deref-6.ensures.value c.in_ok-from.ensures
    (small_ports (map (outputs_in c.args.modules.now) (modules_at (body_of c.args.one.now))) (length c.deref-5.result.now) (used_by c.args.one.now)
    (few_outputs c.args.modules.now (body_of c.args.one.now) c.requires.few_ports c.requires.within.of_modules) (sym (ap length is))
    (λ i h. (output_port c.args.modules.now (body_of c.args.one.now) i).0 (c.requires.within.used i h)))

pub returns : goal.returns
returns c =
    and_then_both c.in_ok-fed.fed c.in_ok-used.used ((i : Inner) → IsInputIn c.args.modules.now (body_of c.args.one.now) i → IsIn i (fed_by c.args.one.now))
    ((i : Inner) → IsOutputIn c.args.modules.now (body_of c.args.one.now) i → IsIn i (used_by c.args.one.now)) c.if-not-fed.false
    (body_side (IsInputIn c.args.modules.now (body_of c.args.one.now)) (map (inputs_in c.args.modules.now) (modules_at (body_of c.args.one.now))) c.deref-2.result.now (fed_by c.args.one.now) c.deref-3.result.now c.in_ok-to.to.items c.in_ok-fed.fed
    (input_port c.args.modules.now (body_of c.args.one.now)) (inputs_are (goal.at.returns c).After-deref-3) c.deref-3.ensures.value c.in_ok-to.ensures c.in_ok-fed.ensures)
    (body_side (IsOutputIn c.args.modules.now (body_of c.args.one.now)) (map (outputs_in c.args.modules.now) (modules_at (body_of c.args.one.now))) c.deref-5.result.now (used_by c.args.one.now) c.deref-6.result.now c.in_ok-from.from.items c.in_ok-used.used
    (output_port c.args.modules.now (body_of c.args.one.now)) (outputs_are (goal.at.returns c).After-deref-6) c.deref-6.ensures.value c.in_ok-from.ensures c.in_ok-used.ensures)
