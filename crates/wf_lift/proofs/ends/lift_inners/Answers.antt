use Rattle.std.proofs.Common.{◌∙◌, List, map, flat_map, ap}
use Rattle.std.proofs.lemmas.List.{take_all}
use Rattle.wf_model.specs.declared.body.Inner.{Inner as InnerHeld}
use Rattle.wf_model.specs.Meaning.{inner_of}
use Rattle.wf_model.proofs.Absent.{no_inner}
use Rattle.wf_model.proofs.Lists.{in_map}
use Rattle.wf_spec.proofs.Tables.{get_in}
use Rattle.words_model.specs.Lifting.{inner_states}
use Rattle.wf_lift.proofs.Growing.{joined_more}
use Rattle.wf_lift.proofs.ends.lift_inners.Goals as goal

pub add_inner-requires : goal.add_inner-requires
add_inner-requires c = c.requires _ (in_map inner_of _ c.args.ends.now (get_in c.loop-one.one-index c.args.ends.now no_inner c.loop-one-test.true))

pub loop-one-preserved : goal.loop-one-preserved
loop-one-preserved c =
    joined_more inner_of (inner_states c.args.states) inner_of c.loop-one.list.items c.add_inner.new.list.items c.args.ends.now c.loop-one.one-index no_inner
    c.loop-one.invariant c.in_ok-add_inner.ensures c.loop-one-test.true

pub returns : goal.returns
returns c = c.loop-one.invariant ∙ ap (λ (l : List InnerHeld). flat_map (inner_states c.args.states) (map inner_of l)) (take_all c.loop-one.one-index c.args.ends.now c.loop-one-test.false)
