use Rattle.std.proofs.Common.{map, List, ap, ◌∙◌, subst}
use Rattle.wf_model.specs.Lists.{IsIn}
use Rattle.wf_model.specs.Grammar.{Production}
use Rattle.words_model.specs.Lifting.{lift_module, lift_production}
use Rattle.wf_lift.proofs.Rooms.{rooms}
use Rattle.wf_lift.proofs.LiftedAccepted.{formed_lists}
use Rattle.wf_lift.proofs.grammar.lifted_grammar.Goals as goal

pub lift_rules-requires : goal.lift_rules-requires
lift_rules-requires c = λ r h.
    rooms c.args.g.now.core c.modules.ensures.formed c.args.states c.requires.some c.requires.ports r (subst (λ (l : List Production). IsIn r l) c.productions.ensures.productions h)

pub of_lists-requires : goal.of_lists-requires
of_lists-requires c =
    formed_lists c.args.g.now.core c.args.states c.start-start.result.0 c.in_ok-modules.modules.items c.in_ok-rules.rules.items c.new-given.result.items
    c.modules.ensures.formed c.requires.some c.requires.few c.requires.ports c.start-start.ensures.start
    (c.in_ok-modules.ensures ∙ ap (map (lift_module c.args.states)) c.modules.ensures.modules)
    (c.in_ok-rules.ensures ∙ ap (map (lift_production c.args.states)) c.productions.ensures.productions)
    c.new-given.ensures.items
