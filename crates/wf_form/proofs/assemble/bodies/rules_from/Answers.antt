use Rattle.std.proofs.Common.{◌∙◌, length}
use Rattle.std.proofs.lemmas.Iterator.Adapters.{YieldsList-from_vec}
use Rattle.std.proofs.lemmas.Iterator.Consumers.{YieldsList-turn}
use Rattle.wf_form.proofs.Assembling.{rules_more}
use Rattle.wf_spec.proofs.Listing.{read_in}
use Rattle.wf_form.proofs.assemble.bodies.rules_from.Goals as goal

pub rule_from-requires : goal.rule_from-requires
rule_from-requires c =
    let b = c.into_iter-wiring-iterator.ensures.into_iter_gives in
    let t = YieldsList-turn (YieldsList-from_vec c.args.wirings.items b.0 (b.1 ∙ c.args.wirings.ok.0)) c.loop-wiring.yielded c.loop-wiring.wiring-iterator c.loop-wiring.yielded_by _ c.next.new.self c.in-Some.wiring c.in-Some.is
    c.next.ensures.steps in
    c.requires c.in-Some.wiring (read_in c.args.wirings.items (length c.loop-wiring.yielded) c.in-Some.wiring t.1 t.0)

pub loop-wiring-preserved : goal.loop-wiring-preserved
loop-wiring-preserved c =
    rules_more c.args.modules.now c.loop-wiring.yielded c.in-Some.wiring c.loop-wiring.rules.items c.push.new.self.items c.in_ok-rule.rule c.loop-wiring.invariant c.in_ok-rule.ensures
    c.in_ok-push.ensures.items
