use Rattle.std.proofs.Common.{◌≡◌, ◌∙◌, ap, map, refl, subst, sym, IfOk}
use Rattle.wf_model.specs.Lists.{IsIn}
use Rattle.wf_spec.specs.FewPorts.{HaveFewPorts}
use Rattle.wf_spec.specs.Held.{grammar_of_lists}
use Rattle.wf_spec.specs.Naming.{place_of}
use Rattle.wf_spec.specs.Pairs.{HasKnownPairs}
use Rattle.wf_form.specs.Assembling.{IsSound}
use Rattle.wf_form.specs.Forming.{given_in}
use Rattle.wf_form.proofs.Kept.{kept_gives}
use Rattle.wf_form.proofs.Whole.{AreMade, AreReady, ready, whole, whole_formed}
use Rattle.wf_form.proofs.Wired.{wirings_sound, rules_read}
use Rattle.wf_form.proofs.assemble.assemble.Goals as goal
use Rattle.wf_form.proofs.assemble.assemble.Goals.{Start, In_ok-rules}

the_ready : (c : Start) → AreReady c.args.parts.now c.args.modules.items c.args.names.now
the_ready c = ready c.args.parts.now c.args.modules.items c.args.names.now c.requires.kept c.requires.modules c.requires.names

pub module_number-start-requires-clause-few : goal.module_number-start-requires-clause-few
module_number-start-requires-clause-few c = (the_ready (goal.at.module_number-start-requires-clause-few c).Start).few_names

pub module_number-start-requires-clause-known : goal.module_number-start-requires-clause-known
module_number-start-requires-clause-known c =
    subst (λ n. IsIn n c.args.names.now) (sym c.bytes.ensures) (the_ready (goal.at.module_number-start-requires-clause-known c).Start).start

pub given_from-requires-clause-few_ports : goal.given_from-requires-clause-few_ports
given_from-requires-clause-few_ports c = subst HaveFewPorts (sym c.deref.ensures.value) (the_ready (goal.at.given_from-requires-clause-few_ports c).Start).few_ports

pub given_from-requires-clause-known : goal.given_from-requires-clause-known
given_from-requires-clause-known c = λ d h. (the_ready (goal.at.given_from-requires-clause-known c).Start).deps d (subst (IsIn d) c.items.ensures h)

pub given_from-requires-clause-pairs : goal.given_from-requires-clause-pairs
given_from-requires-clause-pairs c = λ d h.
    subst (λ ms. HasKnownPairs ms d) (sym c.deref.ensures.value) ((the_ready (goal.at.given_from-requires-clause-pairs c).Start).pairs d (subst (IsIn d) c.items.ensures h))

pub rules_from-requires : goal.rules_from-requires
rules_from-requires c = λ w h.
    subst (λ ms. IsSound ms w) (sym c.deref-2.ensures.value)
    (wirings_sound c.args.parts.now c.args.modules.items c.args.wirings.items c.requires.modules (kept_gives c.args.parts.now c.requires.kept) c.requires.wirings w h)

the_lists : (c : In_ok-rules) → AreMade c.args.parts.now c.args.names.now (grammar_of_lists c.module_number-start.result.0 c.args.modules.items c.in_ok-rules.rules.items c.in_ok-given.given.items)
the_lists c = record {
  modules = c.requires.modules;
  names_are = c.requires.names;
  start = c.module_number-start.ensures.place ∙ ap (place_of c.args.names.now) c.bytes.ensures;
  productions = rules_read c.args.parts.now c.args.modules.items c.deref-2.result.now c.args.wirings.items c.in_ok-rules.rules.items c.in_ok-rules.rules.items c.requires.kept c.requires.modules c.requires.wirings
      c.deref-2.ensures.value c.in_ok-rules.ensures refl;
  given = c.in_ok-given.ensures ∙ (ap (map (given_in c.deref.result.now)) c.items.ensures ∙ ap (λ ms. map (given_in ms) c.args.parts.now.deps) c.deref.ensures.value);
}

pub of_lists-requires : goal.of_lists-requires
of_lists-requires c = whole_formed c.args.parts.now c.args.names.now _ c.requires.kept (the_lists (goal.at.of_lists-requires c).In_ok-rules)

pub returns : goal.returns
returns c =
    subst (λ x. IfOk c.of_lists.result (λ g. g.core ≡ x)) (whole c.args.parts.now c.args.names.now _ (the_lists (goal.at.returns c).In_ok-rules)) c.of_lists.ensures.core
