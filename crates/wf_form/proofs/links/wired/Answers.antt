use Rattle.std.proofs.Common.{◌≡◌, ◌⊎◌, List, ℕ, OnOk, IfErr, subst, sym}
use Rattle.wf_form.specs.declared.fault.FormFault.TheVariants.{NoMemory}
use Rattle.wf_spec.specs.Naming.{names_of}
use Rattle.wf_form.specs.Rules.{link_rules_of}
use Rattle.wf_spec.specs.FirstFaults.{AllHold, IsFirstFault}
use Rattle.wf_form.specs.Wiring.{AreReady}
use Rattle.wf_form.proofs.LinkRules.{on_read, ready_of}
use Rattle.wf_form.proofs.links.wired.Goals as goal

pub wired_from-requires : goal.wired_from-requires
wired_from-requires c =
    subst (λ (ns : List (List ℕ)). AreReady ns c.args.modules.now c.items.result.now c.items-2.result.now) (sym c.requires.names)
    (on_read (λ ms ps ds. AreReady (names_of ms) ms ps ds) c.args.modules.now _ c.items.result.now _ c.items-2.result.now _ c.requires.modules c.items.ensures c.items-2.ensures
    (ready_of c.args.parts.now c.requires.first c.requires.bodies))

pub returns-clause-kept : goal.returns-clause-kept
returns-clause-kept c =
    on_read (λ ms ps ds. OnOk c.wired_from.result (AllHold (link_rules_of ms ps ds))) _ c.args.modules.now _ c.items.result.now _ c.items-2.result.now (sym c.requires.modules) (sym c.items.ensures) (sym c.items-2.ensures) c.wired_from.ensures.kept

pub returns-clause-refused : goal.returns-clause-refused
returns-clause-refused c =
    on_read (λ ms ps ds. IfErr c.wired_from.result (λ f. (f ≡ NoMemory) ⊎ IsFirstFault (link_rules_of ms ps ds) f)) _ c.args.modules.now _ c.items.result.now _ c.items-2.result.now
    (sym c.requires.modules) (sym c.items.ensures) (sym c.items-2.ensures) c.wired_from.ensures.refused
