use Rattle.wf_form.specs.Wiring.{IsWiredAtMostOnce}
use Rattle.wf_form.specs.declared.fault.FormFault.TheVariants.{PortLinkedTwice}
use Rattle.wf_spec.proofs.FirstFaults.{holds_of}
use Rattle.wf_form.proofs.Sided.{within_small}
use Rattle.wf_form.proofs.links.wirings.check_wirings.Goals as goal

pub first_linked_twice-requires : goal.first_linked_twice-requires
first_linked_twice-requires c = λ w i. within_small c.args.modules.now w c.requires.few_ports (c.requires.within w i)

pub first_unlinked-requires-clause-once : goal.first_unlinked-requires-clause-once
first_unlinked-requires-clause-once c = holds_of IsWiredAtMostOnce PortLinkedTwice c.args.wirings.now (rw c.in_default.is at c.in_ok-k.ensures)

pub first_cycle-requires : goal.first_cycle-requires
first_cycle-requires c = λ w i. within_small c.args.modules.now w c.requires.few_ports (c.requires.within w i)
