use Rattle.std.proofs.Common.{◌≡◌, length}
use Rattle.std.specs.Prelude.{find}
use Rattle.wf_model.specs.Lists.{IsIn}
use Rattle.wf_compare.specs.declared.steps.Leading.{Leading as LeadingHeld}
use Rattle.wf_compare.specs.Steps.{leads_to}
use Rattle.wf_compare.proofs.route.first_step.Given as goal

-- it is left to be found
abbrev pub invariant-loop-left : goal.invariant-loop-left
invariant-loop-left l = record {
  same : find (leads_to l.to) l.left ≡ find (leads_to l.to) l.row;
  there : (e : LeadingHeld) × IsIn e l.left × (e.target.0 ≡ l.to);
}

abbrev pub decreases-loop-left : goal.decreases-loop-left
decreases-loop-left l = length l.left
