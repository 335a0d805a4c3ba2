-- Two views that are told, or held, are two safe views of a proper grammar.
use Rattle.std.proofs.Common.{◌≡◌, ℕ, List, subst}
use Rattle.wf_model.specs.View.{View}
use Rattle.wf_model.specs.Safe.{IsSafe}
use Rattle.wf_model.specs.Finishing.{ExpandsComposites}
use Rattle.wf_spec.specs.Held.{HeldGrammar}
use Rattle.wf_accept.specs.Accepted.{AcceptedValue}
use Rattle.wf_safe.specs.SafeViews.{SafeViewValue, IsSafeView}
use Rattle.wf_inputs.specs.Specification.{TellsGrammar}
use Rattle.wf_inputs.specs.ViewTold.{TellsView}
use Rattle.wf_inputs.proofs.ToldGrammars.{told_formed, told_proper}
use Rattle.wf_inputs.proofs.ViewComposites.{told_composites}
use Rattle.cmd_share.proofs.OneComparing.{AreSafeViews}

pub told_two : (spec : List ℕ) (h : HeldGrammar) → TellsGrammar spec h → (view : List ℕ) (u : View) → TellsView h.core view u → (coarse : List ℕ) (c : View) → TellsView h.core coarse c → AreSafeViews h.core u c
told_two spec h p view u q coarse c r = record {
  formed = told_formed spec h p;
  proper = told_proper spec h p;
  fine_composites = told_composites h.core (told_formed spec h p) view u q;
  fine_safe = q.safe;
  coarse_composites = told_composites h.core (told_formed spec h p) coarse c r;
  coarse_safe = r.safe;
}

pub held_two : (fine coarse : SafeViewValue) → IsSafeView fine → IsSafeView coarse → coarse.accepted ≡ fine.accepted → AreSafeViews fine.accepted.grammar.core fine.view.core coarse.view.core
held_two fine coarse p q same = record {
  formed = p.accepted.formed;
  proper = p.accepted.proper;
  fine_composites = p.held.is_view.expanded;
  fine_safe = p.safe;
  coarse_composites = subst (λ (a : AcceptedValue). ExpandsComposites a.grammar.core coarse.view.core) same q.held.is_view.expanded;
  coarse_safe = subst (λ (a : AcceptedValue). IsSafe a.grammar.core coarse.view.core) same q.safe;
}
