-- A grammar and a view that are told make a grammar that is viewed safely.
use Rattle.std.proofs.Common.{ℕ, List}
use Rattle.wf_model.specs.View.{View}
use Rattle.wf_spec.specs.Held.{HeldGrammar}
use Rattle.wf_inputs.specs.Specification.{TellsGrammar}
use Rattle.wf_inputs.specs.ViewTold.{TellsView}
use Rattle.wf_inputs.proofs.ToldGrammars.{told_formed, told_proper, told_linear, told_versions, told_keeps}
use Rattle.wf_inputs.proofs.ViewComposites.{told_composites}
use Rattle.outcome_laws.specs.Laws.{IsViewedSafely}

pub told_safely : (bytes : List ℕ) (h : HeldGrammar) → TellsGrammar bytes h → (view : List ℕ) (u : View) → TellsView h.core view u → IsViewedSafely h u
told_safely bytes h told view u shown = record {
  formed = told_formed bytes h told;
  proper = told_proper bytes h told;
  linear = told_linear bytes h told;
  versions = told_versions bytes h told;
  keeps = told_keeps bytes h told;
  composites = told_composites h.core (told_formed bytes h told) view u shown;
  safe = shown.safe;
}
