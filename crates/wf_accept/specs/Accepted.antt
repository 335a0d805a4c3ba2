-- Accepted grammars, with their ranks and cycles.
use Rattle.wf_model.specs.Lists.{IsIn}
use Rattle.wf_model.specs.Grammar.{Grammar}
use Rattle.wf_model.specs.WellFormed.{IsWellFormed}
use Rattle.wf_model.specs.Proper.{IsProper}
use Rattle.wf_model.specs.Linear.{IsLinear}
use Rattle.wf_model.specs.Versions.{KeepsCycles}
use Rattle.wf_spec.specs.declared.version.Version.{Version}
use Rattle.wf_spec.specs.Held.{HeldGrammar}
use Rattle.wf_check.specs.Proper.{Ranking, IsRankingOf}
use Rattle.wf_recur.specs.Cycles.{CyclesSeen, AreCyclesOf}

-- a grammar, the ranks of its modules, and its cycles
pub record AcceptedValue : Type 0 where
  pub grammar : HeldGrammar
  pub ranking : Ranking
  pub cycles : CyclesSeen

-- an earlier version keeps its cycles in the grammar
abbrev pub KeepsItsCycles : Grammar → Version → Type 0
KeepsItsCycles g v = KeepsCycles g v.modules v.productions

-- so do all versions of a grammar
abbrev pub AllKeepCycles : HeldGrammar → Type 0
AllKeepCycles h = (v : Version) → IsIn v h.versions → KeepsItsCycles h.core v

-- the grammar is well-formed, proper and strictly linear, and its versions keep their cycles; and the ranks and cycles are those of the grammar
pub record IsAccepted (a : AcceptedValue) : Type 0 where
  pub formed : IsWellFormed a.grammar.core
  pub proper : IsProper a.grammar.core
  pub linear : IsLinear a.grammar.core
  pub ranked : IsRankingOf a.grammar.core a.ranking
  pub cycled : AreCyclesOf a.grammar.core a.cycles
  pub keeps : AllKeepCycles a.grammar
