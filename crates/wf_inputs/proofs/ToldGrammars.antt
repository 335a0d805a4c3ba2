-- A grammar that is told is one that commands take.
use Rattle.std.proofs.Common.{ℕ, ◌≤◌, List, map, sym, subst}
use Rattle.std.proofs.lemmas.List.{length-map}
use Rattle.wf_model.specs.declared.parts.Parts.{Parts}
use Rattle.wf_model.specs.Proper.{IsProper}
use Rattle.wf_model.specs.Linear.{IsLinear}
use Rattle.wf_model.specs.WellFormed.{IsWellFormed}
use Rattle.wf_model.specs.Versions.{IsVersion}
use Rattle.wf_model.proofs.Lists.{in_map_from}
use Rattle.wf_spec.specs.declared.version.Version.{Version}
use Rattle.wf_spec.specs.Held.{HeldGrammar, AreVersionsOf}
use Rattle.wf_form.specs.Forming.{version_in, grammar_of, HaveVersions}
use Rattle.wf_inputs.specs.Specification.{TellsGrammar, AllKeepCycles}

-- it is well-formed
pub told_formed : (bytes : List ℕ) (h : HeldGrammar) → TellsGrammar bytes h → IsWellFormed h.core
told_formed bytes h t = subst (λ (x : HeldGrammar). IsWellFormed x.core) (sym t.is) t.formed.well_formed

-- proper
pub told_proper : (bytes : List ℕ) (h : HeldGrammar) → TellsGrammar bytes h → IsProper h.core
told_proper bytes h t = subst (λ (x : HeldGrammar). IsProper x.core) (sym t.is) t.proper

-- and strictly linear
pub told_linear : (bytes : List ℕ) (h : HeldGrammar) → TellsGrammar bytes h → IsLinear h.core
told_linear bytes h t = subst (λ (x : HeldGrammar). IsLinear x.core) (sym t.is) t.linear

-- the versions that parts say are versions of the grammar
pub versions_said : (parts : Parts) → HaveVersions parts → AreVersionsOf (grammar_of parts) (map version_in parts.versions)
versions_said parts have = record {
  few = subst (λ n. n ≤ 64) (sym (length-map parts.versions version_in)) have.few;
  each = λ v i. let w = in_map_from version_in v parts.versions i in subst (λ (x : Version). IsVersion (grammar_of parts) x.modules x.productions) (sym w.2) (have.each w.0 w.1);
}

-- so are those of a grammar that is told
pub told_versions : (bytes : List ℕ) (h : HeldGrammar) → TellsGrammar bytes h → AreVersionsOf h.core h.versions
told_versions bytes h t = subst (λ (x : HeldGrammar). AreVersionsOf x.core x.versions) (sym t.is) (versions_said t.parts t.versions)

-- and they keep their cycles
pub told_keeps : (bytes : List ℕ) (h : HeldGrammar) → TellsGrammar bytes h → AllKeepCycles h
told_keeps bytes h t = subst AllKeepCycles (sym t.is) t.keeps
