-- What is known of a package that bytes tell.
use Rattle.std.proofs.Common.{ℕ, List, sym, subst}
use Rattle.wf_model.specs.WellFormed.{IsWellFormed}
use Rattle.wf_model.specs.Proper.{IsProper}
use Rattle.wf_model.specs.Linear.{IsLinear}
use Rattle.package_model.specs.Packages.{LoopEntry}
use Rattle.package_model.specs.Loops.{AreLoopsOf, AreGoodLoops}
use Rattle.package_file.specs.Packed.{IsSafeByDefault, IsHeldPackage, said_entries}
use Rattle.wf_loops.specs.Looped.{LoopedValue}
use Rattle.cmd_share.specs.PackageTold.{PackageValue, TellsPackage, package_value}

-- the grammar is well-formed, proper and strictly linear, its default view is safe, and the loops are good
pub record IsGood (p : PackageValue) : Type 0 where
  pub formed : IsWellFormed p.grammar
  pub proper : IsProper p.grammar
  pub linear : IsLinear p.grammar
  pub safe : IsSafeByDefault p.grammar
  pub entries : List LoopEntry
  pub good : AreGoodLoops p.grammar entries
  pub loops : AreLoopsOf p.grammar entries p.loops

pub told_good : (bytes : List ℕ) (p : PackageValue) → TellsPackage bytes p → IsGood p
told_good bytes p h = record {
  formed = subst IsWellFormed (sym h.grammar) h.good.grammar.formed.well_formed;
  proper = subst IsProper (sym h.grammar) h.good.grammar.proper;
  linear = subst IsLinear (sym h.grammar) h.good.grammar.linear;
  safe = subst IsSafeByDefault (sym h.grammar) h.good.safe;
  entries = said_entries h.parts.loops;
  good = subst (λ g. AreGoodLoops g (said_entries h.parts.loops)) (sym h.grammar) h.good.loops;
  loops = h.loops;
}

-- so of a package that is held
pub held_good : (v : LoopedValue) → IsHeldPackage v → IsGood (package_value v)
held_good v h = record {
  formed = h.looped.accepted.formed;
  proper = h.looped.accepted.proper;
  linear = h.looped.accepted.linear;
  safe = h.safe;
  entries = h.looped.entries;
  good = h.looped.good;
  loops = h.looped.loops;
}
