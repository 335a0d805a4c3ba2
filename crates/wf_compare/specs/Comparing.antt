-- What is told of two safe views of one grammar, and why they are not compared.
use Rattle.wf_model.specs.Meaning.{pairs_of}
use Rattle.compare_model.specs.declared.compared.Compared.{Compared}
use Rattle.compare_model.specs.Coarser.{IsCoarser, IsFirstExpandedAlone}
use Rattle.compare_model.specs.Pairs.{ModulePair, IsDenied}
use Rattle.compare_model.specs.Comparison.{IsCompared}
use Rattle.wf_safe.specs.SafeViews.{SafeViewValue}
use Rattle.wf_compare.specs.declared.fault.CompareFault.{CompareFault}
use Rattle.wf_compare.specs.declared.fault.CompareFault.TheVariants.{NotCoarser, NoMemory}

-- the coarse view is compared with the full assignment of the fine one
abbrev pub IsComparedIn : SafeViewValue → SafeViewValue → Compared → Type 0
IsComparedIn fine coarse told = IsCompared coarse.accepted.grammar.core coarse.view.core (pairs_of fine.full) told

-- the coarse view denies a pair
abbrev pub DeniesSome : SafeViewValue → SafeViewValue → Type 0
DeniesSome fine coarse = (x : ModulePair) × IsDenied coarse.accepted.grammar.core coarse.view.core (pairs_of fine.full) x

-- the least module that the coarse view expands and the fine one does not; or memory was refused, which happens only where the one is coarser and denies a pair
abbrev pub IsRefused : SafeViewValue → SafeViewValue → CompareFault → Type 0
IsRefused fine coarse (NotCoarser m) = IsFirstExpandedAlone coarse.view.core fine.view.core m.0
IsRefused fine coarse NoMemory = IsCoarser coarse.view.core fine.view.core × DeniesSome fine coarse
