-- How two views that are not compared are told.
use Rattle.std.specs.Prelude.{ℕ, List, ◌++◌, codes}
use Rattle.wf_model.specs.Grammar.{Grammar}
use Rattle.grammar_text.specs.Names.{name_of}
use Rattle.wf_compare.specs.declared.fault.CompareFault.{CompareFault}
use Rattle.wf_compare.specs.declared.fault.CompareFault.TheVariants.{NotCoarser, NoMemory}

-- the name of the fault, and the name of the module
abbrev pub compare_text : Grammar → CompareFault → List ℕ
compare_text g (NotCoarser m) = codes "NotCoarser " ++ name_of g m.0
compare_text g NoMemory = codes "NoMemory"
