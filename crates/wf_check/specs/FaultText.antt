-- How a fault of a grammar is told.
use Rattle.std.specs.Prelude.{ℕ, List, ◌++◌, map, codes}
use Rattle.wf_model.specs.declared.numbers.ProdNo.{ProdNo}
use Rattle.wf_model.specs.Grammar.{Grammar}
use Rattle.grammar_text.specs.Names.{name_of}
use Rattle.grammar_text.specs.Texts.{numbers_text}
use Rattle.wf_check.specs.declared.fault.CheckFault.{CheckFault}
use Rattle.wf_check.specs.declared.fault.CheckFault.TheVariants.{Unreachable, Unproductive, UnitCycle, NoMemory}

-- a fault of a grammar: its name, and the name of the module or the numbers of the productions
abbrev pub check_text : Grammar → CheckFault → List ℕ
check_text g (Unreachable m) = codes "Unreachable " ++ name_of g m.0
check_text g (Unproductive m) = codes "Unproductive " ++ name_of g m.0
check_text g (UnitCycle ps) = codes "UnitCycle productions" ++ numbers_text (map (λ (p : ProdNo). p.0) ps)
check_text g NoMemory = codes "NoMemory"
