-- How the two loops of a grammar that is not strictly linear are told.
use Rattle.std.specs.Prelude.{ℕ, List, ◌++◌, codes}
use Rattle.wf_model.specs.Grammar.{Grammar}
use Rattle.wf_model.specs.Reach.{Step}
use Rattle.wf_model.specs.Steps.{step_of}
use Rattle.grammar_text.specs.Names.{name_of}
use Rattle.grammar_text.specs.Texts.{step_text}
use Rattle.wf_recur.specs.declared.fault.RecurFault.{RecurFault}
use Rattle.wf_recur.specs.declared.fault.RecurFault.TheVariants.{TwoLoops, NoMemory}

-- the name of the fault, the name of the module, and its two steps that lead back to it
abbrev pub loops_text : Grammar → ℕ → Step → Step → List ℕ
loops_text g m s t = (codes "TwoLoops " ++ name_of g m) ++ (step_text (codes " first ") g s ++ step_text (codes " second ") g t)

-- why a proper grammar is not taken
abbrev pub recur_text : Grammar → RecurFault → List ℕ
recur_text g (TwoLoops m s t) = loops_text g m.0 (step_of s) (step_of t)
recur_text g NoMemory = codes "NoMemory"
