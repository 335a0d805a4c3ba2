-- A law of the loops of a package.
use Rattle.std.specs.Prelude.{◌⊎◌, List}
use Rattle.wf_model.specs.Grammar.{Grammar}
use Rattle.wf_model.specs.WellFormed.{IsWellFormed}
use Rattle.wf_model.specs.Linear.{IsLinear}
use Rattle.package_model.specs.Packages.{LoopEntry}
use Rattle.package_model.specs.Loops.{AreLoopsOf, AreGoodLoops}
use Rattle.package_model.specs.Translating.{Loops}

-- entries are good loops of a strictly linear grammar, and then a function gives each module its loop step, or they are not
abbrev pub GoodLoopsLaw : Type 0
GoodLoopsLaw =
    (g : Grammar) (entries : List LoopEntry) → IsWellFormed g → IsLinear g →
    (AreGoodLoops g entries × ((loop : Loops) × AreLoopsOf g entries loop)) ⊎ (AreGoodLoops g entries → ⊥)
