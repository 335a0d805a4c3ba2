-- Why a step of a command stops it.
use Rattle.std.specs.Prelude.{◌≡◌, ◌⊎◌, ℕ, List, [], None, codes}
use Rattle.wf_model.specs.Grammar.{Grammar}
use Rattle.wf_model.specs.View.{View}
use Rattle.package_model.specs.Translating.{Malformed, TranslatesTo}
use Rattle.wf_loops.specs.Looped.{LoopedValue, loop_in}
use Rattle.wf_message.specs.Endings.{End, Refused, NoMemory}
use Rattle.cmd_share.specs.Told.{ComparesViews}
use Rattle.cmd_share.specs.PackageTold.{package_value}
use Rattle.cmd_share.specs.Consulted.{ConsultsLabels}

-- two views are not compared: memory was wanting, or they are refused
abbrev pub AreNotCompared : Grammar → View → View → End → Type 0
AreNotCompared g u c ending = (ending ≡ NoMemory) ⊎ ComparesViews g u c ending []

-- bytes are no label over a package, by the place of their word: memory was wanting, or they are malformed
abbrev pub IsNoLabelOver : LoopedValue → List ℕ → List ℕ → End → Type 0
IsNoLabelOver p place bytes ending =
    (ending ≡ NoMemory) ⊎ (TranslatesTo p.accepted.grammar.core (loop_in p.steps) bytes Malformed × (ending ≡ Refused place None (codes "Malformed")))

-- two labels are not consulted: memory was wanting, or one of them is refused
abbrev pub AreNotConsulted : LoopedValue → List ℕ → List ℕ → End → Type 0
AreNotConsulted p first second ending = (ending ≡ NoMemory) ⊎ ConsultsLabels (package_value p) first second ending []
