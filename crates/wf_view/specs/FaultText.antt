-- How a fault of the parts of a view is told: its name, and behind it the place that it is about.
use Rattle.std.specs.Prelude.{ℕ, List, [], ◌++◌, Option, Some, None, codes, decimal}
use Rattle.wf_view.specs.declared.fault.ViewSpot.{ViewSpot}
use Rattle.wf_view.specs.declared.fault.ViewSpot.TheVariants.{ExpandAt, DepsAt}
use Rattle.wf_view.specs.declared.fault.ViewFault.{ViewFault}
use Rattle.wf_view.specs.declared.fault.ViewFault.TheVariants.{UnknownModule, NotComposite, DepsOnExpanded, UnknownPort, ModuleTwice, NoMemory}

-- the name of a fault of the parts of a view
abbrev pub view_name : ViewFault → List ℕ
view_name (UnknownModule s) = codes "UnknownModule"
view_name (NotComposite n) = codes "NotComposite"
view_name (DepsOnExpanded n) = codes "DepsOnExpanded"
view_name (UnknownPort n) = codes "UnknownPort"
view_name (ModuleTwice s) = codes "ModuleTwice"
view_name NoMemory = codes "NoMemory"

-- the place in the view that it is about
abbrev pub view_spot : ViewFault → Option ViewSpot
view_spot (UnknownModule s) = Some s
view_spot (NotComposite n) = Some (ExpandAt n)
view_spot (DepsOnExpanded n) = Some (DepsAt n)
view_spot (UnknownPort n) = Some (DepsAt n)
view_spot (ModuleTwice s) = Some s
view_spot NoMemory = None

-- a place in a view behind a space: the word of its list and its number; nothing where there is none
abbrev pub behind_view_spot : Option ViewSpot → List ℕ
behind_view_spot None = []
behind_view_spot (Some (ExpandAt n)) = codes " expand " ++ decimal n
behind_view_spot (Some (DepsAt n)) = codes " deps " ++ decimal n

-- a fault of the parts of a view: its name, and the place that it is about
abbrev pub view_text : ViewFault → List ℕ
view_text f = view_name f ++ behind_view_spot (view_spot f)
