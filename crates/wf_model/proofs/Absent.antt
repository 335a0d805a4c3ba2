-- What a reader gets where a list has no element: a port and an edge, as they are held.
use Rattle.wf_model.specs.declared.body.Inner.{Inner as InnerHeld}
use Rattle.wf_model.specs.declared.body.Edge.{Edge as EdgeHeld}

abbrev pub no_inner : InnerHeld
no_inner = record { pos = record { 0 = 0 }; port = record { 0 = 0 } }

abbrev pub no_edge : EdgeHeld
no_edge = record { from = no_inner; to = no_inner }
