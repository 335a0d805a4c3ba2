-- How a fault of parts is told: its name, and behind it the part that it is about.
use Rattle.std.specs.Prelude.{ℕ, List, [], ◌++◌, Option, Some, None, codes, decimal}
use Rattle.wf_form.specs.declared.fault.Spot.{Spot}
use Rattle.wf_form.specs.declared.fault.Spot.TheVariants.{Start as AtStart, Module as AtModule, Production as AtProduction, DepsAt, Version as AtVersion}
use Rattle.wf_form.specs.declared.fault.FormFault.{FormFault}
use Rattle.wf_form.specs.declared.fault.FormFault.TheVariants.{NameBad, NameTwice, PortTwice, TooManyPorts, TooManyModules, TooManyProductions, UnknownModule, EmptyBody, BodyTooLong, BodiesTooLarge, PositionTwice, UnknownPort, PortLinkedTwice, PortUnlinked, BodyCycle, DepsOnComposite, TooManyVersions, VersionBad, NoMemory}

-- a part of a specification: the word of its list and its number, or the start
abbrev pub spot_text : Spot → List ℕ
spot_text AtStart = codes "start"
spot_text (AtModule n) = codes "module " ++ decimal n
spot_text (AtProduction n) = codes "production " ++ decimal n
spot_text (DepsAt n) = codes "deps " ++ decimal n
spot_text (AtVersion n) = codes "version " ++ decimal n

-- the name of a fault of parts
abbrev pub form_name : FormFault → List ℕ
form_name (NameBad s) = codes "NameBad"
form_name (NameTwice n) = codes "NameTwice"
form_name (PortTwice n) = codes "PortTwice"
form_name (TooManyPorts n) = codes "TooManyPorts"
form_name TooManyModules = codes "TooManyModules"
form_name TooManyProductions = codes "TooManyProductions"
form_name (UnknownModule s) = codes "UnknownModule"
form_name (EmptyBody n) = codes "EmptyBody"
form_name (BodyTooLong n) = codes "BodyTooLong"
form_name BodiesTooLarge = codes "BodiesTooLarge"
form_name (PositionTwice n) = codes "PositionTwice"
form_name (UnknownPort s) = codes "UnknownPort"
form_name (PortLinkedTwice n) = codes "PortLinkedTwice"
form_name (PortUnlinked n) = codes "PortUnlinked"
form_name (BodyCycle n) = codes "BodyCycle"
form_name (DepsOnComposite n) = codes "DepsOnComposite"
form_name TooManyVersions = codes "TooManyVersions"
form_name (VersionBad n) = codes "VersionBad"
form_name NoMemory = codes "NoMemory"

-- the part that it is about, where it is about one
abbrev pub form_spot : FormFault → Option Spot
form_spot (NameBad s) = Some s
form_spot (NameTwice n) = Some (AtModule n)
form_spot (PortTwice n) = Some (AtModule n)
form_spot (TooManyPorts n) = Some (AtModule n)
form_spot TooManyModules = None
form_spot TooManyProductions = None
form_spot (UnknownModule s) = Some s
form_spot (EmptyBody n) = Some (AtProduction n)
form_spot (BodyTooLong n) = Some (AtProduction n)
form_spot BodiesTooLarge = None
form_spot (PositionTwice n) = Some (AtProduction n)
form_spot (UnknownPort s) = Some s
form_spot (PortLinkedTwice n) = Some (AtProduction n)
form_spot (PortUnlinked n) = Some (AtProduction n)
form_spot (BodyCycle n) = Some (AtProduction n)
form_spot (DepsOnComposite n) = Some (DepsAt n)
form_spot TooManyVersions = None
form_spot (VersionBad n) = Some (AtVersion n)
form_spot NoMemory = None

-- a part behind a space, and nothing where there is none
abbrev pub behind_space : Option Spot → List ℕ
behind_space None = []
behind_space (Some s) = codes " " ++ spot_text s

-- a fault of parts: its name, and the part that it is about
abbrev pub form_text : FormFault → List ℕ
form_text f = form_name f ++ behind_space (form_spot f)
