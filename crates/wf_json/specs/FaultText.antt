-- How a member that has not its form is told.
use Rattle.std.specs.Prelude.{ℕ, List, ◌++◌, codes}
use Rattle.wf_json.specs.declared.fault.Member.{Member}
use Rattle.wf_json.specs.declared.fault.Member.TheVariants.{Top, Start, Modules, Productions, DepsList, Versions, Expand}

-- the word of a member
abbrev pub member_word : Member → List ℕ
member_word Top = codes "top"
member_word Start = codes "start"
member_word Modules = codes "modules"
member_word Productions = codes "productions"
member_word DepsList = codes "deps"
member_word Versions = codes "versions"
member_word Expand = codes "expand"

-- a member that has not its form
abbrev pub shape_text : Member → List ℕ
shape_text m = codes "WrongShape " ++ member_word m
