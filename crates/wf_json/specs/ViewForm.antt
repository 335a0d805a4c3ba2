-- The form of a view.
use Rattle.std.specs.Prelude.{ℕ, List, codes}
use Rattle.std.specs.declared.result.Result.{Result}
use Rattle.std.specs.declared.result.Result.TheVariants.{Ok}
use Rattle.serde_json.specs.Data.{Data}
use Rattle.serde_json.specs.Find.{as_object}
use Rattle.wf_model.specs.declared.parts.ViewParts.{ViewParts}
use Rattle.wf_json.specs.declared.fault.JsonFault.{JsonFault}
use Rattle.wf_json.specs.declared.fault.Member.{Member}
use Rattle.wf_json.specs.declared.fault.Member.TheVariants.{Top, DepsList, Expand}
use Rattle.wf_json.specs.Forms.{text_form, list_form, list_member, optional_member}
use Rattle.wf_json.specs.Telling.{require, IsRefusalBy, IsSaidBy}
use Rattle.wf_json.specs.SpecForm.{deps_form}

-- the view that a value is, or the first member that has not its form
abbrev pub view_of : Data → Result ViewParts Member
view_of d =
    require Top (as_object d) (λ _.
    require Expand (optional_member (codes "expand") (list_form text_form) d) (λ ns.
    require DepsList (list_member (codes "deps") deps_form d) (λ ds.
    Ok (record { expand = ns; deps = ds }))))

-- what a refusal of a view says of its bytes
abbrev pub IsRefusal : List ℕ → JsonFault → Type 0
IsRefusal bytes f = IsRefusalBy view_of bytes f

-- a result says what view the value is; want of memory says nothing
abbrev pub IsToldBy : Data → Result ViewParts JsonFault → Type 0
IsToldBy d r = IsSaidBy view_of d r
