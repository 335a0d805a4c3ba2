-- What the flags of views say of modules.
use Rattle.std.specs.Prelude.{ℕ, Bool, false, ◌&&◌, not, get_or}
use Rattle.wf_model.specs.View.{View, expands}
use Rattle.wf_view.specs.Held.{HeldView}

-- a view expands a module, and another does not
abbrev pub is_expanded_alone : View → View → ℕ → Bool
is_expanded_alone c u m = expands c m && not (expands u m)

-- a view sees a module and does not expand it
abbrev pub is_border : HeldView → ℕ → Bool
is_border v m = get_or v.seen m false && not (expands v.core m)
