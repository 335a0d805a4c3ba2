-- What a table tells of a run: the names of its instances, and of one name its instance.
use Rattle.std.specs.Prelude.{◌≡◌, ℕ, ◌<◌, true, false, List, length, Option, MatchOption, is_some}
use Rattle.wf_model.specs.Grammar.{Grammar, body_of}
use Rattle.wf_model.specs.declared.event.Event.{Event}
use Rattle.wf_model.specs.Run.{made, names_of, expanded_by}
use Rattle.wf_model.specs.Faults.{is_one_of, module_in}
use Rattle.run_faults.specs.declared.expand.Found.{Found}

-- the instance of a name, as the events tell it: there is none; or it is of this module, and expanded or not
abbrev pub IsFound : Grammar → List Event → List ℕ → Option Found → Type 0
IsFound g events name found =
    MatchOption found (is_one_of (names_of (made g g.start events)) name ≡ false)
    (λ f. (is_one_of (names_of (made g g.start events)) name ≡ true) × (module_in (made g g.start events) name ≡ f.module.0) × (is_some (expanded_by events name) ≡ f.expanded))

-- a production is one of the grammar, and has a position for each of these names
pub record Fits (g : Grammar) (p : ℕ) (names : List (List ℕ)) : Type 0 where
  pub in_range : p < length g.productions
  pub one_each : length names ≡ length (body_of g p)
