-- The form of an automaton in JSON: an object whose members `states`, `start`, `accept` and `moves` have their forms, of which the last two are empty where they are not there.
use Rattle.std.specs.Prelude.{◌≡◌, ◌⊎◌, ℕ, List, [], ◌∷◌, Option, Some, option_map, IsSome, codes}
use Rattle.serde_json.specs.Data.{Data}
use Rattle.serde_json.specs.Find.{as_object}
use Rattle.wf_json.specs.Forms.{text_form, whole_form, triple_form, member_form, list_member}
use Rattle.wf_json.specs.Reading.{IsReading, HasNoReading}
use Rattle.wf_spec.specs.FirstFaults.{Rule, once, IsFirstFault}
use Rattle.wf_automaton.specs.declared.parts.MovePart.{MovePart}
use Rattle.wf_automaton.specs.declared.parts.AutoParts.{AutoParts}
use Rattle.wf_automaton.specs.declared.fault.AutoMember.TheVariants.{Top, States, Start, Accept, Moves}
use Rattle.wf_automaton.specs.declared.fault.AutoFault.{AutoFault}
use Rattle.wf_automaton.specs.declared.fault.AutoFault.TheVariants.{NotJson, WrongShape}

-- `[state, module, state]`
abbrev pub move_form : Data → Option MovePart
move_form d = option_map (λ t. record { from = t.0; «module» = t.1.0; to = t.1.1 }) (triple_form whole_form text_form whole_form d)

-- what each member says, and none where it has not its form
abbrev pub states_in : Data → Option ℕ
states_in d = member_form (codes "states") whole_form d

abbrev pub start_in : Data → Option ℕ
start_in d = member_form (codes "start") whole_form d

abbrev pub accept_in : Data → Option (List ℕ)
accept_in d = list_member (codes "accept") whole_form d

abbrev pub moves_in : Data → Option (List MovePart)
moves_in d = list_member (codes "moves") move_form d

-- a value says these parts
pub record SaysParts (d : Data) (p : AutoParts) : Type 0 where
  pub object : IsSome (as_object d)
  pub states : states_in d ≡ Some p.states
  pub start : start_in d ≡ Some p.start
  pub accept : accept_in d ≡ Some p.accept
  pub moves : moves_in d ≡ Some p.moves

-- bytes say these parts
abbrev pub IsAutoText : List ℕ → AutoParts → Type 0
IsAutoText bytes p = (d : Data) × IsReading bytes d × SaysParts d p

-- the rules on the form of a value, in the order in which they are tried
abbrev pub form_rules : Data → List (Rule AutoFault)
form_rules d =
    once (IsSome (as_object d)) (WrongShape Top) ∷
    once (IsSome (states_in d)) (WrongShape States) ∷
    once (IsSome (start_in d)) (WrongShape Start) ∷
    once (IsSome (accept_in d)) (WrongShape Accept) ∷
    once (IsSome (moves_in d)) (WrongShape Moves) ∷ []

-- why bytes say no parts
abbrev pub IsShapeFault : List ℕ → AutoFault → Type 0
IsShapeFault bytes f = (HasNoReading bytes × (f ≡ NotJson)) ⊎ ((d : Data) × IsReading bytes d × IsFirstFault (form_rules d) f)
