-- The numbers of what the links of a body name, where it is there.
use Rattle.std.specs.Prelude.{◌≡◌, ℕ, ◌<◌, ◌≤◌, List, Option, MatchOption, map, length}
use Rattle.wf_model.specs.declared.body.Inner.{Inner as InnerHeld}
use Rattle.wf_model.specs.declared.body.Position.{Position as PositionHeld}
use Rattle.wf_model.specs.declared.parts.EntryPart.{EntryPart}
use Rattle.wf_model.specs.declared.parts.ExitPart.{ExitPart}
use Rattle.wf_model.specs.declared.parts.PortPart.{PortPart}
use Rattle.wf_model.specs.Lists.{IsIn}
use Rattle.wf_model.specs.Grammar.{Module, Inner, Position}
use Rattle.wf_model.specs.Meaning.{position_of, inner_of}
use Rattle.wf_spec.specs.FewPorts.{HasFewPorts}
use Rattle.wf_form.specs.declared.links.inner.Place.{Place}
use Rattle.wf_form.specs.declared.wiring.Entry.{Entry}
use Rattle.wf_form.specs.declared.wiring.Exit.{Exit}
use Rattle.wf_form.specs.declared.wiring.Wiring.{Wiring}
use Rattle.wf_form.specs.Forming.{position_in, module_at_place, inner_input, inner_output}
use Rattle.wf_form.specs.Resolving.{IsInputIn, IsOutputIn}
use Rattle.wf_form.specs.Wiring.{body_of, fed_by, used_by, entered_by, left_by, entry_of, exit_of, entry_link, exit_link, IsEntryIn, IsExitIn}

-- an answer is the number of what is there, and none where it is not
abbrev pub NumbersIf : {A B : Type 0} → Type 0 → (A → B) → B → Option A → Type 0
NumbersIf IsThere number_of number answer = MatchOption answer (¬ IsThere) (λ e. (number_of e ≡ number) × IsThere)

-- the place of the first position of a name in a body, with its module; none where no position has the name
abbrev pub IsPlaceIn : List Module → List PositionHeld → List ℕ → Option Place → Type 0
IsPlaceIn modules body name answer =
    MatchOption answer (length body ≤ position_in (map position_of body) name)
    (λ r. (r.pos.0 ≡ position_in (map position_of body) name) × (r.pos.0 < length body) × (r.module.now ≡ module_at_place modules (map position_of body) r.pos.0) × HasFewPorts r.module.now)

-- the number of the input that a part names; none where it is no input of a position
abbrev pub IsInputNumber : List Module → List Position → PortPart → Option InnerHeld → Type 0
IsInputNumber modules body part answer =
    MatchOption answer (¬ IsInputIn modules body (inner_input modules body part)) (λ i. (inner_of i ≡ inner_input modules body part) × IsInputIn modules body (inner_of i))

-- so of an output
abbrev pub IsOutputNumber : List Module → List Position → PortPart → Option InnerHeld → Type 0
IsOutputNumber modules body part answer =
    MatchOption answer (¬ IsOutputIn modules body (inner_output modules body part)) (λ i. (inner_of i ≡ inner_output modules body part) × IsOutputIn modules body (inner_of i))

-- the numbers of an entry part; none where one of its ends is not there
abbrev pub IsEntryNumber : List Module → List Position → Module → EntryPart → Option Entry → Type 0
IsEntryNumber modules body head part answer = NumbersIf (IsEntryIn modules body head part) entry_of (entry_link modules body head part) answer

-- so of an exit part
abbrev pub IsExitNumber : List Module → List Position → Module → ExitPart → Option Exit → Type 0
IsExitNumber modules body head part answer = NumbersIf (IsExitIn modules body head part) exit_of (exit_link modules body head part) answer

-- each port of a position has a link
abbrev pub ArePositionsMet : List Module → Wiring → Type 0
ArePositionsMet modules w =
    ((i : Inner) → IsInputIn modules (body_of w) i → IsIn i (fed_by w)) × ((i : Inner) → IsOutputIn modules (body_of w) i → IsIn i (used_by w))

-- each port of the head has one
abbrev pub IsHeadMet : Module → Wiring → Type 0
IsHeadMet head w = ((k : ℕ) → k < length head.inputs → IsIn k (entered_by w)) × ((k : ℕ) → k < length head.outputs → IsIn k (left_by w))
