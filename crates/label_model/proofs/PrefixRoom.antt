-- How large what a run keeps of an instance can be.
use Rattle.std.proofs.Common.{◌≡◌, ℕ, suc, ◌+◌, ◌^◌, ◌<◌, ◌≤◌, Bool, true, List, [], length, Option, Some, sym, ap, subst, ◌∙◌, arith, append-nil}
use Rattle.wf_model.specs.Lists.{IsIn}
use Rattle.wf_model.specs.Grammar.{Grammar}
use Rattle.wf_model.specs.WellFormed.{IsWellFormed}
use Rattle.wf_model.specs.Linear.{IsLinear}
use Rattle.wf_model.specs.declared.event.Event.{Event}
use Rattle.wf_model.specs.Run.{Instance, made, IsRun, IsAccepted}
use Rattle.wf_model.specs.Reach.{module_along}
use Rattle.label_model.specs.Places.{steps_from, chain_from}
use Rattle.label_model.specs.RunLabels.{address_in, IsPrefix}
use Rattle.label_model.specs.Bound.{expand_events}
use Rattle.label_model.proofs.AcceptedLabels.{run_long}
use Rattle.label_model.proofs.InstanceAddresses.{instance_law}
use Rattle.label_model.proofs.LabelRoom.{prefix_room}
use Rattle.label_model.proofs.LookingBack.{address_short}
use Rattle.label_model.proofs.RunBounds.{last_small}
use Rattle.label_model.proofs.ValidPlaces.{passed_none, led_from}
use Rattle.wf_model.specs.Composite.{is_composite}

-- a chain number is no larger than the number of the expand events
pub chain_within : (g : Grammar) (events : List Event) (n : List ℕ) (bits : List Bool) (chain : Option ℕ) → IsPrefix g events n bits chain → (c : ℕ) → chain ≡ Some c → c ≤ expand_events events
chain_within g events n bits chain h c e =
    let a = address_in events n in
    let low : c < suc (expand_events events) = last_small g a g.start 0 (suc (expand_events events)) c (omega (arith, address_short events n)) (sym h.chain_is ∙ e) in
    omega arith

-- and the bits are fewer than 2^17, where the module of the instance is composite
pub prefix_below : (g : Grammar) → IsWellFormed g → IsLinear g → (events : List Event) → IsAccepted g (2 ^ 24) events → (i : Instance) → IsIn i (made g g.start events) → is_composite g i.module_no ≡ true →
    (bits : List Bool) (chain : Option ℕ) → IsPrefix g events i.name bits chain → length bits < 2 ^ 17
prefix_below g wf lin events acc i here comp bits chain h =
    let a = address_in events i.name in
    let x = instance_law g g.start events [] i (subst (IsRun g g.start) (sym (append-nil events)) acc.0) here in
    let short : 0 + length a < 2 ^ 24 = omega (arith, address_short events i.name, run_long g wf g.start events i acc.0 here, acc.1) in
    let led = led_from g wf a g.start 0 g.start (passed_none g g.start) x.route short in
    subst (λ z. length z < 2 ^ 17) (sym h.bits_are)
    (prefix_room g wf lin g.start (steps_from g g.start 0 a) (chain_from g g.start 0 a) led.entered (module_along g g.start a) wf.start led.leads led.chain (ap (is_composite g) x.ends ∙ comp))
