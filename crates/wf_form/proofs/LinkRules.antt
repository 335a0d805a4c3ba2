-- The rules on links, over parts and over their wirings.
use Rattle.std.proofs.Common.{◌≡◌, ◌↔◌, ◌⊎◌, ℕ, ◌<◌, ◌≤◌, List, [], ◌∷◌, ◌++◌, length, refl, sym, subst, inl, inr, arith}
use Rattle.std.proofs.lemmas.List.{length-map}
use Rattle.wf_model.specs.declared.parts.Parts.{Parts}
use Rattle.wf_model.specs.declared.parts.ProdPart.{ProdPart}
use Rattle.wf_model.specs.declared.parts.DepsPart.{DepsPart}
use Rattle.wf_model.specs.Lists.{IsIn, IsAt, AllDiffer}
use Rattle.wf_model.specs.Grammar.{Module}
use Rattle.wf_model.proofs.Lists.{at_below, at_in, in_at, in_map_from}
use Rattle.wf_form.specs.declared.fault.FormFault.{FormFault}
use Rattle.wf_form.specs.declared.fault.FormFault.TheVariants.{NoMemory, TooManyPorts, PortTwice, UnknownModule, BodyTooLong, UnknownPort, PortLinkedTwice, PortUnlinked, BodyCycle, DepsOnComposite}
use Rattle.wf_form.specs.declared.fault.Spot.TheVariants.{Production as AtProduction, DepsAt}
use Rattle.wf_form.specs.declared.wiring.Wiring.{Wiring}
use Rattle.wf_spec.specs.Naming.{names_of}
use Rattle.wf_form.specs.Forming.{module_of, modules_of, head_in}
use Rattle.wf_spec.specs.FewPorts.{HasFewPorts as HasFewPortsOf}
use Rattle.wf_spec.specs.FirstFaults.{Rule, each, AllHold, FailsFirstAt, HoldsThroughout, IsFirstFault}
use Rattle.wf_form.specs.Rules.{first_rules, body_rules, link_rules_of, module_names, HasDifferentPorts, HasFewPorts, HasKnownModules, HasKnownPorts, IsLinkedAtMostOnce, IsLinkedAtLeastOnce, HasNoCycle, IsOfAtomic}
use Rattle.wf_spec.specs.Pairs.{HasKnownPairs}
use Rattle.wf_form.specs.Wiring.{AreReady, AreWiringsOf, IsWithin, IsWiredAtMostOnce, IsWiredAtLeastOnce, IsWiredForward, wiring_rules}
use Rattle.wf_form.proofs.Agreeing.{most_same, least_same, forward_same, within_parts}
use Rattle.wf_form.proofs.Lawful.{same_names, head_ports}
use Rattle.wf_spec.proofs.Finding.{number_below}
use Rattle.wf_spec.proofs.FirstFaults.{holds_of}
use Rattle.wf_model.proofs.Positions.{at_there}
use Rattle.wf_model.proofs.ItemNames.{differ_right, differ_left}

-- rules that are asked of two lists, and say the same place by place
module _ {A B : Type 0} (P : A → Type 0) (Q : B → Type 0) (told : ℕ → FormFault) (xs : List A) (ys : List B) (as_many : length xs ≡ length ys) (same : (k : ℕ) (x : A) (y : B) → IsAt x k xs → IsAt y k ys → P x ↔ Q y) where
  held_over : (k : ℕ) → k < length ys → ((x : A) → IsAt x k xs → P x) → (y : B) → IsAt y k ys → Q y
  held_over k low h y at = let x = at_there k xs (subst (λ n. k < n) (sym as_many) low) in (same k x.0 y x.1 at).0 (h x.0 x.1)

  held_back : (k : ℕ) → k < length ys → ((y : B) → IsAt y k ys → Q y) → (x : A) → IsAt x k xs → P x
  held_back k low h x at = let y = at_there k ys low in (same k x y.0 at y.1).1 (h y.0 y.1)

  all_over : HoldsThroughout (each xs P told) → HoldsThroughout (each ys Q told)
  all_over h k low = held_over k low (h k (subst (λ n. k < n) (sym as_many) low))

  fails_over : (k : ℕ) → FailsFirstAt (length xs) (each xs P told).holds k → FailsFirstAt (length ys) (each ys Q told).holds k
  fails_over k h =
      let low : k < length ys = subst (λ n. k < n) as_many h.is_place in
      record {
        is_place = low;
        before = λ j l. held_over j (omega arith) (h.before j l);
        fails = λ all. h.fails (held_back k low all);
      }

  fault_over : (rs ss : List (Rule FormFault)) (f : FormFault) → (IsFirstFault rs f → IsFirstFault ss f) → IsFirstFault (each xs P told ∷ rs) f → IsFirstFault (each ys Q told ∷ ss) f
  fault_over rs ss f rest (inl h) = inl (h.0, fails_over h.0 h.1, h.2)
  fault_over rs ss f rest (inr h) = inr (all_over h.0, rest h.1)

-- what is known of the modules of a production
module _ (names : List (List ℕ)) (modules : List Module) (productions : List ProdPart) (deps : List DepsPart) (ready : AreReady names modules productions deps) where
  known_here : (p : ProdPart) → IsIn p productions → HasKnownModules (names_of modules) p
  known_here p i = subst (λ ns. HasKnownModules ns p) ready.numbered (ready.known p i)

  inputs_differ : (p : ProdPart) → IsIn p productions → AllDiffer (head_in modules p).inputs
  inputs_differ p i = differ_left (head_in modules p).inputs (head_in modules p).outputs (head_ports modules p ready.ports_differ (number_below modules p.head (known_here p i).head))

  outputs_differ : (p : ProdPart) → IsIn p productions → AllDiffer (head_in modules p).outputs
  outputs_differ p i = differ_right (head_in modules p).inputs (head_in modules p).outputs (head_ports modules p ready.ports_differ (number_below modules p.head (known_here p i).head))

  module _ (wirings : List Wiring) (of : AreWiringsOf modules productions wirings) (ports : HoldsThroughout (each productions (HasKnownPorts modules) (λ k. UnknownPort (AtProduction k)))) where
    ports_of : (k : ℕ) (p : ProdPart) → IsAt p k productions → HasKnownPorts modules p
    ports_of k p at = ports k (at_below p k productions at) p at

    -- the numbers of wirings are those of what is there
    pub all_within : (w : Wiring) → IsIn w wirings → IsWithin modules w
    all_within w i =
        let a = in_at w wirings i in
        let b = at_there a.0 productions (subst (λ n. a.0 < n) of.as_many (at_below w a.0 wirings a.1)) in
        let here = at_in b.0 a.0 productions b.1 in
        within_parts modules b.0 w (of.each a.0 b.0 w b.1 a.1) (ports_of a.0 b.0 b.1) (known_here b.0 here) (ready.few_positions b.0 here)

    most_at : (k : ℕ) (w : Wiring) (p : ProdPart) → IsAt w k wirings → IsAt p k productions → IsWiredAtMostOnce w ↔ IsLinkedAtMostOnce modules p
    most_at k w p a b = most_same modules p w (of.each k p w b a) (ports_of k p b)

    least_at : (k : ℕ) (w : Wiring) (p : ProdPart) → IsAt w k wirings → IsAt p k productions → IsWiredAtLeastOnce modules w ↔ IsLinkedAtLeastOnce modules p
    least_at k w p a b = let i = at_in p k productions b in least_same modules p w (of.each k p w b a) (ports_of k p b) (inputs_differ p i) (outputs_differ p i)

    forward_at : (k : ℕ) (w : Wiring) (p : ProdPart) → IsAt w k wirings → IsAt p k productions → IsWiredForward w ↔ HasNoCycle modules p
    forward_at k w p a b = forward_same modules p w (of.each k p w b a)

    -- the rules on wirings are those on their parts
    wirings_kept : AllHold (wiring_rules modules wirings)
        → AllHold (each productions (IsLinkedAtMostOnce modules) PortLinkedTwice ∷ each productions (IsLinkedAtLeastOnce modules) PortUnlinked ∷ each productions (HasNoCycle modules) BodyCycle ∷ [])
    wirings_kept h = (
      all_over IsWiredAtMostOnce (IsLinkedAtMostOnce modules) PortLinkedTwice wirings productions of.as_many most_at h.0,
      (
        all_over (IsWiredAtLeastOnce modules) (IsLinkedAtLeastOnce modules) PortUnlinked wirings productions of.as_many least_at h.1.0,
        (all_over IsWiredForward (HasNoCycle modules) BodyCycle wirings productions of.as_many forward_at h.1.1.0, tt),
      ),
    )

    wirings_refused : (last : List (Rule FormFault)) (f : FormFault) → IsFirstFault (wiring_rules modules wirings) f
        → IsFirstFault (each productions (IsLinkedAtMostOnce modules) PortLinkedTwice ∷ each productions (IsLinkedAtLeastOnce modules) PortUnlinked ∷ each productions (HasNoCycle modules) BodyCycle ∷ last) f
    wirings_refused last f h =
        fault_over IsWiredAtMostOnce (IsLinkedAtMostOnce modules) PortLinkedTwice wirings productions of.as_many most_at
        (each wirings (IsWiredAtLeastOnce modules) PortUnlinked ∷ each wirings IsWiredForward BodyCycle ∷ [])
        (each productions (IsLinkedAtLeastOnce modules) PortUnlinked ∷ each productions (HasNoCycle modules) BodyCycle ∷ last) f
        (fault_over (IsWiredAtLeastOnce modules) (IsLinkedAtLeastOnce modules) PortUnlinked wirings productions of.as_many least_at
        (each wirings IsWiredForward BodyCycle ∷ []) (each productions (HasNoCycle modules) BodyCycle ∷ last) f
        (fault_over IsWiredForward (HasNoCycle modules) BodyCycle wirings productions of.as_many forward_at [] last f (λ z. absurd z)))
        h

    -- where the rules before them hold, a fault of the rules on wirings is the first of all
    pub refused_by_wirings : HoldsThroughout (each deps (HasKnownPairs modules) (λ k. UnknownPort (DepsAt k))) → (f : FormFault) → (f ≡ NoMemory) ⊎ IsFirstFault (wiring_rules modules wirings) f
        → (f ≡ NoMemory) ⊎ IsFirstFault (link_rules_of modules productions deps) f
    refused_by_wirings pairs f (inl e) = inl e
    refused_by_wirings pairs f (inr h) = inr (inr (ports, inr (pairs, wirings_refused (each deps (IsOfAtomic productions) DepsOnComposite ∷ []) f h)))

    -- and so is a deps part on a composite module
    pub refused_by_deps : HoldsThroughout (each deps (HasKnownPairs modules) (λ k. UnknownPort (DepsAt k))) → AllHold (wiring_rules modules wirings)
        → (k : ℕ) → FailsFirstAt (length deps) (each deps (IsOfAtomic productions) DepsOnComposite).holds k → IsFirstFault (link_rules_of modules productions deps) (DepsOnComposite k)
    refused_by_deps pairs all k fails =
        let h = wirings_kept all in
        inr (ports, inr (pairs, inr (h.0, inr (h.1.0, inr (h.1.1.0, inl (k, fails, refl))))))

    -- all rules hold
    pub all_kept : HoldsThroughout (each deps (HasKnownPairs modules) (λ k. UnknownPort (DepsAt k))) → AllHold (wiring_rules modules wirings)
        → HoldsThroughout (each deps (IsOfAtomic productions) DepsOnComposite) → AllHold (link_rules_of modules productions deps)
    all_kept pairs all atomic = let h = wirings_kept all in (ports, (pairs, (h.0, (h.1.0, (h.1.1.0, (atomic, tt))))))

-- what holds over parts holds over them as they are read
pub on_read : (F : List Module → List ProdPart → List DepsPart → Type 0) (modules ms : List Module) (productions ps : List ProdPart) (deps ds : List DepsPart)
    → modules ≡ ms → productions ≡ ps → deps ≡ ds → F ms ps ds → F modules productions deps
on_read F modules ms productions ps deps ds a b c h =
    subst (λ l. F l productions deps) (sym a) (subst (λ l. F ms l deps) (sym b) (subst (λ l. F ms ps l) (sym c) h))

-- what the rules on modules and bodies give
pub ready_of : (parts : Parts) → AllHold (first_rules parts) → AllHold (body_rules parts) → AreReady (names_of (modules_of parts)) (modules_of parts) parts.productions parts.deps
ready_of parts first bodies = record {
  numbered = refl;
  few_modules = subst (λ n. n ≤ 1024) (sym (length-map parts.modules module_of)) (first.1.1.1.1.1.0 0 (omega arith));
  few_ports = λ m i.
      (let r = in_map_from module_of m parts.modules i in
      let few = holds_of HasFewPorts TooManyPorts parts.modules first.1.1.1.1.0 r.0 r.1 in
      subst (λ (z : Module). HasFewPortsOf z) (sym r.2) (record { inputs = few.0; outputs = few.1 }));
  ports_differ = λ m i.
      (let r = in_map_from module_of m parts.modules i in
      subst (λ (z : Module). AllDiffer (z.inputs ++ z.outputs)) (sym r.2) (holds_of HasDifferentPorts PortTwice parts.modules first.1.1.1.0 r.0 r.1));
  few_positions = holds_of (λ (p : ProdPart). length p.body ≤ 64) BodyTooLong parts.productions bodies.1.1.1.1.0;
  known = λ p i.
      subst (λ ns. HasKnownModules ns p) (sym (same_names parts))
      (holds_of (HasKnownModules (module_names parts.modules)) (λ k. UnknownModule (AtProduction k)) parts.productions bodies.1.0 p i);
  given = λ d i.
      subst (IsIn d.«module») (sym (same_names parts))
      (holds_of (λ (e : DepsPart). IsIn e.«module» (module_names parts.modules)) (λ k. UnknownModule (DepsAt k)) parts.deps bodies.1.1.0 d i);
}
