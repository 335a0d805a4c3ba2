-- The ends of the edges of a well-formed grammar, named and found again by their names.
use Rattle.std.proofs.Common.{◌≡◌, ℕ, ◌<◌, [], length, get_or, map, sym, ap, ◌∙◌, subst}
use Rattle.std.proofs.lemmas.List.{get_or-map, length-map}
use Rattle.wf_model.specs.Lists.{IsIn, IsAt}
use Rattle.wf_model.specs.Grammar.{Grammar, Module, Position, Inner, Production, module_at, production_at, inputs_of, outputs_of, body_of}
use Rattle.wf_model.specs.WellFormed.{IsWellFormed, IsInnerInput, IsInnerOutput}
use Rattle.wf_model.proofs.ItemNames.{differ_left, differ_right}
use Rattle.wf_model.proofs.Lists.{at_is, at_below}
use Rattle.wf_spec.specs.Naming.{place_of, module_in}
use Rattle.wf_spec.proofs.Finding.{place_at}
use Rattle.wf_spec.proofs.Tables.{get_in}
use Rattle.wf_json.specs.Canonical.{position_at, module_there}
use Rattle.wf_form.specs.Forming.{position_in, module_at_place, inner_input, inner_output}
use Rattle.wf_view.proofs.Naming.{module_formed}
use Rattle.package_laws.proofs.NamedParts.{named_input, named_output}

module _ (g : Grammar) (formed : IsWellFormed g) where
  abbrev no_position : Position
  no_position = record { name = []; module_no = 0 }

  -- the ports of a module have their numbers
  pub input_is : (m k : ℕ) → m < length g.modules → k < inputs_of g m → place_of (module_at g m).inputs (get_or (module_at g m).inputs k []) ≡ k
  input_is m k below inside =
      let it = module_at g m in place_at it.inputs k (differ_left it.inputs it.outputs (module_formed g formed m below).ports_differ) inside

  pub output_is : (m k : ℕ) → m < length g.modules → k < outputs_of g m → place_of (module_at g m).outputs (get_or (module_at g m).outputs k []) ≡ k
  output_is m k below inside =
      let it = module_at g m in place_at it.outputs k (differ_right it.inputs it.outputs (module_formed g formed m below).ports_differ) inside

  module _ (p : ℕ) (within : p < length g.productions) where
    abbrev r : Production
    r = production_at g p

    module _ (k m : ℕ) (at : IsAt m k (body_of g p)) where
      pub inside : k < length r.positions
      inside = subst (λ n. k < n) (length-map r.positions (λ (z : Position). z.module_no)) (at_below m k (body_of g p) at)

      -- a position has its number
      position_is : position_in r.positions (position_at r k).name ≡ k
      position_is =
          let names = map (λ (q : Position). q.name) r.positions in
          let below = subst (λ n. k < n) (sym (length-map r.positions (λ (q : Position). q.name))) inside in
          ap (place_of names) (sym (get_or-map (λ (q : Position). q.name) r.positions k no_position [] inside)) ∙ place_at names k (formed.bodies p within).names_differ below

      pub module_is : (position_at r k).module_no ≡ m
      module_is = sym (get_or-map (λ (z : Position). z.module_no) r.positions k no_position 0 inside) ∙ at_is m k (body_of g p) 0 at

      place_is : module_at_place g.modules r.positions k ≡ module_there g r k
      place_is = ap (module_in g.modules) (get_or-map (λ (z : Position). z.module_no) r.positions k no_position (length g.modules) inside)

      pub below_modules : (position_at r k).module_no < length g.modules
      below_modules =
          let there = subst (λ z. IsIn z (body_of g p)) (at_is m k (body_of g p) 0 at) (get_in k (body_of g p) 0 (at_below m k (body_of g p) at)) in
          subst (λ n. n < length g.modules) (sym module_is) ((formed.bodies p within).modules m there)

    module _ (i : Inner) where
      abbrev k : ℕ
      k = i.position

      abbrev m : ℕ
      m = (position_at r k).module_no

      pub input_back : IsInnerInput g p i → inner_input g.modules r.positions (named_input g r i) ≡ i
      input_back h =
          let name = get_or (module_there g r k).inputs i.port [] in
          let there = subst (λ z. i.port < inputs_of g z) (sym (module_is k h.0 h.1)) h.2 in
          ap (λ j. record { position = j; port = place_of (module_at_place g.modules r.positions j).inputs name }) (position_is k h.0 h.1)
          ∙ (ap (λ (x : Module). record { position = k; port = place_of x.inputs name }) (place_is k h.0 h.1)
          ∙ ap (λ n. record { position = k; port = n }) (input_is m i.port (below_modules k h.0 h.1) there))

      pub output_back : IsInnerOutput g p i → inner_output g.modules r.positions (named_output g r i) ≡ i
      output_back h =
          let name = get_or (module_there g r k).outputs i.port [] in
          let there = subst (λ z. i.port < outputs_of g z) (sym (module_is k h.0 h.1)) h.2 in
          ap (λ j. record { position = j; port = place_of (module_at_place g.modules r.positions j).outputs name }) (position_is k h.0 h.1)
          ∙ (ap (λ (x : Module). record { position = k; port = place_of x.outputs name }) (place_is k h.0 h.1)
          ∙ ap (λ n. record { position = k; port = n }) (output_is m i.port (below_modules k h.0 h.1) there))
