-- The modules and productions of the lifted grammar: it has the shape of the grammar.
use Rattle.std.proofs.Common.{◌≡◌, ℕ, ◌*◌, List, [], ◌∷◌, map, take, length, count_by, eqb, refl, ap, ◌∙◌}
use Rattle.std.proofs.Math.ListN.{get_or-map}
use Rattle.std.proofs.lemmas.List.{length-map, take-map}
use Rattle.wf_model.specs.Lists.{numbers_from}
use Rattle.wf_model.specs.Grammar.{Grammar, Module, Position, Production, production_at, module_at, inputs_of, outputs_of, head_of, body_of, alternative_of}
use Rattle.wf_model.specs.Reach.{Step, target_of, module_along}
use Rattle.wf_model.proofs.NumberLists.{length-numbers}
use Rattle.words_model.specs.Lifting.{port_name, lift_production, lifted_names, lift_module, lift}
use Rattle.words_model.proofs.SameShape.{AreSameShape, target_there}
use Rattle.words_model.proofs.States.{length-states}
use Rattle.words_model.proofs.Counts.{count-map}

pub length-lifted_names : (letter k n : ℕ) → length (lifted_names letter k n) ≡ n * k
length-lifted_names letter k n = length-states (λ s p. port_name letter p s) k (numbers_from 0 n) ∙ ap (λ z. z * k) (length-numbers 0 n)

module _ (g : Grammar) (k : ℕ) where
  pub lifted_production : (p : ℕ) → production_at (lift g k) p ≡ lift_production k (production_at g p)
  lifted_production p = get_or-map (lift_production k) g.productions p (record { head = 0; positions = []; edges = []; entries = []; exits = [] })

  pub lifted_module : (m : ℕ) → module_at (lift g k) m ≡ lift_module k (module_at g m)
  lifted_module m = get_or-map (lift_module k) g.modules m (record { name = []; inputs = []; outputs = [] })

  pub lifted_head : (p : ℕ) → head_of (lift g k) p ≡ head_of g p
  lifted_head p = ap (λ (r : Production). r.head) (lifted_production p)

  pub lifted_body : (p : ℕ) → body_of (lift g k) p ≡ body_of g p
  lifted_body p = ap (λ (r : Production). map (λ (q : Position). q.module_no) r.positions) (lifted_production p)

  pub lifted_inputs : (m : ℕ) → inputs_of (lift g k) m ≡ inputs_of g m * k
  lifted_inputs m = ap (λ (r : Module). length r.inputs) (lifted_module m) ∙ length-lifted_names 105 k (inputs_of g m)

  pub lifted_outputs : (m : ℕ) → outputs_of (lift g k) m ≡ outputs_of g m * k
  lifted_outputs m = ap (λ (r : Module). length r.outputs) (lifted_module m) ∙ length-lifted_names 111 k (outputs_of g m)

  lifted_alternative : (p : ℕ) → alternative_of (lift g k) p ≡ alternative_of g p
  lifted_alternative p =
      ap (count_by (λ (r : Production). eqb r.head (head_of (lift g k) p))) (take-map (lift_production k) p g.productions) ∙
      (count-map (λ (r : Production). eqb r.head (head_of (lift g k) p)) (lift_production k) (take p g.productions) ∙
      ap (λ z. count_by (λ (r : Production). eqb r.head z) (take p g.productions)) (lifted_head p))

  pub lifted_shape : AreSameShape g (lift g k)
  lifted_shape = record { start = refl; modules = length-map g.modules (lift_module k); count = length-map g.productions (lift_production k); head = lifted_head; body = lifted_body; alternative = lifted_alternative }

  pub lifted_along : (m : ℕ) (a : List Step) → module_along (lift g k) m a ≡ module_along g m a
  lifted_along m [] = refl
  lifted_along m (s ∷ a) = ap (λ z. module_along (lift g k) z a) (target_there g (lift g k) lifted_shape s) ∙ lifted_along (target_of g s) a
