-- Whether a step is one of a module.
use Rattle.std.proofs.Common.{◌≡◌, ◌↔◌, ℕ, ◌<◌, ◌≤◌, List, map, length, Bool, true, false, IsTrue, eqb, ltb, sym, ap, ◌∙◌, subst, true≢false, arith}
use Rattle.std.proofs.lemmas.Bool.{eqb-true, eq-eqb, ltb-true, lt-ltb}
use Rattle.std.proofs.lemmas.List.{length-map}
use Rattle.wf_model.specs.Grammar.{Grammar, Production, Position, production_at, body_of}
use Rattle.wf_model.specs.Reach.{Step}
use Rattle.wf_model.specs.Linear.{IsStepOf}

module _ (g : Grammar) (m : ℕ) (s : Step) where
  module _ {P : Type 0} (core : P → Production) (ps : List P) (are : map core ps ≡ g.productions) where
    count : length ps ≡ length g.productions
    count = sym (length-map ps core) ∙ ap length are

    -- there is no production of its number
    pub past_productions : length ps ≤ s.production → IsTrue false ↔ IsStepOf g m s
    past_productions past = ((λ t. absurd (true≢false (sym t))), (λ of. let below = of.in_range in absurd (omega (arith, count))))

    -- there is one
    pub in_productions : s.production < length ps → s.production < length g.productions
    in_productions below = subst (λ n. s.production < n) count below

  module _ (p : Production) (is : p ≡ production_at g s.production) where
    -- it expands another module
    pub of_other : (h : ℕ) (b : Bool) → h ≡ p.head → b ≡ eqb h m → b ≡ false → IsTrue b ↔ IsStepOf g m s
    of_other h b head told off =
        ((λ t. absurd (true≢false (sym t ∙ off))), (λ of. absurd (true≢false (sym (eq-eqb h m (head ∙ (ap (λ (x : Production). x.head) is ∙ of.head))) ∙ (sym told ∙ off)))))

    -- it expands the module, and its body has so many positions
    pub of_head : {Q : Type 0} (position : Q → Position) (qs : List Q) (h : ℕ) (b : Bool) →
        s.production < length g.productions → h ≡ p.head → b ≡ eqb h m → b ≡ true → map position qs ≡ p.positions → IsTrue (ltb s.position (length qs)) ↔ IsStepOf g m s
    of_head position qs h b in_range head told same are = (
      (λ t. record {
        in_range = in_range;
        head = ap (λ (x : Production). x.head) (sym is) ∙ (sym head ∙ eqb-true h m (sym told ∙ same));
        position = subst (λ n. s.position < n) many (ltb-true s.position (length qs) t);
      }),
      (λ of. lt-ltb s.position (length qs) (subst (λ n. s.position < n) (sym many) of.position)),
    )
      where
        many : length qs ≡ length (body_of g s.production)
        many = sym (length-map qs position) ∙ (ap length are ∙ (ap (λ (x : Production). length x.positions) is ∙ sym (length-map (production_at g s.production).positions (λ (x : Position). x.module_no))))
