-- Grammars whose productions have the same heads and bodies: what follows from these alone is the same in both.
use Rattle.std.proofs.Common.{◌≡◌, ℕ, zero, suc, ◌<◌, List, length, get_or, sym, ap, ◌∙◌, subst, inl, inr}
use Rattle.wf_model.specs.Lists.{IsIn}
use Rattle.wf_model.specs.Grammar.{Grammar, head_of, body_of, IsProductionOf, IsAtomic, IsComposite, alternative_of}
use Rattle.wf_model.specs.Proper.{Makes, Derives, RankWithin, Becomes, IsProper}
use Rattle.wf_model.specs.Linear.{IsStepOf, Continues, IsOnCycle, GoesOn, IsLeast, AreCycles}
use Rattle.wf_model.specs.Reach.{Step, target_of}
use Rattle.wf_laws.proofs.Safe.{walk_same}

-- they start at one module, and have as many modules and productions, with the same heads, bodies and alternative numbers
pub record AreSameShape (g h : Grammar) : Type 0 where
  pub start : h.start ≡ g.start
  pub modules : length h.modules ≡ length g.modules
  pub count : length h.productions ≡ length g.productions
  pub head : (p : ℕ) → head_of h p ≡ head_of g p
  pub body : (p : ℕ) → body_of h p ≡ body_of g p
  pub alternative : (p : ℕ) → alternative_of h p ≡ alternative_of g p

pub shape_back : (g h : Grammar) → AreSameShape g h → AreSameShape h g
shape_back g h s = record { start = sym s.start; modules = sym s.modules; count = sym s.count; head = λ p. sym (s.head p); body = λ p. sym (s.body p); alternative = λ p. sym (s.alternative p) }

module _ (g h : Grammar) (s : AreSameShape g h) where
  pub target_there : (t : Step) → target_of h t ≡ target_of g t
  target_there t = ap (λ ms. get_or ms t.position 0) (s.body t.production)

  pub production_there : (p m : ℕ) → IsProductionOf g p m → IsProductionOf h p m
  production_there p m q = (subst (λ z. p < z) (sym s.count) q.0, s.head p ∙ q.1)

  pub composite_there : (m : ℕ) → IsComposite g m → IsComposite h m
  composite_there m q = (q.0, production_there q.0 m q.1)

  atomic_there : (m : ℕ) → IsAtomic g m → IsAtomic h m
  atomic_there m at p hp e = at p (subst (λ z. p < z) s.count hp) (sym (s.head p) ∙ e)

  makes_there : (a b : ℕ) → Makes g a b → Makes h a b
  makes_there a b q = (q.0, production_there q.0 a q.1, subst (IsIn b) (sym (s.body q.0)) q.2)

  derives_there : (a b : ℕ) → Derives g a b → Derives h a b
  derives_there a b w = walk_same makes_there w

  pub rank_there : (n m : ℕ) → RankWithin g n m → RankWithin h n m
  rank_there zero m r = atomic_there m r
  rank_there (suc n) m (inl r) = inl (atomic_there m r)
  rank_there (suc n) m (inr q) = inr (q.0, production_there q.0 m q.1, λ k i. rank_there n k (q.2 k (subst (IsIn k) (s.body q.0) i)))

  pub becomes_there : (a b : ℕ) → Becomes g a b → Becomes h a b
  becomes_there a b q = (q.0, production_there q.0 a q.1, ap length (s.body q.0) ∙ q.2, subst (IsIn b) (sym (s.body q.0)) q.3)

  pub step_there : (m : ℕ) (t : Step) → IsStepOf g m t → IsStepOf h m t
  step_there m t q = record {
    in_range = subst (λ z. t.production < z) (sym s.count) q.in_range;
    head = s.head t.production ∙ q.head;
    position = subst (λ ms. t.position < length ms) (sym (s.body t.production)) q.position;
  }

  pub continues_there : (m : ℕ) (t : Step) → Continues g m t → Continues h m t
  continues_there m t q = (step_there m t q.0, subst (λ z. Derives h z m) (sym (target_there t)) (derives_there (target_of g t) m q.1))

module _ (g h : Grammar) (s : AreSameShape g h) where
  on_cycle_there : (m : ℕ) → IsOnCycle g m → IsOnCycle h m
  on_cycle_there m q = (q.0, continues_there g h s m q.0 q.1)

  goes_on_there : (a b : ℕ) → GoesOn g a b → GoesOn h a b
  goes_on_there a b q = (q.0, continues_there g h s a q.0 q.1, target_there g h s q.0 ∙ q.2)

least_there : (g h : Grammar) → AreSameShape g h → (m : ℕ) → IsLeast g m → IsLeast h m
least_there g h s m q = (on_cycle_there g h s m q.0, λ k w. q.1 k (walk_same (goes_on_there h g (shape_back g h s)) w))

pub cycles_there : (g h : Grammar) → AreSameShape g h → (leasts : List ℕ) → AreCycles g leasts → AreCycles h leasts
cycles_there g h s leasts c = record {
  in_order = c.in_order;
  each = λ m i. least_there g h s m (c.each m i);
  all = λ m l. c.all m (least_there h g (shape_back g h s) m l);
}

pub proper_there : (g h : Grammar) → AreSameShape g h → IsProper g → IsProper h
proper_there g h s p =
    let b = shape_back g h s in
    record {
      reached = λ m c. subst (λ z. Derives h z m) (sym s.start) (derives_there g h s g.start m (p.reached m (composite_there h g b m c)));
      ranked = λ m c. let r = p.ranked m (composite_there h g b m c) in (r.0, rank_there g h s r.0 m r.1);
      no_unit_loop = λ x y q w. p.no_unit_loop x y (becomes_there h g b x y q) (walk_same (becomes_there h g b) w);
    }
