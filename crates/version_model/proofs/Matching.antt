-- Two grammars with pairs assigned, of which the second follows the first on related modules and steps: what is reached by these steps in the first is reached by the related ones in the second.
use Rattle.std.proofs.Common.{◌≡◌, ℕ, ◌<◌, IsTrue, List, [], ◌∷◌, get_or, Option, Some, None, sym, ap, ◌∙◌, subst, inl, inr}
use Rattle.wf_model.specs.Lists.{IsIn}
use Rattle.wf_model.specs.Grammar.{Grammar, Assignment, inputs_of, outputs_of, body_of}
use Rattle.wf_model.specs.Links.{Port, Link, body_links, Path, input, output}
use Rattle.wf_model.specs.Reach.{Step, target_of, module_along, Into, OutOf, Down, Up, Reaches}
use Rattle.wf_model.specs.Routes.{Agree}
use Rattle.wf_laws.proofs.Safe.{walk_same}

-- related modules have as many ports, and the pairs of the first are pairs of the second; related steps lead to related modules from the same position, and the links of the first body are links of the second
pub record Follows (g : Grammar) (d : Assignment) (h : Grammar) (e : Assignment) (R : ℕ → ℕ → Type 0) (By : Step → Step → Type 0) : Type 0 where
  pub target : (s t : Step) → By s t → R (target_of g s) (target_of h t)
  pub position : (s t : Step) → By s t → s.position ≡ t.position
  pub ins : (m n : ℕ) → R m n → inputs_of g m ≡ inputs_of h n
  pub outs : (m n : ℕ) → R m n → outputs_of g m ≡ outputs_of h n
  pub pairs : (m n : ℕ) → R m n → (i o : ℕ) → i < inputs_of g m → o < outputs_of g m → IsTrue (d m i o) → IsTrue (e n i o)
  pub links : (s t : Step) → By s t → (l : Link (Option ℕ)) → IsIn l (body_links g d s.production) → IsIn l (body_links h e t.production)

-- two lists of related steps
abbrev pub AreRelated : (Step → Step → Type 0) → List Step → List Step → Type 0
AreRelated By [] [] = Unit {0}
AreRelated By [] (t ∷ b) = ⊥
AreRelated By (s ∷ a) [] = ⊥
AreRelated By (s ∷ a) (t ∷ b) = By s t × AreRelated By a b

-- they are related the other way round too
pub related_back : (By : Step → Step → Type 0) (a b : List Step) → AreRelated By a b → AreRelated (λ t s. By s t) b a
related_back By [] [] x = tt
related_back By [] (t ∷ b) x = x
related_back By (s ∷ a) [] x = x
related_back By (s ∷ a) (t ∷ b) x = (x.0, related_back By a b x.1)

module _ (g : Grammar) (d : Assignment) (h : Grammar) (e : Assignment) (R : ℕ → ℕ → Type 0) (By : Step → Step → Type 0) (x : Follows g d h e R By) where
  -- related steps lead from related modules to related ones
  pub along_related : (a b : List Step) (m n : ℕ) → AreRelated By a b → R m n → R (module_along g m a) (module_along h n b)
  along_related [] [] m n y r = r
  along_related [] (t ∷ b) m n y r = absurd y
  along_related (s ∷ a) [] m n y r = absurd y
  along_related (s ∷ a) (t ∷ b) m n y r = along_related a b (target_of g s) (target_of h t) y.1 (x.target s t y.0)

  path_follows : (s t : Step) → By s t → (p q : Port (Option ℕ)) → Path (body_links g d s.production) p q → Path (body_links h e t.production) p q
  path_follows s t b p q w = walk_same (λ y z l. x.links s t b (record { from = y; to = z }) l) w

  into_follows : (s t : Step) → By s t → (i j : ℕ) → Into g d s i j → Into h e t i j
  into_follows s t b i j q = (
    subst (λ z. j < z) (x.ins _ _ (x.target s t b)) q.0,
    subst (λ z. Path (body_links h e t.production) (input None i) (input (Some z) j)) (x.position s t b) (path_follows s t b (input None i) (input (Some s.position) j) q.1),
  )

  out_follows : (s t : Step) → By s t → (j o : ℕ) → OutOf g d s j o → OutOf h e t j o
  out_follows s t b j o q = (
    subst (λ z. j < z) (x.outs _ _ (x.target s t b)) q.0,
    subst (λ z. Path (body_links h e t.production) (output (Some z) j) (output None o)) (x.position s t b) (path_follows s t b (output (Some s.position) j) (output None o) q.1),
  )

  down_follows : (b c : List Step) → AreRelated By b c → (m n : ℕ) → R m n → (i o : ℕ) → i < inputs_of g m → o < outputs_of g (module_along g m b) → Down g d m b i o → Down h e n c i o
  down_follows [] [] y m n r i o hi ho q = x.pairs m n r i o hi ho q
  down_follows [] (t ∷ c) y m n r i o hi ho q = absurd y
  down_follows (s ∷ b) [] y m n r i o hi ho q = absurd y
  down_follows (s ∷ b) (t ∷ c) y m n r i o hi ho q =
      (q.0, into_follows s t y.0 i q.0 q.1, down_follows b c y.1 (target_of g s) (target_of h t) (x.target s t y.0) q.0 o q.1.0 ho q.2)

  up_follows : (a c : List Step) → AreRelated By a c → (m n : ℕ) → R m n → (i o : ℕ) → i < inputs_of g (module_along g m a) → o < outputs_of g m → Up g d m a i o → Up h e n c i o
  up_follows [] [] y m n r i o hi ho q = x.pairs m n r i o hi ho q
  up_follows [] (t ∷ c) y m n r i o hi ho q = absurd y
  up_follows (s ∷ a) [] y m n r i o hi ho q = absurd y
  up_follows (s ∷ a) (t ∷ c) y m n r i o hi ho q =
      (q.0, out_follows s t y.0 q.0 o q.1, up_follows a c y.1 (target_of g s) (target_of h t) (x.target s t y.0) i q.0 hi q.1.0 q.2)

  pub reaches_follows : (a ra b rb : List Step) → AreRelated By a ra → AreRelated By b rb → Agree a b → (m n : ℕ) → R m n →
      (i o : ℕ) → i < inputs_of g (module_along g m a) → o < outputs_of g (module_along g m b) → Reaches g d m a b i o → Reaches h e n ra rb i o
  reaches_follows [] [] b rb ya yb agree m n r i o hi ho q = down_follows b rb yb m n r i o hi ho q
  reaches_follows [] (t ∷ ra) b rb ya yb agree m n r i o hi ho q = absurd ya
  reaches_follows (s ∷ a) [] b rb ya yb agree m n r i o hi ho q = absurd ya
  reaches_follows (s ∷ a) (t ∷ ra) [] [] ya yb agree m n r i o hi ho q = up_follows (s ∷ a) (t ∷ ra) ya m n r i o hi ho q
  reaches_follows (s ∷ a) (t ∷ ra) [] (v ∷ rb) ya yb agree m n r i o hi ho q = absurd yb
  reaches_follows (s ∷ a) (t ∷ ra) (w ∷ b) [] ya yb agree m n r i o hi ho q = absurd yb
  reaches_follows (s ∷ a) (t ∷ ra) (w ∷ b) (v ∷ rb) ya yb agree m n r i o hi ho q = go (reaches_follows a ra b rb ya.1 yb.1) q
    where
      rs : R (target_of g s) (target_of h t)
      rs = x.target s t ya.0

      rv : R (target_of g w) (target_of h v)
      rv = x.target w v yb.0

      same : s.position ≡ w.position → target_of g w ≡ target_of g s
      same p = ap (λ z. get_or (body_of g z) w.position 0) (sym agree.0) ∙ ap (λ z. get_or (body_of g s.production) z 0) (sym p)

      go : (Agree a b → (m n : ℕ) → R m n → (i o : ℕ) → i < inputs_of g (module_along g m a) → o < outputs_of g (module_along g m b) → Reaches g d m a b i o → Reaches h e n ra rb i o) →
          Reaches g d m (s ∷ a) (w ∷ b) i o → Reaches h e n (t ∷ ra) (v ∷ rb) i o
      go rest (inl c) =
          inl (sym (x.position s t ya.0) ∙ (c.0 ∙ x.position w v yb.0), rest (agree.1 c.0) (target_of g s) (target_of h t) rs i o hi (subst (λ z. o < outputs_of g (module_along g z b)) (same c.0) ho) c.1)
      go rest (inr c) =
          let k = c.1 in
          inr (
            (λ p. c.0 (x.position s t ya.0 ∙ (p ∙ sym (x.position w v yb.0)))),
            (
              k.0,
              k.1,
              subst (λ z. k.0 < z) (x.outs _ _ rs) k.2,
              subst (λ z. k.1 < z) (x.ins _ _ rv) k.3,
              up_follows a ra ya.1 (target_of g s) (target_of h t) rs i k.0 hi k.2 k.4,
              subst (λ z. Path (body_links h e t.production) (output (Some z) k.0) (input (Some v.position) k.1)) (x.position s t ya.0)
                  (subst (λ z. Path (body_links h e t.production) (output (Some s.position) k.0) (input (Some z) k.1)) (x.position w v yb.0)
                  (path_follows s t ya.0 (output (Some s.position) k.0) (input (Some w.position) k.1) k.5)),
              down_follows b rb yb.1 (target_of g w) (target_of h v) rv k.1 o k.3 ho k.6,
            ),
          )
