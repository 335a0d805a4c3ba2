-- The law of the decision: from row products to reachability between addresses.
use Rattle.std.specs.Prelude.{◌≡◌, ◌≢◌, ℕ, ◌<◌, ◌↔◌, IsTrue, List, [], ◌∷◌, ◌++◌, get_or}
use Rattle.bool_mat.specs.Matrix.{has}
use Rattle.wf_model.specs.Grammar.{Grammar, Assignment, inputs_of, outputs_of}
use Rattle.wf_model.specs.View.{View, IsSeenModule}
use Rattle.wf_model.specs.Reach.{Step, target_of, module_along, Reaches}
use Rattle.decode_model.specs.Rows.{Through}
use Rattle.wf_model.specs.OpenRoutes.{IsOpenStep}
use Rattle.decode_model.specs.Matrices.{ViewMatrices, AreMatrices}
use Rattle.decode_model.specs.Legs.{Leg, way_steps, way_down, way_up, AreLegs, crossing}

-- Two addresses from m begin with p. Where they part by steps to different positions of one body, bit o of the last row tells whether output o of the second is reached from input i of the first; so it does where the first ends at p, and where the second does
pub record IsDecided (g : Grammar) (u : View) (d : Assignment) (v : ViewMatrices) (m : ℕ) (p : List Step) : Type 0 where
  pub across :
      (s t : Step) (a b : List Leg) → IsOpenStep g u s → IsOpenStep g u t → s.production ≡ t.production → s.position ≢ t.position → AreLegs g u (target_of g s) a → AreLegs g u (target_of g t) b →
      (i o last : ℕ) → i < inputs_of g (module_along g (target_of g s) (way_steps a)) → o < outputs_of g (module_along g (target_of g t) (way_steps b)) →
      Through (crossing g v s a t b) (get_or (v.full (module_along g (target_of g s) (way_steps a))).rows i 0) last →
      IsTrue (has last o) ↔ Reaches g d m (p ++ s ∷ way_steps a) (p ++ t ∷ way_steps b) i o
  pub down :
      IsSeenModule g u (module_along g m p) → (b : List Leg) → AreLegs g u (module_along g m p) b →
      (i o first last : ℕ) → i < inputs_of g (module_along g m p) → o < outputs_of g (module_along g (module_along g m p) (way_steps b)) → ((j : ℕ) → IsTrue (has first j) ↔ (j ≡ i)) →
      Through (way_down v b ++ v.full (module_along g (module_along g m p) (way_steps b)) ∷ []) first last →
      IsTrue (has last o) ↔ Reaches g d m p (p ++ way_steps b) i o
  pub up :
      IsSeenModule g u (module_along g m p) → (a : List Leg) → AreLegs g u (module_along g m p) a →
      (i o last : ℕ) → i < inputs_of g (module_along g (module_along g m p) (way_steps a)) → o < outputs_of g (module_along g m p) →
      Through (way_up v a) (get_or (v.full (module_along g (module_along g m p) (way_steps a))).rows i 0) last →
      IsTrue (has last o) ↔ Reaches g d m (p ++ way_steps a) p i o

-- so it is with the matrices of the view, whatever the addresses have in common
abbrev pub DecidedLaw : Type 0
DecidedLaw = (g : Grammar) (u : View) (d : Assignment) (v : ViewMatrices) → AreMatrices g u d v → (m : ℕ) (p : List Step) → IsDecided g u d v m p
