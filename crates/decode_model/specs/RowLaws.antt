-- Laws of row products: what the last row tells.
use Rattle.std.specs.Prelude.{◌≡◌, ℕ, ◌+◌, ◌<◌, ◌↔◌, IsTrue, List, [], ◌∷◌, ◌++◌, get_or}
use Rattle.bool_mat.specs.Matrix.{Matrix, has, Then, IsUnion}
use Rattle.wf_model.specs.Grammar.{Grammar, Assignment, inputs_of, outputs_of}
use Rattle.wf_model.specs.View.{View, IsSeenModule}
use Rattle.wf_model.specs.Reach.{Step, target_of, module_along}
use Rattle.wf_laws.specs.Splits.{IntoAll, OutAll}
use Rattle.decode_model.specs.Ways.{Pairs, Crosses}
use Rattle.decode_model.specs.Rows.{Through, Along, Progress}
use Rattle.wf_model.specs.OpenRoutes.{IsOpenStep}
use Rattle.decode_model.specs.Matrices.{ViewMatrices, AreMatrices}
use Rattle.decode_model.specs.Legs.{Leg, way_steps, way_down, way_up, AreLegs, crossing}

-- row products tell what lies in a list of matrices
abbrev pub ThroughLaw : Type 0
ThroughLaw = (ms : List Matrix) (row last : ℕ) → Through ms row last → (k : ℕ) → IsTrue (has last k) ↔ ((j : ℕ) × IsTrue (has row j) × Along ms j k)

-- a loop begins with no matrix, and goes on by one row product that is counted
pub record ProgressLaw : Type 0 where
  pub none : (first start : ℕ) → Progress [] first first start start
  pub more : (done : List Matrix) (first row start now : ℕ) (m : Matrix) (next later : ℕ) → Progress done first row start now → IsUnion row m next → later ≡ now + 1 → Progress (done ++ m ∷ []) first next start later

-- the matrices on the way down, and those on the way up, have the relations of the steps
abbrev pub WaysLaw : Type 0
WaysLaw =
    (g : Grammar) (u : View) (d : Assignment) (v : ViewMatrices) → AreMatrices g u d v → (m : ℕ) (legs : List Leg) → AreLegs g u m legs → (i j : ℕ) →
    record {
      down : Along (way_down v legs) i j ↔ IntoAll g d (way_steps legs) i j;
      up : Along (way_up v legs) i j ↔ OutAll g d (way_steps legs) i j;
    }

-- across a body: bit o of the last row tells whether output o of the one end is reached from input i of the other
abbrev pub RowsLaw : Type 0
RowsLaw =
    (g : Grammar) (u : View) (d : Assignment) (v : ViewMatrices) → AreMatrices g u d v →
    (s t : Step) (a b : List Leg) → IsOpenStep g u s → IsOpenStep g u t → s.production ≡ t.production → AreLegs g u (target_of g s) a → AreLegs g u (target_of g t) b →
    (i o last : ℕ) → i < inputs_of g (module_along g (target_of g s) (way_steps a)) → o < outputs_of g (module_along g (target_of g t) (way_steps b)) →
    Through (crossing g v s a t b) (get_or (v.full (module_along g (target_of g s) (way_steps a))).rows i 0) last →
    IsTrue (has last o) ↔ Crosses g d s (way_steps a) t (way_steps b) i o

-- down alone, from the row of input i alone
abbrev pub DownRowsLaw : Type 0
DownRowsLaw =
    (g : Grammar) (u : View) (d : Assignment) (v : ViewMatrices) → AreMatrices g u d v → (m : ℕ) → IsSeenModule g u m → (b : List Leg) → AreLegs g u m b →
    (i o first last : ℕ) → i < inputs_of g m → o < outputs_of g (module_along g m (way_steps b)) → ((j : ℕ) → IsTrue (has first j) ↔ (j ≡ i)) →
    Through (way_down v b ++ v.full (module_along g m (way_steps b)) ∷ []) first last →
    IsTrue (has last o) ↔ Then (IntoAll g d (way_steps b)) (Pairs d (module_along g m (way_steps b))) i o

-- up alone, from the pairs of input i of the last module
abbrev pub UpRowsLaw : Type 0
UpRowsLaw =
    (g : Grammar) (u : View) (d : Assignment) (v : ViewMatrices) → AreMatrices g u d v → (m : ℕ) → IsSeenModule g u m → (a : List Leg) → AreLegs g u m a →
    (i o last : ℕ) → i < inputs_of g (module_along g m (way_steps a)) → o < outputs_of g m →
    Through (way_up v a) (get_or (v.full (module_along g m (way_steps a))).rows i 0) last →
    IsTrue (has last o) ↔ Then (Pairs d (module_along g m (way_steps a))) (OutAll g d (way_steps a)) i o
