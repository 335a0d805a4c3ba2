-- Row products of a decision, and the bit that they end in.
use Rattle.std.specs.Prelude.{◌≡◌, ◌↔◌, ℕ, ◌+◌, ◌≤◌, Bool, false, List, [], ◌∷◌, ◌++◌, IsTrue, length, get_or}
use Rattle.bool_mat.specs.Matrix.{Matrix, has}
use Rattle.wf_model.specs.View.{View, IsSeenModule}
use Rattle.wf_model.specs.Reach.{Step, target_of, module_along}
use Rattle.decode_model.specs.Rows.{Through}
use Rattle.wf_model.specs.OpenRoutes.{IsOpenStep}
use Rattle.decode_model.specs.Legs.{AreLegs, crossing, way_down}
use Rattle.wf_vlabel.specs.Seen.{ViewLabelSeen, IsLabelOfView, matrices_of}
use Rattle.wf_decode.specs.declared.leg.Leg.{Leg as LegHeld}
use Rattle.wf_decode.specs.HeldLegs.{AreHeld, held_steps, legs_of}

-- the first row comes to this row by the matrices, one after another, and no more products were counted than there are matrices
pub record IsRowAfter (done : List Matrix) (first row start now : ℕ) : Type 0 where
  pub through : Through done first row
  pub few : now ≤ start + length done

-- the answer is bit o of the last row to which the first comes
pub record IsBit (done : List Matrix) (first start now o : ℕ) (answer : Bool) : Type 0 where
  pub last : ℕ
  pub after : IsRowAfter done first last start now
  pub bit : answer ≡ has last o

-- legs that can be gone from the seen module k to the module m
pub record IsWay (l : ViewLabelSeen) (u : View) (k : ℕ) (legs : List LegHeld) (m : ℕ) : Type 0 where
  pub held : AreHeld l k false legs
  pub gone : AreLegs l.grammar u k (legs_of l legs)
  pub seen : IsSeenModule l.grammar u k
  pub leads : module_along l.grammar k (held_steps l legs) ≡ m

-- two open steps into one body, a way on from the first to the module m, and a way on from the second to the module n
pub record AreWaysApart (l : ViewLabelSeen) (u : View) (s t : Step) (a b : List LegHeld) (m n : ℕ) : Type 0 where
  pub first_open : IsOpenStep l.grammar u s
  pub second_open : IsOpenStep l.grammar u t
  pub body : s.production ≡ t.production
  pub first : IsWay l u (target_of l.grammar s) a m
  pub second : IsWay l u (target_of l.grammar t) b n

-- so under a view that the label of a view is of
abbrev pub HaveWaysApart : ViewLabelSeen → Step → Step → List LegHeld → List LegHeld → ℕ → ℕ → Type 0
HaveWaysApart l s t a b m n = (u : View) × IsLabelOfView l u × AreWaysApart l u s t a b m n

-- the outputs of the module m that every expansion of it joins to its input i, as a row
abbrev pub full_row_of : ViewLabelSeen → ℕ → ℕ → ℕ
full_row_of l m i = get_or ((matrices_of l).full m).rows i 0

-- the matrices of the way from one address across a body to another
abbrev pub matrices_across : ViewLabelSeen → Step → List LegHeld → Step → List LegHeld → List Matrix
matrices_across l s a t b = crossing l.grammar (matrices_of l) s (legs_of l a) t (legs_of l b)

-- the matrices of the way down to the module m, and of its pairs
abbrev pub matrices_below : ViewLabelSeen → List LegHeld → ℕ → List Matrix
matrices_below l legs m = way_down (matrices_of l) (legs_of l legs) ++ (matrices_of l).full m ∷ []

-- a row in which the bit of one number alone is set
abbrev pub IsSingle : ℕ → ℕ → Type 0
IsSingle k row = (j : ℕ) → IsTrue (has row j) ↔ (j ≡ k)

-- the bit of output o after the products across a body, from input i of the module m
abbrev pub IsBitAcross : ViewLabelSeen → Step → List LegHeld → Step → List LegHeld → ℕ → ℕ → ℕ → ℕ → ℕ → Bool → Type 0
IsBitAcross l s a t b m i start now o answer = IsBit (matrices_across l s a t b) (full_row_of l m i) start now o answer
