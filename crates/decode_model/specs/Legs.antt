-- A way in legs, and the matrices of its legs.
use Rattle.std.specs.Prelude.{◌≡◌, ℕ, zero, suc, ◌/◌, ◌%◌, ◌^◌, ◌<◌, ◌==◌, cond, List, [], ◌∷◌, ◌++◌, map, length, take, bytes_eq}
use Rattle.bool_mat.specs.Matrix.{Matrix, has}
use Rattle.wf_model.specs.Grammar.{Grammar, head_of}
use Rattle.wf_model.specs.View.{View}
use Rattle.wf_model.specs.Reach.{Step, target_of, module_along}
use Rattle.decode_model.specs.Rounds.{times}
use Rattle.wf_model.specs.OpenRoutes.{IsOpenStep, IsOpenRoute}
use Rattle.decode_model.specs.Matrices.{IsOnceRound, ViewMatrices}

-- a leg of a way: one step; or so many continuing steps from a module, the steps once round being given; or continuing steps one by one
pub data Leg : Type 0 where
  One : (step : Step) → Leg
  Chain : (from : ℕ) (round : List Step) (count : ℕ) → Leg
  Part : (from : ℕ) (steps : List Step) → Leg

-- the steps of a leg: those of a chain are whole rounds, and then a rest
abbrev pub leg_steps : Leg → List Step
leg_steps (One s) = s ∷ []
leg_steps (Chain m round c) = times (c / length round) round ++ take (c % length round) round
leg_steps (Part m steps) = steps

-- the steps of legs, one after another
abbrev pub way_steps : List Leg → List Step
way_steps [] = []
way_steps (leg ∷ legs) = leg_steps leg ++ way_steps legs

-- the squares for the n lowest binary digits of q
abbrev pub squares : (ℕ → Matrix) → ℕ → ℕ → List Matrix
squares square q zero = []
squares square q (suc n) = squares square q n ++ cond (has q n) (square n ∷ []) []

-- the first of the n numbers from k on at which a square has the rows of the next one, so that it is its own square; k + n where there is none
unfoldable pub still_from : (ℕ → Matrix) → ℕ → ℕ → ℕ
still_from square k zero = k
still_from square k (suc n) = cond (bytes_eq (square k).rows (square (suc k)).rows) k (still_from square (suc k) n)

-- the number of the first of 24 squares that is its own square, and of the last of them where none is
abbrev pub still : (ℕ → Matrix) → ℕ
still square = still_from square 0 23

-- the squares for the binary digits of q below that number, and then its square once, where a higher digit is 1
abbrev pub squares_to : (ℕ → Matrix) → ℕ → List Matrix
squares_to square q = squares square q (still square) ++ cond (q / 2 ^ still square == 0) [] (square (still square) ∷ [])

-- the matrices of steps on the way up: the last step comes first
abbrev pub each_up : ViewMatrices → List Step → List Matrix
each_up v [] = []
each_up v (s ∷ steps) = each_up v steps ++ v.out_of s ∷ []

-- the matrices of a leg on the way down: of a chain the squares come first
abbrev pub leg_down : ViewMatrices → Leg → List Matrix
leg_down v (One s) = v.into s ∷ []
leg_down v (Chain m round c) = squares_to (v.square_in m) (c / length round) ++ map v.into (take (c % length round) round)
leg_down v (Part m steps) = map v.into steps

-- the matrices of a leg on the way up: of a chain the rest comes first
abbrev pub leg_up : ViewMatrices → Leg → List Matrix
leg_up v (One s) = v.out_of s ∷ []
leg_up v (Chain m round c) = each_up v (take (c % length round) round) ++ squares_to (v.square_out m) (c / length round)
leg_up v (Part m steps) = each_up v steps

-- the matrices of legs on the way down: the first leg comes first
abbrev pub way_down : ViewMatrices → List Leg → List Matrix
way_down v [] = []
way_down v (leg ∷ legs) = leg_down v leg ++ way_down v legs

-- the matrices of legs on the way up: the last leg comes first
abbrev pub way_up : ViewMatrices → List Leg → List Matrix
way_up v [] = []
way_up v (leg ∷ legs) = way_up v legs ++ leg_up v leg

-- a leg that can be gone from the module m: one open step; fewer than 2^24 steps of a cycle that is expanded whole; or open steps
abbrev pub IsLeg : Grammar → View → ℕ → Leg → Type 0
IsLeg g u m (One s) = IsOpenStep g u s × (head_of g s.production ≡ m)
IsLeg g u m (Chain from round c) = (from ≡ m) × IsOnceRound g u m round × (c < 2 ^ 24)
IsLeg g u m (Part from steps) = (from ≡ m) × IsOpenRoute g u m steps

-- legs that can be gone from the module m, one after another
abbrev pub AreLegs : Grammar → View → ℕ → List Leg → Type 0
AreLegs g u m [] = Unit {0}
AreLegs g u m (leg ∷ legs) = IsLeg g u m leg × AreLegs g u (module_along g m (leg_steps leg)) legs

-- the matrices of a crossing: up, across, down, and the pairs of the last module
abbrev pub crossing : Grammar → ViewMatrices → Step → List Leg → Step → List Leg → List Matrix
crossing g v s a t b = way_up v a ++ (v.between s t.position ∷ (way_down v b ++ v.full (module_along g (target_of g t) (way_steps b)) ∷ []))
