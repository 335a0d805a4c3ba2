-- The matrices of the steps of one cycle of a table of cycles.
use Rattle.std.specs.Prelude.{◌≡◌, ◌≢◌, ℕ, ◌<◌, List, length, get_or, Option, None}
use Rattle.bool_mat.specs.Matrix.{Matrix}
use Rattle.wf_model.specs.Grammar.{Grammar, Assignment}
use Rattle.wf_model.specs.View.{View, expands}
use Rattle.label_model.specs.Continuing.{continuing, after}
use Rattle.wf_recur.specs.Cycles.{CyclesSeen, round_at, least_of}
use Rattle.wf_vlabel.specs.declared.rounds.way.Way.{Way}
use Rattle.wf_vlabel.specs.declared.rounds.way.Way.TheVariants.{Down, Up}
use Rattle.wf_vlabel.specs.ChainMatrices.{IsChain, HasSteps, AreFirsts, AreLasts, AreParts}
use Rattle.wf_vlabel.specs.Cuts.{IsCut}
use Rattle.wf_vlabel.specs.Groups.{GroupsSeen}
use Rattle.wf_vlabel.specs.RoundSteps.{steps_on, HasRounds, IsSquareGroup}

-- the module at the first place of a cycle
abbrev pub first_on : CyclesSeen → ℕ → ℕ
first_on cs c = least_of (round_at cs c)

-- how many modules are on it
abbrev pub size_of : CyclesSeen → ℕ → ℕ
size_of cs c = length (round_at cs c)

-- its steps have matrices, by some pairs
abbrev pub HaveMatrices : Grammar → CyclesSeen → GroupsSeen → ℕ → Type 0
HaveMatrices g cs t c = (d : Assignment) × HasSteps g d t (first_on cs c)

-- what is so of all pairs by which its steps have matrices
abbrev pub ByMatrices : Grammar → CyclesSeen → GroupsSeen → ℕ → (Assignment → Type 0) → Type 0
ByMatrices g cs t c P = (d : Assignment) → HasSteps g d t (first_on cs c) → P d

-- this is the matrix of the step from a place of it on
abbrev pub HasStepFrom : Way → Grammar → CyclesSeen → GroupsSeen → ℕ → ℕ → Matrix → Type 0
HasStepFrom way g cs t c place m = ByMatrices g cs t c (λ d. IsChain way g d (after g place (first_on cs c)) 1 m)

-- from this number on a pool has those of its first steps
abbrev pub HasFirsts : Way → Grammar → CyclesSeen → GroupsSeen → ℕ → List Matrix → ℕ → Type 0
HasFirsts way g cs t c pool n = ByMatrices g cs t c (λ d. AreFirsts way g d (first_on cs c) (size_of cs c) pool n)

-- from this number on it has those of its last steps
abbrev pub HasLasts : Way → Grammar → CyclesSeen → GroupsSeen → ℕ → List Matrix → ℕ → Type 0
HasLasts way g cs t c pool n = ByMatrices g cs t c (λ d. AreLasts way g d (first_on cs c) (size_of cs c) (size_of cs c) pool n)

-- it begins with those of its first steps, and then has those of its last steps
abbrev pub HasParts : Way → Grammar → CyclesSeen → GroupsSeen → ℕ → List Matrix → Type 0
HasParts way g cs t c pool = ByMatrices g cs t c (λ d. AreParts way g d (first_on cs c) (size_of cs c) pool)

-- what a pool has of the matrices of first and of last steps, another pool has too
abbrev pub KeepsParts : Way → ℕ → List Matrix → List Matrix → Type 0
KeepsParts way size old new = (g : Grammar) (d : Assignment) (first : ℕ) → AreParts way g d first size old → AreParts way g d first size new

-- this is the matrix of one round from a place of a cycle of so many modules, whatever cycle it is whose parts the pool has
abbrev pub IsRoundOf : Way → ℕ → ℕ → List Matrix → Matrix → Type 0
IsRoundOf way size place pool m =
    (g : Grammar) (d : Assignment) (first : ℕ) → after g size first ≡ first → AreParts way g d first size pool → IsChain way g d (after g place first) size m

-- two pools have the parts of one cycle of so many modules, down and up
abbrev pub HaveBothParts : ℕ → List Matrix → List Matrix → Type 0
HaveBothParts size down up =
    (g : Grammar) × (d : Assignment) × (first : ℕ) × (after g size first ≡ first) × AreParts Down g d first size down × AreParts Up g d first size up

-- from this number on a pool has the matrices of many rounds from a place of a cycle of so many modules, whatever cycle it is whose parts the two pools have
abbrev pub AreSquaresOf : ℕ → ℕ → List Matrix → List Matrix → List Matrix → ℕ → Type 0
AreSquaresOf size place down up squares n =
    (g : Grammar) (d : Assignment) (first : ℕ) → after g size first ≡ first → AreParts Down g d first size down → AreParts Up g d first size up →
    IsSquareGroup g d (after g place first) (steps_on g size (after g place first)) squares n

-- a module that had the matrices of many rounds has them still
abbrev pub KeepsRounds : Grammar → CyclesSeen → GroupsSeen → ℕ → List Matrix → List (Option ℕ) → List Matrix → List (Option ℕ) → Type 0
KeepsRounds g cs t c old_pool old_first pool first = ByMatrices g cs t c (λ d. (m : ℕ) → HasRounds g d m old_pool old_first → HasRounds g d m pool first)

-- each module of a cycle has them
abbrev pub HaveRounds : Grammar → CyclesSeen → GroupsSeen → ℕ → List Matrix → List (Option ℕ) → Type 0
HaveRounds g cs t c pool first = ByMatrices g cs t c (λ d. (j : ℕ) → j < size_of cs c → HasRounds g d (get_or (round_at cs c) j 0) pool first)

-- of a module that is told right where chains leave what a view expands, this is still told right
abbrev pub KeepsCuts : Grammar → View → List (Option ℕ) → List (Option ℕ) → Type 0
KeepsCuts g u old new = (m : ℕ) → IsCut g (expands u) m (get_or old m None) → IsCut g (expands u) m (get_or new m None)

-- it is told right of each module of a cycle
abbrev pub AreCutsOn : Grammar → View → List ℕ → List (Option ℕ) → Type 0
AreCutsOn g u round cuts = (j : ℕ) → j < length round → IsCut g (expands u) (get_or round j 0) (get_or cuts (get_or round j 0) None)

-- it is told right of each module on a cycle
abbrev pub AreCutsOf : Grammar → View → List (Option ℕ) → Type 0
AreCutsOf g u cuts = (m : ℕ) → m < length g.modules → continuing g m ≢ None → IsCut g (expands u) m (get_or cuts m None)
