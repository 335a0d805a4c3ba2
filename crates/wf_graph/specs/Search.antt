-- Searches in graphs of numbered vertices.
use Rattle.std.specs.Prelude.{◌≡◌, ℕ, ◌<◌, List, [], ◌∷◌, length, Bool, true, get_or, false, ◌⊎◌, ◌++◌, ◌+◌, ◌*◌, ◌≤◌, count_by, not}
use Rattle.wf_model.specs.Lists.{IsIn, Walk}
use Rattle.wf_graph.specs.Graph.{HasStep}
use Rattle.wf_graph.specs.Routes.{place_of}

-- What is known in a search among so many vertices: marks stand for the queue, whose vertices are reached from its first; the first of them, up to a place, lead to vertices of the queue alone. Nothing is known where the queue is empty
pub record IsSearch (row : ℕ → List ℕ) (vertices : ℕ) (marks : List Bool) (queue : List ℕ) (done : ℕ) : Type 0 where
  pub count : length marks ≡ vertices
  pub within : done ≤ length queue
  pub marked : (v : ℕ) → get_or marks v false ≡ true → IsIn v queue
  pub queued : (v : ℕ) → IsIn v queue → get_or marks v false ≡ true
  pub reached : (v : ℕ) → IsIn v queue → Walk (HasStep row) (get_or queue 0 0) v
  pub closed : (k : ℕ) → k < done → (w : ℕ) → IsIn w (row (get_or queue k 0)) → IsIn w queue

-- a search among so many vertices that goes from none
pub record IsUnbegun (vertices : ℕ) (marks : List Bool) (queue : List ℕ) (done : ℕ) : Type 0 where
  pub count : length marks ≡ vertices
  pub none : (v : ℕ) → get_or marks v false ≡ true → ⊥
  pub empty : queue ≡ []
  pub not_done : done ≡ 0

-- a search among so many vertices that has met one alone
pub record IsBegun (vertices from : ℕ) (marks : List Bool) (queue : List ℕ) (done : ℕ) : Type 0 where
  pub count : length marks ≡ vertices
  pub one : (v : ℕ) → get_or marks v false ≡ true → v ≡ from
  pub marked : get_or marks from false ≡ true
  pub queued : queue ≡ from ∷ []
  pub not_done : done ≡ 0

-- vertices of a list were met: each is marked, and those that were not marked before are added to the queue, in the order of the list
pub record MetAll (marks : List Bool) (queue list : List ℕ) (marks' : List Bool) (queue' : List ℕ) : Type 0 where
  pub count : length marks' ≡ length marks
  pub more : List ℕ
  pub appended : queue' ≡ queue ++ more
  pub unmarked : (v : ℕ) → IsIn v more → get_or marks v false ≡ true → ⊥
  pub new_marks : (v : ℕ) → get_or marks' v false ≡ true → (get_or marks v false ≡ true) ⊎ IsIn v more
  pub old_marks : (v : ℕ) → get_or marks v false ≡ true → get_or marks' v false ≡ true
  pub marks_more : (v : ℕ) → IsIn v more → get_or marks' v false ≡ true
  pub from_list : (v : ℕ) → IsIn v more → IsIn v list
  pub each : (v : ℕ) → IsIn v list → get_or marks' v false ≡ true
  pub order : (i j : ℕ) → i < j → j < length more → place_of (get_or more i 0) list < place_of (get_or more j 0) list
  pub falls : 2 * count_by not marks' + length queue' ≤ 2 * count_by not marks + length queue

-- one vertex was met
abbrev pub Met : List Bool → List ℕ → ℕ → List Bool → List ℕ → Type 0
Met marks queue v marks' queue' = MetAll marks queue (v ∷ []) marks' queue'

-- of the vertices of a list all but the rest were met
pub record MetUpTo (list rest : List ℕ) (marks : List Bool) (queue : List ℕ) (marks' : List Bool) (queue' : List ℕ) : Type 0 where
  pub begin : List ℕ
  pub split : list ≡ begin ++ rest
  pub met : MetAll marks queue begin marks' queue'

-- the first vertices of a list were met
abbrev pub MetInPart : List ℕ → List Bool → List ℕ → List Bool → List ℕ → Type 0
MetInPart list marks queue marks' queue' = (rest : List ℕ) × MetUpTo list rest marks queue marks' queue'
