-- Where the vertices of a search were met, and the routes that this gives.
use Rattle.std.specs.Prelude.{◌≡◌, ℕ, ◌<◌, ◌≤◌, ◌++◌, Bool, true, false, List, [], ◌∷◌, length, get_or}
use Rattle.wf_model.specs.Lists.{IsIn}
use Rattle.wf_graph.specs.Routes.{place_of}

-- The vertices on the way to the vertex at a place of the queue. Each but the first was met among those to which an earlier one leads, at the place that `came` has for it
pub data Traced (queue came : List ℕ) : ℕ → List ℕ → Type 0 where
  begun : {j : ℕ} {ws : List ℕ} → j ≡ 0 → ws ≡ [] → Traced queue came j ws
  further : {j : ℕ} {ws vs : List ℕ} → 0 < j → Traced queue came (get_or came j 0) vs → ws ≡ vs ++ get_or queue j 0 ∷ [] → Traced queue came j ws

-- What is known of the places at which the vertices of a queue were met, where so many of them have been gone on from. Those met from one vertex stand in the order of its list
pub record IsTrail (row : ℕ → List ℕ) (from : ℕ) (queue came : List ℕ) (done : ℕ) : Type 0 where
  pub each : length came ≡ length queue
  pub first : get_or queue 0 0 ≡ from
  pub back : (j : ℕ) → 0 < j → j < length queue → get_or came j 0 < j
  pub gone : (j : ℕ) → 0 < j → j < length queue → get_or came j 0 < done
  pub led : (j : ℕ) → 0 < j → j < length queue → IsIn (get_or queue j 0) (row (get_or queue (get_or came j 0) 0))
  pub rising : (i j : ℕ) → 0 < i → i < j → j < length queue → get_or came i 0 ≤ get_or came j 0
  pub order : (i j : ℕ) → 0 < i → i < j → j < length queue → get_or came i 0 ≡ get_or came j 0 →
      place_of (get_or queue i 0) (row (get_or queue (get_or came j 0) 0)) < place_of (get_or queue j 0) (row (get_or queue (get_or came j 0) 0))
  pub closed : (k : ℕ) → k < done → (w : ℕ) → IsIn w (row (get_or queue k 0)) →
      (j : ℕ) × (0 < j) × (j < length queue) × (get_or queue j 0 ≡ w) × (get_or came j 0 ≤ k)

-- What is known of a search by steps from a vertex, among so many: marks stand for what was met by a step
pub record IsTracked (row : ℕ → List ℕ) (count from : ℕ) (marks : List Bool) (queue came : List ℕ) (done : ℕ) : Type 0 where
  pub count_is : length marks ≡ count
  pub some : 0 < length queue
  pub within : done ≤ length queue
  pub trail : IsTrail row from queue came done
  pub marked : (v : ℕ) → get_or marks v false ≡ true → (j : ℕ) × (0 < j) × (j < length queue) × (get_or queue j 0 ≡ v)
  pub queued : (j : ℕ) → 0 < j → j < length queue → get_or marks (get_or queue j 0) false ≡ true

-- the first place behind the beginning at which a vertex stands
pub record IsFirstMet (queue : List ℕ) (v j : ℕ) : Type 0 where
  pub behind : 0 < j
  pub there : j < length queue
  pub is : get_or queue j 0 ≡ v
  pub first : (i : ℕ) → 0 < i → i < j → get_or queue i 0 ≡ v → ⊥
