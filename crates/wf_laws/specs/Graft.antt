-- The law of grafting: an expansion of a root, and a run for each of its children, are a run.
use Rattle.std.specs.Prelude.{◌≡◌, ◌≢◌, ◌↔◌, ℕ, suc, ◌<◌, IsTrue, List, [], ◌∷◌, ◌++◌, map, length, get_or, flat_map, None}
use Rattle.wf_model.specs.Lists.{IsIn}
use Rattle.wf_model.specs.Grammar.{Grammar, Assignment, inputs_of, outputs_of, head_of, body_of}
use Rattle.wf_model.specs.WellFormed.{IsWellFormed}
use Rattle.wf_model.specs.View.{View, expands}
use Rattle.wf_model.specs.declared.event.Event.{Event}
use Rattle.wf_model.specs.declared.event.Event.TheVariants.{Start, Expand}
use Rattle.wf_model.specs.Run.{Instance, IsName, IsRun, IsFinished, expanded_by, made, names_of, root_of, sub_run}
use Rattle.wf_model.specs.Safe.{Joins, BodyJoins}
use Rattle.wf_laws.specs.Rename.{rename_event, IsRenaming}

-- the events behind the first one, which is the start event of a run
abbrev pub after_start : List Event → List Event
after_start [] = []
after_start (e ∷ events) = events

-- A start event names the root r, r is expanded by the production p to the roots of the given runs, and the further events of these runs follow, one run after another
abbrev pub graft : List ℕ → ℕ → List (List Event) → List Event
graft r p runs = Start r ∷ Expand r p (map root_of runs) ∷ flat_map after_start runs

-- the k-th of these runs
abbrev pub run_at : List (List Event) → ℕ → List Event
run_at runs k = get_or runs k []

-- the module of the k-th position of a body
abbrev pub place_module : Grammar → ℕ → ℕ → ℕ
place_module g p k = get_or (body_of g p) k 0

-- the names of the instances of the k-th run, which is one of the module of the k-th position
abbrev pub names_at : Grammar → ℕ → List (List Event) → ℕ → List (List ℕ)
names_at g p runs k = names_of (made g (place_module g p k) (run_at runs k))

-- for each position of the body there is a run from its module that has its start event
pub record AreRuns (g : Grammar) (p : ℕ) (runs : List (List Event)) : Type 0 where
  pub in_range : p < length g.productions
  pub one_each : length runs ≡ length (body_of g p)
  pub run : (k : ℕ) → k < length runs → IsRun g (place_module g p k) (run_at runs k)
  pub started : (k : ℕ) → k < length runs → run_at runs k ≢ []

-- no two of the runs have a name in common, and none has the name r
pub record AreApart (g : Grammar) (r : List ℕ) (p : ℕ) (runs : List (List Event)) : Type 0 where
  pub root : IsName r
  pub apart : (j k : ℕ) (n : List ℕ) → j < length runs → k < length runs → IsIn n (names_at g p runs j) → IsIn n (names_at g p runs k) → j ≡ k
  pub new : (k : ℕ) → k < length runs → IsIn r (names_at g p runs k) → ⊥

-- The graft is a run from the head, and the runs of its root's children are the given runs. Under a view that expands the head it is finished if they all are; and if they join the pairs assigned to their modules, it joins the pairs that the body joins
pub record IsGrafted (g : Grammar) (r : List ℕ) (p : ℕ) (runs : List (List Event)) : Type 0 where
  pub run : IsRun g (head_of g p) (graft r p runs)
  pub own_runs : (k : ℕ) → k < length runs → sub_run (root_of (run_at runs k)) (graft r p runs) ≡ run_at runs k
  pub finished : (u : View) → IsTrue (expands u (head_of g p)) → ((k : ℕ) → k < length runs → IsFinished g u (place_module g p k) (run_at runs k)) → IsFinished g u (head_of g p) (graft r p runs)
  pub joins : (u : View) (d : Assignment) → IsTrue (expands u (head_of g p)) →
      ((k : ℕ) → k < length runs → (i o : ℕ) → i < inputs_of g (place_module g p k) → o < outputs_of g (place_module g p k) → IsTrue (d (place_module g p k) i o) ↔ Joins g u (place_module g p k) (run_at runs k) i o) →
      (i o : ℕ) → BodyJoins g d p i o ↔ Joins g u (head_of g p) (graft r p runs) i o

-- runs whose names are apart are grafted under a new root
abbrev pub GraftLaw : Type 0
GraftLaw = (g : Grammar) (r : List ℕ) (p : ℕ) (runs : List (List Event)) → IsWellFormed g → AreRuns g p runs → AreApart g r p runs → IsGrafted g r p runs

-- an instance of a run that is not expanded, and a run from its module whose root has its name and whose other names are new to the first
pub record CanGraftAt (g : Grammar) (m : ℕ) (events : List Event) (i : Instance) (own : List Event) : Type 0 where
  pub stands : IsIn i (made g m events)
  pub unexpanded : expanded_by events i.name ≡ None
  pub run : IsRun g i.module_no own
  pub started : own ≢ []
  pub root : root_of own ≡ i.name
  pub new : (n : List ℕ) → IsIn n (names_of (made g i.module_no own)) → IsIn n (names_of (made g m events)) → n ≡ i.name

-- the run goes on with the further events of the other, which then is the run of the instance
abbrev pub GraftAtLaw : Type 0
GraftAtLaw =
    (g : Grammar) (m : ℕ) (events : List Event) (i : Instance) (own : List Event) → IsRun g m events → CanGraftAt g m events i own →
    record {
      run : IsRun g m (events ++ after_start own);
      own_run : sub_run i.name (events ++ after_start own) ≡ own;
    }

-- the runs from the k-th on, each with names of its own
abbrev pub renamed_from : (ℕ → List ℕ → List ℕ) → ℕ → List (List Event) → List (List Event)
renamed_from f k [] = []
renamed_from f k (e ∷ runs) = map (rename_event (f k)) e ∷ renamed_from f (suc k) runs

-- a root and a renaming for each place
pub record FreshNames : Type 0 where
  pub root : List ℕ
  pub name : ℕ → List ℕ → List ℕ

-- there are names under which any runs are apart, whatever names they had
abbrev pub FreshGraftLaw : Type 0
FreshGraftLaw =
    (fresh : FreshNames) × ((k : ℕ) → IsRenaming (fresh.name k)) ×
    ((g : Grammar) (p : ℕ) (runs : List (List Event)) → IsWellFormed g → AreRuns g p runs → AreRuns g p (renamed_from fresh.name 0 runs) × AreApart g fresh.root p (renamed_from fresh.name 0 runs))
