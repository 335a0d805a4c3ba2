-- The law of renaming: what a run is and what it links does not hang on the names of its instances.
use Rattle.std.specs.Prelude.{◌≡◌, ◌↔◌, ℕ, List, map}
use Rattle.wf_model.specs.Grammar.{Grammar, Assignment}
use Rattle.wf_model.specs.WellFormed.{IsWellFormed}
use Rattle.wf_model.specs.View.{View}
use Rattle.wf_model.specs.declared.event.Event.{Event}
use Rattle.wf_model.specs.declared.event.Event.TheVariants.{Start, Expand}
use Rattle.wf_model.specs.Run.{Instance, IsName, IsRun, made, seen_in, IsPending}
use Rattle.wf_model.specs.Links.{links_with, move_link}

-- the event with other names of instances
abbrev pub rename_event : (List ℕ → List ℕ) → Event → Event
rename_event f (Start r) = Start (f r)
rename_event f (Expand i p names) = Expand (f i) p (map f names)

-- the instance with another name
abbrev pub rename_instance : (List ℕ → List ℕ) → Instance → Instance
rename_instance f i = record { name = f i.name; module_no = i.module_no }

-- different names stay different, and names stay names
pub record IsRenaming (f : List ℕ → List ℕ) : Type 0 where
  pub differ : (a b : List ℕ) → f a ≡ f b → a ≡ b
  pub names : (n : List ℕ) → IsName n → IsName (f n)

-- the renamed events are a run, with the renamed instances, the renamed seen instances and the renamed links, each in the same order, and an instance is pending where it was
pub record IsRenamed (f : List ℕ → List ℕ) (g : Grammar) (u : View) (m : ℕ) (events : List Event) : Type 0 where
  pub run : IsRun g m (map (rename_event f) events)
  pub instances : made g m (map (rename_event f) events) ≡ map (rename_instance f) (made g m events)
  pub seen : seen_in g u m (map (rename_event f) events) ≡ map (rename_instance f) (seen_in g u m events)
  pub links : (leaf : Assignment) → links_with g u leaf m (map (rename_event f) events) ≡ map (move_link f) (links_with g u leaf m events)
  pub pending : (i : Instance) → IsPending g u m events i ↔ IsPending g u m (map (rename_event f) events) (rename_instance f i)

-- a renaming makes of a run a run that is the same but for the names
abbrev pub RenameLaw : Type 0
RenameLaw =
    (f : List ℕ → List ℕ) → IsRenaming f → (g : Grammar) (u : View) (m : ℕ) (events : List Event) → IsWellFormed g → IsRun g m events → IsRenamed f g u m events
