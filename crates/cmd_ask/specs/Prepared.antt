-- What queries on a run are answered from.
use Rattle.std.specs.Prelude.{◌≡◌, ◌⊎◌, ◌<◌, ℕ, false, List, [], Option, Some, None, length, get_or}
use Rattle.wf_model.specs.Grammar.{Grammar, Assignment}
use Rattle.wf_model.specs.WellFormed.{IsWellFormed}
use Rattle.wf_model.specs.Proper.{IsProper}
use Rattle.wf_model.specs.View.{View}
use Rattle.wf_model.specs.Safe.{IsInduced}
use Rattle.wf_model.specs.Finishing.{ExpandsComposites}
use Rattle.wf_model.specs.Run.{opens, seen_in}
use Rattle.wf_model.specs.Links.{Port, Link, Path, links_with}
use Rattle.wf_flat.specs.declared.graph.Link.{Link as LinkHeld}
use Rattle.wf_flat.specs.Table.{Table, IsTableOf, events_of, names_in}
use Rattle.wf_flat.specs.Graph.{named_links}
use Rattle.wf_flat.specs.Flat.{FlatSeen, AreWithin, IsGraphOf}
use Rattle.wf_safe.specs.SafeViews.{SafeViewValue}
use Rattle.wf_query.specs.declared.answers.Answer.{Answer}
use Rattle.wf_query.specs.declared.answers.Answer.TheVariants.{Yes, No}

-- a run, with its flat graph, under a view
pub record PreparedSeen : Type 0 where
  pub viewed : SafeViewValue
  pub run : Table
  pub flat : FlatSeen

-- a run of a grammar, with the graph of its links under a view, in which pending instances have the pairs that every production induces, and flags that tell which of its instances are open
pub record IsPrepared (g : Grammar) (u : View) (t : Table) (flat : FlatSeen) : Type 0 where
  pub formed : IsWellFormed g
  pub proper : IsProper g
  pub composites : ExpandsComposites g u
  pub run : IsTableOf g t
  pub full : Assignment
  pub induced : IsInduced g u full
  pub held : List LinkHeld
  pub links : named_links (names_in t.instances) held ≡ links_with g u full g.start (events_of t)
  pub within : AreWithin (length t.instances) held
  pub graph : IsGraphOf held flat
  pub opens : (k : ℕ) → k < length t.instances → get_or flat.opens k false ≡ opens u (seen_in g u g.start (events_of t)) (get_or (names_in t.instances) k [])

-- a path of links between ports that may not be there
abbrev pub PathIn : List (Link (List ℕ)) → Option (Port (List ℕ)) → Option (Port (List ℕ)) → Type 0
PathIn ls None y = ⊥
PathIn ls (Some x) None = ⊥
PathIn ls (Some x) (Some y) = Path ls x y

-- an answer tells whether a path of links leads from a port to a port, either of which may not be there
abbrev pub TellsPath : List (Link (List ℕ)) → Option (Port (List ℕ)) → Option (Port (List ℕ)) → Answer → Type 0
TellsPath ls x y a = ((a ≡ Yes) × PathIn ls x y) ⊎ ((a ≡ No) × ¬ PathIn ls x y)
