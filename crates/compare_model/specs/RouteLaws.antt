-- Laws of the first of the shortest routes to a module.
use Rattle.std.specs.Prelude.{◌≡◌, ℕ, ◌<◌, List, [], length}
use Rattle.wf_model.specs.Grammar.{Grammar}
use Rattle.wf_model.specs.WellFormed.{IsWellFormed}
use Rattle.wf_model.specs.View.{View, IsSeenModule}
use Rattle.wf_model.specs.Reach.{Step}
use Rattle.compare_model.specs.Routes.{IsFirstShortestRoute}

-- one route to a seen module is the first of the shortest, no other is, and it has fewer steps than the grammar has modules; it has none where the module is the start module
abbrev pub FirstRouteLaw : Type 0
FirstRouteLaw =
    (g : Grammar) (c : View) → IsWellFormed g → (m : ℕ) → IsSeenModule g c m →
    record {
      some : (a : List Step) × IsFirstShortestRoute g c m a;
      one : (a b : List Step) → IsFirstShortestRoute g c m a → IsFirstShortestRoute g c m b → a ≡ b;
      short : (a : List Step) → IsFirstShortestRoute g c m a → length a < length g.modules;
      to_start : g.start ≡ m → IsFirstShortestRoute g c m [];
    }
