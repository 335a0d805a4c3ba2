-- What of a run in a table is seen under the views whose expanded modules are marked: its instances, its links, and which instances are open.
use Rattle.std.specs.Prelude.{◌≡◌, ℕ, ◌<◌, Bool, false, List, [], map, length, get_or}
use Rattle.wf_model.specs.Grammar.{Grammar, Assignment}
use Rattle.wf_model.specs.View.{View}
use Rattle.wf_model.specs.Run.{opens, seen_in}
use Rattle.wf_model.specs.Links.{links_with}
use Rattle.wf_flat.specs.declared.graph.Link.{Link as LinkHeld}
use Rattle.wf_flat.specs.Table.{Table, events_of, names_in}
use Rattle.wf_flat.specs.Graph.{Marks, inst_at, named_links}

-- the numbers are those of the seen instances, in order of making
abbrev pub AreSeenBy : Grammar → Table → List Bool → List ℕ → Type 0
AreSeenBy g t marks numbers = (u : View) → Marks marks u → map (inst_at t.instances) numbers ≡ seen_in g u g.start (events_of t)

-- the links are those of the run, by these pairs of the modules that are not expanded
abbrev pub AreLinksBy : Grammar → Table → List Bool → Assignment → List LinkHeld → Type 0
AreLinksBy g t marks leaf ls = (u : View) → Marks marks u → named_links (names_in t.instances) ls ≡ links_with g u leaf g.start (events_of t)

-- the flags tell which instances are open, once they are expanded
abbrev pub AreOpenBy : Grammar → Table → List Bool → List Bool → Type 0
AreOpenBy g t marks flags =
    (u : View) → Marks marks u → (k : ℕ) → k < length t.instances → get_or flags k false ≡ opens u (seen_in g u g.start (events_of t)) (get_or (names_in t.instances) k [])
