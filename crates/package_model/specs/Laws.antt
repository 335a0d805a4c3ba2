-- Laws of packages: what a view shows is found again in its package, and no more is there.
use Rattle.std.specs.Prelude.{◌≡◌, ◌↔◌, ℕ, List, get_or}
use Rattle.wf_model.specs.Grammar.{Grammar, Assignment}
use Rattle.wf_model.specs.WellFormed.{IsWellFormed}
use Rattle.wf_model.specs.Proper.{IsProper}
use Rattle.wf_model.specs.Linear.{IsLinear}
use Rattle.wf_model.specs.View.{View}
use Rattle.wf_model.specs.DefaultView.{default_view}
use Rattle.wf_model.specs.Safe.{IsSafe, IsInduced}
use Rattle.wf_model.specs.Finishing.{ExpandsComposites}
use Rattle.wf_model.specs.Reach.{Step}
use Rattle.wf_model.specs.Routes.{IsRoute, Agree}
use Rattle.wf_model.specs.OpenRoutes.{IsOpenRoute}
use Rattle.version_model.specs.Standing.{StandsIn, ReachTheSame, renumbered}
use Rattle.package_model.specs.Shown.{AreSeen, place_in, shown_of}
use Rattle.package_model.specs.Packages.{package_of, loops_of, loop_of}
use Rattle.package_model.specs.Loops.{AreLoopsOf, AreGoodLoops}

-- the lists of seen modules and of their productions are the only ones, so what is shown is a function of the grammar and the view
abbrev pub SeenListsLaw : Type 0
SeenListsLaw = (g : Grammar) (u : View) (ms ps ns qs : List ℕ) → AreSeen g u ms ps → AreSeen g u ns qs → (ms ≡ ns) × (ps ≡ qs)

-- two grammars whose views show the same: one stands in the other, so the full assignments agree place by place, and so does what is reached along open routes
abbrev pub ShownLaw : Type 0
ShownLaw =
    (g h : Grammar) (u w : View) (ms ps ns qs : List ℕ) → IsProper g → ExpandsComposites g u → AreSeen g u ms ps → AreSeen h w ns qs → shown_of g u ms ps ≡ shown_of h w ns qs →
    (d e : Assignment) → IsInduced g u d → IsInduced h w e → ReachTheSame g u d h e (λ m. get_or ns (place_in ms m) 0) (λ p. get_or qs (place_in ps p) 0)

-- the grammar of the package, where these are the seen modules and the productions of those that the view expands
abbrev pub packaged : Grammar → View → List ℕ → List ℕ → Grammar
packaged g u ms ps = package_of (shown_of g u ms ps)

-- The grammar of a package. It is well-formed, proper and strictly linear where the grammar is. All that the view shows stands in it under its default view, by place, which is safe where the view is. Pairs, what is reached, open routes and routes that agree are as in the grammar
pub record IsPackage (g : Grammar) (u : View) (ms ps : List ℕ) : Type 0 where
  pub formed : IsWellFormed g → IsWellFormed (packaged g u ms ps)
  pub proper : IsProper g → IsProper (packaged g u ms ps)
  pub linear : IsLinear g → IsLinear (packaged g u ms ps)
  pub stands : StandsIn g u (packaged g u ms ps) (default_view (packaged g u ms ps)) (place_in ms) (place_in ps)
  pub induced : (d : Assignment) → IsInduced g u d → IsInduced (packaged g u ms ps) (default_view (packaged g u ms ps)) (λ k. d (get_or ms k 0))
  pub safe : IsWellFormed g → IsProper g → IsSafe g u → IsSafe (packaged g u ms ps) (default_view (packaged g u ms ps))
  pub reach : (d e : Assignment) → IsProper g → IsInduced g u d → IsInduced (packaged g u ms ps) (default_view (packaged g u ms ps)) e → ReachTheSame g u d (packaged g u ms ps) e (place_in ms) (place_in ps)
  pub open_routes : (a : List Step) → IsRoute g g.start a → IsOpenRoute g u g.start a ↔ IsOpenRoute (packaged g u ms ps) (default_view (packaged g u ms ps)) (place_in ms g.start) (renumbered (place_in ps) a)
  pub agree : (a b : List Step) → IsOpenRoute g u g.start a → IsOpenRoute g u g.start b → Agree a b ↔ Agree (renumbered (place_in ps) a) (renumbered (place_in ps) b)

-- so it is with the package of a view
abbrev pub PackageLaw : Type 0
PackageLaw = (g : Grammar) (u : View) (ms ps : List ℕ) → ExpandsComposites g u → AreSeen g u ms ps → IsPackage g u ms ps

-- its loops are good, and they are the loop steps of what is shown
abbrev pub PackageLoopsLaw : Type 0
PackageLoopsLaw =
    (g : Grammar) (u : View) (ms ps : List ℕ) → IsWellFormed g → IsLinear g → ExpandsComposites g u → AreSeen g u ms ps →
    AreGoodLoops (packaged g u ms ps) (loops_of (shown_of g u ms ps)) × AreLoopsOf (packaged g u ms ps) (loops_of (shown_of g u ms ps)) (loop_of (shown_of g u ms ps))
