-- The grammar of a package without the pairs that are given.
use Rattle.std.proofs.Common.{◌≡◌, ℕ, ◌<◌, ◌≤◌, List, [], length, map, get_or, refl, ap, ap₂, ◌∙◌, arith}
use Rattle.wf_model.specs.Lists.{IsIn}
use Rattle.wf_model.specs.Grammar.{Grammar, Module, Production, Given}
use Rattle.wf_model.specs.View.{View, IsSeenModule, at_start}
use Rattle.wf_model.specs.WellFormed.{IsWellFormedBody, IsWellFormed}
use Rattle.wf_model.specs.Finishing.{ExpandsComposites}
use Rattle.wf_spec.specs.Held.{grammar_of_lists}
use Rattle.package_model.specs.Shown.{IsOpenProduction, place_in}
use Rattle.package_model.specs.Laws.{packaged}
use Rattle.wf_safe.proofs.SeenBelow.{seen_below}
use Rattle.package_model.proofs.PackageLaws.{package_law}
use Rattle.wf_package.specs.Parts.{made_by_place, module_part, production_part, without_given, AreShownParts}
use Rattle.wf_package.specs.declared.places.PlacedNumbers.{PlacedNumbers}
use Rattle.wf_package.proofs.PlacedParts.{modules_made, productions_made}

module _ (g : Grammar) where
  body_bare : (p : ℕ) → IsWellFormedBody g p → IsWellFormedBody (without_given g) p
  body_bare p b = record {
    some_position = b.some_position;
    modules = b.modules;
    names = b.names;
    names_differ = b.names_differ;
    edges_from = b.edges_from;
    edges_to = b.edges_to;
    entries_to = b.entries_to;
    exits_from = b.exits_from;
    one_entry_each = b.one_entry_each;
    one_exit_each = b.one_exit_each;
    fed_once = b.fed_once;
    used_once = b.used_once;
    acyclic = b.acyclic;
  }

  -- it is well-formed where the grammar is
  pub formed_bare : IsWellFormed g → IsWellFormed (without_given g)
  formed_bare f = record {
    start = f.start;
    modules = f.modules;
    names_differ = f.names_differ;
    few_modules = f.few_modules;
    few_productions = f.few_productions;
    few_positions = f.few_positions;
    small = f.small;
    heads = f.heads;
    bodies = λ p h. body_bare p (f.bodies p h);
    given_atomic = λ d h. absurd h;
    given_pairs = λ d e h. absurd h;
  }

module _ (g : Grammar) (u : View) (modules productions : PlacedNumbers) (parts : AreShownParts g u modules productions) where
  abbrev ms : List ℕ
  ms = modules.numbers.items

  abbrev ps : List ℕ
  ps = productions.numbers.items

  abbrev place : ℕ → ℕ
  place m = get_or modules.places.items m 0

  -- the modules that are shown are modules of the grammar
  pub shown_below : IsWellFormed g → (m : ℕ) → IsIn m ms → m < length g.modules
  shown_below formed m h = seen_below g u m formed ((parts.seen.modules m).0 h)

  pub shown_few : IsWellFormed g → length ms ≤ 1024
  shown_few formed = omega (arith, parts.few, formed.few_modules)

  pub seen_placed : (m : ℕ) → IsSeenModule g u m → place m ≡ place_in ms m
  seen_placed m s = parts.module_places m ((parts.seen.modules m).1 s)

  pub open_placed : (p : ℕ) → IsOpenProduction g u p → get_or productions.places.items p 0 ≡ place_in ps p
  open_placed p o = parts.production_places p ((parts.seen.productions p).1 o)

  abbrev bare_of : ℕ → List Module → List Production → Grammar
  bare_of start mods prods = record { start = start; modules = mods; productions = prods; given = [] }

  -- the lists that are made are its lists
  pub bare_is : (start : ℕ) (mods : List Module) (rules : List Production) (given : List Given) → start ≡ g.start → mods ≡ made_by_place (module_part g) 0 ms → rules ≡ map (production_part g place) ps → given ≡ [] →
      grammar_of_lists (place start) mods rules given ≡ without_given (packaged g u ms ps)
  bare_is start mods rules given at made ruled none =
      ap (grammar_of_lists (place start) mods rules) none
      ∙ ap (λ s. bare_of s mods rules) (ap place at ∙ seen_placed g.start (at_start refl))
      ∙ ap₂ (λ m r. bare_of (place_in ms g.start) m r) (made ∙ modules_made g u ps 0 ms)
      (ruled ∙ productions_made g u ms place seen_placed ps (λ p h. (parts.seen.productions p).0 h))

  -- so are the lists that are made of lists as they are read
  pub bare_read : (places ns qs : List ℕ) (start : ℕ) (mods : List Module) (rules : List Production) (given : List Given) → places ≡ modules.places.items → ns ≡ ms → qs ≡ ps → start ≡ g.start
      → mods ≡ made_by_place (module_part g) 0 ns → rules ≡ map (production_part g (λ m. get_or places m 0)) qs → given ≡ [] → grammar_of_lists (get_or places start 0) mods rules given ≡ without_given (packaged g u ms ps)
  bare_read places ns qs start mods rules given same_places same_modules same_productions at made ruled none =
      ap (λ (l : List ℕ). grammar_of_lists (get_or l start 0) mods rules given) same_places
      ∙ bare_is start mods rules given at (made ∙ ap (made_by_place (module_part g) 0) same_modules)
      (ruled ∙ ap₂ (λ (l qs : List ℕ). map (production_part g (λ m. get_or l m 0)) qs) same_places same_productions) none

  -- and it is well-formed
  pub bare_formed : IsWellFormed g → ExpandsComposites g u → IsWellFormed (without_given (packaged g u ms ps))
  bare_formed wf ec = formed_bare (packaged g u ms ps) ((package_law g u ms ps ec parts.seen).formed wf)
