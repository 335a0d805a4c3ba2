-- The parts that describe a well-formed grammar form this grammar.
use Rattle.std.proofs.Common.{◌≡◌, ℕ, ◌<◌, List, length, map, refl, sym, ap, ap₂, ◌∙◌, subst}
use Rattle.wf_model.specs.declared.parts.PairPart.{PairPart}
use Rattle.wf_model.specs.Lists.{IsIn}
use Rattle.wf_model.specs.Grammar.{Grammar, Module, Production, Given, module_at, production_at}
use Rattle.wf_model.specs.WellFormed.{IsWellFormed}
use Rattle.wf_model.proofs.Lists.{in_map_from}
use Rattle.wf_spec.specs.Naming.{place_of, names_of, module_in}
use Rattle.wf_form.specs.Forming.{module_of, production_in, given_in, grammar_of, HasItsLinks, HasAllLinks, IsFormed}
use Rattle.wf_view.proofs.Naming.{number_is}
use Rattle.package_laws.proofs.NamedParts.{named_module, named_production, named_ports, named_deps, named_parts}
use Rattle.package_laws.proofs.ByElement.{map_back, of_each}
use Rattle.package_laws.proofs.EndsBack.{input_is, output_is}
use Rattle.package_laws.proofs.ProductionsBack.{production_back, links_back}

module _ (g : Grammar) (formed : IsWellFormed g) where
  modules_back : map module_of (map named_module g.modules) ≡ g.modules
  modules_back = map_back module_of named_module g.modules (λ m i. refl)

  -- what holds of the production of each number holds of each production
  pub of_productions : (P : Production → Type 0) → ((p : ℕ) → p < length g.productions → P (production_at g p)) → (r : Production) → IsIn r g.productions → P r
  of_productions P all = of_each P g.productions _ all

  productions_back : map (production_in g.modules) (map (named_production g) g.productions) ≡ g.productions
  productions_back =
      map_back (production_in g.modules) (named_production g) g.productions
      (of_productions (λ r. production_in g.modules (named_production g r) ≡ r) (production_back g formed))

  -- the number of a module, with pairs that are given to it by the names of its ports
  abbrev found : Given → ℕ → Given
  found d m =
      let it = module_in g.modules m in
      record { module_no = m; pairs = map (λ (e : PairPart). (place_of it.inputs e.input, place_of it.outputs e.output)) (named_deps g d).pairs }

  given_back : (d : Given) → IsIn d g.given → given_in g.modules (named_deps g d) ≡ d
  given_back d i =
      let m = d.module_no in
      let it = module_at g m in
      let below = (formed.given_atomic d i).0 in
      ap (found d) (number_is g formed m below)
      ∙ ap (λ ps. record { module_no = m; pairs = ps })
      (map_back (λ (e : PairPart). (place_of it.inputs e.input, place_of it.outputs e.output)) (named_ports it) d.pairs
      (λ e j.
      let inside = formed.given_pairs d e i j in
      ap₂ (λ (a b : ℕ). (a, b)) (input_is g formed m e.0 below inside.0) (output_is g formed m e.1 below inside.1)))

  -- the grammar of the parts, by its modules
  abbrev by_modules : List Module → Grammar
  by_modules ms =
      record {
        start = place_of (names_of ms) (module_at g g.start).name;
        modules = ms;
        productions = map (production_in ms) (map (named_production g) g.productions);
        given = map (given_in ms) (map (named_deps g) g.given);
      }

  abbrev of_lists : ℕ → List Production → List Given → Grammar
  of_lists start productions given = record { start = start; modules = g.modules; productions = productions; given = given }

  pub grammar_back : grammar_of (named_parts g) ≡ g
  grammar_back =
      let own = by_modules g.modules in
      ap by_modules modules_back
      ∙ (ap (λ k. of_lists k own.productions own.given) (number_is g formed g.start formed.start)
      ∙ ap₂ (of_lists g.start) productions_back (map_back (given_in g.modules) (named_deps g) g.given given_back))

  links_named : HasAllLinks (named_parts g)
  links_named part i =
      let r = in_map_from (named_production g) part g.productions i in
      let links = of_productions (λ z. HasItsLinks g.modules (named_production g z)) (links_back g formed) r.0 r.1 in
      subst (λ ms. HasItsLinks ms part) (sym modules_back) (subst (HasItsLinks g.modules) (sym r.2) links)

  -- so they form a well-formed grammar
  pub parts_formed : IsFormed (named_parts g)
  parts_formed = record { links = links_named; well_formed = subst IsWellFormed (sym grammar_back) formed }
