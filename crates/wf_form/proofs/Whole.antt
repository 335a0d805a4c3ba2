-- What kept parts give to the lists of their grammar.
use Rattle.std.proofs.Common.{◌≡◌, ℕ, ◌≤◌, List, map, length, sym, ap, ◌∙◌, subst}
use Rattle.std.proofs.lemmas.List.{length-map}
use Rattle.wf_model.specs.declared.parts.Parts.{Parts}
use Rattle.wf_model.specs.declared.parts.DepsPart.{DepsPart}
use Rattle.wf_model.specs.Lists.{IsIn}
use Rattle.wf_model.specs.Grammar.{Grammar, Module}
use Rattle.wf_model.specs.WellFormed.{IsWellFormed}
use Rattle.wf_spec.specs.FewPorts.{HaveFewPorts}
use Rattle.wf_spec.specs.Held.{grammar_of_lists}
use Rattle.wf_spec.specs.Naming.{place_of, names_of}
use Rattle.wf_spec.specs.Pairs.{HasKnownPairs}
use Rattle.wf_form.specs.Forming.{modules_of, production_in, given_in, grammar_of}
use Rattle.wf_form.specs.Rules.{AreKept}
use Rattle.wf_form.proofs.Kept.{AreAllKept, kept_gives}
use Rattle.wf_form.proofs.Lawful.{same_names, kept_formed}

-- what the lists of a grammar need of modules and their names
pub record AreReady (parts : Parts) (modules : List Module) (names : List (List ℕ)) : Type 0 where
  pub few_modules : length modules ≤ 1024
  pub few_names : length names ≤ 1024
  pub few_ports : HaveFewPorts modules
  pub start : IsIn parts.start names
  pub deps : (d : DepsPart) → IsIn d parts.deps → IsIn d.module names
  pub pairs : (d : DepsPart) → IsIn d parts.deps → HasKnownPairs modules d

made_ready : (parts : Parts) → AreAllKept parts → AreReady parts (modules_of parts) (names_of (modules_of parts))
made_ready parts k =
    let modules = modules_of parts in
    let formed = (kept_formed parts k).well_formed in
    let few : length modules ≤ 1024 = formed.few_modules in
    record {
      few_modules = few;
      few_names = subst (λ n. n ≤ 1024) (sym (length-map modules (λ (m : Module). m.name))) few;
      few_ports = λ m h. record { inputs = (formed.modules m h).few_inputs; outputs = (formed.modules m h).few_outputs };
      start = subst (IsIn parts.start) (sym (same_names parts)) k.start;
      deps = λ d h. subst (IsIn d.module) (sym (same_names parts)) (k.deps d h).known_module;
      pairs = λ d h. (k.deps d h).known_pairs;
    }

-- kept parts are ready
pub ready : (parts : Parts) (modules : List Module) (names : List (List ℕ)) → AreKept parts → modules ≡ modules_of parts → names ≡ names_of modules → AreReady parts modules names
ready parts modules names kept are is =
    subst (AreReady parts modules) (sym is) (subst (λ ms. AreReady parts ms (names_of ms)) (sym are) (made_ready parts (kept_gives parts kept)))

-- the lists of a grammar, made one by one from parts
pub record AreMade (parts : Parts) (names : List (List ℕ)) (g : Grammar) : Type 0 where
  pub modules : g.modules ≡ modules_of parts
  pub names_are : names ≡ names_of g.modules
  pub start : g.start ≡ place_of names parts.start
  pub productions : g.productions ≡ map (production_in g.modules) parts.productions
  pub given : g.given ≡ map (given_in g.modules) parts.deps

-- they make the grammar of the parts
pub whole : (parts : Parts) (names : List (List ℕ)) (g : Grammar) → AreMade parts names g → g ≡ grammar_of parts
whole parts names g m =
    ap (λ s. grammar_of_lists s g.modules g.productions g.given) (m.start ∙ ap (λ ns. place_of ns parts.start) (m.names_are ∙ ap names_of m.modules))
    ∙ (ap (λ rs. grammar_of_lists (place_of (names_of (modules_of parts)) parts.start) g.modules rs g.given) m.productions
    ∙ (ap (λ ds. grammar_of_lists (place_of (names_of (modules_of parts)) parts.start) g.modules (map (production_in g.modules) parts.productions) ds) m.given
    ∙ ap (λ ms. grammar_of_lists (place_of (names_of (modules_of parts)) parts.start) ms (map (production_in ms) parts.productions) (map (given_in ms) parts.deps)) m.modules))

-- which is well-formed, where the parts are kept
pub whole_formed : (parts : Parts) (names : List (List ℕ)) (g : Grammar) → AreKept parts → AreMade parts names g → IsWellFormed g
whole_formed parts names g kept m = subst IsWellFormed (sym (whole parts names g m)) (kept_formed parts (kept_gives parts kept)).well_formed
