-- What the rules say, part by part.
use Rattle.wf_spec.proofs.NewNames.{differ_new, new_differ}
use Rattle.std.proofs.Common.{ℕ, ◌<◌, ◌≤◌, List, length, sym, subst, arith}
use Rattle.std.proofs.lemmas.List.{length-map}
use Rattle.wf_model.specs.declared.parts.Parts.{Parts}
use Rattle.wf_model.specs.declared.parts.ModulePart.{ModulePart}
use Rattle.wf_model.specs.declared.parts.ProdPart.{ProdPart}
use Rattle.wf_model.specs.declared.parts.DepsPart.{DepsPart}
use Rattle.wf_model.specs.Lists.{IsIn, IsAt, AllDiffer}
use Rattle.wf_model.specs.Versions.{IsVersion}
use Rattle.wf_model.proofs.Lists.{at_in, in_at, at_below}
use Rattle.wf_form.specs.Forming.{modules_of, grammar_of, HaveVersions}
use Rattle.wf_form.specs.Rules.{module_names, position_names, HasShortNames, HasShortPositions, HasDifferentPorts, HasFewPorts, HasKnownModules, squares, HasKnownPorts, IsLinkedAtMostOnce, IsLinkedAtLeastOnce, HasNoCycle, IsOfAtomic, version_rules, AreKept}
use Rattle.wf_spec.specs.FirstFaults.{AllHold}
use Rattle.wf_spec.specs.Pairs.{HasKnownPairs}

-- a rule at each place, and of each element
each_gives : {A : Type 0} (list : List A) (Holds : A → Type 0) → ((k : ℕ) → k < length list → (x : A) → IsAt x k list → Holds x) → (x : A) → IsIn x list → Holds x
each_gives list Holds h x i = let r = in_at x list i in h r.0 (at_below x r.0 list r.1) x r.1

each_from : {A : Type 0} (list : List A) (Holds : A → Type 0) → ((x : A) → IsIn x list → Holds x) → (k : ℕ) → k < length list → (x : A) → IsAt x k list → Holds x
each_from list Holds h k inside x at = h x (at_in x k list at)

-- the rules on versions, as their word
pub versions_give : (parts : Parts) → AllHold (version_rules parts) → HaveVersions parts
versions_give parts a = record {
  few = a.0 0 (omega arith);
  each = each_gives parts.versions (λ v. IsVersion (grammar_of parts) v.modules v.productions) a.1.0;
}

pub versions_keep : (parts : Parts) → HaveVersions parts → AllHold (version_rules parts)
versions_keep parts h = ((λ k i. h.few), (each_from parts.versions (λ v. IsVersion (grammar_of parts) v.modules v.productions) h.each, tt))

-- what the rules say of each production part
pub record IsKeptPart (parts : Parts) (p : ProdPart) : Type 0 where
  pub short_positions : HasShortPositions p
  pub known_modules : HasKnownModules (module_names parts.modules) p
  pub some_position : 0 < length p.body
  pub few_positions : length p.body ≤ 64
  pub positions_differ : AllDiffer (position_names p)
  pub known_ports : HasKnownPorts (modules_of parts) p
  pub at_most_once : IsLinkedAtMostOnce (modules_of parts) p
  pub at_least_once : IsLinkedAtLeastOnce (modules_of parts) p
  pub no_cycle : HasNoCycle (modules_of parts) p

-- of each deps part
pub record IsKeptDeps (parts : Parts) (d : DepsPart) : Type 0 where
  pub known_module : IsIn d.module (module_names parts.modules)
  pub known_pairs : HasKnownPairs (modules_of parts) d
  pub atomic : IsOfAtomic parts.productions d

-- and of all
pub record AreAllKept (parts : Parts) : Type 0 where
  pub short_names : (m : ModulePart) → IsIn m parts.modules → HasShortNames m
  pub names_differ : AllDiffer (module_names parts.modules)
  pub different_ports : (m : ModulePart) → IsIn m parts.modules → HasDifferentPorts m
  pub few_ports : (m : ModulePart) → IsIn m parts.modules → HasFewPorts m
  pub few_modules : length parts.modules ≤ 1024
  pub few_productions : length parts.productions ≤ 1024
  pub start : IsIn parts.start (module_names parts.modules)
  pub small : squares parts.productions ≤ 65536
  pub productions : (p : ProdPart) → IsIn p parts.productions → IsKeptPart parts p
  pub deps : (d : DepsPart) → IsIn d parts.deps → IsKeptDeps parts d

pub kept_gives : (parts : Parts) → AreKept parts → AreAllKept parts
kept_gives parts k = record {
  short_names = each_gives parts.modules HasShortNames k.first.0;
  names_differ = new_differ (module_names parts.modules) (λ n h. k.first.1.1.0 n (subst (λ l. n < l) (length-map parts.modules (λ (m : ModulePart). m.name)) h));
  different_ports = each_gives parts.modules HasDifferentPorts k.first.1.1.1.0;
  few_ports = each_gives parts.modules HasFewPorts k.first.1.1.1.1.0;
  few_modules = k.first.1.1.1.1.1.0 0 (omega arith);
  few_productions = k.first.1.1.1.1.1.1.0 0 (omega arith);
  start = k.bodies.0 0 (omega arith);
  small = k.bodies.1.1.1.1.1.0 0 (omega arith);
  productions = λ p h. record {
    short_positions = each_gives parts.productions HasShortPositions k.first.1.0 p h;
    known_modules = each_gives parts.productions (HasKnownModules (module_names parts.modules)) k.bodies.1.0 p h;
    some_position = each_gives parts.productions (λ p. 0 < length p.body) k.bodies.1.1.1.0 p h;
    few_positions = each_gives parts.productions (λ p. length p.body ≤ 64) k.bodies.1.1.1.1.0 p h;
    positions_differ = each_gives parts.productions (λ p. AllDiffer (position_names p)) k.bodies.1.1.1.1.1.1.0 p h;
    known_ports = each_gives parts.productions (HasKnownPorts (modules_of parts)) k.links.0 p h;
    at_most_once = each_gives parts.productions (IsLinkedAtMostOnce (modules_of parts)) k.links.1.1.0 p h;
    at_least_once = each_gives parts.productions (IsLinkedAtLeastOnce (modules_of parts)) k.links.1.1.1.0 p h;
    no_cycle = each_gives parts.productions (HasNoCycle (modules_of parts)) k.links.1.1.1.1.0 p h;
  };
  deps = λ d h. record {
    known_module = each_gives parts.deps (λ d. IsIn d.module (module_names parts.modules)) k.bodies.1.1.0 d h;
    known_pairs = each_gives parts.deps (HasKnownPairs (modules_of parts)) k.links.1.0 d h;
    atomic = each_gives parts.deps (IsOfAtomic parts.productions) k.links.1.1.1.1.1.0 d h;
  };
}

pub kept_from : (parts : Parts) → AreAllKept parts → AreKept parts
kept_from parts a = record {
  first = (
    each_from parts.modules HasShortNames a.short_names,
    (
      each_from parts.productions HasShortPositions (λ p h. (a.productions p h).short_positions),
      (
        λ n h. differ_new (module_names parts.modules) a.names_differ n (subst (λ l. n < l) (sym (length-map parts.modules (λ (m : ModulePart). m.name))) h),
        (
          each_from parts.modules HasDifferentPorts a.different_ports,
          (each_from parts.modules HasFewPorts a.few_ports, ((λ k h. a.few_modules), ((λ k h. a.few_productions), tt))),
        ),
      ),
    ),
  );
  bodies = (
    λ k h. a.start,
    (
      each_from parts.productions (HasKnownModules (module_names parts.modules)) (λ p h. (a.productions p h).known_modules),
      (
        each_from parts.deps (λ d. IsIn d.module (module_names parts.modules)) (λ d h. (a.deps d h).known_module),
        (
          each_from parts.productions (λ p. 0 < length p.body) (λ p h. (a.productions p h).some_position),
          (
            each_from parts.productions (λ p. length p.body ≤ 64) (λ p h. (a.productions p h).few_positions),
            ((λ k h. a.small), (each_from parts.productions (λ p. AllDiffer (position_names p)) (λ p h. (a.productions p h).positions_differ), tt)),
          ),
        ),
      ),
    ),
  );
  links = (
    each_from parts.productions (HasKnownPorts (modules_of parts)) (λ p h. (a.productions p h).known_ports),
    (
      each_from parts.deps (HasKnownPairs (modules_of parts)) (λ d h. (a.deps d h).known_pairs),
      (
        each_from parts.productions (IsLinkedAtMostOnce (modules_of parts)) (λ p h. (a.productions p h).at_most_once),
        (
          each_from parts.productions (IsLinkedAtLeastOnce (modules_of parts)) (λ p h. (a.productions p h).at_least_once),
          (
            each_from parts.productions (HasNoCycle (modules_of parts)) (λ p h. (a.productions p h).no_cycle),
            (each_from parts.deps (IsOfAtomic parts.productions) (λ d h. (a.deps d h).atomic), tt),
          ),
        ),
      ),
    ),
  );
}
