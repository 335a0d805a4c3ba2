-- The module that an entry of loops names.
use Rattle.std.proofs.Common.{◌≡◌, ℕ, ◌<◌, [], length, get_or, Option, Some, None, bytes_eq, sym, ◌∙◌, subst}
use Rattle.std.specs.Prelude.{position}
use Rattle.std.proofs.lemmas.List.{length-map, get_or-map}
use Rattle.std.proofs.lemmas.List.Quantifiers.{position-Some}
use Rattle.wf_model.specs.Lists.{IsAt}
use Rattle.wf_model.specs.Grammar.{Grammar, Module}
use Rattle.wf_model.specs.WellFormed.{IsWellFormed}
use Rattle.wf_model.proofs.Lists.{is_at, at_in, differ_at, same_bytes}
use Rattle.wf_spec.specs.Naming.{names_of}
use Rattle.wf_spec.proofs.Finding.{not_found}
use Rattle.package_model.specs.Packages.{LoopEntry}
use Rattle.package_model.specs.Loops.{NamesModule}

module _ (g : Grammar) where
  abbrev no_module : Module
  no_module = record { name = []; inputs = []; outputs = [] }

  named_at : (e : LoopEntry) (m : ℕ) → NamesModule g e m → IsAt e.module_name m (names_of g.modules)
  named_at e m h =
      subst (λ n. IsAt n m (names_of g.modules)) (get_or-map (λ (x : Module). x.name) g.modules m no_module [] h.0 ∙ h.1)
      (is_at m (names_of g.modules) [] (subst (λ n. m < n) (sym (length-map g.modules (λ (x : Module). x.name))) h.0))

  -- it names one module at most
  pub one_named : IsWellFormed g → (e : LoopEntry) (m n : ℕ) → NamesModule g e m → NamesModule g e n → m ≡ n
  one_named formed e m n h i = differ_at e.module_name m n (names_of g.modules) formed.names_differ (named_at e m h) (named_at e n i)

  -- what a search for its name finds
  pub found_module : (e : LoopEntry) (answer : Option ℕ) (m : ℕ) → answer ≡ position (bytes_eq e.module_name) (names_of g.modules) → answer ≡ Some m → NamesModule g e m
  found_module e answer m is some =
      let p = position-Some (bytes_eq e.module_name) (names_of g.modules) m [] (sym is ∙ some) in
      let below : m < length g.modules = subst (λ n. m < n) (length-map g.modules (λ (x : Module). x.name)) p.0 in
      (below, sym (same_bytes e.module_name (get_or (names_of g.modules) m []) p.1 ∙ get_or-map (λ (x : Module). x.name) g.modules m no_module [] below))

  -- and where it finds none
  pub found_none : (e : LoopEntry) (answer : Option ℕ) → answer ≡ position (bytes_eq e.module_name) (names_of g.modules) → answer ≡ None → (m : ℕ) → NamesModule g e m → ⊥
  found_none e answer is none m h = not_found (names_of g.modules) e.module_name answer is none (at_in e.module_name m (names_of g.modules) (named_at e m h))
