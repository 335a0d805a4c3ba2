-- Parts that keep the rules describe a view of the grammar, and what it expands and shows.
use Rattle.std.proofs.Common.{◌≡◌, ◌↔◌, ℕ, ◌<◌, ◌&&◌, Bool, true, false, cond, IsTrue, List, length, Option, Some, None, bytes_eq, refl, sym, ap, ◌∙◌, subst}
use Rattle.std.proofs.lemmas.Bool.{and_parts, and_from}
use Rattle.wf_model.specs.declared.parts.DepsPart.{DepsPart}
use Rattle.wf_model.specs.declared.parts.ViewParts.{ViewParts}
use Rattle.wf_model.specs.Lists.{IsIn, some}
use Rattle.wf_model.specs.Grammar.{Grammar, IsComposite, is_given}
use Rattle.wf_model.specs.View.{expands, IsViewOf, IsShownByDefault}
use Rattle.wf_model.specs.WellFormed.{IsWellFormed}
use Rattle.wf_model.proofs.Lists.{some_from, some_gives, in_map, same_bytes, bytes_same, among_gives, among_from}
use Rattle.wf_spec.specs.Pairs.{HasKnownPairs}
use Rattle.wf_view.specs.declared.fault.ViewSpot.TheVariants.{DepsAt}
use Rattle.wf_view.specs.declared.fault.ViewFault.TheVariants.{UnknownModule, NotComposite, DepsOnExpanded, UnknownPort}
use Rattle.wf_view.specs.Laws.{DescribedLaw, IsDescribed, ShowsPart}
use Rattle.wf_view.specs.Rules.{listed, number_in, deps_names, IsCompositeName, IsModuleName, IsOnShown, IsViewed}
use Rattle.wf_model.specs.Composite.{is_composite}
use Rattle.wf_view.specs.Viewing.{name_of, input_name, output_name, is_about, is_among, is_expanded, is_pair, is_shown, view_of}
use Rattle.wf_spec.proofs.FirstFaults.{holds_of}
use Rattle.wf_model.proofs.Composites.{composite_gives, composite_is}
use Rattle.wf_view.proofs.Heading.{composite_below}
use Rattle.wf_view.proofs.Naming.{number_is}
use Rattle.wf_view.proofs.Pairing.{composite_all}
use Rattle.wf_view.proofs.Places.{same_element}
use Rattle.wf_view.proofs.Showing.{shown_by}
use Rattle.wf_view.proofs.Viewed.{expands_gives, expands_from, expands_is, shows_is, shows_gives}
use Rattle.wf_spec.proofs.NewNames.{new_differ}

module _ (g : Grammar) (parts : ViewParts) (formed : IsWellFormed g) (viewed : IsViewed g parts) where
  -- what the rules say of each element
  pub composite_names : (n : List ℕ) → IsIn n (listed parts.expand) → IsCompositeName g n
  composite_names = holds_of (IsCompositeName g) NotComposite (listed parts.expand) viewed.1.1.0

  pub known_parts : (d : DepsPart) → IsIn d parts.deps → IsModuleName g d.«module»
  known_parts = holds_of (λ (d : DepsPart). IsModuleName g d.«module») (λ k. UnknownModule (DepsAt k)) parts.deps viewed.1.0

  pub on_shown : (d : DepsPart) → IsIn d parts.deps → IsOnShown g parts d
  on_shown = holds_of (IsOnShown g parts) DepsOnExpanded parts.deps viewed.1.1.1.0

  pub known_pairs : (d : DepsPart) → IsIn d parts.deps → HasKnownPairs g.modules d
  known_pairs = holds_of (HasKnownPairs g.modules) UnknownPort parts.deps viewed.1.1.1.1.0

  one_part : (d e : DepsPart) → IsIn d parts.deps → IsIn e parts.deps → e.«module» ≡ d.«module» → e ≡ d
  one_part d e i j = same_element (λ (p : DepsPart). p.«module») parts.deps (new_differ (deps_names parts.deps) viewed.1.1.1.1.1.1.0) e d j i

  -- it expands composite modules
  pub expanded_composite : (m : ℕ) → m < length g.modules → is_expanded g parts m ≡ true → is_composite g m ≡ true
  expanded_composite m below h = by parts.expand composite_names h
    where
      by : (names : Option (List (List ℕ))) → ((n : List ℕ) → IsIn n (listed names) → IsCompositeName g n) → is_among g names m ≡ true → is_composite g m ≡ true
      by None all t = t
      by (Some names) all t = ap (is_composite g) (sym (number_is g formed m below)) ∙ all (name_of g m) (among_gives (name_of g m) names t)

  pub view_is : IsViewOf g (view_of g parts)
  view_is = record {
    expanded = λ m h. (let r = expands_gives g parts m h in composite_gives g m (expanded_composite m r.0 r.1));
    shown = shows_gives g parts;
  }

  all_expanded : parts.expand ≡ None → (m : ℕ) → IsTrue (expands (view_of g parts) m) ↔ IsComposite g m
  all_expanded none m = (
    λ h. (let r = expands_gives g parts m h in composite_gives g m (expanded_composite m r.0 r.1)),
    λ d. (let c = composite_is g m d in expands_from g parts m (composite_below g formed m c) (ap (λ names. is_among g names m) none ∙ c)),
  )

  named_expanded : (names : List (List ℕ)) → parts.expand ≡ Some names → (m : ℕ) → m < length g.modules → IsTrue (expands (view_of g parts) m) ↔ IsIn (name_of g m) names
  named_expanded names some_names m below =
      let is = expands_is g parts m below ∙ ap (λ ns. is_among g ns m) some_names in (
        λ h. among_gives (name_of g m) names (sym is ∙ h),
        λ i. is ∙ among_from (name_of g m) names i,
      )

  -- a module that no part is about shows the pairs of the grammar
  untold : (m : ℕ) → ¬ IsIn (name_of g m) (deps_names parts.deps) → (i o : ℕ) → is_shown g parts.deps m i o ≡ is_given g.given m i o
  untold m never i o = by (some (is_about g m) parts.deps) refl
    where
      by : (b : Bool) → some (is_about g m) parts.deps ≡ b → is_shown g parts.deps m i o ≡ is_given g.given m i o
      by true e =
          let r = some_gives (is_about g m) parts.deps e in
          absurd (never (subst (λ n. IsIn n (deps_names parts.deps)) (sym (same_bytes (name_of g m) (r.0).«module» r.2)) (in_map (λ (p : DepsPart). p.«module») r.0 parts.deps r.1)))
      by false e = ap (λ b. cond b (some (λ (d : DepsPart). is_about g m d && some (is_pair g m i o) d.pairs) parts.deps) (is_given g.given m i o)) e

  by_default : (m : ℕ) → m < length g.modules → expands (view_of g parts) m ≡ false → ¬ IsIn (name_of g m) (deps_names parts.deps) → IsShownByDefault g (view_of g parts) m
  by_default m below shut never =
      let closed = sym (expands_is g parts m below) ∙ shut in
      record {
        atomic = λ a i o hi ho. shows_is g parts m i o below closed hi ho ∙ untold m never i o;
        composite = λ c i o hi ho. shows_is g parts m i o below closed hi ho ∙ (untold m never i o ∙ composite_all g formed m (composite_is g m c) i o);
      }

  -- one that a part is about shows the pairs that it names
  given : (d : DepsPart) → IsIn d parts.deps → ShowsPart g (view_of g parts) d
  given d there m i o below same hi ho =
      let closed : is_expanded g parts m ≡ false =
      ap (is_expanded g parts) (sym (number_is g formed m below) ∙ ap (number_in g) same) ∙ on_shown d there in
      let is = shows_is g parts m i o below closed hi ho
      ∙ shown_by g parts.deps m d there (bytes_same (name_of g m) d.«module» same) (λ e h t. one_part d e there h (sym (same_bytes (name_of g m) e.«module» t) ∙ same)) i o in (
        λ h.
            let r = some_gives (is_pair g m i o) d.pairs (sym is ∙ h) in
            let both = and_parts (bytes_eq (input_name g m i) (r.0).input) (bytes_eq (output_name g m o) (r.0).output) r.2 in
            (r.0, r.1, sym (same_bytes (input_name g m i) (r.0).input both.0), sym (same_bytes (output_name g m o) (r.0).output both.1)),
        λ e.
            is ∙ some_from (is_pair g m i o) e.0 d.pairs e.1
            (and_from (bytes_eq (input_name g m i) (e.0).input) (bytes_eq (output_name g m o) (e.0).output)
            (bytes_same (input_name g m i) (e.0).input (sym e.2)) (bytes_same (output_name g m o) (e.0).output (sym e.3))),
      )

  pub described : IsDescribed g parts (view_of g parts)
  described = record {
    is_view = view_is;
    all = all_expanded;
    named = named_expanded;
    by_default = by_default;
    given = given;
  }

pub law : DescribedLaw
law g parts formed viewed = described g parts formed viewed
