-- The text of the package of a view is read as this package.
use Rattle.std.proofs.Common.{◌≡◌, [], sym, ap, ap₂, ◌∙◌, subst}
use Rattle.wf_model.specs.WellFormed.{IsWellFormed}
use Rattle.wf_model.specs.Proper.{IsProper}
use Rattle.wf_model.specs.Linear.{IsLinear}
use Rattle.wf_model.specs.Grammar.{Grammar}
use Rattle.wf_spec.specs.Held.{HeldGrammar}
use Rattle.wf_form.specs.Forming.{held_of}
use Rattle.package_model.specs.Shown.{Shown, shown_of}
use Rattle.package_model.specs.Packages.{package_of, loops_of, loop_of}
use Rattle.package_model.specs.Loops.{AreLoopsOf, AreGoodLoops}
use Rattle.package_model.specs.Laws.{PackageLaw, PackageLoopsLaw, SeenListsLaw}
use Rattle.package_model.proofs.SameLoops.{one_loops}
use Rattle.wf_loops.specs.Looped.{LoopedValue, loop_in}
use Rattle.package_file.specs.declared.parts.PackageParts.{PackageParts}
use Rattle.package_file.specs.Form.{TellsParts}
use Rattle.package_file.specs.Packed.{said_entries, IsSafeByDefault, TellsPackage, IsHeldPackage}
use Rattle.wf_package.specs.PackageText.{package_text}
use Rattle.package_laws.specs.ReadBack.{held_package_of, ArePartsOf, IsPackageOf, IsReadBack, ReadBackLaw}
use Rattle.package_laws.proofs.GrammarBack.{grammar_back, parts_formed}
use Rattle.package_laws.proofs.SpelledLoops.{loops_back}
use Rattle.package_laws.proofs.SpelledPackages.{package_parts, package_told}
use Rattle.package_file.proofs.OneReading.{one_told, no_fault}
use Rattle.package_laws.proofs.HeldPackages.{held_package, held_loops, package_held}

-- what makes the package of what is shown one that can be read
record IsGood (s : Shown) : Type 0 where
  formed : IsWellFormed (package_of s)
  proper : IsProper (package_of s)
  linear : IsLinear (package_of s)
  safe : IsSafeByDefault (package_of s)
  good : AreGoodLoops (package_of s) (loops_of s)
  loops : AreLoopsOf (package_of s) (loops_of s) (loop_of s)

module _ (s : Shown) (h : IsGood s) where
  abbrev g : Grammar
  g = package_of s

  abbrev x : PackageParts
  x = package_parts s

  own_told : TellsParts (package_text s) x
  own_told = package_told s h.formed h.good

  own_grammar : held_of x.grammar ≡ held_package_of s
  own_grammar = ap (λ k. record { core = k; versions = [] }) (grammar_back g h.formed)

  own_parts : ArePartsOf s x
  own_parts =
      let same = sym (grammar_back g h.formed) in
      let entries = subst (AreGoodLoops g) (sym (loops_back (loops_of s))) h.good in
      record {
        good = record {
          grammar = record { formed = parts_formed g h.formed; proper = subst IsProper same h.proper; linear = subst IsLinear same h.linear };
          safe = subst IsSafeByDefault same h.safe;
          loops = subst (λ k. AreGoodLoops k (said_entries x.loops)) same entries;
        };
        grammar = own_grammar;
        loops = loops_back (loops_of s);
      }

  -- a package that the text tells is told by these parts
  is_package : (v : LoopedValue) → TellsPackage (package_text s) v → IsPackageOf s v
  is_package v t =
      let same = one_told (package_text s) x own_told t.parts t.read in
      let grammar = t.is.grammar ∙ (ap (λ (y : PackageParts). held_of y.grammar) (sym same) ∙ own_grammar) in
      let entries = ap (λ (y : PackageParts). said_entries y.loops) (sym same) ∙ loops_back (loops_of s) in
      let of_grammar = subst (λ (k : HeldGrammar). AreLoopsOf k.core (said_entries t.parts.loops) (loop_in v.steps)) grammar t.is.loops in
      let of_entries = subst (λ es. AreLoopsOf g es (loop_in v.steps)) entries of_grammar in
      let same_loops = one_loops g (loops_of s) (loop_in v.steps) (loop_of s) of_entries h.loops in
      record { grammar = grammar; loops = λ m. ap (λ loop. loop m) same_loops }

  own_package : (v : LoopedValue) × TellsPackage (package_text s) v × IsHeldPackage v
  own_package =
      let v = held_package s h.formed h.proper h.linear in
      let loops = subst (AreLoopsOf g (loops_of s)) (sym (held_loops s h.formed h.proper h.linear)) h.loops in
      let entries = subst (λ es. AreLoopsOf g es (loop_in v.steps)) (sym (loops_back (loops_of s))) loops in (
        v,
        record { parts = x; read = own_told; good = own_parts.good; is = record { grammar = sym own_grammar; loops = entries } },
        package_held s h.formed h.proper h.linear h.safe h.good h.loops,
      )

  read_as_package : IsReadBack s (package_text s)
  read_as_package = record {
    told = own_package;
    held = is_package;
    parts = λ y t. subst (ArePartsOf s) (one_told (package_text s) x own_told y t) own_parts;
    faultless = no_fault (package_text s) x own_told own_parts.good;
  }

-- by the laws of packages, that of a safe view can be read
pub read_back : PackageLaw → PackageLoopsLaw → SeenListsLaw → ReadBackLaw
read_back packages loops seen_lists g u ms ps formed proper linear composites safe seen text is =
    let p = packages g u ms ps composites seen in
    let l = loops g u ms ps formed linear composites seen in
    let here = read_as_package (shown_of g u ms ps) (record {
      formed = p.formed formed;
      proper = p.proper proper;
      linear = p.linear linear;
      safe = p.safe formed proper safe;
      good = l.0;
      loops = l.1;
    }) in
    let lists = seen_lists g u ms ps is.0 is.1 seen is.2 in
    let same : package_text (shown_of g u ms ps) ≡ text = ap₂ (λ ns qs. package_text (shown_of g u ns qs)) lists.0 lists.1 ∙ sym is.3 in
    subst (IsReadBack (shown_of g u ms ps)) same here
