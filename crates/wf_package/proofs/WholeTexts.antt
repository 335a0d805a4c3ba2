-- The text of the parts that are made is that of the package.
use Rattle.std.proofs.Common.{◌≡◌, ℕ, List, sym, ap, ap₂, ◌∙◌, subst}
use Rattle.wf_model.specs.Grammar.{Grammar, Given}
use Rattle.wf_model.specs.View.{View}
use Rattle.wf_spec.specs.Held.{HeldGrammar}
use Rattle.wf_view.specs.Held.{HeldView}
use Rattle.package_model.specs.Packages.{LoopEntry}
use Rattle.package_model.specs.Laws.{packaged}
use Rattle.wf_package.specs.PackageText.{text_with_loops, IsPackageText}
use Rattle.wf_package.specs.Parts.{made_by_place, given_part, loop_part, without_given, with_given, bare_package, AreShownParts}
use Rattle.wf_package.specs.declared.places.PlacedNumbers.{PlacedNumbers}
use Rattle.wf_package.proofs.PlacedParts.{given_made, loops_made}
use Rattle.wf_package.proofs.BareGrammar.{open_placed}

module _ (g : Grammar) (u : View) (modules productions : PlacedNumbers) (parts : AreShownParts g u modules productions) where
  abbrev ms : List ℕ
  ms = modules.numbers.items

  abbrev ps : List ℕ
  ps = productions.numbers.items

  pub whole_text : (bare : Grammar) (given : List Given) (entries : List LoopEntry) → bare ≡ without_given (packaged g u ms ps) → given ≡ made_by_place (given_part g u) 0 ms
      → entries ≡ made_by_place (loop_part g u productions.places.items) 0 ms → IsPackageText g u (text_with_loops (with_given given bare) entries)
  whole_text bare given entries made gave looped = (
    ms,
    ps,
    parts.seen,
    ap (λ h. text_with_loops (with_given given h) entries) made
        ∙ ap₂ (λ d e. text_with_loops (with_given d (without_given (packaged g u ms ps))) e) (gave ∙ given_made g u ps 0 ms)
        (looped ∙ loops_made g u ps productions.places.items (open_placed g u modules productions parts) 0 ms (λ m h. (parts.seen.modules m).0 h)),
  )

-- so is that of parts as they are read
module _ (g : HeldGrammar) (v : HeldView) (modules productions : PlacedNumbers) (parts : AreShownParts g.core v.core modules productions) where
  pub text_is : (h : HeldGrammar) (w : HeldView) (ns ks places : List ℕ) (bare : Grammar) (given gave : List Given) (loops entries : List LoopEntry) (text : List ℕ) → h ≡ g → w ≡ v
      → ns ≡ modules.numbers.items → ks ≡ modules.numbers.items → places ≡ productions.places.items → bare ≡ bare_package g.core v.core modules productions → given ≡ made_by_place (given_part g.core v.core) 0 ns
      → loops ≡ made_by_place (loop_part h.core w.core places) 0 ks → gave ≡ given → entries ≡ loops → text ≡ text_with_loops (with_given gave bare) entries → IsPackageText g.core v.core text
  text_is h w ns ks places bare given gave loops entries text same_grammar same_view same_ns same_ks same_places made givens looped same_given same_loops written =
      let looped_too =
      looped ∙ ap (λ (k : HeldGrammar). made_by_place (loop_part k.core w.core places) 0 ks) same_grammar ∙ ap (λ (x : HeldView). made_by_place (loop_part g.core x.core places) 0 ks) same_view
      ∙ ap₂ (λ (l ms : List ℕ). made_by_place (loop_part g.core v.core l) 0 ms) same_places same_ks in
      subst (IsPackageText g.core v.core) (sym (written ∙ ap₂ (λ d e. text_with_loops (with_given d bare) e) same_given same_loops))
      (whole_text g.core v.core modules productions parts bare given loops made (givens ∙ ap (made_by_place (given_part g.core v.core) 0) same_ns) looped_too)
