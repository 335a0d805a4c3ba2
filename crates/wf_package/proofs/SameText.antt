-- Views that show the same have the same text.
use Rattle.std.proofs.Common.{◌≡◌, ℕ, List, sym, ap, ap₂, ◌∙◌}
use Rattle.wf_model.specs.Grammar.{Grammar}
use Rattle.wf_model.specs.View.{View}
use Rattle.package_model.specs.Shown.{AreSeen, shown_of}
use Rattle.package_model.proofs.Places.{seen_lists_law}
use Rattle.wf_package.specs.PackageText.{package_text, IsPackageText}
use Rattle.wf_package.specs.Laws.{SameTextLaw}

-- the lists of what is seen are the only ones, so the text is that of what they show
text_is : (g : Grammar) (u : View) (ms ps : List ℕ) → AreSeen g u ms ps → (x : List ℕ) → IsPackageText g u x → x ≡ package_text (shown_of g u ms ps)
text_is g u ms ps seen x t =
    let same = seen_lists_law g u t.0 t.1 ms ps t.2 seen in
    t.3 ∙ ap₂ (λ ns qs. package_text (shown_of g u ns qs)) same.0 same.1

pub same_text_law : SameTextLaw
same_text_law g h u w ms ps ns qs seen also same x y tx ty =
    text_is g u ms ps seen x tx ∙ ap package_text same ∙ sym (text_is h w ns qs also y ty)
