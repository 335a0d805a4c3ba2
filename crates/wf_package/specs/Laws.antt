-- Laws of the text of a package.
use Rattle.std.specs.Prelude.{◌≡◌, ℕ, List}
use Rattle.wf_model.specs.Grammar.{Grammar}
use Rattle.wf_model.specs.View.{View}
use Rattle.package_model.specs.Shown.{AreSeen, shown_of}
use Rattle.wf_package.specs.PackageText.{IsPackageText}

-- views that show the same, be it of different grammars, have the same text: it tells nothing but what is shown
abbrev pub SameTextLaw : Type 0
SameTextLaw =
    (g h : Grammar) (u w : View) (ms ps ns qs : List ℕ) → AreSeen g u ms ps → AreSeen h w ns qs → shown_of g u ms ps ≡ shown_of h w ns qs →
    (x y : List ℕ) → IsPackageText g u x → IsPackageText h w y → x ≡ y
