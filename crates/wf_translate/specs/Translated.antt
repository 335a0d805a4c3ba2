-- What is translated over a package.
use Rattle.std.specs.Prelude.{◌≡◌, ℕ, Bool, List}
use Rattle.wf_model.specs.Grammar.{Grammar}
use Rattle.wf_model.specs.Reach.{Step}
use Rattle.label_model.specs.Labels.{Place, Label, IsLabel, label_bits}
use Rattle.label_model.specs.Places.{place_of}
use Rattle.package_model.specs.Translating.{Loops, Inside, Outside, TranslatesTo}
use Rattle.wf_translate.specs.Readable.{ReadsPlace}
use Rattle.wf_translate.specs.declared.translating.Packed.{Packed}
use Rattle.wf_translate.specs.declared.translating.Packed.TheVariants.{Inside as InsideHeld, Outside as OutsideHeld}

-- the bits are read at m as a place of the package's grammar
pub record IsPlaceRead (g : Grammar) (loop : Loops) (m : ℕ) (bits : List Bool) (p : Place) : Type 0 where
  pub way : List Step
  pub production : ℕ
  pub edge : ℕ
  pub reads : ReadsPlace g loop m bits way production edge
  pub is : p ≡ place_of g m way production edge

-- the bytes are inside, as a label of the package's grammar that has these bits
pub record IsPackedInside (g : Grammar) (loop : Loops) (bytes : List ℕ) (bits : List Bool) : Type 0 where
  pub label : Label
  pub of_it : IsLabel g label
  pub translated : TranslatesTo g loop bytes (Inside label)
  pub is : bits ≡ label_bits label

-- what bytes are translated to
abbrev pub IsTranslatedAs : Grammar → Loops → List ℕ → Packed → Type 0
IsTranslatedAs g loop bytes (InsideHeld bits) = IsPackedInside g loop bytes bits
IsTranslatedAs g loop bytes OutsideHeld = TranslatesTo g loop bytes Outside
