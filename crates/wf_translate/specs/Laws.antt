-- A law of bits that are read over a package.
use Rattle.std.specs.Prelude.{Bool, List}
use Rattle.wf_model.specs.Grammar.{Grammar}
use Rattle.package_model.specs.Packages.{LoopEntry}
use Rattle.package_model.specs.Loops.{AreLoopsOf, AreGoodLoops}
use Rattle.package_model.specs.Translating.{Loops, Translation, IsTranslation}

-- over a package with good loops bits have a translation
abbrev pub SomeTranslationLaw : Type 0
SomeTranslationLaw =
    (g : Grammar) (entries : List LoopEntry) (loop : Loops) → AreGoodLoops g entries → AreLoopsOf g entries loop →
    (bits : List Bool) → (t : Translation) × IsTranslation g loop bits t
