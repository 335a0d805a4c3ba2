-- The verdict on two labels that a package gives without the grammar of which they are.
use Rattle.std.specs.Prelude.{◌≡◌, ℕ, List}
use Rattle.wf_model.specs.Grammar.{Grammar}
use Rattle.wf_model.specs.DefaultView.{default_view}
use Rattle.verdict_model.specs.declared.verdict.Verdict.{Verdict}
use Rattle.verdict_model.specs.declared.verdict.Verdict.TheVariants.{Hidden1, Hidden2}
use Rattle.verdict_model.specs.Verdicts.{IsVerdict}
use Rattle.package_model.specs.Translating.{Loops, Translation, Inside, Outside, Malformed, TranslatesTo}

-- what two translations tell: a label that is outside is hidden, and the first comes first; two that are inside have their verdict under the default view of the package's grammar. Bytes that are malformed tell nothing
abbrev pub IsTold : Grammar → Translation → Translation → Verdict → Type 0
IsTold g Malformed y v = ⊥
IsTold g Outside Malformed v = ⊥
IsTold g Outside Outside v = v ≡ Hidden1
IsTold g Outside (Inside l) v = v ≡ Hidden1
IsTold g (Inside k) Malformed v = ⊥
IsTold g (Inside k) Outside v = v ≡ Hidden2
IsTold g (Inside k) (Inside l) v = IsVerdict g (default_view g) k l v

-- the verdict of a package on the bytes of two labels
pub record IsConsulted (g : Grammar) (loop : Loops) (x y : List ℕ) (v : Verdict) : Type 0 where
  pub first : Translation
  pub second : Translation
  pub first_is : TranslatesTo g loop x first
  pub second_is : TranslatesTo g loop y second
  pub told : IsTold g first second v
