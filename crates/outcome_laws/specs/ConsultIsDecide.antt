-- What `consult` writes of a package that was written is what `decide` writes under its view.
use Rattle.std.specs.Prelude.{◌≡◌, ◌⊎◌, ◌≤◌, ℕ, false, List, [], ◌∷◌, length, None, codes}
use Rattle.wf_io.specs.Told.{File}
use Rattle.wf_message.specs.Endings.{End, Done, Refused}
use Rattle.cmd_share.specs.PackageTold.{package_kind}
use Rattle.wf_top.specs.Outcome.{IsOutcome}

-- PACKAGE is what `package` wrote over SPEC and VIEW where all was done. It is whole, and not too long
pub record HoldsPackaged (files : List ℕ → File) (spec view source : List ℕ) : Type 0 where
  pub text : List ℕ
  pub packaged : IsOutcome files (codes "package" ∷ spec ∷ view ∷ []) Done text
  pub bytes : (files source).bytes ≡ text
  pub short : length text ≤ package_kind.most
  pub whole : (files source).broken ≡ false

-- how `decide` ends over two words
abbrev pub Decides : (List ℕ → File) → List ℕ → List ℕ → List ℕ → List ℕ → End → List ℕ → Type 0
Decides files spec view first second = IsOutcome files (codes "decide" ∷ spec ∷ view ∷ first ∷ second ∷ [])

-- how `consult` ends over two words
abbrev pub Consults : (List ℕ → File) → List ℕ → List ℕ → List ℕ → End → List ℕ → Type 0
Consults files source first second = IsOutcome files (codes "consult" ∷ source ∷ first ∷ second ∷ [])

-- a label is refused, by its place among the words
abbrev pub label_refused : List ℕ → End
label_refused place = Refused place None (codes "Malformed")

-- What `consult` does over two words stands so to what `decide` does over them
pub record IsConsultedAsDecided (files : List ℕ → File) (spec view source first second : List ℕ) : Type 0 where
  -- what `decide` answers, `consult` answers
  pub answered : (text : List ℕ) → Decides files spec view first second Done text → Consults files source first second Done text
  -- a first label that `consult` refuses, `decide` refuses
  pub first_refused : (text : List ℕ) → Consults files source first second (label_refused (codes "label 1")) text → Decides files spec view first second (label_refused (codes "label 1")) text
  -- and where `consult` refuses the second, `decide` refuses one of the two: bytes behind what the view does not show are not read over a package, so the first may be no label
  pub second_refused : (text : List ℕ) → Consults files source first second (label_refused (codes "label 2")) text →
      Decides files spec view first second (label_refused (codes "label 1")) text ⊎ Decides files spec view first second (label_refused (codes "label 2")) text

-- What `consult` answers of a package that was written, from two labels, is what `decide` answers under the view, from the same labels and SPEC. So PACKAGE answers in the place of SPEC and VIEW
abbrev pub ConsultIsDecideLaw : Type 0
ConsultIsDecideLaw =
    (files : List ℕ → File) (spec view source : List ℕ) → HoldsPackaged files spec view source →
    (first second : List ℕ) → IsConsultedAsDecided files spec view source first second
