-- Which entries of a label file are listed for an item, under a view.
use Rattle.std.specs.Prelude.{◌≡◌, ◌⊎◌, ℕ, List, [], ◌∷◌, ◌++◌, flat_map, codes}
use Rattle.wf_model.specs.Grammar.{Grammar}
use Rattle.wf_model.specs.View.{View}
use Rattle.bit_pack.specs.Bits.{Holds}
use Rattle.label_model.specs.Labels.{Label, IsLabel, label_bits}
use Rattle.label_model.specs.Files.{Entry}
use Rattle.verdict_model.specs.declared.verdict.Verdict.{Verdict}
use Rattle.verdict_model.specs.declared.verdict.Verdict.TheVariants.{Yes}
use Rattle.verdict_model.specs.Verdicts.{IsHidden, IsVerdict}
use Rattle.wf_query.specs.Answers.{HasEntry, HasNoEntry}
use Rattle.wf_lineage.specs.declared.direction.Direction.{Direction}
use Rattle.wf_lineage.specs.declared.direction.Direction.TheVariants.{Upstream, Downstream}

-- the verdict on the label y of an item and the label x of another one, in a direction: upstream, whether the item rests on the other; downstream, whether the other rests on the item
abbrev pub IsVerdictOn : Grammar → View → Direction → Label → Label → Verdict → Type 0
IsVerdictOn g u Upstream y x v = IsVerdict g u x y v
IsVerdictOn g u Downstream y x v = IsVerdict g u y x v

-- an entry is listed for the item of the label y: its bytes are those of a label, and the verdict on the two is yes
abbrev pub IsListed : Grammar → View → Direction → Label → Entry → Type 0
IsListed g u d y e = (x : Label) × IsLabel g x × Holds e.label (label_bits x) × IsVerdictOn g u d y x Yes

-- these are the names of the entries that are listed, in order
abbrev pub AreListed : (Entry → Type 0) → List Entry → List (List ℕ) → Type 0
AreListed Listed [] names = names ≡ []
AreListed Listed (e ∷ es) names =
    (Listed e × ((rest : List (List ℕ)) × AreListed Listed es rest × (names ≡ e.name ∷ rest))) ⊎
    ((Listed e → ⊥) × AreListed Listed es names)

-- names, a line each
abbrev pub lines_of : List (List ℕ) → List ℕ
lines_of names = flat_map (λ n. n ++ codes "\n") names

-- The text for the item of the label y: that it is hidden, and otherwise the names of the entries that are listed, in the order of the file
abbrev pub IsListing : Grammar → View → Direction → List Entry → Label → List ℕ → Type 0
IsListing g u d entries y text =
    (IsHidden g u y × (text ≡ codes "hidden\n")) ⊎
    ((IsHidden g u y → ⊥) × ((names : List (List ℕ)) × AreListed (IsListed g u d y) entries names × (text ≡ lines_of names)))

-- The text for an item of this name: that it is unknown where no entry has the name, and otherwise that for its label
abbrev pub IsListingText : Grammar → View → Direction → List Entry → List ℕ → List ℕ → Type 0
IsListingText g u d entries item text =
    (HasNoEntry entries item × (text ≡ codes "unknown\n")) ⊎
    ((y : Label) × HasEntry g entries item y × IsListing g u d entries y text)
