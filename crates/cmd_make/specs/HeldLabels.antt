-- Labels as `drill` holds them: of the items of the pairs that are drawn.
use Rattle.std.specs.Prelude.{◌≡◌, ℕ, ◌<◌, Bool, List, [], map, length, get_or}
use Rattle.rand_pcg.specs.Lcg.{Lcg}
use Rattle.wf_model.specs.Lists.{IsIn}
use Rattle.wf_model.specs.Grammar.{Grammar}
use Rattle.bit_pack.specs.Bits.{packed}
use Rattle.label_model.specs.Labels.{Label, IsLabel, label_bits}
use Rattle.wf_labeller.specs.Groups.{longest_of}
use Rattle.cmd_make.specs.DrillText.{label_no, pair_count, pairs_drawn}
use Rattle.cmd_make.specs.declared.pairs.Pair.{Pair as PairHeld}
use Rattle.cmd_make.specs.declared.held.PairLabels.{PairLabels as PairLabelsHeld}
use Rattle.cmd_make.specs.declared.labelling.Drawn.{Drawn as DrawnHeld}

-- labels of the grammar, each held as the bytes that its bits fill
pub record AreHeldLabels (g : Grammar) (labels : List Label) (held : List (List ℕ)) : Type 0 where
  pub is : held ≡ map (λ l. packed (label_bits l)) labels
  pub of_it : (l : Label) → IsIn l labels → IsLabel g l

-- the labels of the two items of each pair, of all labels of a run
pub record AreHeldPairs (g : Grammar) (labels : List Label) (pairs : List (ℕ × ℕ)) (held : PairLabelsHeld) : Type 0 where
  pub firsts : AreHeldLabels g (map (λ (p : ℕ × ℕ). label_no labels p.0) pairs) held.firsts
  pub seconds : AreHeldLabels g (map (λ (p : ℕ × ℕ). label_no labels p.1) pairs) held.seconds

-- a pair of numbers
abbrev pub pair_of : PairHeld → ℕ × ℕ
pair_of p = (p.first, p.second)

-- what stands behind the last pair
abbrev pub no_pair : ℕ × ℕ
no_pair = (0, 0)

-- both numbers of each pair are below this one
abbrev pub AreWithin : ℕ → List (ℕ × ℕ) → Type 0
AreWithin count pairs = (p : ℕ × ℕ) → IsIn p pairs → (p.0 < count) × (p.1 < count)

-- of labels, each told by its bits, those of the first items of pairs, each as the bytes that its bits fill; and those of the second ones
abbrev pub firsts_of : List (List Bool) → List (ℕ × ℕ) → List (List ℕ)
firsts_of labels pairs = map (λ (p : ℕ × ℕ). packed (get_or labels p.0 [])) pairs

abbrev pub seconds_of : List (List Bool) → List (ℕ × ℕ) → List (List ℕ)
seconds_of labels pairs = map (λ (p : ℕ × ℕ). packed (get_or labels p.1 [])) pairs

-- how many labels there are, how many bits the longest has, and the labels of the pairs that these draws pick
pub record IsDrawnOf (labels : List (List Bool)) (draws : Lcg) (d : DrawnHeld) : Type 0 where
  pub items_are : d.items ≡ length labels
  pub longest_is : d.longest ≡ longest_of labels
  pub firsts_are : d.labels.firsts ≡ firsts_of labels (pairs_drawn (pair_count (length labels)) (length labels) draws)
  pub seconds_are : d.labels.seconds ≡ seconds_of labels (pairs_drawn (pair_count (length labels)) (length labels) draws)
