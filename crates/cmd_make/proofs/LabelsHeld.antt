-- Labels that are held as the bytes that their bits fill.
use Rattle.std.proofs.Common.{◌≡◌, ℕ, ◌+◌, ◌<◌, ◌≤◌, Bool, List, [], ◌∷◌, ◌++◌, map, length, take, get_or, refl, sym, ap, ◌∙◌, subst, inl, inr, append-nil}
use Rattle.std.specs.Prelude.{max}
use Rattle.std.proofs.lemmas.List.{length-map, get_or-map, map-append, take_more}
use Rattle.wf_model.specs.Grammar.{Grammar}
use Rattle.wf_model.specs.Lists.{IsIn}
use Rattle.wf_model.proofs.Lists.{in_map, is_at, at_in}
use Rattle.bit_pack.specs.Bits.{Holds, packed}
use Rattle.bit_pack.proofs.Packing.{packed_law}
use Rattle.label_model.specs.Labels.{Label, Input, IsLabel, label_bits}
use Rattle.label_model.specs.Reading.{IsLabelBytes}
use Rattle.label_model.proofs.LabelBits.{whole_law}
use Rattle.wf_label.specs.Values.{AreLabelBits}
use Rattle.wf_labeller.specs.Groups.{longest_of}
use Rattle.cmd_make.specs.DrillText.{label_no, longest}
use Rattle.cmd_make.specs.HeldLabels.{AreHeldLabels, AreHeldPairs, AreWithin, no_pair, pair_of, firsts_of, seconds_of}
use Rattle.cmd_make.specs.declared.pairs.Pair.{Pair as PairHeld}
use Rattle.cmd_make.specs.declared.held.PairLabels.{PairLabels as PairLabelsHeld}

module _ (g : Grammar) (ls : List Label) (held : List (List ℕ)) (h : AreHeldLabels g ls held) where
  pub count_held : length held ≡ length ls
  count_held = ap (λ (l : List (List ℕ)). length l) h.is ∙ length-map ls (λ l. packed (label_bits l))

  -- of the item of a number: its label, and the bytes of it
  module _ (k : ℕ) (below : k < length held) where
    within : k < length ls
    within = subst (λ n. k < n) count_held below

    pub label_there : IsLabel g (label_no ls k)
    label_there = h.of_it (label_no ls k) (at_in (label_no ls k) k ls (is_at k ls (Input 0) within))

    pub bytes_there : get_or held k [] ≡ packed (label_bits (label_no ls k))
    bytes_there = ap (λ l. get_or l k []) h.is ∙ get_or-map (λ l. packed (label_bits l)) ls k (Input 0) [] within

    holds_there : (bytes : List ℕ) → bytes ≡ get_or held k [] → Holds bytes (label_bits (label_no ls k))
    holds_there bytes is =
        let bits = label_bits (label_no ls k) in
        subst (λ b. Holds b bits) (sym (is ∙ bytes_there)) (packed_law bits).holds

    pub is_told : (bytes : List ℕ) → bytes ≡ get_or held k [] → IsLabelBytes g bytes
    is_told bytes is = (label_no ls k, label_there, holds_there bytes is)

    -- what the bytes are read as is the label
    pub bits_told : (bytes : List ℕ) (bits : List Bool) → bytes ≡ get_or held k [] → AreLabelBits g bits × Holds bytes bits → bits ≡ label_bits (label_no ls k)
    bits_told bytes bits is read =
        let l = label_no ls k in
        read.0.2 ∙ ap label_bits (whole_law g read.0.0 l bytes [] read.0.1 label_there (subst (Holds bytes) read.0.2 read.1) (subst (λ b. Holds b (label_bits l)) (sym (append-nil bytes)) (holds_there bytes is))).1

-- the labels of the items of pairs
module _ (g : Grammar) (ls : List Label) (ps : List (ℕ × ℕ)) (held : PairLabelsHeld) (h : AreHeldPairs g ls ps held) where
  pub count_pairs : length held.firsts ≡ length ps
  count_pairs = count_held g (map (λ (p : ℕ × ℕ). label_no ls p.0) ps) held.firsts h.firsts ∙ length-map ps (λ (p : ℕ × ℕ). label_no ls p.0)

  -- of the pair of a number
  module _ (k : ℕ) (below : k < length held.firsts) where
    inside : k < length ps
    inside = subst (λ n. k < n) count_pairs below

    pub second_below : k < length held.seconds
    second_below = subst (λ n. k < n) (sym (count_held g (map (λ (p : ℕ × ℕ). label_no ls p.1) ps) held.seconds h.seconds ∙ length-map ps (λ (p : ℕ × ℕ). label_no ls p.1))) inside

    first_is : label_no (map (λ (p : ℕ × ℕ). label_no ls p.0) ps) k ≡ label_no ls (get_or ps k no_pair).0
    first_is = get_or-map (λ (p : ℕ × ℕ). label_no ls p.0) ps k no_pair (Input 0) inside

    second_is : label_no (map (λ (p : ℕ × ℕ). label_no ls p.1) ps) k ≡ label_no ls (get_or ps k no_pair).1
    second_is = get_or-map (λ (p : ℕ × ℕ). label_no ls p.1) ps k no_pair (Input 0) inside

    pub first_there : IsLabel g (label_no ls (get_or ps k no_pair).0)
    first_there = subst (IsLabel g) first_is (label_there g (map (λ (p : ℕ × ℕ). label_no ls p.0) ps) held.firsts h.firsts k below)

    pub second_there : IsLabel g (label_no ls (get_or ps k no_pair).1)
    second_there = subst (IsLabel g) second_is (label_there g (map (λ (p : ℕ × ℕ). label_no ls p.1) ps) held.seconds h.seconds k second_below)

    pub first_bits : (bits : List Bool) → bits ≡ label_bits (label_no (map (λ (p : ℕ × ℕ). label_no ls p.0) ps) k) → bits ≡ label_bits (label_no ls (get_or ps k no_pair).0)
    first_bits bits e = e ∙ ap label_bits first_is

    pub second_bits : (bits : List Bool) → bits ≡ label_bits (label_no (map (λ (p : ℕ × ℕ). label_no ls p.1) ps) k) → bits ≡ label_bits (label_no ls (get_or ps k no_pair).1)
    second_bits bits e = e ∙ ap label_bits second_is

-- of labels that are told by their bits, those of the items of pairs are held as bytes
module _ (ls : List Label) where
  pub firsts_held : (ps : List (ℕ × ℕ)) → AreWithin (length ls) ps → firsts_of (map label_bits ls) ps ≡ map (λ l. packed (label_bits l)) (map (λ (p : ℕ × ℕ). label_no ls p.0) ps)
  firsts_held [] h = refl
  firsts_held (p ∷ ps) h =
      ap (λ b. packed b ∷ firsts_of (map label_bits ls) ps) (get_or-map label_bits ls p.0 (Input 0) [] (h p (inl refl)).0) ∙
      ap (λ l. packed (label_bits (label_no ls p.0)) ∷ l) (firsts_held ps (λ q i. h q (inr i)))

  pub seconds_held : (ps : List (ℕ × ℕ)) → AreWithin (length ls) ps → seconds_of (map label_bits ls) ps ≡ map (λ l. packed (label_bits l)) (map (λ (p : ℕ × ℕ). label_no ls p.1) ps)
  seconds_held [] h = refl
  seconds_held (p ∷ ps) h =
      ap (λ b. packed b ∷ seconds_of (map label_bits ls) ps) (get_or-map label_bits ls p.1 (Input 0) [] (h p (inl refl)).1) ∙
      ap (λ l. packed (label_bits (label_no ls p.1)) ∷ l) (seconds_held ps (λ q i. h q (inr i)))

-- the longest of labels, told by their bits
pub longest_is : (ls : List Label) → longest_of (map label_bits ls) ≡ longest ls
longest_is [] = refl
longest_is (l ∷ ls) = ap (max (length (label_bits l))) (longest_is ls)

-- the next pair
module _ (pairs : List PairHeld) (k : ℕ) (d : PairHeld) (below : k < length pairs) where
  pub next_within : (count : ℕ) → AreWithin count (map pair_of pairs) → ((get_or pairs k d).first < count) × ((get_or pairs k d).second < count)
  next_within count within = let p = get_or pairs k d in within (pair_of p) (in_map pair_of p pairs (at_in p k pairs (is_at k pairs d below)))

  pub next_first : (labels : List (List Bool)) (now new : List (List ℕ)) (label : List ℕ) → now ≡ firsts_of labels (map pair_of (take k pairs)) → new ≡ now ++ label ∷ [] → label ≡ packed (get_or labels (get_or pairs k d).first []) → new ≡ firsts_of labels (map pair_of (take (k + 1) pairs))
  next_first labels now new label so_far push is =
      push ∙ (ap (λ l. l ++ label ∷ []) so_far ∙ (ap (λ b. firsts_of labels (map pair_of (take k pairs)) ++ b ∷ []) is ∙
      sym (ap (λ l. firsts_of labels (map pair_of l)) (take_more pairs k d below) ∙
      (ap (firsts_of labels) (map-append pair_of (take k pairs) (get_or pairs k d ∷ [])) ∙ map-append (λ (p : ℕ × ℕ). packed (get_or labels p.0 [])) (map pair_of (take k pairs)) (pair_of (get_or pairs k d) ∷ [])))))

  pub next_second : (labels : List (List Bool)) (now new : List (List ℕ)) (label : List ℕ) → now ≡ seconds_of labels (map pair_of (take k pairs)) → new ≡ now ++ label ∷ [] → label ≡ packed (get_or labels (get_or pairs k d).second []) → new ≡ seconds_of labels (map pair_of (take (k + 1) pairs))
  next_second labels now new label so_far push is =
      push ∙ (ap (λ l. l ++ label ∷ []) so_far ∙ (ap (λ b. seconds_of labels (map pair_of (take k pairs)) ++ b ∷ []) is ∙
      sym (ap (λ l. seconds_of labels (map pair_of l)) (take_more pairs k d below) ∙
      (ap (seconds_of labels) (map-append pair_of (take k pairs) (get_or pairs k d ∷ [])) ∙ map-append (λ (p : ℕ × ℕ). packed (get_or labels p.1 [])) (map pair_of (take k pairs)) (pair_of (get_or pairs k d) ∷ [])))))
