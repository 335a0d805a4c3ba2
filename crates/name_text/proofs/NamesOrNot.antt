-- Whether bytes are a name, or the name of an item, and where they are cut.
use Rattle.std.proofs.Common.{◌≡◌, ◌⊎◌, ℕ, ◌≤◌, List, [], ◌∷◌, ◌++◌, length, sym, ap, ◌∙◌, subst, inl, inr, ⊎_elim}
use Rattle.wf_model.specs.Lists.{IsIn}
use Rattle.wf_model.specs.Run.{IsNameByte}
use Rattle.wf_model.specs.WellFormed.{IsShortName}
use Rattle.wf_model.specs.Items.{IsItemName}
use Rattle.wf_model.proofs.Deciding.{Either, either_both, either_one, number_either, below_either, within_either, all_in}
use Rattle.wf_model.proofs.ItemNames.{dotted_at}
use Rattle.name_text.proofs.Cuts.{stands}
use Rattle.name_text.proofs.Names.{one_name}

name_byte_either : (b : ℕ) → Either (IsNameByte b)
name_byte_either b = either_one (between 97 122) (either_one (between 65 90) (either_one (between 48 57) (either_one (number_either b 95) (number_either b 45))))
  where
    between : (low high : ℕ) → Either ((low ≤ b) × (b ≤ high))
    between low high = either_both (within_either low b) (within_either b high)

-- bytes are a name of at most 64 bytes, or not
pub short_name_either : (n : List ℕ) → Either (IsShortName n)
short_name_either n = either_both (either_both (below_either 0 (length n)) (all_in IsNameByte n (λ b i. name_byte_either b))) (within_either (length n) 64)

-- a list has a number, and is cut at the first place where it stands
abbrev pub IsCutAt : ℕ → List ℕ → Type 0
IsCutAt at s = (a : List ℕ) × (b : List ℕ) × (s ≡ a ++ at ∷ b) × (IsIn at a → ⊥)

pub cut_or_lacks : (at : ℕ) (s : List ℕ) → IsCutAt at s ⊎ (IsIn at s → ⊥)
cut_or_lacks at [] = inr (λ i. i)
cut_or_lacks at (x ∷ s) = go (number_either at x) (cut_or_lacks at s)
  where
    go : Either (at ≡ x) → IsCutAt at s ⊎ (IsIn at s → ⊥) → IsCutAt at (x ∷ s) ⊎ (IsIn at (x ∷ s) → ⊥)
    go (inl e) r = inl ([], s, ap (λ y. y ∷ s) (sym e), λ i. i)
    go (inr n) (inl r) = inl (x ∷ r.0, r.1, ap (λ z. x ∷ z) r.2, λ i. ⊎_elim n r.3 i)
    go (inr n) (inr m) = inr (λ i. ⊎_elim n m i)

-- bytes are the name of an item, or not
pub item_name_either : (n : List ℕ) → Either (IsItemName n)
item_name_either n = ⊎_elim by_dot (λ none. inr (λ h. none (stands 46 n h.0 h.1 (h.2.0 ∙ dotted_at h.0 h.1)))) (cut_or_lacks 46 n)
  where
    by_dot : IsCutAt 46 n → Either (IsItemName n)
    by_dot r = ⊎_elim
        (λ names. inl (r.0, r.1, (r.2 ∙ sym (dotted_at r.0 r.1), names.0, names.1)))
        (λ not. inr (λ h. let same = one_name n h.0 h.1 r.0 r.1 h.2 r.2 r.3 in not (subst IsShortName same.0 h.2.1, subst IsShortName same.1 h.2.2)))
        (either_both (short_name_either r.0) (short_name_either r.1))
