-- The bytes that no name has, and how item names are split.
use Rattle.std.proofs.Common.{◌≡◌, ℕ, List, ◌∷◌, ◌++◌, sym, ◌∙◌, subst, inl, inr, arith}
use Rattle.wf_model.specs.Lists.{IsIn}
use Rattle.wf_model.specs.Run.{IsNameByte}
use Rattle.wf_model.specs.WellFormed.{IsShortName}
use Rattle.wf_model.specs.Items.{IsItemName, IsNameOf}
use Rattle.wf_model.proofs.Lists.{in_append_cases}
use Rattle.wf_model.proofs.ItemNames.{dotted_at}
use Rattle.name_text.specs.Names.{NameLaw}
use Rattle.name_text.proofs.Cuts.{one_cut}

dot_no_byte : IsNameByte 46 → ⊥
dot_no_byte h = grind (arith, h)

space_no_byte : IsNameByte 32 → ⊥
space_no_byte h = grind (arith, h)

pub no_dot : (n : List ℕ) → IsShortName n → IsIn 46 n → ⊥
no_dot n s h = dot_no_byte (s.0.1 46 h)

pub no_space : (n : List ℕ) → IsShortName n → IsIn 32 n → ⊥
no_space n s h = space_no_byte (s.0.1 32 h)

-- an item name has no space
pub item_no_space : (n : List ℕ) → IsItemName n → IsIn 32 n → ⊥
item_no_space n h i =
    let a = h.0 in
    let b = h.1 in
    elim (in_append_cases 32 a (46 ∷ b) (subst (λ z. IsIn 32 z) (h.2.0 ∙ dotted_at a b) i)) [
      | inl k ↦ no_space a h.2.1 k
      | inr k ↦ elim k [ inl e ↦ grind (arith, e) | inr j ↦ no_space b h.2.2 j ]
    ]

-- an item name is split in one way
pub one_name : (n a b c d : List ℕ) → IsNameOf n a b → n ≡ c ++ 46 ∷ d → (IsIn 46 c → ⊥) → (a ≡ c) × (b ≡ d)
one_name n a b c d h e k = one_cut 46 a b c d (no_dot a h.1) k (sym (dotted_at a b) ∙ sym h.0 ∙ e)

pub name_law : NameLaw
name_law n a b c d h k = one_name n a b c d h (k.0 ∙ dotted_at c d) (no_dot c k.1)
