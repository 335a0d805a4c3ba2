-- Entries of loops that are numbered one by one.
use Rattle.std.proofs.Common.{◌≡◌, ◌≤◌, ◌-◌, ℕ, List, [], ◌∷◌, ◌++◌, length, take, drop, get_or, refl, sym, ap, ap₂, ◌∙◌, subst, inl, inr, arith, append_assoc, append-nil}
use Rattle.std.proofs.lemmas.List.{take_all}
use Rattle.wf_model.specs.Lists.{IsIn}
use Rattle.wf_model.specs.Reach.{Step}
use Rattle.package_model.specs.Packages.{LoopEntry}
use Rattle.package_file.specs.declared.parts.LoopPart.{LoopPart}
use Rattle.package_file.specs.Packed.{said_step, said_entry, said_entries}
use Rattle.package_file.specs.Numbers.{HasSmallNumbers, HaveLargeNumber}

-- the entries of all are those that are made and those of what is left, which is a part of all
abbrev pub AreSoFar : List LoopPart → List LoopEntry → List LoopPart → Type 0
AreSoFar all made left = (said_entries all ≡ made ++ said_entries left) × ((p : LoopPart) → IsIn p left → IsIn p all)

first_in : (left : List LoopPart) (p : LoopPart) → 1 ≤ length left → p ≡ get_or left 0 p → IsIn p left
first_in [] p some is = absurd (omega arith)
first_in (q ∷ left) p some is = inl is

-- one entry more
pub one_more : (all : List LoopPart) (made new : List LoopEntry) (left : List LoopPart) (p : LoopPart) (e : LoopEntry) → AreSoFar all made left → 1 ≤ length left → p ≡ get_or left 0 p
    → e.module_name ≡ p.«module» → e.step ≡ said_step p → new ≡ made ++ e ∷ [] → AreSoFar all new (take (length left - 1) (drop 1 left))
one_more all made new [] p e far some is name step more = absurd (omega arith)
one_more all made new (q ∷ left) p e far some is name step more =
    let rest : take (length (q ∷ left) - 1) left ≡ left = take_all (length (q ∷ left) - 1) left (omega arith) in
    let same : said_entry q ≡ e = sym (ap₂ (λ (n : List ℕ) (s : Step). record { module_name = n; step = s }) name step ∙ ap said_entry is) in (
      far.0
          ∙ (ap (λ x. made ++ x ∷ said_entries left) same
          ∙ (sym (append_assoc made (e ∷ []) (said_entries left))
          ∙ (ap (λ l. l ++ said_entries left) (sym more)
          ∙ ap (λ l. new ++ said_entries l) (sym rest)))),
      λ x i. far.1 x (inr (subst (IsIn x) rest i)),
    )

-- an entry with a large number
pub large_first : (all : List LoopPart) (made : List LoopEntry) (left : List LoopPart) (p : LoopPart) → AreSoFar all made left → 1 ≤ length left → p ≡ get_or left 0 p → (HasSmallNumbers (said_step p) → ⊥) → HaveLargeNumber all
large_first all made left p far some is large = (p, far.1 p (first_in left p some is), large)

-- none is left
pub all_made : (all : List LoopPart) (made : List LoopEntry) (left : List LoopPart) → AreSoFar all made left → length left ≤ 0 → made ≡ said_entries all
all_made all made [] far none = sym (far.0 ∙ append-nil made)
all_made all made (q ∷ left) far none = absurd (omega arith)
