-- The names of heads, and deps parts on them.
use Rattle.std.proofs.Common.{◌≡◌, ◌↔◌, ◌⊎◌, ℕ, ◌+◌, ◌<◌, ◌≤◌, true, List, [], ◌∷◌, ◌++◌, length, get_or, map, take, Option, sym, ap, subst, ◌∙◌, inl, inr, ⊎_elim}
use Rattle.std.specs.Prelude.{position}
use Rattle.std.proofs.lemmas.List.{map_more, take_all}
use Rattle.wf_model.specs.declared.parts.ProdPart.{ProdPart}
use Rattle.wf_model.specs.declared.parts.DepsPart.{DepsPart}
use Rattle.wf_model.specs.Faults.{is_one_of}
use Rattle.wf_model.specs.Lists.{IsIn}
use Rattle.wf_model.proofs.Lists.{among_gives, among_not, in_append_left, in_append_right, in_append_cases, in_map, in_map_from}
use Rattle.wf_spec.specs.FirstFaults.{each, IsFirstFailing}
use Rattle.wf_form.specs.Rules.{IsOfAtomic}
use Rattle.wf_form.specs.declared.fault.FormFault.TheVariants.{DepsOnComposite}
use Rattle.wf_spec.proofs.FirstFaults.{position_is_first}

-- a name that is taken already
pub taken : (names : List (List ℕ)) (name : List ℕ) → is_one_of names name ≡ true → (n : List ℕ) → IsIn n names ↔ (IsIn n names ⊎ (n ≡ name))
taken names name h n = (inl, ⊎_elim (λ i. i) (λ e. subst (λ m. IsIn m names) (sym e) (among_gives name names h)))

in_last : {A : Type 0} (n : A) (xs : List A) (x : A) → IsIn n (xs ++ x ∷ []) ↔ (IsIn n xs ⊎ (n ≡ x))
in_last n xs x = (
  λ i. ⊎_elim inl (λ l. ⊎_elim inr (λ z. absurd z) l) (in_append_cases n xs (x ∷ []) i),
  ⊎_elim (in_append_left n xs (x ∷ [])) (λ e. in_append_right n xs (x ∷ []) (inl e)),
)

-- one that is added
pub added : (old new : List (List ℕ)) (name : List ℕ) → new ≡ old ++ name ∷ [] → (n : List ℕ) → IsIn n new ↔ (IsIn n old ⊎ (n ≡ name))
added old new name is n = subst (λ (l : List (List ℕ)). IsIn n l ↔ (IsIn n old ⊎ (n ≡ name))) (sym is) (in_last n old name)

-- the heads so far, and the next
pub heads_more : (rules : List ProdPart) (k : ℕ) (p : ProdPart) (name : List ℕ) (old new : List (List ℕ)) → k < length rules → p ≡ get_or rules k p → name ≡ p.head
    → ((n : List ℕ) → IsIn n old ↔ IsIn n (map (λ (r : ProdPart). r.head) (take k rules))) → ((n : List ℕ) → IsIn n new ↔ (IsIn n old ⊎ (n ≡ name)))
    → (n : List ℕ) → IsIn n new ↔ IsIn n (map (λ (r : ProdPart). r.head) (take (k + 1) rules))
heads_more rules k p name old new inside was is before step n =
    subst (λ (l : List (List ℕ)). IsIn n new ↔ IsIn n l) (sym whole) (
      λ i. (in_last n so_far name).1 (⊎_elim (λ j. inl ((before n).0 j)) inr ((step n).0 i)),
      λ i. (step n).1 (⊎_elim (λ j. inl ((before n).1 j)) inr ((in_last n so_far name).0 i)),
    )
  where
    so_far : List (List ℕ)
    so_far = map (λ (r : ProdPart). r.head) (take k rules)

    whole : map (λ (r : ProdPart). r.head) (take (k + 1) rules) ≡ so_far ++ name ∷ []
    whole = map_more (λ (r : ProdPart). r.head) rules k p inside ∙ ap (λ h. so_far ++ h ∷ []) (sym (is ∙ ap (λ (r : ProdPart). r.head) was))

pub heads_all : (rules : List ProdPart) (k : ℕ) (names : List (List ℕ)) → length rules ≤ k → ((n : List ℕ) → IsIn n names ↔ IsIn n (map (λ (r : ProdPart). r.head) (take k rules)))
    → (n : List ℕ) → IsIn n names ↔ IsIn n (map (λ (r : ProdPart). r.head) rules)
heads_all rules k names past h n = subst (λ (l : List ProdPart). IsIn n names ↔ IsIn n (map (λ (r : ProdPart). r.head) l)) (take_all k rules past) (h n)

-- the first deps part whose module is a head is the first at which the rule fails
pub first_composite : (rules : List ProdPart) (deps : List DepsPart) (names : List (List ℕ)) (answer : Option ℕ)
    → ((n : List ℕ) → IsIn n names ↔ IsIn n (map (λ (r : ProdPart). r.head) rules)) → answer ≡ position (λ (d : DepsPart). is_one_of names d.«module») deps
    → IsFirstFailing (each deps (IsOfAtomic rules) DepsOnComposite) answer
first_composite rules deps names answer heads is =
    position_is_first (λ (d : DepsPart). is_one_of names d.«module») (IsOfAtomic rules) DepsOnComposite deps answer
    (λ d i no p j e. among_not d.«module» names no ((heads d.«module»).1 (subst (λ n. IsIn n (map (λ (r : ProdPart). r.head) rules)) e (in_map (λ (r : ProdPart). r.head) p rules j))))
    (λ d i bad all. (let r = in_map_from (λ (q : ProdPart). q.head) d.«module» rules ((heads d.«module»).0 (among_gives d.«module» names bad)) in all r.0 r.1 (sym r.2)))
    is
