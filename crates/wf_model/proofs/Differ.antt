-- The names of a run's instances differ.
use Rattle.std.proofs.Common.{◌≡◌, ℕ, List, [], ◌∷◌, ◌++◌, refl, sym, ap, ◌∙◌, subst, inl, inr, ⊎_elim, append_assoc, append-nil}
use Rattle.std.proofs.lemmas.List.{map-append}
use Rattle.wf_model.specs.Lists.{IsIn, AllDiffer}
use Rattle.wf_model.specs.Grammar.{Grammar, body_of}
use Rattle.wf_model.specs.declared.event.Event.{Event}
use Rattle.wf_model.specs.declared.event.Event.TheVariants.{Start, Expand}
use Rattle.wf_model.specs.Run.{Instance, named, made, names_of, AllExtend}
use Rattle.wf_model.proofs.Lists.{in_append_cases}
use Rattle.wf_model.proofs.Runs.{made_more, names-named, name_in}

differ-append : (xs ys : List (List ℕ)) → AllDiffer xs → AllDiffer ys → ((y : List ℕ) → IsIn y ys → IsIn y xs → ⊥) → AllDiffer (xs ++ ys)
differ-append [] ys a b h = b
differ-append (x ∷ xs) ys a b h =
    ((λ q. ⊎_elim (λ c. a.0 c) (λ c. h x c (inl refl)) (in_append_cases x xs ys q)), differ-append xs ys a.1 b (λ y c d. h y c (inr d)))

-- the instances of a run have different names
pub made_differ : (g : Grammar) (m : ℕ) (b a : List Event) → AllDiffer (names_of (made g m b)) → AllExtend g m b a → AllDiffer (names_of (made g m (b ++ a)))
made_differ g m b [] d h = subst (λ l. AllDiffer (names_of (made g m l))) (sym (append-nil b)) d
made_differ g m b (Start r ∷ a) d h =
    subst (λ l. AllDiffer (names_of (made g m l))) (append_assoc b (Start r ∷ []) a)
    (made_differ g m (b ++ Start r ∷ []) a (subst (λ l. AllDiffer (names_of (made g m (l ++ Start r ∷ [])))) (sym h.0.0) ((λ q. q), tt)) h.1)
made_differ g m b (Expand i p new ∷ a) d h =
    let can = h.0 in
    let nn = names-named new (body_of g p) can.one_each in
    let e : names_of (made g m (b ++ Expand i p new ∷ [])) ≡ names_of (made g m b) ++ new =
    ap names_of (made_more g m b (Expand i p new)) ∙ (map-append (λ (j : Instance). j.name) (made g m b) (named new (body_of g p)) ∙ ap (λ l. names_of (made g m b) ++ l) nn) in
    subst (λ l. AllDiffer (names_of (made g m l))) (append_assoc b (Expand i p new ∷ []) a)
    (made_differ g m (b ++ Expand i p new ∷ []) a (subst AllDiffer (sym e) (differ-append (names_of (made g m b)) new d can.differ (λ y c q. can.new y c q))) h.1)

-- in a list of instances with different names, one name is one instance
pub one_of_name : (is : List Instance) → AllDiffer (names_of is) → (i j : Instance) → IsIn i is → IsIn j is → i.name ≡ j.name → i ≡ j
one_of_name [] d i j h k e = absurd h
one_of_name (x ∷ is) d i j (inl h) (inl k) e = h ∙ sym k
one_of_name (x ∷ is) d i j (inl h) (inr k) e = absurd (d.0 (subst (λ z. IsIn z (names_of is)) (sym e ∙ ap (λ (z : Instance). z.name) h) (name_in j is k)))
one_of_name (x ∷ is) d i j (inr h) (inl k) e = absurd (d.0 (subst (λ z. IsIn z (names_of is)) (e ∙ ap (λ (z : Instance). z.name) k) (name_in i is h)))
one_of_name (x ∷ is) d i j (inr h) (inr k) e = one_of_name is d.1 i j h k e
